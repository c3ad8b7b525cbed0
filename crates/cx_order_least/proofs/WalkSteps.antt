-- A walk backwards among numbers that all wait.
use Rattle.std.proofs.Common.{◌≡◌, ◌⊎◌, inl, inr, ℕ, ◌<◌, ◌≤◌, Bool, true, false, eqb, List, ◌∷◌, length, set, sym, ◌∙◌, ap, subst, arith}
use Rattle.std.proofs.lemmas.Bool.{false≢true}
use Rattle.std.proofs.lemmas.List.{length-set}
use Rattle.cx_order_least.specs.Orders.{count, numbers, IsChain}
use Rattle.cx_order_least.specs.Links.{links, is_left, IsBlocked}
use Rattle.cx_order_least.proofs.Counts.{same_or_other, count-first, count-later}
use Rattle.cx_order_least.proofs.Rest.{same_or_not, left-marked, left-other, left-below, Drops, splits, splits-shorter}
use Rattle.cx_order_least.proofs.Steps.{rest}

-- The path is a chain of different numbers, all seen, and the last one leads to it.
pub record Walk (first now : List (List ℕ)) (marks seen : List Bool) (path : List ℕ)
    (last : ℕ) : Type 0 where
  pub seen_size : length seen ≡ length marks
  pub size : length now ≡ length marks
  pub blocked : (k : ℕ) → is_left marks k ≡ true → IsBlocked marks now k
  pub fewer : (a b : ℕ) → links now b a ≡ true → links first b a ≡ true
  pub there : is_left marks last ≡ true
  pub chain : IsChain (λ a b. links first b a) (last ∷ path)
  pub passed : (k : ℕ) → k < length marks → is_left seen k ≡ false → 0 < count k path
  pub fresh : (k : ℕ) → is_left seen k ≡ true → count k path ≡ 0
  pub once : (k : ℕ) → count k path ≤ 1

module _ (first now newer : List (List ℕ)) (marks seen : List Bool) (path : List ℕ) (last next : ℕ)
    (w : Walk first now marks seen path last) (left : is_left seen last ≡ true) where
  pub walk-step : length newer ≡ length now
      → ((a b : ℕ) → is_left marks a ≡ true → links newer b a ≡ links now b a)
      → ((a b : ℕ) → links newer b a ≡ true → links now b a ≡ true) → is_left marks next ≡ true
      → links now last next ≡ true → Walk first newer marks (set seen last true) (last ∷ path) next
  walk-step same kept fewer there found =
      record {
        seen_size = length-set seen last true ∙ w.seen_size;
        size = same ∙ w.size;
        blocked = λ k l. (let b = w.blocked k l in (b.0, b.1, kept b.0 k b.1 ∙ b.2));
        fewer = λ a b h. w.fewer a b (fewer a b h);
        there = there;
        chain = (w.fewer next last found, w.chain);
        passed = λ k h gone. passed k h gone (same_or_not k last);
        fresh = λ k l. fresh k l (same_or_not k last);
        once = λ k. once k (same_or_other last k);
      }
    where
      passed : (k : ℕ) → k < length marks → is_left (set seen last true) k ≡ false
          → (k ≡ last) ⊎ (eqb k last ≡ false) → 0 < count k (last ∷ path)
      passed k h gone (inl e) = let P : ℕ → Type 0 = λ m. 0 < count m (last ∷ path) in
          subst P (sym e) (let f = count-first last path in omega (arith, f))
      passed k h gone (inr other) =
          count-later last k path (w.passed k h (sym (left-other seen last k other) ∙ gone))

      fresh : (k : ℕ) → is_left (set seen last true) k ≡ true → (k ≡ last) ⊎ (eqb k last ≡ false)
          → count k (last ∷ path) ≡ 0
      fresh k l (inl e) = absurd
          (false≢true
          (sym (ap (is_left (set seen last true)) e
          ∙ left-marked seen last (left-below seen last left)) ∙ l))
      fresh k l (inr other) = unseen (same_or_other last k)
        where
          unseen : (last ≡ k) ⊎ ((xs : List ℕ) → count k (last ∷ xs) ≡ count k xs)
              → count k (last ∷ path) ≡ 0
          unseen (inl e) = absurd
              (false≢true
              (sym (ap (is_left (set seen last true)) (sym e)
              ∙ left-marked seen last (left-below seen last left)) ∙ l))
          unseen (inr apart) = apart path ∙ w.fresh k (sym (left-other seen last k other) ∙ l)

      once : (k : ℕ) → (last ≡ k) ⊎ ((xs : List ℕ) → count k (last ∷ xs) ≡ count k xs)
          → count k (last ∷ path) ≤ 1
      once k (inl e) = let P : ℕ → Type 0 = λ m. count m (last ∷ path) ≤ 1 in
          subst P e (let f = count-first last path in let g = w.fresh last left in
          omega (arith, f, g))
      once k (inr apart) = let f = apart path in let g = w.once k in omega (arith, f, g)

  pub walk-falls : length (rest (set seen last true) (length marks))
      < length (rest seen (length marks))
  walk-falls =
      let below = left-below seen last left in
      let d : Drops (is_left seen) (is_left (set seen last true)) last =
      record {
        passed = left;
        fails = left-marked seen last below;
        others = λ k other. left-other seen last k other;
      } in
      let e = splits-shorter (is_left seen) (is_left (set seen last true)) last
      (numbers (length marks))
      (splits (is_left seen) (is_left (set seen last true)) last d 0 (length marks)
      (omega arith) (let s = w.seen_size in omega (arith, below, s))) in
      omega (arith, e)
