-- Parts that stand at one place.
use Rattle.std.proofs.Common.{◌≡◌, ℕ, suc, ◌+◌, ◌-◌, ◌<◌, ◌≤◌, ◌⊎◌, inl, inr, ◌↔◌, Bool, true, false, not, ◌&&◌, eqb, cond, List, [], ◌∷◌, length, get_or, Some, None, IsTrue, refl, sym, ap, ◌∙◌, arith, eq-eqb}
use Rattle.std.proofs.lemmas.Bool.{eqb-true, eqb-false, and_parts, and_from, cases_Bool}
use Rattle.cx_flat.specs.Flats.{Opened, Control}
use Rattle.law_parts.proofs.ListLaws.{not_true}
use Rattle.cx_core_events.specs.declared.standing.Standing.{Standing}
use Rattle.cx_core_events.specs.Paces.{no_part, same_opened, same_place, twin_from}

-- ---- one place

opened_is : (xs ys : List Opened) → same_opened xs ys ≡ true → xs ≡ ys
opened_is [] [] e = refl
opened_is [] (b ∷ ys) e = absurd cc
opened_is (a ∷ xs) [] e = absurd cc
opened_is (a ∷ xs) (b ∷ ys) e =
    let both = and_parts (eqb a.place b.place && eqb a.turns b.turns) (same_opened xs ys) e in
    let one = and_parts (eqb a.place b.place) (eqb a.turns b.turns) both.0 in
    ap (λ n. record { place = n; turns = a.turns } ∷ xs) (eqb-true a.place b.place one.0)
    ∙ ap (λ n. record { place = b.place; turns = n } ∷ xs) (eqb-true a.turns b.turns one.1)
    ∙ ap (λ os. b ∷ os) (opened_is xs ys both.1)

pub place_is : (a b : Control) → same_place a b ≡ true → a ≡ b
place_is a b e =
    let both = and_parts (eqb a.pc b.pc && eqb a.iteration b.iteration)
    (same_opened a.opened b.opened) e in
    let one = and_parts (eqb a.pc b.pc) (eqb a.iteration b.iteration) both.0 in
    ap (λ n. record { pc = n; iteration = a.iteration; opened = a.opened })
    (eqb-true a.pc b.pc one.0)
    ∙ ap (λ n. record { pc = b.pc; iteration = n; opened = a.opened })
    (eqb-true a.iteration b.iteration one.1)
    ∙ ap (λ os. record { pc = b.pc; iteration = b.iteration; opened = os })
    (opened_is a.opened b.opened both.1)

opened_self : (xs : List Opened) → same_opened xs xs ≡ true
opened_self [] = refl
opened_self (a ∷ xs) =
    and_from (eqb a.place a.place && eqb a.turns a.turns) (same_opened xs xs)
    (and_from (eqb a.place a.place) (eqb a.turns a.turns) (eq-eqb a.place a.place refl)
    (eq-eqb a.turns a.turns refl)) (opened_self xs)

place_self : (a : Control) → same_place a a ≡ true
place_self a =
    and_from (eqb a.pc a.pc && eqb a.iteration a.iteration) (same_opened a.opened a.opened)
    (and_from (eqb a.pc a.pc) (eqb a.iteration a.iteration) (eq-eqb a.pc a.pc refl)
    (eq-eqb a.iteration a.iteration refl)) (opened_self a.opened)

-- what a test of it says
pub told_place : (t : Bool) (a b : Control) → IsTrue t ↔ (a ≡ b) → t ≡ same_place a b
told_place true a b h = sym (ap (same_place a) (sym (h.0 refl)) ∙ place_self a)
told_place false a b h = go (cases_Bool (same_place a b))
  where
    go : (same_place a b ≡ true) ⊎ (same_place a b ≡ false) → false ≡ same_place a b
    go (inr e) = sym e
    go (inl e) = absurd (clash (h.1 (place_is a b e)))
      where
        clash : false ≡ true → ⊥
        clash f = cc

-- ---- the first other part there

pub record IsTwin (n k : ℕ) (here : Control) (ss : List Standing) (j : ℕ) : Type 0 where
  pub from : n ≤ j
  pub inside : j < n + length ss
  pub other : j ≡ k → ⊥
  pub place : (get_or ss (j - n) no_part).place ≡ here

same_some : (x y : ℕ) → Some x ≡ Some y → x ≡ y
same_some x y e = cc

some_none : (x : ℕ) → None ≡ Some x → ⊥
some_none x e = cc

pub twin_is : (ss : List Standing) (n k : ℕ) (here : Control) (j : ℕ)
    → twin_from n k here ss ≡ Some j → IsTwin n k here ss j
twin_is [] n k here j e = absurd (some_none j e)
twin_is (s ∷ ss) n k here j e =
    go (twin_is ss (suc n) k here j) (cases_Bool (not (eqb n k) && same_place s.place here))
  where
    go : (twin_from (suc n) k here ss ≡ Some j → IsTwin (suc n) k here ss j)
        → ((not (eqb n k) && same_place s.place here) ≡ true)
        ⊎ ((not (eqb n k) && same_place s.place here) ≡ false) → IsTwin n k here (s ∷ ss) j
    go more (inl h) =
        let both = and_parts (not (eqb n k)) (same_place s.place here) h in
        let is : n ≡ j = same_some n j
        (sym (ap (λ b. cond b (Some n) (twin_from (suc n) k here ss)) h) ∙ e) in
        let z : j - n ≡ 0 = omega (arith, is) in
        record {
          from = omega (arith, is);
          inside = omega (arith, is);
          other = λ f. eqb-false n k (not_true (eqb n k) both.0) (is ∙ f);
          place = ap (λ i. (get_or (s ∷ ss) i no_part).place) z ∙ place_is s.place here both.1;
        }
    go more (inr h) =
        let t = more (sym (ap (λ b. cond b (Some n) (twin_from (suc n) k here ss)) h) ∙ e) in
        let f = t.from in
        let i = t.inside in
        let z : j - n ≡ suc (j - suc n) = omega (arith, f) in
        record {
          from = omega (arith, f);
          inside = omega (arith, i);
          other = t.other;
          place = ap (λ m. (get_or (s ∷ ss) m no_part).place) z ∙ t.place;
        }
