-- Two ways to say that groups contain others, by their numbers.
use Rattle.std.proofs.Common.{◌≡◌, inl, inr, ℕ, zero, suc, ◌+◌, ◌<◌, true, not, List, [], ◌∷◌, length, Some, get_or, refl, sym, ◌∙◌, ap, subst, arith}
use Rattle.std.specs.Prelude.{slice_get}
use Rattle.std.proofs.lemmas.Bool.{and_parts, and_from}
use Rattle.std.proofs.lemmas.Option.{slice_get-get_or}
use Rattle.cx_order_entries.specs.Counted.{Entry}
use Rattle.cx_order_least.specs.Orders.{count, may_follow, Respects, IsOrder, numbers, numbers_from}
use Rattle.cx_order_entries.specs.PlaceNumbers.{group_names}
use Rattle.cx_order_entries.specs.Nested.{both_inside, contains_at}
use Rattle.cx_order_entries.specs.Placement.{group_inside}
use Rattle.cx_order_least.proofs.Counts.{nothing, same_or_other, count-first, count-later}

low : (a n k : ℕ) → 0 < count k (numbers_from a n) → k < a + n
low a zero k there = nothing there
low a (suc n) k there = elim (same_or_other a k) [
  | inl e ↦ (let P : ℕ → Type 0 = λ m. m < a + suc n in subst P e (omega arith))
  | inr other ↦ (let P : ℕ → Type 0 = λ m. 0 < m in
      let h = low (a + 1) n k (subst P (other (numbers_from (a + 1) n)) there) in omega (arith, h))
]

numbers-below : (n k : ℕ) → 0 < count k (numbers n) → k < n
numbers-below n k there = let h = low 0 n k there in omega (arith, h)

module _ (es : List Entry) where
  abbrev many : ℕ
  many = length (group_names es)

  alike : (i j : ℕ) → i < many → j < many → contains_at es i j ≡ group_inside es i j
  alike i j first second =
      ap (λ o. both_inside es o (slice_get (group_names es) j))
      (slice_get-get_or (group_names es) i [] first)
      ∙ ap (λ o. both_inside es (Some (get_or (group_names es) i [])) o)
      (slice_get-get_or (group_names es) j [] second)

  abbrev Below : List ℕ → Type 0
  Below xs = (k : ℕ) → 0 < count k xs → k < many

  here : (x : ℕ) (xs : List ℕ) → Below (x ∷ xs) → x < many
  here x xs below = below x (let f = count-first x xs in omega (arith, f))

  later : (x : ℕ) (xs : List ℕ) → Below (x ∷ xs) → Below xs
  later x xs below k there = below k (count-later x k xs there)

  follows : (x : ℕ) (ys : List ℕ) → x < many → Below ys → may_follow (contains_at es) x ys ≡ true
      → may_follow (group_inside es) x ys ≡ true
  follows x [] small below h = refl
  follows x (y ∷ ys) small below h =
      let parts = and_parts (not (contains_at es y x)) (may_follow (contains_at es) x ys) h in
      and_from (not (group_inside es y x)) (may_follow (group_inside es) x ys)
      (ap not (sym (alike y x (here y ys below) small)) ∙ parts.0)
      (follows x ys small (later y ys below) parts.1)

  respected : (xs : List ℕ) → Below xs → Respects (contains_at es) xs
      → Respects (group_inside es) xs
  respected [] below h = h
  respected (x ∷ xs) below h =
      (follows x (x ∷ xs) (here x xs below) below h.0, respected xs (later x xs below) h.1)

  pub nested-by-names : (xs : List ℕ) → IsOrder (contains_at es) (numbers many) xs
      → IsOrder (group_inside es) (numbers many) xs
  nested-by-names xs order =
      let below : Below xs = λ k there.
      numbers-below many k (let P : ℕ → Type 0 = λ n. 0 < n in
      subst P (sym (order.same k)) there) in
      record { same = order.same; respects = respected xs below order.respects }
