-- There is one least order, and where there is an order there is no cycle.
use Rattle.std.proofs.Common.{◌≡◌, inl, inr, refl, sym, ◌∙◌, ap, subst, ℕ, ◌<◌, true, List, [], ◌∷◌, length, Option, Some, None, arith}
use Rattle.std.specs.Prelude.{slice_get}
use Rattle.std.proofs.Math.Path.{fun_ext}
use Rattle.std.proofs.lemmas.Bool.{false≢true}
use Rattle.std.proofs.lemmas.Option.{slice_get_within}
use Rattle.cx_order_entries.specs.Counted.{Entry}
use Rattle.cx_order_entries.specs.Entries.{Place, entries_at, both_before, before_at}
use Rattle.cx_order_least.specs.Orders.{count, IsAtMost}
use Rattle.cx_order_entries.specs.PlaceNumbers.{Orders, AreLeast}
use Rattle.cx_order_entries.specs.Cycles.{IsEntryCycle}
use Rattle.cx_order_entries.proofs.GroupCycles.{counted}
use Rattle.cx_order_least.proofs.NoCycle.{no-cycle}

both-at-most : (xs ys : List ℕ) → IsAtMost xs ys → IsAtMost ys xs → xs ≡ ys
both-at-most [] [] h k = refl
both-at-most [] (y ∷ ys) h k = absurd k
both-at-most (x ∷ xs) [] h k = absurd h
both-at-most (x ∷ xs) (y ∷ ys) (inl less) (inl more) =
    absurd (let no : ⊥ = omega (arith, less, more) in no)
both-at-most (x ∷ xs) (y ∷ ys) (inl less) (inr (same, rest)) =
    absurd (let no : ⊥ = omega (arith, less, same) in no)
both-at-most (x ∷ xs) (y ∷ ys) (inr (same, rest)) (inl more) =
    absurd (let no : ⊥ = omega (arith, more, same) in no)
both-at-most (x ∷ xs) (y ∷ ys) (inr (same, rest)) (inr (again, others)) =
    ap (λ z. z ∷ xs) same ∙ ap (λ zs. y ∷ zs) (both-at-most xs ys rest others)

module _ (es : List Entry) where
  pub same-orders : (a b : Orders) → AreLeast es a → AreLeast es b → a ≡ b
  same-orders a b least again =
      fun_ext (λ p. both-at-most (a p) (b p) ((least p).least (b p) (again p).order)
      ((again p).least (a p) (least p).order))

  both-within : (p : Place) (i j : ℕ) → before_at es p i j ≡ true
      → (i < length (entries_at es p)) × (j < length (entries_at es p))
  both-within p i j h = by (slice_get (entries_at es p) i) (slice_get (entries_at es p) j) refl refl
    where
      by : (o q : Option Entry) → slice_get (entries_at es p) i ≡ o
          → slice_get (entries_at es p) j ≡ q
          → (i < length (entries_at es p)) × (j < length (entries_at es p))
      by None q e f =
          absurd (false≢true (sym (ap (λ o. both_before o (slice_get (entries_at es p) j)) e) ∙ h))
      by (Some x) None e f = absurd
          (false≢true
          (sym (ap (λ o. both_before o (slice_get (entries_at es p) j)) e
          ∙ ap (λ q. both_before (Some x) q) f) ∙ h))
      by (Some x) (Some y) e f =
          (slice_get_within (entries_at es p) i x e, slice_get_within (entries_at es p) j y f)

  pub no-entry-cycle : (orders : Orders) (names : List (List ℕ)) → AreLeast es orders
      → IsEntryCycle es names → ⊥
  no-entry-cycle orders names least c =
      no-cycle (before_at es c.place) (orders c.place)
      (least c.place).order.respects within c.numbers c.cycle.cycle
    where
      there : (k : ℕ) → k < length (entries_at es c.place) → 0 < count k (orders c.place)
      there k l = let P : ℕ → Type 0 = λ n. 0 < n in
          subst P ((least c.place).order.same k)
          (counted 0 (length (entries_at es c.place)) k (omega arith) (omega (arith, l)))

      within : (i j : ℕ) → before_at es c.place i j ≡ true
          → (0 < count i (orders c.place)) × (0 < count j (orders c.place))
      within i j h = (let w = both-within c.place i j h in (there i w.0, there j w.1))
