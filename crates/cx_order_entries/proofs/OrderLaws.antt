-- The orders at the places.
use Rattle.std.proofs.Common.{◌≡◌, refl, sym, ◌∙◌, ap, subst, ℕ, ◌+◌, ◌<◌, ◌≤◌, ◌⊎◌, inl, inr, Bool, true, false, ltb, ltb-true, ltb-false, length-append, List, [], ◌∷◌, ◌++◌, map, length, get_or, take, None, Result, Ok, Err, arith}
use Rattle.std.specs.Prelude.{slice_get, IfOk}
use Rattle.std.specs.Option.{option_map}
use Rattle.std.specs.Str.{bytes_eq}
use Rattle.std.proofs.Math.Path.{fun_ext}
use Rattle.std.proofs.lemmas.List.{take_more, append-nil, get_or_append_left}
use Rattle.std.proofs.lemmas.List.Elements.{filter_map-append}
use Rattle.std.proofs.lemmas.Option.{slice_get_past}
use Rattle.std.proofs.Math.Seq.{get_or-append_seam}
use Rattle.cx_plan.specs.Lists.{once}
use Rattle.cx_order_entries.specs.declared.fault.PlaceFault.{PlaceFault}
use Rattle.cx_order_entries.specs.declared.fault.PlaceFault.TheVariants.{GroupCycle, Cycle, Memory}
use Rattle.cx_order_least.specs.declared.outcome.Sorted.{Sorted}
use Rattle.cx_order_entries.specs.Counted.{Entry}
use Rattle.cx_order_entries.specs.Entries.{Place, entry_name, entries_at, before_at, names_fault}
use Rattle.cx_order_least.specs.Orders.{Before, pair_before, numbers, IsLeastOrder}
use Rattle.cx_order_least.specs.Sorting.{IsSorted}
use Rattle.cx_order_least.specs.Links.{row}
use Rattle.cx_order_entries.specs.PlaceNumbers.{place}
use Rattle.cx_order_entries.specs.Members.{entries_of, key_name, before_in, names_in, IsOrdered, AreMembers, AreOrdered}
use Rattle.cx_order_entries.proofs.OnceLaws.{Unique, unique, bytes_same}
use Rattle.cx_order_entries.proofs.PairLaws.{said, said-before}
use Rattle.cx_order_entries.proofs.DifferLaws.{names-differ}

module _ (es : List Entry) where
  unique_names : once bytes_eq (map key_name es) ≡ map key_name es
      → Unique bytes_eq (map key_name es)
  unique_names differ = let U : List (List ℕ) → Type 0 = λ l. Unique bytes_eq l in
      subst U differ (unique bytes_eq bytes_same [] (map key_name es))

  pub sorted-as : {E : Type 0} (pairs : List (ℕ × ℕ)) (n : ℕ) (names : List (List ℕ))
      (r : Result Sorted E) → once bytes_eq (map key_name es) ≡ map key_name es
      → names ≡ once bytes_eq (map key_name es)
      → ((a b : ℕ) → pair_before pairs a b ≡ said names es a b) → n ≡ length es
      → IfOk r (λ s. IsSorted (pair_before pairs) (numbers n) s)
      → IfOk r (λ s. IsSorted (before_in es) (numbers (length es)) s)
  sorted-as pairs n names r differ named told size sorted =
      let same : pair_before pairs ≡ before_in es =
      fun_ext
      (λ a. fun_ext (λ b. told a b ∙ ap (λ ks. said ks es a b) (named ∙ differ)
      ∙ said-before es (unique_names differ) a b)) in
      let P : Before → Type 0 = λ before. IfOk r (λ s. IsSorted before (numbers n) s) in
      let Q : ℕ → Type 0 = λ m. IfOk r (λ s. IsSorted (before_in es) (numbers m) s) in
      subst Q size (subst P same sorted)

-- an order or fault at a place is one of the place's entries
pub told-at : (es ms : List Entry) (p : Place) (e : PlaceFault) → ms ≡ entries_at es p
    → IsOrdered ms (Err e) → AreOrdered es (Err e)
told-at es ms p (Cycle names) is told =
    let C : List Entry → Type 0 = λ l. IsOrdered l (Err (Cycle names)) in
    let at = subst C is told in
    record { place = p; numbers = at.0; cycle = at.1.0; named = at.1.1 }
told-at es ms p Memory is told = tt
told-at es ms p (GroupCycle names) is told = absurd told

-- a name more
pub names-more : (es : List Entry) (ks : List ℕ) (i : ℕ) (old new : List (List ℕ)) → i < length ks
    → new ≡ old ++ names_in es (get_or ks i 0 ∷ []) → old ≡ names_in es (take i ks)
    → new ≡ names_in es (take (i + 1) ks)
names-more es ks i old new within is was =
    is
    ∙ ap (λ l. l ++ names_in es (get_or ks i 0 ∷ [])) was
    ∙ sym (filter_map-append (λ k. option_map entry_name (slice_get es k)) (take i ks)
    (get_or ks i 0 ∷ []))
    ∙ ap (names_in es) (sym (take_more ks i 0 within))

pub no-name : (es : List Entry) (k : ℕ) (names : List (List ℕ)) → length es ≤ k
    → names ≡ names ++ names_in es (k ∷ [])
no-name es k names past = let e = slice_get_past es k past in rw e (sym (append-nil names))

-- the orders at the first so many places
pub record Sofar (es : List Entry) (i : ℕ) (rows : List (List ℕ)) : Type 0 where
  pub count : length rows ≡ i
  pub least : (k : ℕ) → k < i
      → IsLeastOrder (before_at es (place es k)) (numbers (length (entries_at es (place es k))))
      (row rows k)

below_or : (k i : ℕ) → k < i + 1 → (k < i) ⊎ (k ≡ i)
below_or k i h = by (ltb k i) refl
  where
    by : (t : Bool) → ltb k i ≡ t → (k < i) ⊎ (k ≡ i)
    by true e = inl (ltb-true k i e)
    by false e = inr (let above = ltb-false k i e in omega (arith, h, above))

module _ (es : List Entry) (members : List (List ℕ)) (m : AreMembers es members) where
  pub differ-at : names_fault es ≡ None → (k : ℕ) → k < length members
      → once bytes_eq (map key_name (entries_of es (row members k)))
      ≡ map key_name (entries_of es (row members k))
  differ-at none k h =
      let D : List Entry → Type 0 = λ l. once bytes_eq (map key_name l) ≡ map key_name l in
      subst D (sym (m.entries k h)) (names-differ es (place es k) none)

  pub sofar-next : (i : ℕ) (rows new : List (List ℕ)) (order : List ℕ) → i < length members
      → IsOrdered (entries_of es (row members i)) (Ok order) → new ≡ rows ++ order ∷ []
      → Sofar es i rows → Sofar es (i + 1) new
  sofar-next i rows new order within told is s =
      record {
        count = size;
        least = λ k below. (let S : List (List ℕ)
            → Type 0 = λ r. IsLeastOrder (before_at es (place es k))
            (numbers (length (entries_at es (place es k)))) (row r k) in
            subst S (sym is) (by k below));
      }
    where
      here : IsLeastOrder (before_at es (place es i))
          (numbers (length (entries_at es (place es i)))) order
      here = let P : List Entry
          → Type 0 = λ l. IsLeastOrder (before_in l) (numbers (length l)) order in
          subst P (m.entries i within) told

      by : (k : ℕ) → k < i + 1
          → IsLeastOrder (before_at es (place es k)) (numbers (length (entries_at es (place es k))))
          (row (rows ++ order ∷ []) k)
      by k below = elim (below_or k i below) [
        | inl less ↦ (
            let L : List ℕ → Type 0 =
            λ r. IsLeastOrder (before_at es (place es k))
            (numbers (length (entries_at es (place es k)))) r in
            subst L
            (sym (get_or_append_left rows (order ∷ []) [] k
            (let e = s.count in omega (arith, less, e)))) (s.least k less))
        | inr same ↦ (
            let A : ℕ → Type 0 = λ j.
            IsLeastOrder (before_at es (place es j))
            (numbers (length (entries_at es (place es j)))) (row (rows ++ order ∷ []) j) in
            let L : List ℕ → Type 0 =
            λ r. IsLeastOrder (before_at es (place es i))
            (numbers (length (entries_at es (place es i)))) r in
            subst A (sym same) (subst L
            (sym (ap (row (rows ++ order ∷ [])) (sym s.count)
            ∙ get_or-append_seam rows order [] [])) here))
      ]

      size : length new ≡ i + 1
      size = ap length is ∙ (let e = s.count in let f = length-append rows (order ∷ []) in
          omega (arith, e, f))
