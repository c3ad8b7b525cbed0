-- What is known of items that were matched with routines.
use Rattle.std.proofs.Common.{◌≡◌, ◌⊎◌, inl, inr, refl, ap, sym, ◌∙◌, ℕ, zero, suc, ◌+◌, ◌≤◌, ◌<◌, nat_lt, ltb-true, ltb-false, Bool, true, false, List, [], ◌∷◌, map, length, get_or, slice_get, Option, Some, None, option_map, Result, Ok, Err, if◌then◌else◌, arith}
use Rattle.std.specs.List.{enumerate_from}
use Rattle.cx_plan.specs.Lists.{with_next, all_ok}
use Rattle.cx_plan.specs.declared.item.Item.{Item}
use Rattle.cx_values.specs.declared.values.Values.{Values}
use Rattle.cx_order.specs.Meanings.{World}
use Rattle.cx_rule.specs.declared.spec.Spec.{Spec}
use Rattle.cx_job_items.specs.declared.matching.Offer.{Offer}
use Rattle.cx_job_files.specs.Stages.{or_fault}
use Rattle.cx_job_items.specs.declared.fault.MatchFault.{MatchFault}
use Rattle.cx_job.specs.declared.fault.JobFault.{JobFault}
use Rattle.cx_job.specs.Faults.{match_fault}
use Rattle.cx_job_items.specs.Matching.{thorn_number, offer, fits, completed, mismatch, matched_by, routine_number, spec_at, with_routine, matched, matched_if_run, all_matched}
use Rattle.cx_job.proofs.MeantLaws.{err_ok}

-- ---- lists

abbrev answered : {X : Type 0} → X → Result X MatchFault
answered x = Ok x

ok_same : {X : Type 0} {x y : X} → answered x ≡ answered y → x ≡ y
ok_same e = cc

abbrev job_answered : {X : Type 0} → X → Result X JobFault
job_answered x = Ok x

job_same : {X : Type 0} {x y : X} → job_answered x ≡ job_answered y → x ≡ y
job_same e = cc

-- a job's answer is that of the layer below
pub answered_below : {X : Type 0} (r : Result X MatchFault) (x : X)
    → job_answered x ≡ or_fault match_fault r → r ≡ answered x
answered_below (Ok y) x told = ap (λ z. answered z) (sym (job_same told))
answered_below (Err e) x told = err_ok (sym told)

-- an answer, and the answers of others behind it
record IsFirst (r : Result Item MatchFault) (s : Result (List Item) MatchFault)
    (ys : List Item) : Type 0 where
  pub one : Item
  pub others : List Item
  pub first : r ≡ Ok one
  pub rest : s ≡ Ok others
  pub are : ys ≡ one ∷ others

first_given : (r : Result Item MatchFault) (s : Result (List Item) MatchFault) (ys : List Item)
    → with_next r s ≡ Ok ys → IsFirst r s ys
first_given (Err e) s ys told = err_ok told
first_given (Ok y) (Err e) ys told = err_ok told
first_given (Ok y) (Ok others) ys told =
    record { one = y; others = others; first = refl; rest = refl; are = sym (ok_same told) }

-- ---- one item

-- an item, and what it is with the first routine of its name
pub record IsMatched (w : World) (v : Values) (specs : List Spec) (x y : Item) : Type 0 where
  pub spec : Spec
  pub number : ℕ
  pub given : Offer
  pub first : routine_number specs x ≡ Some number
  pub object : slice_get specs number ≡ Some spec
  pub offered : offer w v (thorn_number w.thorns x.thorn) spec ≡ Some given
  pub is : y ≡ completed x number spec.kind given

module _ (w : World) (v : Values) (specs : List Spec) (x y : Item) where
  by_fit : (n : ℕ) (s : Spec) (o : Offer) (b : Bool)
      → (if b then Ok (completed x n s.kind o)
      else Err (mismatch w v (thorn_number w.thorns x.thorn) x s)) ≡ answered y
      → y ≡ completed x n s.kind o
  by_fit n s o true told = sym (ok_same told)
  by_fit n s o false told = err_ok told

  by_offer : (n : ℕ) (s : Spec) → routine_number specs x ≡ Some n → slice_get specs n ≡ Some s
      → (o : Option Offer) → offer w v (thorn_number w.thorns x.thorn) s ≡ o
      → matched_by w v (thorn_number w.thorns x.thorn) x n s o ≡ answered y
      → IsMatched w v specs x y
  by_offer n s first object None offered told = err_ok told
  by_offer n s first object (Some o) offered told =
      record {
        spec = s;
        number = n;
        given = o;
        first = first;
        object = object;
        offered = offered;
        is = by_fit n s o (fits x o) told;
      }

  by_spec : (n : ℕ) → routine_number specs x ≡ Some n → (s : Option Spec) → slice_get specs n ≡ s
      → with_routine w v x (option_map (λ s. (n, s)) s) ≡ answered y → IsMatched w v specs x y
  by_spec n first None object told = err_ok told
  by_spec n first (Some s) object told =
      by_offer n s first object (offer w v (thorn_number w.thorns x.thorn) s) refl told

  by_number : (n : Option ℕ) → routine_number specs x ≡ n
      → with_routine w v x (spec_at specs n) ≡ answered y → IsMatched w v specs x y
  by_number None first told = err_ok told
  by_number (Some n) first told = by_spec n first (slice_get specs n) refl told

  is_matched : matched w v specs x ≡ answered y → IsMatched w v specs x y
  is_matched told = by_number (routine_number specs x) refl told

-- ---- all items

module _ (w : World) (v : Values) (specs : List Spec) (run : ℕ) where
  abbrev one : ℕ × Item → Result Item MatchFault
  one x = matched_if_run w v specs run x

  abbrev Gives : ℕ → List Item → List Item → Type 0
  Gives n xs ys = (length ys ≡ length xs)
      × ((k : ℕ) (d e : Item) → k < length xs → one (n + k, get_or xs k d) ≡ Ok (get_or ys k e))

  with_one : (n : ℕ) (x : Item) (xs ys zs : List Item) (y : Item) → one (n, x) ≡ Ok y → ys ≡ y ∷ zs
      → Gives (n + 1) xs zs → Gives n (x ∷ xs) ys
  with_one n x xs ys zs y first are others =
      (ap (λ (us : List Item). length us) are ∙ ap suc others.0, by)
    where
      by : (k : ℕ) (d e : Item) → k < length (x ∷ xs)
          → one (n + k, get_or (x ∷ xs) k d) ≡ Ok (get_or ys k e)
      by zero d e within =
          let here : n + 0 ≡ n = omega arith in
          ap (λ m. one (m, x)) here ∙ first ∙ ap (λ us. answered (get_or us 0 e)) (sym are)
      by (suc k) d e within =
          let next : n + suc k ≡ (n + 1) + k = omega arith in
          ap (λ m. one (m, get_or xs k d)) next ∙ others.1 k d e (omega (arith, within))
          ∙ ap (λ us. answered (get_or us (suc k) e)) (sym are)

  each_given : (n : ℕ) (xs ys : List Item) → all_ok (map one (enumerate_from n xs)) ≡ answered ys
      → Gives n xs ys
  each_given n [] ys told = (
    ap (λ (zs : List Item). length zs) (sym (ok_same told)),
    λ k d e within. absurd (let no : ⊥ = omega (arith, within) in no),
  )
  each_given n (x ∷ xs) ys told =
      let h : IsFirst (one (n, x)) (all_ok (map one (enumerate_from (n + 1) xs))) ys =
      first_given (one (n, x)) (all_ok (map one (enumerate_from (n + 1) xs))) ys told in
      with_one n x xs ys h.others h.one h.first h.are (each_given (n + 1) xs h.others h.rest)

  module _ (xs ys : List Item) (told : all_matched w v specs run xs ≡ answered ys) where
    -- as many
    pub as_many_matched : length ys ≡ length xs
    as_many_matched = (each_given 0 xs ys told).0

    -- each is matched, or behind those that are run and as it was
    pub matched_or_kept : (k : ℕ) (d e : Item) → k < length xs
        → ((k < run) × IsMatched w v specs (get_or xs k d) (get_or ys k e))
        ⊎ ((run ≤ k) × (get_or ys k e ≡ get_or xs k d))
    matched_or_kept k d e within =
        by (nat_lt k run) refl
        (ap (λ m. one (m, get_or xs k d)) same ∙ (each_given 0 xs ys told).1 k d e within)
      where
        same : k ≡ 0 + k
        same = omega arith

        by : (b : Bool) → nat_lt k run ≡ b
            → (if b then matched w v specs (get_or xs k d) else Ok (get_or xs k d))
            ≡ answered (get_or ys k e)
            → ((k < run) × IsMatched w v specs (get_or xs k d) (get_or ys k e))
            ⊎ ((run ≤ k) × (get_or ys k e ≡ get_or xs k d))
        by true e told = inl (
          ltb-true k run e,
          is_matched w v specs (get_or xs k d) (get_or ys k _) told,
        )
        by false e told = inr (ltb-false k run e, sym (ok_same told))

    pub matched_at : (k : ℕ) (d e : Item) → k < length xs → k < run
        → IsMatched w v specs (get_or xs k d) (get_or ys k e)
    matched_at k d e within low = by (matched_or_kept k d e within)
      where
        by : ((k < run) × IsMatched w v specs (get_or xs k d) (get_or ys k e))
            ⊎ ((run ≤ k) × (get_or ys k e ≡ get_or xs k d))
            → IsMatched w v specs (get_or xs k d) (get_or ys k e)
        by (inl is) = is.1
        by (inr is) = (let past = is.0 in absurd (let no : ⊥ = omega (arith, past, low) in no))
