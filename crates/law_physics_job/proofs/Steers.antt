-- A parameter that can't be steered keeps its number.
use Rattle.std.proofs.Common.{◌≡◌, refl, sym, ap, subst, ◌∙◌, ℕ, zero, suc, ◌+◌, ◌==◌, ◌&&◌, ◌||◌, eqb, eqb-true, Bool, true, false, not, ℤ, List, [], ◌∷◌, ◌++◌, take, Option, Some, None, slice_get, if◌then◌else◌, arith}
use Rattle.std.specs.Prelude.{nat_le, slice_set}
use Rattle.std.specs.List.{flat_map, enumerate_from, list_all, list_any, AllByRecursion}
use Rattle.std.proofs.lemmas.Bool.{and_parts}
use Rattle.cx_text.specs.Lexemes.{same_name}
use Rattle.cx_text.proofs.Holds.{each-append}
use Rattle.cx_plan.specs.Lists.{or_else}
use Rattle.cx_plan.specs.Names.{with_owner}
use Rattle.cx_plan.specs.Steering.{steered}
use Rattle.cx_plan.specs.declared.item.Item.{Item}
use Rattle.cx_plan.specs.declared.steered.Steered.{Steered}
use Rattle.cx_param.specs.declared.declarations.Steer.{Steer}
use Rattle.cx_param.specs.declared.declarations.Steer.TheVariants.{Never, Always, Recover}
use Rattle.cx_parfile.specs.declared.steer.SteerLine.{SteerLine}
use Rattle.cx_bind.specs.Parameters.{parameters}
use Rattle.cx_bind.specs.declared.thorns.Param.{Param}
use Rattle.cx_bind.specs.declared.thorns.Thorn.{Thorn}
use Rattle.cx_values.specs.Faults.{value_fault}
use Rattle.cx_values.specs.Naming.{Names, names, element}
use Rattle.cx_values.specs.Spelling.{held_by}
use Rattle.cx_values.specs.Numbers.{dues_of}
use Rattle.cx_values.specs.Steering.{may_change, order_fault, change_fault_at, change_fault_of, named_fault, line_fault, lines_fault, steer_fault, step_of, step_at, step_by, steps}
use Rattle.cx_values.specs.declared.fault.ValueFault.{ValueFault}
use Rattle.cx_values.specs.declared.fault.ValueFault.TheVariants.{NotSteerable}
use Rattle.cx_values.specs.declared.steering.SteerStep.{SteerStep}
use Rattle.cx_values.specs.declared.values.Values.{Values}
use Rattle.cx_rule.specs.declared.spec.Spec.{Spec}
use Rattle.cx_job_items.specs.Steered.{slot_names, steer_of, steers_of_item, steers_with, step_number, steers_of_step, steers_by, steers_of}

-- ---- parameters

abbrev is_never : Steer → Bool
is_never Never = true
is_never Always = false
is_never Recover = false

abbrev fills : List (List ℕ) → List ℕ → Bool
fills slots full = list_any (λ s. same_name s full) slots

-- a parameter that can't be steered, or that fills none of these slots
abbrev pub is_quiet : List (List ℕ) → Param → Bool
is_quiet slots p = is_never p.decl.steer || not (fills slots p.full)

quiet_at : (slots : List (List ℕ)) (ps : List Param) (n : ℕ) (p : Param)
    → list_all (is_quiet slots) ps ≡ true → slice_get ps n ≡ Some p → is_quiet slots p ≡ true
quiet_at slots [] n p all at = absurd cc
quiet_at slots (q ∷ ps) zero p all at =
    let same : q ≡ p = cc in
    sym (ap (is_quiet slots) same)
    ∙ (and_parts (is_quiet slots q) (list_all (is_quiet slots) ps) all).0
quiet_at slots (q ∷ ps) (suc n) p all at =
    quiet_at slots ps n p (and_parts (is_quiet slots q) (list_all (is_quiet slots) ps) all).1 at

-- what may change fills none of the slots
none_filled : (slots : List (List ℕ)) (p : Param) (values : Values) (n : ℕ)
    → is_quiet slots p ≡ true → may_change (dues_of values) p.decl.steer n ≡ true
    → fills slots p.full ≡ false
none_filled slots p values n quiet may = by p.decl.steer (fills slots p.full) quiet may
  where
    by : (s : Steer) (b : Bool) → (is_never s || not b) ≡ true
        → may_change (dues_of values) s n ≡ true → b ≡ false
    by Never b quiet may = absurd cc
    by Always true quiet may = absurd cc
    by Always false quiet may = refl
    by Recover true quiet may = absurd cc
    by Recover false quiet may = refl

-- ---- slots

neither : (a b : Bool) → (a || b) ≡ false → (a ≡ false) × (b ≡ false)
neither true b none = absurd cc
neither false b none = (refl, none)

fills_not_taken : (full : List ℕ) (n : ℕ) (slots : List (List ℕ)) → fills slots full ≡ false
    → fills (take n slots) full ≡ false
fills_not_taken full zero [] none = refl
fills_not_taken full zero (s ∷ slots) none = refl
fills_not_taken full (suc n) [] none = refl
fills_not_taken full (suc n) (s ∷ slots) none =
    let both = neither (same_name s full) (fills slots full) none in
    ap (λ b. b || fills (take n slots) full) both.0 ∙ fills_not_taken full n slots both.1

module _ (at k : ℕ) (full : List ℕ) (value : ℤ) where
  abbrev steers_if : Bool → ℕ → List Steered
  steers_if b j = if b then record { at = at; item = k; slot = j; value = value } ∷ [] else []

  no_slot : (j : ℕ) (slots : List (List ℕ)) → fills slots full ≡ false
      → flat_map (steer_of at full value k) (enumerate_from j slots) ≡ []
  no_slot j [] none = refl
  no_slot j (s ∷ slots) none =
      let both = neither (same_name s full) (fills slots full) none in
      ap (λ b. steers_if b j ++ flat_map (steer_of at full value k) (enumerate_from (j + 1) slots))
      both.0
      ∙ no_slot (j + 1) slots both.1

-- ---- steers of other items

module _ (k : ℕ) where
  abbrev IsOther : Steered → Type 0
  IsOther s = (s.item == k) ≡ false

  -- they leave the parameters of this one
  pub others_leave : (ss : List Steered) (n : ℕ) (params : List ℤ) → AllByRecursion IsOther ss
      → steered ss k n params ≡ params
  others_leave [] n params each = refl
  others_leave (s ∷ ss) n params each =
      ap (steered ss k n)
      (ap (λ b. if b && nat_le s.at n then slice_set params s.slot s.value else params) each.0)
      ∙ others_leave ss n params each.1

  module _ (specs : List Spec) (slots : List (List ℕ)) (full : List ℕ)
      (none : fills slots full ≡ false) (at : ℕ) (value : ℤ) where
    slots_other : (i : ℕ) → (i == k) ≡ false → (b : Bool) (j : ℕ) (rest : List Steered)
        → AllByRecursion IsOther rest
        → AllByRecursion IsOther (steers_if at i full value b j ++ rest)
    slots_other i other true j rest each = (other, each)
    slots_other i other false j rest each = each

    slot_other : (i : ℕ) → (i == k) ≡ false → (j : ℕ) (names : List (List ℕ))
        → AllByRecursion IsOther (flat_map (steer_of at full value i) (enumerate_from j names))
    slot_other i other j [] = tt
    slot_other i other j (s ∷ names) =
        slots_other i other (same_name s full) j
        (flat_map (steer_of at full value i) (enumerate_from (j + 1) names))
        (slot_other i other (j + 1) names)

    -- of an item whose slots these are, if it is this one
    one_other : (i : ℕ) (x : Item)
        → (i ≡ k → (m : ℕ) × (slot_names specs x ≡ take m slots))
        → AllByRecursion IsOther (steers_of_item specs at full value (i, x))
    one_other i x has = by (eqb i k) refl
      where
        by : (b : Bool) → eqb i k ≡ b
            → AllByRecursion IsOther (steers_of_item specs at full value (i, x))
        by true is =
            let m = has (eqb-true i k is) in
            subst (AllByRecursion IsOther)
            (sym (ap (λ names. flat_map (steer_of at full value i) (enumerate_from 0 names)) m.1
            ∙ no_slot at i full value 0 (take m.0 slots) (fills_not_taken full m.0 slots none))) tt
        by false is = slot_other i is 0 (slot_names specs x)

    items_other : (i : ℕ) (items : List Item)
        → ((j : ℕ) (x : Item) → slice_get items j ≡ Some x → i + j ≡ k
        → (m : ℕ) × (slot_names specs x ≡ take m slots))
        → AllByRecursion IsOther (flat_map (steers_of_item specs at full value)
        (enumerate_from i items))
    items_other i [] has = tt
    items_other i (x ∷ items) has =
        each-append IsOther (steers_of_item specs at full value (i, x))
        (flat_map (steers_of_item specs at full value) (enumerate_from (i + 1) items))
        (one_other i x (λ e. has 0 x refl (let z : i + 0 ≡ i = omega arith in z ∙ e)))
        (items_other (i + 1) items
        (λ j y at e. has (suc j) y at
        (let z : i + suc j ≡ (i + 1) + j = omega arith in z ∙ e)))

-- ---- lines

each-parts : {A : Type 0} (P : A → Type 0) (xs ys : List A) → AllByRecursion P (xs ++ ys)
    → AllByRecursion P xs × AllByRecursion P ys
each-parts P [] ys all = (tt, all)
each-parts P (x ∷ xs) ys all =
    (let parts = each-parts P xs ys all.1 in ((all.0, parts.0), parts.1))

no_fault_first : (a b : Option ValueFault) → or_else a b ≡ None → (a ≡ None) × (b ≡ None)
no_fault_first None b e = (refl, e)
no_fault_first (Some x) b e = absurd cc

module _ (specs : List Spec) (ps : List Param) (nm : Names) (values : Values) (items : List Item)
    (k : ℕ) (slots : List (List ℕ)) (quiet : list_all (is_quiet slots) ps ≡ true)
    (has : (x : Item) → slice_get items k ≡ Some x
    → (m : ℕ) × (slot_names specs x ≡ take m slots)) where
  abbrev Others : List Steered → Type 0
  Others = AllByRecursion (IsOther k)

  with_other : (at : ℕ) (full : List ℕ) → fills slots full ≡ false → (o : Option ℤ)
      → Others (steers_with specs items at full o)
  with_other at full none None = tt
  with_other at full none (Some value) =
      items_other k specs slots full none at value 0 items
      (λ j x there e. has x
      (subst (λ (i : ℕ). slice_get items i ≡ Some x)
      (let z : j ≡ 0 + j = omega arith in z ∙ e) there))

  may : (l : SteerLine) (before : ℕ) (p : Param) (b : Bool)
      → (if b then or_else (value_fault [] p l.setting.line l.setting.value)
      (order_fault before l.at l.setting.line)
      else Some (NotSteerable l.setting.line)) ≡ None → b ≡ true
  may l before p true e = refl
  may l before p false e = absurd cc

  abbrev step_to : SteerLine → ℕ → Param → SteerStep
  step_to l n p = record {
    at = l.at;
    param = n;
    index = l.setting.index;
    value = (held_by p.decl.ptype p.ranges l.setting.value).value;
  }

  line_other : (before : ℕ) (l : SteerLine) → line_fault ps nm (dues_of values) before l ≡ None
      → Others (steers_of specs ps items (step_by ps nm l))
  line_other before l none = by (nm (with_owner l.setting.owner l.setting.name)) none
    where
      at_element : (p : Param) (o : Option ℕ)
          → change_fault_at (dues_of values) before l p o ≡ None
          → may_change (dues_of values) p.decl.steer l.at ≡ true
      at_element p None e = absurd cc
      at_element p (Some j) e = may l before p (may_change (dues_of values) p.decl.steer l.at) e

      at_param : (n : ℕ) (o : Option Param) → slice_get ps n ≡ o
          → change_fault_of (dues_of values) before l o ≡ None
          → Others (steers_of specs ps items (step_of l n o))
      at_param n None at e = tt
      at_param n (Some p) at e =
          let changes = at_element p (element p.decl.length l.setting.index) e in
          let none = none_filled slots p values l.at (quiet_at slots ps n p quiet at) changes in
          each-append (IsOther k)
          (steers_by specs ps items (step_to l n p)) []
          (subst (λ (q : Option Param). Others (steers_of_step specs items (step_to l n p) q))
          (sym at) (with_other l.at p.full none (step_number p (step_to l n p)))) tt

      by : (o : Option ℕ) → named_fault ps (dues_of values) before l o ≡ None
          → Others (steers_of specs ps items (step_at ps l o))
      by None e = absurd cc
      by (Some n) e = at_param n (slice_get ps n) refl e

  joined : (xs ys : List SteerStep) → Others (steers_of specs ps items xs)
      → Others (steers_of specs ps items ys) → Others (steers_of specs ps items (xs ++ ys))
  joined [] ys a b = b
  joined (x ∷ xs) ys a b =
      let parts = each-parts (IsOther k) (steers_by specs ps items x)
      (steers_of specs ps items xs) a in
      each-append (IsOther k) (steers_by specs ps items x) (steers_of specs ps items (xs ++ ys))
      parts.0 (joined xs ys parts.1 b)

  lines_other : (before : ℕ) (ls : List SteerLine)
      → lines_fault ps nm (dues_of values) before ls ≡ None
      → Others (steers_of specs ps items (flat_map (step_by ps nm) ls))
  lines_other before [] none = tt
  lines_other before (l ∷ ls) none =
      let both = no_fault_first (line_fault ps nm (dues_of values) before l)
      (lines_fault ps nm (dues_of values) l.at ls) none in
      joined (step_by ps nm l) (flat_map (step_by ps nm) ls) (line_other before l both.0)
      (lines_other l.at ls both.1)

-- ---- of thorns

module _ (specs : List Spec) (thorns : List Thorn) (values : Values) (lines : List SteerLine)
    (items : List Item) (k : ℕ) (slots : List (List ℕ)) where
  pub keeps_params : steer_fault thorns values lines ≡ None
      → list_all (is_quiet slots) (parameters thorns) ≡ true
      → ((x : Item) → slice_get items k ≡ Some x → (m : ℕ) × (slot_names specs x ≡ take m slots))
      → (n : ℕ) (params : List ℤ)
      → steered (steers_of specs (parameters thorns) items (steps thorns lines)) k n params ≡ params
  unfolding steer_fault steps
  keeps_params none quiet has n params =
      others_leave k (steers_of specs (parameters thorns) items
      (flat_map (step_by (parameters thorns) (names thorns)) lines)) n params
      (lines_other specs (parameters thorns) (names thorns) values items k slots quiet
      has 0 lines none)
