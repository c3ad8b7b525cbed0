-- Each steer of a job is one of a parameter of an item, from an iteration after the beginning on.
use Rattle.std.proofs.Common.{◌≡◌, refl, ap, sym, subst, ◌∙◌, ℕ, zero, suc, ◌+◌, ◌≤◌, ◌<◌, Bool, true, false, List, [], ◌∷◌, ◌++◌, length, take, get_or, Option, Some, None, ℤ, if◌then◌else◌, arith}
use Rattle.std.specs.Prelude.{All, slice_get}
use Rattle.std.specs.List.{AllByRecursion, flat_map, enumerate_from}
use Rattle.std.proofs.lemmas.List.{get_or-take, length-take}
use Rattle.std.proofs.lemmas.List.Elements.{All-head, All-tail, All-from_recursion}
use Rattle.cx_text.specs.Lexemes.{same_name}
use Rattle.cx_text.proofs.Holds.{each-append}
use Rattle.cx_plan.specs.Setups.{Setup}
use Rattle.cx_plan.specs.Steering.{IsSteer}
use Rattle.cx_plan.specs.Lookups.{item, no_item}
use Rattle.cx_plan.specs.Names.{with_owner}
use Rattle.cx_plan.specs.declared.item.Item.{Item}
use Rattle.cx_plan.specs.declared.steered.Steered.{Steered}
use Rattle.cx_parfile.specs.declared.steer.SteerLine.{SteerLine}
use Rattle.cx_bind.specs.Parameters.{parameters}
use Rattle.cx_bind.specs.declared.thorns.Param.{Param}
use Rattle.cx_bind.specs.declared.thorns.Thorn.{Thorn}
use Rattle.cx_values.specs.Naming.{Names, names}
use Rattle.cx_values.specs.Steering.{step_of, step_at, step_by, steps}
use Rattle.cx_values.specs.declared.steering.SteerStep.{SteerStep}
use Rattle.cx_rule.specs.declared.spec.Spec.{Spec}
use Rattle.cx_job_items.specs.Steered.{params_of, slot_names, steer_of, steers_of_item, steers_with, step_number, steers_of_step, steers_by, steers_of}

-- ---- steps

abbrev IsLater : SteerStep → Type 0
IsLater s = 1 ≤ s.at

module _ (ps : List Param) (nm : Names) where
  of_parameter : (l : SteerLine) (n : ℕ) (p : Option Param) → 1 ≤ l.at
      → AllByRecursion IsLater (step_of l n p)
  of_parameter l n None later = tt
  of_parameter l n (Some p) later = (later, tt)

  of_name : (l : SteerLine) (n : Option ℕ) → 1 ≤ l.at → AllByRecursion IsLater (step_at ps l n)
  of_name l None later = tt
  of_name l (Some n) later = of_parameter l n (slice_get ps n) later

  of_lines : (ls : List SteerLine) → All (λ (l : SteerLine). 1 ≤ l.at) ls
      → AllByRecursion IsLater (flat_map (step_by ps nm) ls)
  of_lines [] later = tt
  of_lines (l ∷ ls) later =
      each-append IsLater (step_by ps nm l) (flat_map (step_by ps nm) ls)
      (of_name l (nm (with_owner l.setting.owner l.setting.name))
      (All-head (λ (l : SteerLine). 1 ≤ l.at) l ls later))
      (of_lines ls (All-tail (λ (l : SteerLine). 1 ≤ l.at) l ls later))

-- the steps of lines of later iterations are of these
pub steps_later : (thorns : List Thorn) (ls : List SteerLine)
    → All (λ (l : SteerLine). 1 ≤ l.at) ls → All (λ (s : SteerStep). 1 ≤ s.at) (steps thorns ls)
unfolding steps
steps_later thorns ls later =
    All-from_recursion IsLater (flat_map (step_by (parameters thorns) (names thorns)) ls)
    (of_lines (parameters thorns) (names thorns) ls later)

-- ---- steers

module _ (setup : Setup) (specs : List Spec) (at : ℕ) (full : List ℕ) (value : ℤ) (later : 1 ≤ at)
  where
    of_slot : (k slot : ℕ) → k < length setup.items → slot < length (item setup k).params
        → (b : Bool) → AllByRecursion (IsSteer setup)
        (if b then record { at = at; item = k; slot = slot; value = value } ∷ [] else [])
    of_slot k slot there named true = (record { later = later; there = there; named = named }, tt)
    of_slot k slot there named false = tt

    of_slots : (k : ℕ) → k < length setup.items → (n : ℕ) (ns : List (List ℕ))
        → n + length ns ≤ length (item setup k).params
        → AllByRecursion (IsSteer setup)
        (flat_map (steer_of at full value k) (enumerate_from n ns))
    of_slots k there n [] fits = tt
    of_slots k there n (name ∷ ns) fits =
        each-append (IsSteer setup) (steer_of at full value k (n, name))
        (flat_map (steer_of at full value k) (enumerate_from (n + 1) ns))
        (of_slot k n there (omega (arith, fits)) (same_name name full))
        (of_slots k there (n + 1) ns (omega (arith, fits)))

    of_item : (k : ℕ) (x : Item) → k < length setup.items → item setup k ≡ x
        → AllByRecursion (IsSteer setup) (steers_of_item specs at full value (k, x))
    of_item k x there is =
        let few = length-take (length x.params) (params_of (slice_get specs x.routine)) in
        let many : length (item setup k).params ≡ length x.params =
        ap (λ (y : Item). length y.params) is in
        of_slots k there 0 (slot_names specs x) (omega (arith, few, many))

    of_items : (n : ℕ) (xs : List Item) → n + length xs ≤ length setup.items
        → ((j : ℕ) → j < length xs → item setup (n + j) ≡ get_or xs j no_item)
        → AllByRecursion (IsSteer setup)
        (flat_map (steers_of_item specs at full value) (enumerate_from n xs))
    of_items n [] fits are = tt
    of_items n (x ∷ xs) fits are =
        each-append (IsSteer setup) (steers_of_item specs at full value (n, x))
        (flat_map (steers_of_item specs at full value) (enumerate_from (n + 1) xs))
        (of_item n x (omega (arith, fits)) (first (are 0 (omega arith))))
        (of_items (n + 1) xs (omega (arith, fits)) (λ j within. next j (are (suc j)
        (omega (arith, within)))))
      where
        first : item setup (n + 0) ≡ x → item setup n ≡ x
        first is = let e : n ≡ n + 0 = omega arith in ap (item setup) e ∙ is

        next : (j : ℕ) → item setup (n + suc j) ≡ get_or xs j no_item
            → item setup ((n + 1) + j) ≡ get_or xs j no_item
        next j is = let e : (n + 1) + j ≡ n + suc j = omega arith in ap (item setup) e ∙ is

module _ (setup : Setup) (specs : List Spec) (params : List Param) (run : ℕ) where
  abbrev first_ones : List Item
  first_ones = take run setup.items

  of_number : (s : SteerStep) (p : Param) (value : Option ℤ) → 1 ≤ s.at
      → AllByRecursion (IsSteer setup) (steers_with specs first_ones s.at p.full value)
  of_number s p None later = tt
  of_number s p (Some value) later =
      let few = length-take run setup.items in
      of_items setup specs s.at p.full value later 0 first_ones (omega (arith, few))
      (λ j within. there j (let few = length-take run setup.items in omega (arith, few, within)))
    where
      there : (j : ℕ) → j < run → item setup (0 + j) ≡ get_or first_ones j no_item
      there j low = let e : 0 + j ≡ j = omega arith in
          ap (item setup) e ∙ sym (get_or-take run setup.items j no_item low)

  of_step : (s : SteerStep) (p : Option Param) → 1 ≤ s.at
      → AllByRecursion (IsSteer setup) (steers_of_step specs first_ones s p)
  of_step s None later = tt
  of_step s (Some p) later = of_number s p (step_number p s) later

  of_steps : (ss : List SteerStep) → All (λ (s : SteerStep). 1 ≤ s.at) ss
      → AllByRecursion (IsSteer setup) (flat_map (steers_by specs params first_ones) ss)
  of_steps [] later = tt
  of_steps (s ∷ ss) later =
      each-append (IsSteer setup) (steers_by specs params first_ones s)
      (flat_map (steers_by specs params first_ones) ss)
      (of_step s (slice_get params s.param)
      (All-head (λ (s : SteerStep). 1 ≤ s.at) s ss later))
      (of_steps ss (All-tail (λ (s : SteerStep). 1 ≤ s.at) s ss later))

  -- the steers of the first items
  pub each_steer : (ss : List SteerStep) → All (λ (s : SteerStep). 1 ≤ s.at) ss
      → All (IsSteer setup) (steers_of specs params first_ones ss)
  each_steer ss later =
      All-from_recursion (IsSteer setup) (steers_of specs params first_ones ss) (of_steps ss later)
