-- The steers of items: a step gives its number to each slot of an item that its parameter fills.
use Rattle.std.specs.Prelude.{ℕ, ℤ, List, [], ◌∷◌, length, take, Option, Some, None, is_none, slice_get, if◌then◌else◌}
use Rattle.std.specs.List.{flat_map, enumerate_from}
use Rattle.cx_text.specs.Lexemes.{same_name}
use Rattle.cx_plan.specs.declared.item.Item.{Item}
use Rattle.cx_plan.specs.declared.steered.Steered.{Steered}
use Rattle.cx_bind.specs.declared.thorns.Param.{Param}
use Rattle.cx_values.specs.declared.steering.SteerStep.{SteerStep}
use Rattle.cx_values.specs.Spelling.{number_by}
use Rattle.cx_rule.specs.declared.spec.Spec.{Spec}

abbrev pub params_of : Option Spec → List (List ℕ)
params_of None = []
params_of (Some s) = s.params

-- the names of an item's parameters, slot by slot, by the Spec of its routine
abbrev pub slot_names : List Spec → Item → List (List ℕ)
slot_names specs x = take (length x.params) (params_of (slice_get specs x.routine))

abbrev pub steer_of : (at : ℕ) (full : List ℕ) (value : ℤ) (k : ℕ) → ℕ × List ℕ → List Steered
steer_of at full value k slot =
    if same_name slot.1 full
    then record { at = at; item = k; slot = slot.0; value = value } ∷ [] else []

-- the slots of item k that the parameter of a full name fills
abbrev pub steers_of_item : List Spec → (at : ℕ) (full : List ℕ) (value : ℤ) → ℕ × Item
    → List Steered
steers_of_item specs at full value x =
    flat_map (steer_of at full value x.0) (enumerate_from 0 (slot_names specs x.1))

abbrev pub steers_with : List Spec → List Item → (at : ℕ) (full : List ℕ) → Option ℤ
    → List Steered
steers_with specs items at full None = []
steers_with specs items at full (Some value) =
    flat_map (steers_of_item specs at full value) (enumerate_from 0 items)

-- what a step gives routines: nothing where it is a text, and nothing where it is an element of an
-- array, since no Spec names one
abbrev pub step_number : Param → SteerStep → Option ℤ
step_number p s = if is_none s.index then number_by p.decl.ptype p.ranges s.value else None

abbrev pub steers_of_step : List Spec → List Item → SteerStep → Option Param → List Steered
steers_of_step specs items s None = []
steers_of_step specs items s (Some p) = steers_with specs items s.at p.full (step_number p s)

abbrev pub steers_by : List Spec → List Param → List Item → SteerStep → List Steered
steers_by specs params items s = steers_of_step specs items s (slice_get params s.param)

-- step by step, of each step in the order of items and then of their slots
abbrev pub steers_of : List Spec → List Param → List Item → List SteerStep → List Steered
steers_of specs params items steps = flat_map (steers_by specs params items) steps
