-- Worked rows: names of routines, and items matched with routines.
use Rattle.std.specs.Prelude.{◌≡◌, refl, ℕ, ℤ, pos, false, List, [], ◌∷◌, codes, Some, None, Ok, Err}
use Rattle.cx_param.specs.declared.ranges.Value.TheVariants.{Number}
use Rattle.cx_plan.specs.declared.item.Region.{Region}
use Rattle.cx_plan.specs.declared.item.Region.TheVariants.{Interior, Everywhere}
use Rattle.cx_plan.specs.declared.item.ItemKind.TheVariants.{Cell}
use Rattle.cx_plan.specs.declared.item.Touch.{Touch}
use Rattle.cx_plan.specs.declared.item.Item.{Item}
use Rattle.cx_param.specs.declared.declarations.PType.TheVariants.{Int}
use Rattle.cx_param.specs.declared.declarations.Scope.TheVariants.{Restricted}
use Rattle.cx_bind.specs.declared.thorns.Param.{Param}
use Rattle.cx_bind.specs.BuiltIn.{from_to}
use Rattle.cx_bind.specs.Parameters.{parameter_of}
use Rattle.cx_bind.proofs.Samples.{decl, elem_ca}
use Rattle.cx_values.specs.declared.steering.SteerStep.{SteerStep}
use Rattle.cx_values.specs.declared.values.Slot.{Slot}
use Rattle.cx_values.specs.declared.values.Values.{Values}
use Rattle.cx_order.specs.Meanings.{World}
use Rattle.cx_rule.specs.declared.spec.Want.{Want}
use Rattle.cx_rule.specs.Specs.{most_points}
use Rattle.cx_rule.specs.declared.spec.Spec.{Spec}
use Rattle.cx_rule.specs.Single.{want_of}
use Rattle.cx_job_items.specs.declared.fault.MatchFault.TheVariants.{UnknownRoutine, RoutineMismatch}
use Rattle.cx_job_items.specs.Matching.{ref_in, matched, all_matched}
use Rattle.cx_job_items.specs.Steered.{steers_of}

-- ---- names

row_full : ref_in (codes "ca::cell_p")
    ≡ record { owner = Some (codes "ca"); name = codes "cell_p"; copy = None }
row_full = refl

row_copy : ref_in (codes "wave::phi[12]")
    ≡ record { owner = Some (codes "wave"); name = codes "phi"; copy = Some 12 }
row_copy = refl

row_short : ref_in (codes "phi[0]") ≡ record { owner = None; name = codes "phi"; copy = Some 0 }
row_short = refl

-- no number stands in the bracket, or none that 32 bits hold
row_word : ref_in (codes "phi[x]") ≡ record { owner = None; name = codes "phi[x]"; copy = None }
row_word = refl

row_large : ref_in (codes "phi[4294967296]")
    ≡ record { owner = None; name = codes "phi[4294967296]"; copy = None }
row_large = refl

-- ---- the automaton

-- the automaton with both variables stored
abbrev world : World
world = record {
  thorns = elem_ca ∷ [];
  sight = record { is_ancestor = λ t u. false; is_friend = λ t u. false };
  storage = 1 ∷ 1 ∷ [];
}

abbrev number_slot : List ℕ → ℤ → Slot
number_slot full n = record {
  full = full;
  length = None;
  default = record { value = Number n; number = Some n };
}

abbrev values : Values
values = record {
  slots =
      number_slot (codes "driver::lead") (pos 0) ∷ number_slot (codes "ca::rule") (pos 110) ∷ [];
  given = [];
  uses = [];
  globals = [];
}

abbrev touch : ℕ → Region → ℕ → Touch
touch var region reach =
    record { var = record { 0 = var }; level = 0; region = region; reach = reach }

-- the automaton's step as the schedule has it: READS ca::cell(everywhere), WRITES
-- ca::cell(interior)
abbrev scheduled : Item
scheduled =
    record {
      thorn = codes "ElemCA";
      name = codes "ca_step";
      path = codes "EVOL/ca_step";
      kind = Cell;
      routine = 0;
      reads = touch 0 Everywhere 0 ∷ [];
      writes = touch 0 Interior 0 ∷ [];
      params = [];
    }

abbrev offering : List Want → List Want → List (List ℕ) → Spec
offering reads writes params =
    record {
      thorn = codes "elemca";
      name = codes "CA_step";
      kind = Cell;
      reads = reads;
      writes = writes;
      params = params;
      cap = most_points;
    }

abbrev read_cell : List Want
read_cell = want_of (codes "ca::cell") Everywhere 1 ∷ []

abbrev write_cell : List Want
write_cell = want_of (codes "CA::cell") Interior 0 ∷ []

abbrev other : Spec
other = record {
  thorn = codes "ElemCA";
  name = codes "ca_init";
  kind = Cell;
  reads = [];
  writes = write_cell;
  params = [];
  cap = most_points;
}

abbrev matched_step : ℕ → Item
matched_step k = record scheduled
    { routine = k; reads = touch 0 Everywhere 1 ∷ []; params = pos 110 ∷ [] }

-- with the first routine of its thorn and name, in any case, in the reach that the routine has
row_matched : matched world values
    (other ∷ offering read_cell write_cell (codes "ca::rule" ∷ []) ∷ offering [] [] [] ∷ [])
    scheduled ≡ Ok (matched_step 1)
row_matched = refl

-- a read is missing
row_no_read : matched world values (offering [] write_cell (codes "ca::rule" ∷ []) ∷ []) scheduled
    ≡ Err (RoutineMismatch (codes "EVOL/ca_step")
    (codes "(reads ca::cell(everywhere) writes ca::cell(interior))")
    (codes "(writes ca::cell(interior))"))
row_no_read = refl

-- another region
row_region : matched world values
    (offering (want_of (codes "ca::cell") Interior 0 ∷ []) write_cell [] ∷ []) scheduled
    ≡ Err (RoutineMismatch (codes "EVOL/ca_step")
    (codes "(reads ca::cell(everywhere) writes ca::cell(interior))")
    (codes "(reads ca::cell(interior) writes ca::cell(interior))"))
row_region = refl

-- names that mean no level, a starred parameter and one without a number
row_names : matched world values
    (offering (want_of (codes "ca::cells[0]") Everywhere 1
    ∷ want_of (codes "ca::cell_p") Everywhere 0 ∷ []) write_cell
    (codes "ca::rule" ∷ codes "driver::lead" ∷ codes "ca::none" ∷ []) ∷ []) scheduled
    ≡ Err (RoutineMismatch (codes "EVOL/ca_step")
    (codes "(reads ca::cell(everywhere) writes ca::cell(interior))")
    (codes
    "(reads ca::cells[0](everywhere) ca::cell_p(everywhere) writes ca::cell(interior) params driver::lead ca::none)"))
row_names = refl

-- only the parameter is starred
row_starred : matched world values (offering read_cell write_cell (codes "Driver::lead" ∷ []) ∷ [])
    scheduled
    ≡ Err (RoutineMismatch (codes "EVOL/ca_step")
    (codes "(reads ca::cell(everywhere) writes ca::cell(interior))")
    (codes "(reads ca::cell(everywhere) writes ca::cell(interior) params Driver::lead)"))
row_starred = refl

-- nothing on one side
row_nothing : matched world values (offering [] write_cell [] ∷ [])
    (record scheduled { reads = []; writes = [] })
    ≡ Err (RoutineMismatch (codes "EVOL/ca_step") (codes "()")
    (codes "(writes ca::cell(interior))"))
row_nothing = refl

-- one name twice is one member of the set
row_twice : matched world values (offering read_cell write_cell (codes "ca::rule" ∷ []) ∷ [])
    (record scheduled { reads = touch 0 Everywhere 0 ∷ touch 0 Everywhere 0 ∷ [] })
    ≡ Ok (matched_step 0)
row_twice = refl

-- no routine of the name
row_unknown : matched world values (other ∷ []) scheduled
    ≡ Err (UnknownRoutine (codes "EVOL/ca_step"))
row_unknown = refl

-- ---- all items

-- what isn't run stays as it is
row_all : all_matched world values (offering read_cell write_cell (codes "ca::rule" ∷ []) ∷ []) 1
    (scheduled ∷ scheduled ∷ []) ≡ Ok (matched_step 0 ∷ scheduled ∷ [])
row_all = refl

row_not_run : all_matched world values [] 0 (scheduled ∷ []) ≡ Ok (scheduled ∷ [])
row_not_run = refl

-- the first fault in the items' order
row_first : all_matched world values (offering [] write_cell [] ∷ []) 2
    (record scheduled { name = codes "ca_count" } ∷ scheduled ∷ [])
    ≡ Err (UnknownRoutine (codes "EVOL/ca_step"))
row_first = refl

-- ---- steers

abbrev rule : Param
rule = parameter_of 0 elem_ca (decl Restricted Int (codes "rule") (from_to (pos 0) (pos 255) ∷ []))

abbrev steps : List SteerStep
steps =
    record { at = 3; param = 0; index = None; value = Number (pos 30) }
    ∷ record { at = 4; param = 0; index = Some 0; value = Number (pos 31) } ∷ []

-- each use of the parameter in an item, in each item; an element of an array has none
row_steers : steers_of
    (other ∷ offering read_cell write_cell (codes "CA::rule" ∷ codes "ca::seed" ∷ codes "ca::rule"
    ∷ []) ∷ []) (rule ∷ [])
    (record (matched_step 1) { params = pos 1 ∷ pos 2 ∷ pos 3 ∷ [] }
    ∷ record (matched_step 0) { params = [] }
    ∷ record (matched_step 1) { params = pos 1 ∷ pos 2 ∷ pos 3 ∷ [] } ∷ []) steps
    ≡ record { at = 3; item = 0; slot = 0; value = pos 30 }
    ∷ record { at = 3; item = 0; slot = 2; value = pos 30 }
    ∷ record { at = 3; item = 2; slot = 0; value = pos 30 }
    ∷ record { at = 3; item = 2; slot = 2; value = pos 30 } ∷ []
row_steers = refl
