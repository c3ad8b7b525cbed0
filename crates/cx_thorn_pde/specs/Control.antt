-- A count of turns.
use Rattle.std.specs.Prelude.{◌-ℤ◌, [], ◌∷◌, codes}
use Rattle.cx_plan.specs.declared.item.Region.TheVariants.{Everywhere}
use Rattle.cx_plan.specs.declared.item.ItemKind.TheVariants.{Scalar}
use Rattle.cx_rule.specs.Place.{param_of}
use Rattle.cx_rule.specs.Routine.{Rule}
use Rattle.cx_rule.specs.Seen.{value_of}
use Rattle.cx_rule.specs.Single.{here, one_number, want_of, param_rule}
use Rattle.cx_rule.specs.Specs.{most_points}
use Rattle.cx_rule.specs.declared.spec.Spec.{Spec}
use Rattle.cx_rule.specs.declared.spec.Want.{Want}
use Rattle.cx_thorn_pde.specs.Exact.{in_64_bits}

-- as many turns as the parameter says
abbrev pub control_set_rule : Rule
control_set_rule = param_rule

-- fewer turns, by the parameter
abbrev pub control_spin_rule : Rule
control_spin_rule w at = one_number (in_64_bits (value_of w 0 here -ℤ param_of at 0))

-- the turns that are left
abbrev pub turns_left : Want
turns_left = want_of (codes "control::count") Everywhere 0

-- what the two routines say of themselves
abbrev pub control_set_spec : Spec
control_set_spec =
    record {
      thorn = codes "Control";
      name = codes "control_set";
      kind = Scalar;
      reads = [];
      writes = turns_left ∷ [];
      params = codes "control::turns" ∷ [];
      cap = most_points;
    }

abbrev pub control_spin_spec : Spec
control_spin_spec =
    record {
      thorn = codes "Control";
      name = codes "control_spin";
      kind = Scalar;
      reads = turns_left ∷ [];
      writes = turns_left ∷ [];
      params = codes "control::drop" ∷ [];
      cap = most_points;
    }
