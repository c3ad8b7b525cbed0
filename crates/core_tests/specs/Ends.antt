-- A routine that gives the first point one number and all others another one.
use Rattle.std.specs.Prelude.{[], ◌∷◌, codes, nat_eq, Some, if◌then◌else◌}
use Rattle.cx_plan.specs.declared.item.Region.TheVariants.{Everywhere}
use Rattle.cx_plan.specs.declared.item.ItemKind.TheVariants.{Cell}
use Rattle.cx_rule.specs.Place.{global_index, param_of}
use Rattle.cx_rule.specs.Routine.{Rule}
use Rattle.cx_rule.specs.Single.{want_of}
use Rattle.cx_rule.specs.Specs.{most_points}
use Rattle.cx_rule.specs.declared.spec.Spec.{Spec}

abbrev pub ends_rule : Rule
ends_rule w at = Some ((if nat_eq (global_index at) 0 then param_of at 0 else param_of at 1) ∷ [])

abbrev pub ends_spec : Spec
ends_spec =
    record {
      thorn = codes "DiffInt";
      name = codes "diff_ends";
      kind = Cell;
      reads = [];
      writes = want_of (codes "diff::u") Everywhere 0 ∷ [];
      params = codes "diff::amount" ∷ codes "diff::edge" ∷ [];
      cap = most_points;
    }
