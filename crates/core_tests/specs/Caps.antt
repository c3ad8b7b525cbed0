-- A step of the automaton that sweeps parts of at most nine points.
use Rattle.std.specs.Prelude.{[], ◌∷◌, codes}
use Rattle.cx_plan.specs.declared.item.Region.TheVariants.{Everywhere, Interior}
use Rattle.cx_plan.specs.declared.item.ItemKind.TheVariants.{Cell}
use Rattle.cx_rule.specs.Single.{want_of}
use Rattle.cx_rule.specs.declared.spec.Spec.{Spec}

abbrev pub capped_step_spec : Spec
capped_step_spec =
    record {
      thorn = codes "ElemCA";
      name = codes "ca_step";
      kind = Cell;
      reads = want_of (codes "ca::cell") Everywhere 1 ∷ [];
      writes = want_of (codes "ca::cell") Interior 0 ∷ [];
      params = codes "ca::rule" ∷ [];
      cap = 9;
    }
