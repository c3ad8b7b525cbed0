-- The heat equation on a grid, by explicit steps.
use Rattle.std.specs.Prelude.{ℕ, ◌+ℤ◌, [], ◌∷◌, codes}
use Rattle.cx_plan.specs.declared.item.Region.{Region}
use Rattle.cx_plan.specs.declared.item.Region.TheVariants.{Everywhere, Interior, Boundary}
use Rattle.cx_plan.specs.declared.item.ItemKind.TheVariants.{Cell, Sum}
use Rattle.cx_rule.specs.Place.{param_of}
use Rattle.cx_rule.specs.Routine.{Rule}
use Rattle.cx_rule.specs.Seen.{value_of}
use Rattle.cx_rule.specs.Single.{here, one_number, want_of, read_rule, param_rule}
use Rattle.cx_rule.specs.Specs.{most_points}
use Rattle.cx_rule.specs.declared.spec.Spec.{Spec}
use Rattle.cx_rule.specs.declared.spec.Want.{Want}
use Rattle.cx_thorn_pde.specs.Around.{lap}
use Rattle.cx_thorn_pde.specs.Exact.{in_64_bits, scaled}
use Rattle.cx_thorn_pde.specs.Start.{start_at}

-- the start
abbrev pub diff_init_rule : Rule
diff_init_rule w at = one_number (start_at at)

-- the heat, and the factor's share of its bend
abbrev pub diff_step_rule : Rule
diff_step_rule w at = one_number (in_64_bits (value_of w 0 here +ℤ scaled (param_of at 0) (lap w)))

-- the edge: the nearest value inside, or a parameter
abbrev pub diff_flat_rule : Rule
diff_flat_rule = read_rule

abbrev pub diff_scalar_rule : Rule
diff_scalar_rule = param_rule

-- what the sum adds at each point: the heat
abbrev pub diff_sum_rule : Rule
diff_sum_rule = read_rule

-- the heat, in a region
abbrev pub heat_in : Region → ℕ → Want
heat_in region reach = want_of (codes "diff::u") region reach

-- what the five routines say of themselves
abbrev pub diff_init_spec : Spec
diff_init_spec =
    record {
      thorn = codes "DiffInt";
      name = codes "diff_init";
      kind = Cell;
      reads = [];
      writes = heat_in Everywhere 0 ∷ [];
      params = codes "diff::pattern" ∷ codes "diff::amount" ∷ codes "diff::start"
          ∷ codes "diff::seed" ∷ [];
      cap = most_points;
    }

abbrev pub diff_step_spec : Spec
diff_step_spec =
    record {
      thorn = codes "DiffInt";
      name = codes "diff_step";
      kind = Cell;
      reads = heat_in Everywhere 1 ∷ [];
      writes = heat_in Interior 0 ∷ [];
      params = codes "diff::factor" ∷ [];
      cap = most_points;
    }

abbrev pub diff_flat_spec : Spec
diff_flat_spec =
    record {
      thorn = codes "DiffInt";
      name = codes "diff_flat";
      kind = Cell;
      reads = heat_in Interior 0 ∷ [];
      writes = heat_in Boundary 0 ∷ [];
      params = [];
      cap = most_points;
    }

abbrev pub diff_scalar_spec : Spec
diff_scalar_spec =
    record {
      thorn = codes "DiffInt";
      name = codes "diff_scalar";
      kind = Cell;
      reads = [];
      writes = heat_in Boundary 0 ∷ [];
      params = codes "diff::edge" ∷ [];
      cap = most_points;
    }

abbrev pub diff_sum_spec : Spec
diff_sum_spec =
    record {
      thorn = codes "DiffInt";
      name = codes "diff_sum";
      kind = Sum;
      reads = heat_in Everywhere 0 ∷ [];
      writes = want_of (codes "diff::total") Everywhere 0 ∷ [];
      params = [];
      cap = most_points;
    }
