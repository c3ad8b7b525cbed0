-- The wave equation on a grid: a field and its two levels before, by leapfrog steps.
use Rattle.std.specs.Prelude.{ℕ, ℤ, pos, ◌+ℤ◌, ◌-ℤ◌, ◌*ℤ◌, List, [], ◌∷◌, Option, Some, None, codes}
use Rattle.cx_plan.specs.declared.item.Region.{Region}
use Rattle.cx_plan.specs.declared.item.Region.TheVariants.{Everywhere, Interior, Boundary}
use Rattle.cx_plan.specs.declared.item.ItemKind.TheVariants.{Cell, Sum}
use Rattle.cx_rule.specs.Place.{param_of}
use Rattle.cx_rule.specs.Routine.{Rule}
use Rattle.cx_rule.specs.Seen.{Seen, value_of}
use Rattle.cx_rule.specs.Single.{here, one_number, want_of, read_rule, param_rule}
use Rattle.cx_rule.specs.Specs.{most_points}
use Rattle.cx_rule.specs.declared.spec.Spec.{Spec}
use Rattle.cx_rule.specs.declared.spec.Want.{Want}
use Rattle.cx_thorn_pde.specs.Around.{lap}
use Rattle.cx_thorn_pde.specs.Exact.{in_64_bits, scaled}
use Rattle.cx_thorn_pde.specs.Start.{start_at}

-- one number for each of two writes, if there is a number
abbrev pub number_twice : Option ℤ → Option (List ℤ)
number_twice None = None
number_twice (Some number) = Some (number ∷ number ∷ [])

-- the start for the field and for the level before it
abbrev pub wave_init_rule : Rule
wave_init_rule w at = number_twice (start_at at)

-- the start for the field alone
abbrev pub wave_init1_rule : Rule
wave_init1_rule w at = one_number (start_at at)

-- twice the last level, minus the one before it, and the factor's share of the last level's bend
abbrev pub next_wave : Seen → ℤ → ℤ
next_wave w factor = pos 2 *ℤ value_of w 0 here -ℤ value_of w 1 here +ℤ scaled factor (lap w)

abbrev pub wave_step_rule : Rule
wave_step_rule w at = one_number (in_64_bits (next_wave w (param_of at 0)))

-- the edge: the nearest value inside, the one of the last level, or a parameter
abbrev pub wave_flat_rule : Rule
wave_flat_rule = read_rule

abbrev pub wave_copy_rule : Rule
wave_copy_rule = read_rule

abbrev pub wave_scalar_rule : Rule
wave_scalar_rule = param_rule

-- what the sum adds at each point: the field
abbrev pub wave_sum_rule : Rule
wave_sum_rule = read_rule

-- the field, and its levels before, in a region
abbrev pub phi_in : Region → ℕ → Want
phi_in region reach = want_of (codes "wave::phi") region reach

abbrev pub phi_p_in : Region → ℕ → Want
phi_p_in region reach = want_of (codes "wave::phi_p") region reach

abbrev pub phi_p_p_in : Region → ℕ → Want
phi_p_p_in region reach = want_of (codes "wave::phi_p_p") region reach

-- what the seven routines say of themselves
abbrev pub wave_init_spec : Spec
wave_init_spec =
    record {
      thorn = codes "WaveInt";
      name = codes "wave_init";
      kind = Cell;
      reads = [];
      writes = phi_in Everywhere 0 ∷ phi_p_in Everywhere 0 ∷ [];
      params = codes "wave::pattern" ∷ codes "wave::amount" ∷ codes "wave::start"
          ∷ codes "wave::seed" ∷ [];
      cap = most_points;
    }

abbrev pub wave_init1_spec : Spec
wave_init1_spec =
    record {
      thorn = codes "WaveInt";
      name = codes "wave_init1";
      kind = Cell;
      reads = [];
      writes = phi_in Everywhere 0 ∷ [];
      params = codes "wave::pattern" ∷ codes "wave::amount" ∷ codes "wave::start"
          ∷ codes "wave::seed" ∷ [];
      cap = most_points;
    }

abbrev pub wave_step_spec : Spec
wave_step_spec =
    record {
      thorn = codes "WaveInt";
      name = codes "wave_step";
      kind = Cell;
      reads = phi_p_in Everywhere 1 ∷ phi_p_p_in Interior 0 ∷ [];
      writes = phi_in Interior 0 ∷ [];
      params = codes "wave::factor" ∷ [];
      cap = most_points;
    }

abbrev pub wave_flat_spec : Spec
wave_flat_spec =
    record {
      thorn = codes "WaveInt";
      name = codes "wave_flat";
      kind = Cell;
      reads = phi_in Interior 0 ∷ [];
      writes = phi_in Boundary 0 ∷ [];
      params = [];
      cap = most_points;
    }

abbrev pub wave_copy_spec : Spec
wave_copy_spec =
    record {
      thorn = codes "WaveInt";
      name = codes "wave_copy";
      kind = Cell;
      reads = phi_p_in Interior 0 ∷ [];
      writes = phi_in Boundary 0 ∷ [];
      params = [];
      cap = most_points;
    }

abbrev pub wave_scalar_spec : Spec
wave_scalar_spec =
    record {
      thorn = codes "WaveInt";
      name = codes "wave_scalar";
      kind = Cell;
      reads = [];
      writes = phi_in Boundary 0 ∷ [];
      params = codes "wave::edge" ∷ [];
      cap = most_points;
    }

abbrev pub wave_sum_spec : Spec
wave_sum_spec =
    record {
      thorn = codes "WaveInt";
      name = codes "wave_sum";
      kind = Sum;
      reads = phi_in Everywhere 0 ∷ [];
      writes = want_of (codes "wave::total") Everywhere 0 ∷ [];
      params = [];
      cap = most_points;
    }
