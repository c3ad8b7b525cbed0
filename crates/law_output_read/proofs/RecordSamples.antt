-- The records of a few entries of a small grid.
use Rattle.std.specs.Prelude.{◌≡◌, refl, ℕ, true, false, pos, negsuc, List, [], ◌∷◌, codes}
use Rattle.cx_text.specs.declared.ctype.CType.TheVariants.{Int}
use Rattle.cx_plan.specs.declared.variable.VarId.{VarId}
use Rattle.cx_plan.specs.Setups.{Setup}
use Rattle.cx_rule.specs.States.{State}
use Rattle.cx_model.specs.Traces.{Entry, Rotated, Wrote, Saved}
use Rattle.cx_ascii_read.specs.declared.record.Record.{Record}
use Rattle.law_output_read.specs.RunRecords.{records_of, former_records}

-- three points along x and two along y, a grid variable with two levels and a scalar
abbrev small : Setup
small =
    record {
      shape = record {
        dims = 2;
        n = record { x = pos 3; y = pos 2; z = pos 1 };
        ghost_ = record { x = pos 1; y = pos 0; z = pos 0 };
        periodic = true ∷ false ∷ false ∷ [];
      };
      vars = record { full = codes "wave::phi"; ctype = Int; scalar = false; levels = 2 }
          ∷ record { full = codes "wave::energy"; ctype = Int; scalar = true; levels = 1 } ∷ [];
      items = [];
      steers = [];
      bins = [];
      itlast = 9;
      while_limit = 1;
      out_every = pos 1;
      out_vars = [];
      chk_every = pos 1;
      on_end = false;
    }

abbrev phi : VarId
phi = record { 0 = 0 }

abbrev energy : VarId
energy = record { 0 = 1 }

-- the current level counts up from 1, the older one is all 0
abbrev state : State
state =
    ((pos 1 ∷ pos 2 ∷ pos 3 ∷ pos 4 ∷ pos 5 ∷ pos 6 ∷ [])
    ∷ (pos 0 ∷ pos 0 ∷ pos 0 ∷ pos 0 ∷ pos 0 ∷ pos 0 ∷ []) ∷ [])
    ∷ ((negsuc 6 ∷ []) ∷ [])
    ∷ []

-- both variables are written in iteration 4, phi again in iteration 6; the other entries are no
-- texts
abbrev entries : List Entry
entries =
    Saved 4 state ∷ Wrote phi 4 [] state ∷ Wrote energy 4 [] state ∷ Rotated state
    ∷ Wrote phi 6 [] state ∷ []

-- the sizes along x and y, and the values of the current level, x fastest
abbrev phi_at : ℕ → Record
phi_at iteration =
    record {
      full = codes "wave::phi";
      iteration = iteration;
      size = 3 ∷ 2 ∷ [];
      values = pos 1 ∷ pos 2 ∷ pos 3 ∷ pos 4 ∷ pos 5 ∷ pos 6 ∷ [];
    }

-- the scalar's one value
abbrev energy_at : ℕ → Record
energy_at iteration =
    record { full = codes "wave::energy"; iteration = iteration; size = []; values = negsuc 6 ∷ [] }

of_phi : records_of small phi entries ≡ phi_at 4 ∷ phi_at 6 ∷ []
of_phi = refl

of_energy : records_of small energy entries ≡ energy_at 4 ∷ []
of_energy = refl

of_none : records_of small (record { 0 = 2 }) entries ≡ []
of_none = refl

in_order : former_records small entries ≡ phi_at 4 ∷ energy_at 4 ∷ phi_at 6 ∷ []
in_order = refl
