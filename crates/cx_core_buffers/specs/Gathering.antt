-- The writer's buffers, and what putting a part's numbers into them leaves.
use Rattle.std.specs.Prelude.{ℕ, ◌==◌, ◌<◌, ◌≡◌, Bool, true, ℤ, pos, List, [], ◌∷◌, map, length, replicate, slice_index_or, slice_set, if◌then◌else◌}
use Rattle.std.specs.List.{range_with_len}
use Rattle.cx_grid.specs.Boxes.{has_point, point_count, numbers_in}
use Rattle.cx_grid.specs.Grid.{whole}
use Rattle.cx_plan.specs.declared.variable.VarId.{VarId}
use Rattle.cx_plan.specs.Setups.{Setup}
use Rattle.cx_plan.specs.Lookups.{variable, is_scalar}
use Rattle.cx_plan.specs.Regions.{is_among}
use Rattle.cx_rule.specs.States.{State, level_of, scalar_of}
use Rattle.cx_model.specs.States.{number_count}
use Rattle.cx_model.specs.Turns.{values_of}
use Rattle.cx_outputs.specs.Names.{output_count, output_names}
use Rattle.cx_chk.specs.declared.checkpoint.Checkpoint.{Checkpoint}
use Rattle.cx_field.specs.Patches.{PatchValue}
use Rattle.law_parts.specs.Holding.{number_at, state_in}
use Rattle.cx_core_buffers.specs.Checkpoints.{HoldsState, total, state_of, scalars_in, levels_in}
use Rattle.cx_plan.specs.Whole.{scalar_count, level_count}

-- Per variable the whole current level that is to be written, x fastest, or a scalar's number; none
-- where the variable isn't written. Beside them stands a whole checkpoint.
pub record Buffers : Type 0 where
  pub pieces : List (List ℤ)
  pub state : Checkpoint

abbrev pub piece_of : Buffers → VarId → List ℤ
piece_of b v = slice_index_or b.pieces v.0 []

-- ---- room

-- numbers for the current level of a variable that is written, all 0
abbrev pub fresh_piece : Setup → ℕ → List ℤ
fresh_piece setup v =
    if is_among (record { 0 = v }) setup.out_vars
    then replicate (number_count setup (variable setup (record { 0 = v }))) (pos 0)
    else []

-- a checkpoint of a job, all 0
abbrev pub fresh_state : Setup → List ℕ → Checkpoint
fresh_state setup key =
    record {
      version = 2;
      iteration = 0;
      key = key;
      names = output_names setup;
      lengths = replicate (output_count setup) 0;
      scalars = replicate (total scalar_count setup.vars) (pos 0);
      levels = replicate (total level_count setup.vars)
          (replicate (point_count (whole setup.shape)) (pos 0));
    }

abbrev pub fresh : Setup → List ℕ → Buffers
fresh setup key =
    record {
      pieces = map (fresh_piece setup) (range_with_len 0 (length setup.vars));
      state = fresh_state setup key;
    }

-- a buffer for a variable's current level
pub record HasPiece (setup : Setup) (b : Buffers) (v : VarId) : Type 0 where
  pub var : v.0 < length setup.vars
  pub there : v.0 < length b.pieces
  pub room : length (piece_of b v) ≡ number_count setup (variable setup v)

-- a buffer for each variable that is written, and for a checkpoint of version 2, with the name and a
-- length of each output
pub record HasRoom (setup : Setup) (b : Buffers) : Type 0 where
  pub pieces : (v : VarId) → v.0 < length setup.vars → is_among v setup.out_vars ≡ true
      → HasPiece setup b v
  pub version : b.state.version ≡ 2
  pub names : b.state.names ≡ output_names setup
  pub lengths : length b.state.lengths ≡ output_count setup
  pub state : HoldsState setup b.state

-- ---- putting a part's numbers

-- a patch of a part of a job
pub record IsPatchOf (setup : Setup) (p : PatchValue) : Type 0 where
  pub shape : p.shape ≡ setup.shape
  pub vars : p.vars ≡ setup.vars

-- a whole level with the part's numbers at the points that the part owns
abbrev pub put : PatchValue → List ℤ → List ℤ → List ℤ
put p part level =
    numbers_in (whole p.shape)
    (λ y. if has_point p.owned y then number_at p.local part y
    else number_at (whole p.shape) level y)

-- the same, level by level
abbrev pub put_all : PatchValue → List (List ℤ) → List (List ℤ) → List (List ℤ)
put_all p [] levels = []
put_all p (part ∷ parts) [] = []
put_all p (part ∷ parts) (level ∷ levels) = put p part level ∷ put_all p parts levels

-- a variable's current level by a part's numbers; a scalar's number is that of part 0
abbrev pub piece_put : Bool → ℕ → PatchValue → VarId → List ℤ → List ℤ
piece_put scalar k p v piece =
    if scalar
    then (if k == 0 then scalar_of p.numbers v ∷ [] else piece)
    else put p (level_of p.numbers v 0) piece

abbrev pub with_piece : Setup → ℕ → PatchValue → VarId → Buffers → Buffers
with_piece setup k p v b =
    record b {
      pieces = slice_set b.pieces v.0 (piece_put (is_scalar setup v) k p v (piece_of b v));
    }

-- a checkpoint with a part's numbers; the scalars are those of part 0
abbrev pub state_put : Setup → ℕ → PatchValue → Checkpoint → Checkpoint
state_put setup k p c =
    record c {
      scalars = if k == 0 then scalars_in setup.vars p.numbers else c.scalars;
      levels = put_all p (levels_in setup.vars p.numbers) c.levels;
    }

abbrev pub with_state : Setup → ℕ → PatchValue → Buffers → Buffers
with_state setup k p b = record b { state = state_put setup k p b.state }

-- a checkpoint of this iteration and these lengths of the outputs
abbrev pub with_name : ℕ → List ℕ → Buffers → Buffers
with_name iteration lengths b =
    record b { state = record b.state { iteration = iteration; lengths = lengths } }

-- ---- a part filled from a checkpoint

-- the numbers of a part of these local points by a whole state: each point, a ghost too, has the
-- number of the point of the grid that it names
abbrev pub scattered : Setup → Checkpoint → PatchValue → State
scattered setup c p = state_in setup (values_of setup (state_of setup.vars c)) p.local 0
    (state_of setup.vars c)
