-- Where a part's piece stands in the writer's buffers.
use Rattle.std.specs.Prelude.{ℕ, ◌<◌, ◌≡◌, true, false, ℤ, pos, List, [], length, slice_index_or}
use Rattle.cx_grid.specs.declared.boxes.Point.{Point}
use Rattle.cx_grid.specs.Boxes.{IsIn}
use Rattle.cx_grid.specs.Grid.{whole}
use Rattle.cx_plan.specs.declared.variable.VarId.{VarId}
use Rattle.cx_plan.specs.Setups.{Setup}
use Rattle.cx_plan.specs.Lookups.{is_scalar, levels_of}
use Rattle.cx_rule.specs.States.{State, level_of}
use Rattle.cx_cut.specs.Cuts.{Parts, owned}
use Rattle.cx_chk.specs.declared.checkpoint.Checkpoint.{Checkpoint}
use Rattle.law_parts.specs.Holding.{number_at}
use Rattle.cx_core_buffers.specs.Checkpoints.{state_of}
use Rattle.cx_core_buffers.specs.Gathering.{Buffers, piece_of}

-- a part's piece of a variable's current level, over its owned points; of a scalar the number of
-- part 0
pub record HoldsPiece (setup : Setup) (c : Parts) (b : Buffers) (v : VarId) (k : ℕ)
    (piece : List ℤ) : Type 0 where
  pub scalar : is_scalar setup v ≡ true → k ≡ 0
      → slice_index_or (piece_of b v) 0 (pos 0) ≡ slice_index_or piece 0 (pos 0)
  pub grid : is_scalar setup v ≡ false → (p : Point) → IsIn (owned c k) p
      → number_at (whole setup.shape) (piece_of b v) p ≡ number_at (owned c k) piece p

-- a part's piece of a whole state, over its owned points; the scalars are those of part 0
pub record HoldsPart (setup : Setup) (c : Parts) (chk : Checkpoint) (k : ℕ)
    (piece : State) : Type 0 where
  pub scalars : k ≡ 0 → (v : VarId) → is_scalar setup v ≡ true → v.0 < length setup.vars
      → slice_index_or (state_of setup.vars chk) v.0 [] ≡ slice_index_or piece v.0 []
  pub levels : (v : VarId) (level : ℕ) (p : Point) → is_scalar setup v ≡ false
      → v.0 < length setup.vars → level < levels_of setup v
      → IsIn (owned c k) p
      → number_at (whole setup.shape) (level_of (state_of setup.vars chk) v level) p
      ≡ number_at (owned c k) (level_of piece v level) p
