-- Where a core begins.
use Rattle.std.specs.Prelude.{ℕ, ◌≤◌, ◌≡◌, List, [], length, replicate, Option, Some, None, slice_get}
use Rattle.cx_grid.specs.Grid.{HasInterior}
use Rattle.cx_plan.specs.declared.job.Job.{Job}
use Rattle.cx_plan.specs.Paths.{Sound}
use Rattle.cx_plan.specs.Regions.{HasShapes}
use Rattle.cx_plan.specs.Setups.{Setup, setup_of}
use Rattle.cx_plan.specs.Whole.{IsWhole}
use Rattle.cx_outputs.specs.Names.{output_count, lengths_by}
use Rattle.cx_chk.specs.declared.checkpoint.Checkpoint.{Checkpoint}
use Rattle.cx_field.specs.Patches.{PatchValue, with_numbers}
use Rattle.cx_rule.specs.Routine.{Rule}
use Rattle.cx_cut.specs.Cuts.{Parts, IsCut}
use Rattle.cx_cut.specs.Faults.{parts_of}
use Rattle.cx_core_buffers.specs.Checkpoints.{HoldsState, state_of}
use Rattle.cx_core_buffers.specs.Gathering.{scattered}
use Rattle.cx_core_part.specs.Frames.{IsPatchOf}
use Rattle.law_parts.specs.Beginnings.{Beginning, Afresh, From, run_of}
use Rattle.law_parts.specs.Nets.{held_first}

-- a whole job with shapes, whose grid has interior points, that the region check accepts, and whose
-- widths cut its grid
pub record IsReady (job : Job) : Type 0 where
  pub whole : IsWhole job
  pub shapes : HasShapes (setup_of job)
  pub interior : HasInterior job.shape
  pub sound : Sound (setup_of job)
  pub cut : IsCut (parts_of job.shape job.cut)

-- the iteration of a checkpoint
abbrev pub iteration_in : Option Checkpoint → Option ℕ
iteration_in None = None
iteration_in (Some c) = Some c.iteration

-- how long each output is as a run begins, by the variables that are written
abbrev pub lengths_first : Setup → Option Checkpoint → List ℕ
lengths_first setup None = replicate (output_count setup) 0
lengths_first setup (Some c) = c.lengths

-- the iteration at which a run begins
abbrev pub first_iteration : Option Checkpoint → ℕ
first_iteration None = 0
first_iteration (Some c) = c.iteration

-- a run begins at its start, or in the state of a checkpoint
abbrev pub begins_in : Setup → Option Checkpoint → Beginning
begins_in setup None = Afresh
begins_in setup (Some c) =
    From c.iteration (state_of setup.vars c) (lengths_by setup.out_vars c.lengths)

-- the checkpoint fits the job: it holds a whole state of an iteration of the run, and a length for
-- each output
abbrev pub CanBegin : Setup → Option Checkpoint → Type 0
CanBegin setup None = Unit {0}
CanBegin setup (Some c) =
    (c.iteration ≤ setup.itlast) × HoldsState setup c × (length c.lengths ≡ output_count setup)

-- no messages in any queue
abbrev pub AreEmpty : {M : Type 0} → (ℕ → ℕ → List M) → Type 0
AreEmpty queue = (a b : ℕ) → queue a b ≡ []

-- ---- patches

-- a patch with the numbers of a checkpoint, if there is one
abbrev pub filled_first : Setup → Option Checkpoint → PatchValue → PatchValue
filled_first setup None p = p
filled_first setup (Some c) p = with_numbers p (scattered setup c p)

-- the patch of part k as a run begins
pub record HasFirst (job : Job) (cut : Parts) (state : Option Checkpoint) (k : ℕ)
    (p : PatchValue) : Type 0 where
  pub frame : IsPatchOf (setup_of job) cut k p
  pub numbers : (rules : List Rule)
      → p.numbers ≡ (held_first (run_of job rules (begins_in (setup_of job) state)) k).numbers

abbrev pub ArePatches : Job → Parts → Option Checkpoint → List PatchValue → Type 0
ArePatches job cut state patches = (k : ℕ) (p : PatchValue) → slice_get patches k ≡ Some p
    → HasFirst job cut state k p
