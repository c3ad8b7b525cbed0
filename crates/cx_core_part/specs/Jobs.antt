-- The jobs, cuts, runs and operations that the calls of a part are about.
use Rattle.std.specs.Prelude.{ℕ, ◌≡◌}
use Rattle.cx_plan.specs.declared.job.Job.{Job}
use Rattle.cx_plan.specs.Setups.{Setup, setup_of}
use Rattle.cx_plan.specs.Regions.{HasShapes}
use Rattle.cx_plan.specs.Whole.{IsWhole}
use Rattle.cx_cut.specs.Cuts.{Parts, IsWhole as IsWholeCut}
use Rattle.cx_cut.specs.Faults.{parts_of}
use Rattle.cx_flat.specs.declared.op.Op.{Op}
use Rattle.cx_flat.specs.Code.{op_at, code}
use Rattle.law_parts.specs.Runs.{Run}

-- a whole job whose items that are run have their shapes
pub record IsChecked (job : Job) : Type 0 where
  pub whole : IsWhole job
  pub shapes : HasShapes (setup_of job)

-- the cut that a job says
pub record IsCutOf (job : Job) (cut : Parts) : Type 0 where
  pub parts : cut ≡ parts_of job.shape job.cut
  pub whole : IsWholeCut cut

-- a run of a job
pub record IsRunOf (job : Job) (r : Run) : Type 0 where
  pub setup : r.setup ≡ setup_of job
  pub cuts : r.cuts ≡ job.cut

-- one of the operations of a run, or the end
abbrev pub IsOperation : Setup → Op → Type 0
IsOperation setup o = (pc : ℕ) × (op_at (code setup) pc ≡ o)
