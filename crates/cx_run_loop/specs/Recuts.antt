-- The cut that a run goes on with after a checkpoint.
use Rattle.std.specs.Prelude.{ℕ, nat_le, Bool, List, Option, Some, None, if◌then◌else◌}
use Rattle.std.specs.List.{list_all, range_with_len}
use Rattle.cx_grid.specs.Boxes.{point_count}
use Rattle.cx_plan.specs.declared.job.Cuts.{Cuts}
use Rattle.cx_plan.specs.declared.job.Job.{Job}
use Rattle.cx_plan.specs.Setups.{setup_of}
use Rattle.cx_rule.specs.declared.spec.Spec.{Spec}
use Rattle.cx_rule.specs.States.{State}
use Rattle.cx_model.specs.Runs.{no_lengths}
use Rattle.cx_cut.specs.Cuts.{Parts, part_count, local}
use Rattle.cx_cut.specs.Faults.{parts_of}
use Rattle.cx_chk.specs.declared.checkpoint.Checkpoint.{Checkpoint}
use Rattle.cx_balance.specs.Cutting.{chosen_cut}
use Rattle.cx_balance.specs.Weighing.{planes}
use Rattle.law_course.specs.Courses.{checkpoint_of}

-- ---- what routines sweep

-- no part of a cut has more points than so many
abbrev pub has_small_parts : Parts → (most : ℕ) → Bool
has_small_parts c most =
    list_all (λ k. nat_le (point_count (local c k)) most) (range_with_len 0 (part_count c))

-- each routine sweeps each part
abbrev pub all_sweep : List Spec → Parts → Bool
all_sweep specs c = list_all (λ (s : Spec). has_small_parts c s.cap) specs

-- ---- a job that is cut anew

-- a job with another cut
abbrev pub with_cut : Job → Cuts → Job
with_cut job cut = record job { cut = cut }

-- the cut that the weights of a checkpoint's points choose
abbrev pub weighed_cut : Job → Checkpoint → Cuts
weighed_cut job c = chosen_cut job.shape job.cut (planes job c)

-- the job's own, where a part would have more points than some routine sweeps
abbrev pub swept_cut : List Spec → Job → Cuts → Cuts
swept_cut specs job cut = if all_sweep specs (parts_of job.shape cut) then cut else job.cut

-- The cut that a run of a job goes on with after a checkpoint. Where it isn't balanced, that is its
-- own one.
abbrev pub next_cut : List Spec → Job → Checkpoint → Cuts
next_cut specs job c =
    if job.balance then swept_cut specs job (weighed_cut job c) else job.cut

-- a cut that was found, or else another one
abbrev pub cut_or : Option Cuts → Cuts → Cuts
cut_or None own = own
cut_or (Some cut) own = cut

-- ---- by what it goes on from

-- after a checkpoint that was found, or from the job's start
abbrev pub first_cut : List Spec → Job → Option Checkpoint → Cuts
first_cut specs job None = job.cut
first_cut specs job (Some c) = next_cut specs job c

-- after the checkpoint place of a state, whose numbers are all that weighs
abbrev pub cut_from : List Spec → Job → State → Parts
cut_from specs job state =
    parts_of job.shape
    (next_cut specs job (checkpoint_of (setup_of job) job.key 0 state no_lengths))
