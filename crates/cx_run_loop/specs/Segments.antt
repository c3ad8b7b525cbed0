-- A run whose core is begun anew at each checkpoint: what is known from one core to the next, and
-- at the end.
use Rattle.std.specs.Prelude.{ℕ, ◌+◌, ◌%◌, ◌^◌, ◌<◌, ◌≡◌, ◌≢◌, true, List, [], ◌++◌, length, Option}
use Rattle.cx_plan.specs.declared.job.Cuts.{Cuts}
use Rattle.cx_plan.specs.declared.variable.VarId.{VarId}
use Rattle.cx_plan.specs.Lookups.{is_scalar, levels_of}
use Rattle.cx_plan.specs.Setups.{setup_of}
use Rattle.cx_outputs.specs.Names.{output_count}
use Rattle.cx_rule.specs.Meter.{raised}
use Rattle.cx_rule.specs.States.{State, scalar_of}
use Rattle.cx_model.specs.Traces.{Entry, Goes}
use Rattle.cx_cut.specs.Cuts.{Parts}
use Rattle.cx_cut.specs.Faults.{parts_of}
use Rattle.cx_disk.specs.Disk.{Files, View, LeavesOnly}
use Rattle.cx_wire.specs.Received.{counted}
use Rattle.cx_chk.specs.declared.checkpoint.Checkpoint.{Checkpoint}
use Rattle.cx_keep.specs.Trails.{Counts as AreCounted, OutputsSettled}
use Rattle.law_course.specs.Beginnings.{IsFound}
use Rattle.law_course.specs.Works.{KeptRun, newest_of, next_of, output_done, works_by}
use Rattle.cx_core.specs.declared.answers.Outcome.TheVariants.{Going, Done}
use Rattle.cx_core.specs.Hands.{HasScalar, ended_as, last_number}
use Rattle.cx_core.specs.Starts.{AreEmpty}
use Rattle.cx_core.specs.Steps.{Counts}
use Rattle.cx_run_loop.specs.Going.{Setting, Place, IsDriven, IsImageOf, kept_in, trace_in}
use Rattle.cx_run_loop.specs.Sums.{CountsBelow, carried_in, sum_in, work_in}

-- ---- from one core to the next

-- where a core begins: its cut, what it goes on from, what was counted by then, and the disk
pub record Start : Type 1 where
  pub cut : Cuts
  pub found : Option Checkpoint
  pub counts : Counts
  pub view : View

abbrev pub parts_at : Setting → Start → Parts
parts_at s a = parts_of s.job.shape a.cut

abbrev pub entries_at : Setting → Start → List Entry
entries_at s a = (trace_in s a.found).entries

-- what was counted is what the run counts from its start on
pub record HasTotalsBy (s : Setting) (again : State → Parts) (a : Start) (now : Counts)
    : Type 0 where
  pub points : now.points
      ≡ raised a.counts.points (work_in (setup_of s.job) again (parts_at s a) (entries_at s a))
  pub values : now.values
      ≡ counted a.counts.values
      (carried_in (setup_of s.job) again (parts_at s a) (entries_at s a))
  pub sum : now.sum
      ≡ (a.counts.sum + sum_in (setup_of s.job) again (parts_at s a) (entries_at s a)) % 2 ^ 64

-- what a run counts from the later one on is, with what was counted by then, what it counts from
-- the earlier one on
pub record CountsOver (s : Setting) (again : State → Parts) (was is : Start) : Type 0 where
  pub totals : (now : Counts) → HasTotalsBy s again is now → HasTotalsBy s again was now
  pub below : (now : Counts)
      → CountsBelow (setup_of s.job) again (parts_at s is) (entries_at s is) is.counts now
      → CountsBelow (setup_of s.job) again (parts_at s was) (entries_at s was) was.counts now

-- the run from a checkpoint that was found, instead of what it was from
abbrev pub run_after : KeptRun → Option Checkpoint → KeptRun
run_after r found = record r { found = found }

-- what the later run does, the earlier one does after what was done by then
pub record ComesAfter (r : KeptRun) (found : Option Checkpoint) : Type 0 where
  pub of_run : IsFound r.setup r.key r.rules r.found
  pub done : List Entry
  pub works : works_by r ≡ done ++ works_by (run_after r found)
  pub outputs : (later : List Entry) (j : ℕ)
      → output_done r (done ++ later) j ≡ output_done (run_after r found) later j
  pub newest : (later : List Entry)
      → newest_of r (done ++ later) ≡ newest_of (run_after r found) later
  pub next : (later left : List Entry)
      → next_of r (done ++ later) left ≡ next_of (run_after r found) later left

-- what the disk has of the later run it has of the earlier one, too
pub record GoesOver (r : KeptRun) (found : Option Checkpoint) (old new : View) : Type 0 where
  pub driven : IsDriven (run_after r found) [] new
  pub moments : LeavesOnly old new (IsImageOf r)
  pub images : (image : Files) → IsImageOf (run_after r found) image → IsImageOf r image
  pub after : ComesAfter r found

-- From where one core began to where another one begins, which ends as the run would have.
pub record SegmentTo (s : Setting) (again : State → Parts) (was is : Start) : Type 0 where
  pub outcome : s.wire → (trace_in s is.found).outcome ≡ (trace_in s was.found).outcome
  pub counts : s.wire → (last : State) → (trace_in s was.found).outcome ≡ Goes last
      → CountsOver s again was is
  pub goes_over : s.disk → s.wire → IsDriven (kept_in s was.found) [] was.view
      → GoesOver (kept_in s was.found) is.found was.view is.view

-- ---- the end

-- a run that is done, whichever cores did it
pub record IsDoneBy (s : Setting) (again : State → Parts) (a : Start) (p : Place s) : Type 0 where
  pub totals : HasTotalsBy s again a p.is.now
  pub none_left : AreEmpty p.is.queue
  pub last : (state : State) (v : VarId) → (trace_in s a.found).outcome ≡ Goes state
      → is_scalar (setup_of s.job) v ≡ true → last_number p.is.core v ≡ scalar_of state v

-- A run from a start that is over, with its outputs settled. Nothing of it names the core that did
-- it.
pub record RunsBy (s : Setting) (again : State → Parts) (a : Start) (p : Place s) : Type 0 where
  pub over : p.is.core.outcome ≢ Going
  pub ended : s.wire → p.is.core.outcome ≡ ended_as (trace_in s a.found).outcome
  pub done : s.wire → p.is.core.outcome ≡ Done → IsDoneBy s again a p
  pub driven : s.disk → s.wire → IsDriven (kept_in s a.found) [] a.view
      → IsDriven (kept_in s a.found) (works_by (kept_in s a.found)) p.view
  pub settled : s.disk → OutputsSettled (output_count (setup_of s.job)) p.view
  pub counts : s.disk → AreCounted p.is.core.lengths p.view
  pub lengths : length p.is.core.lengths ≡ output_count (setup_of s.job)
  pub scalars : (v : VarId) → v.0 < length (setup_of s.job).vars
      → 0 < levels_of (setup_of s.job) v → is_scalar (setup_of s.job) v ≡ true
      → HasScalar p.is.core v
