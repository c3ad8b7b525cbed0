-- A run between its beginning and its end.
use Rattle.std.specs.Prelude.{ℕ, ◌^◌, ◌≡◌, ◌<◌, Bool, IsTrue, List, [], Option, Some, Ok}
use Rattle.cx_plan.specs.declared.job.Job.{Job}
use Rattle.cx_plan.specs.Setups.{setup_of}
use Rattle.cx_cut.specs.Cuts.{part_count}
use Rattle.cx_cut.specs.Faults.{parts_of}
use Rattle.cx_outputs.specs.Names.{output_count}
use Rattle.cx_rule.specs.Jobs.{FitJob}
use Rattle.cx_rule.specs.Meter.{raised}
use Rattle.cx_rule.specs.Routine.{Rule}
use Rattle.cx_rule.specs.declared.spec.Spec.{Spec}
use Rattle.cx_disk.specs.Disk.{View}
use Rattle.cx_wire.specs.Messages.{Sent}
use Rattle.cx_chk.specs.declared.checkpoint.Checkpoint.{Checkpoint}
use Rattle.cx_keep.specs.Beginning.{HasLengths, IsStarted}
use Rattle.cx_keep.specs.Keeping.{Keeper}
use Rattle.cx_keep.specs.Tests.{begun}
use Rattle.law_parts.specs.Beginnings.{IsBeginning, run_of}
use Rattle.cx_core.specs.declared.answers.Outcome.TheVariants.{Going}
use Rattle.cx_core.specs.Cores.{Cores}
use Rattle.cx_core.specs.Starts.{AreEmpty, IsReady, begins_in}
use Rattle.cx_core.specs.Steps.{Begins, Counts}
use Rattle.cx_run_loop.specs.Going.{Setting, Place, IsDriving, IsDriven, IsKept, RunLeaves, handed, kept_in, run_in}
use Rattle.cx_run_loop.specs.Recuts.{next_cut}

-- what contracts see of it: what its keeper has written, and its core
pub record Runs : Type 0 where
  pub keeper : Keeper
  pub core : Cores

abbrev pub runs : Keeper → Cores → Runs
runs keeper core = record { keeper = keeper; core = core }

-- ---- as it begins

-- a place at which a run begins from what was found: its core has done nothing yet, and its keeper
-- and its core have the disk in common
pub record HasBegunAt (s : Setting) (found : Option Checkpoint) (k : Keeper)
    (p : Place s) : Type 0 where
  pub begins : IsBeginning (setup_of s.job) (begins_in (setup_of s.job) found)
  pub begun : Begins s.wire (run_in s found) p.is.now p.is.core p.is.queue
  pub kept : IsKept s.job s.disk k p.is.core p.view

-- where it is by any rules, over a wire with these queues, whatever wire and meter have counted
abbrev pub begun_setting : Job → (tells : Type 0) → (told : Bool) → List Rule → Setting
begun_setting job tells told rules =
    record { job = job; rules = rules; wire = IsTrue told; disk = tells }

abbrev pub begun_place :
    {job : Job} → {tells : Type 0} → {rules : List Rule} → (told : Bool) → Cores
    → (ℕ → ℕ → List (Sent (IsTrue told))) → Counts → View
    → Place (begun_setting job tells told rules)
begun_place told core queue first view = record {
  is = record { core = core; queue = queue; now = first };
  view = view;
}

-- A run that has begun from what its keeper found on the disk. It can go on by any rules, over any
-- wire without messages, whatever wire and meter have counted.
pub record HasBegun (job : Job) (tells : Type 0) (found : Option Checkpoint) (r : Runs)
    (old new : View) : Type 0 where
  pub found_is : tells → begun job old.seen ≡ Ok found
  pub started : tells → IsStarted job job.recover found old new
  pub lengths : HasLengths (output_count (setup_of job)) found
  pub going : r.core.outcome ≡ Going
  pub at : (told : Bool) (rules : List Rule) (queue : ℕ → ℕ → List (Sent (IsTrue told)))
      (first : Counts) → AreEmpty queue → (IsTrue told → first.sum < 2 ^ 64)
      → HasBegunAt (begun_setting job tells told rules) found r.keeper
      (begun_place told r.core queue first new)

-- ---- as it is cut anew

-- A run that goes on with another core, which begins in a checkpoint, in the cut that the run of a
-- job with this own cut goes on with after it. So it can by any rules, over any wire without
-- messages, whatever wire and meter have counted.
pub record BeginsAnew (job : Job) (specs : List Spec) (own : Job) (c : Checkpoint) (k : Keeper)
    (r : Runs) : Type 0 where
  pub cut : job.cut ≡ next_cut specs own c
  pub ready : IsReady job
  pub routines : FitJob specs job
  pub parts : part_count (parts_of job.shape job.cut) ≡ part_count (parts_of own.shape own.cut)
  pub keeper : r.keeper ≡ k
  pub going : r.core.outcome ≡ Going
  pub key : r.core.buffers.state.key ≡ job.key
  pub lengths : r.core.lengths ≡ c.lengths
  pub can : IsBeginning (setup_of job) (begins_in (setup_of job) (Some c))
  pub begins : (told : Bool) (rules : List Rule) (queue : ℕ → ℕ → List (Sent (IsTrue told)))
      (first : Counts) → AreEmpty queue → (IsTrue told → first.sum < 2 ^ 64)
      → Begins (IsTrue told) (run_of job rules (begins_in (setup_of job) (Some c))) first r.core
      queue

-- ---- on its way

-- A run that began from what was found, where wire and meter had counted so much, on a disk that
-- was seen so: what was driven there is driven here, and each moment since has left an image of it.
pub record HasCome (s : Setting) (found : Option Checkpoint) (first : Counts) (old : View)
    (p : Place s) : Type 0 where
  pub there : IsDriving s found first p
  pub driven : s.disk → s.wire → IsDriven (kept_in s found) [] old
      → IsDriven (kept_in s found) (handed there) p.view
  pub moments : RunLeaves s found old p.view

-- The same where others count on the meter too: what that had counted as the run began isn't said.
pub record IsUnderWay (s : Setting) (found : Option Checkpoint) (values sum : ℕ) (old : View)
    (p : Place s) : Type 0 where
  pub first : Counts
  pub values_are : first.values ≡ values
  pub sum_is : first.sum ≡ sum
  pub come : HasCome s found first old p

-- the points that the run has computed
abbrev pub points_of : {s : Setting} {found : Option Checkpoint} {values sum : ℕ} {old : View}
    {p : Place s} → IsUnderWay s found values sum old p → ℕ
points_of u = u.come.there.at.world.meter 0

-- the same place, with so much more on the meter
abbrev pub metered : {s : Setting} → ℕ → Place s → Place s
metered points p =
    record p {
      is = record p.is {
        now = record p.is.now { points = raised p.is.now.points points };
      };
    }
