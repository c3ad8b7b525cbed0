-- The first turn of one run.
use Rattle.std.proofs.Common.{◌≡◌, ◌≤◌, ◌<◌, ◌^◌, ℕ, List, inl, inr, refl, sym, ◌∙◌, ap, subst, arith}
use Rattle.std.specs.Prelude.{IsTrue, Option, Result, Ok, Err}
use Rattle.cx_cut.specs.Cuts.{part_count}
use Rattle.cx_cut.specs.Faults.{parts_of}
use Rattle.cx_plan.specs.declared.job.Cuts.{Cuts}
use Rattle.cx_plan.specs.declared.job.Job.{Job}
use Rattle.cx_plan.specs.Setups.{setup_of}
use Rattle.cx_outputs.specs.Names.{output_count, output_names}
use Rattle.cx_rule.specs.Routine.{Rule}
use Rattle.cx_rule.specs.declared.spec.Spec.{Spec}
use Rattle.cx_disk.specs.Disk.{Folders, IsNamed}
use Rattle.cx_disk.specs.Files.{count_with}
use Rattle.cx_disk.specs.declared.disk.Disk.{Ghosts as DiskGhosts}
use Rattle.cx_wire.specs.declared.wire.Wire.{Ghosts as WireGhosts}
use Rattle.cx_chk.specs.declared.checkpoint.Checkpoint.{Checkpoint}
use Rattle.cx_keep.specs.Beginning.{StartMoments}
use Rattle.cx_keep.specs.Keeping.{Keeper}
use Rattle.cx_core.specs.declared.answers.Outcome.TheVariants.{Going as GoesOn}
use Rattle.cx_core.specs.Cores.{Cores}
use Rattle.cx_core.specs.Starts.{AreEmpty, begins_in, lengths_first}
use Rattle.cx_core.specs.Steps.{Counts, counts}
use Rattle.cx_run_loop.specs.Advances.{CanAdvance, run_state}
use Rattle.cx_run_loop.specs.Cores.{BeginsCores, run_by, start_of}
use Rattle.cx_run_loop.specs.CoresWait.{CoresWait}
use Rattle.cx_run_loop.specs.Drives.{driven_by}
use Rattle.cx_run_loop.specs.Faults.{Stops}
use Rattle.cx_run_loop.specs.Going.{IsKept, Place, Setting, place_at, setting}
use Rattle.cx_run_loop.specs.Laws.{DriveLaws}
use Rattle.cx_run_loop.specs.Recuts.{cut_from, with_cut}
use Rattle.cx_run_loop.specs.Segments.{SegmentTo}
use Rattle.cx_run_loop.specs.UnderWay.{BeginsAnew, HasBegun, HasBegunAt, Runs}
use Rattle.cx_run_loop.specs.declared.fault.DriveFault.{DriveFault}
use Rattle.cx_run_loop.specs.declared.fault.DriveFault.TheVariants as faults
use Rattle.cx_run_loop.proofs.CoreLaws.{segment_none}
use Rattle.cx_run_loop.proofs.CoresBegin.{first_own}
use Rattle.cx_run_loop.proofs.CoresGo.{kept_on, waits_at}
use Rattle.cx_run_loop.proofs.DriveLaws.{refused}
use Rattle.cx_run_loop.proofs.StopLaws.{count}
use Rattle.cx_run_loop.proofs.UnderWayLaws.{come_at, going_at}
use Rattle.cx_run_batch.specs.Stages.{AllWait, BeginsAs, CoreStart, FirstCore, HasBegunOn, HaveWaited, IsAble, IsAt, IsOnWay, IsOver, StartsAs, begins_at, lot}
use Rattle.cx_run_batch.specs.declared.stage.Stage.{Stage}
use Rattle.cx_run_batch.specs.declared.stage.Stage.TheVariants.{Going, Over}
use Rattle.cx_run_batch.specs.declared.stage.UnderWay.{UnderWay}

-- where no device was used, only memory can have been short
pub only_memory : {A : Type 0} (fault : DriveFault)
    → ((m n : ℕ) → Stops {A = A} (count m m) (count n n) (Err fault)) → fault ≡ faults.Memory
only_memory (faults.Recovery fault) stops = absurd (stops 0 0).why
only_memory faults.Disk stops =
    let rose : 1 ≤ 0 = (stops 0 0).why in let bad : ⊥ = omega (arith, rose) in absurd bad
only_memory faults.Wire stops =
    let rose : 1 ≤ 0 = (stops 0 0).why in let bad : ⊥ = omega (arith, rose) in absurd bad
only_memory faults.Memory stops = refl

-- a job with its own cut again is as it was
pub job_again : (job now : Job) (own : Cuts) → own ≡ job.cut → now ≡ with_cut job now.cut
    → with_cut now own ≡ job
job_again job now own own_is job_is =
    ap (with_cut now) own_is ∙ ap (λ (j : Job). with_cut j job.cut) job_is

-- ---- what comes of a start

module _ {D : Type 0} (d : DiskGhosts D) (specs : List Spec) (job now : Job) (was is : D)
    (found : Option Checkpoint) (run : Runs)
    (begun : HasBegun job d.tells found run (d.view was) (d.view is))
    (first : run.core.lengths ≡ lengths_first (setup_of job) found)
    (mounted : IsTrue (d.mounted is))
    (files : d.file_count is ≡ count_with (output_count (setup_of job)))
    (folders : IsNamed job.out_dir (output_names (setup_of job)) job.chk_dir (d.folders is)) where
  starts_as : (stage : Stage) → FirstCore specs job now found run stage
      → StartsAs d specs job now was is stage
  starts_as (Going x) core = record {
    found = found;
    run = run;
    begun = begun;
    first = first;
    mounted = mounted;
    files = files;
    folders = folders;
    core = core;
  }
  starts_as (Over result) core =
      subst (λ (r : Result Cores DriveFault). StartsAs d specs job now was is (Over r))
      (sym core.1) (core.0, tt)

  pub begins_as : (stage : Stage) → FirstCore specs job now found run stage
      → (d.tells → StartMoments job job.recover (d.view was) (d.view is))
      → d.faults was ≤ d.faults is → BeginsAs d specs job now was is stage
  begins_as stage core moments later =
      record { starts = starts_as stage core; moments = moments; later = later }

-- ---- how far it is then

module _ {D W : Type 0} (d : DiskGhosts D) (w : WireGhosts W) (rules : List Rule)
    (specs : List Spec) (job : Job) (laws : DriveLaws (IsTrue w.tells) job rules) (was is : D)
    (wire : W) (meter : ℕ) (empty : AreEmpty (w.queue wire))
    (fits : IsTrue w.tells → w.sum wire < 2 ^ 64) where
  abbrev first : Counts
  first = counts meter (w.received wire) (w.sum wire)

  abbrev by : Cuts → Setting
  by cut = setting d w (with_cut job cut) rules

  abbrev place_in : (cut : Cuts) → Runs → Place (by cut)
  place_in cut run = place_at d w run.core is wire meter

  -- the first core, in this cut
  record IsFirst (cut : Cuts) (found : Option Checkpoint) (run : Runs) : Type 0 where
    begun : HasBegunAt (by cut) found run.keeper (place_in cut run)
    going : run.core.outcome ≡ GoesOn
    parts : part_count (parts_of job.shape cut) ≡ part_count (parts_of job.shape job.cut)

  is_first : (now : Job) (found : Option Checkpoint) (run one : Runs)
      → HasBegun job d.tells found run (d.view was) (d.view is)
      → run.core.lengths ≡ lengths_first (setup_of job) found → now ≡ with_cut job now.cut
      → BeginsCores now specs job found run one → IsFirst now.cut found one
  is_first now found run one begun lengths job_is (inl (same, own)) =
      subst (λ (r : Runs). IsFirst now.cut found r) (sym same)
      (subst (λ (u : Cuts). IsFirst u found run) (sym own)
      (record {
        begun = begun.at w.tells rules (w.queue wire) first empty fits;
        going = begun.going;
        parts = refl;
      }))
  is_first now found run one begun lengths job_is (inr (c, there, new)) =
      let anew : BeginsAnew (with_cut job now.cut) specs job c run.keeper one =
      subst (λ (j : Job). BeginsAnew j specs job c run.keeper one) job_is new in
      let at : HasBegunAt (by job.cut) found run.keeper (place_in job.cut run) =
      begun.at w.tells rules (w.queue wire) first empty fits in
      let same_lengths : run.core.lengths ≡ one.core.lengths =
      lengths ∙ ap (lengths_first (setup_of job)) there ∙ sym anew.lengths in
      subst (λ (o : Option Checkpoint). IsFirst now.cut o one) (sym there)
      (record {
        begun = record {
          begins = anew.can;
          begun = anew.begins w.tells rules (w.queue wire) first empty fits;
          kept =
              subst (λ (k : Keeper). IsKept (with_cut job now.cut) d.tells k one.core (d.view is))
              (sym anew.keeper)
              (kept_on job (with_cut job now.cut) d.tells run.keeper run.core one.core (d.view is)
              refl refl anew.key at.kept same_lengths);
        };
        going = anew.going;
        parts = anew.parts;
      })

  module _ (now : Job) (x : UnderWay) (b : HasBegunOn d specs job now was is x) where
    first_is : IsFirst now.cut b.found x.run
    first_is = is_first now b.found b.run x.run b.begun b.first b.core.job_is b.core.begins

    -- its core begins where the run does
    abbrev core : CoreStart D
    core = record { found = b.found; counts = first; disk = is }

    wait : CoresWait (IsTrue w.tells) (with_cut job now.cut) rules
        (begins_in (setup_of job) b.found)
    wait =
        let all : AllWait (with_cut job now.cut) = subst AllWait b.core.job_is b.core.waits in
        all w.tells rules (begins_in (setup_of job) b.found) first_is.begun.begins

    on_way_begun : (d.tells → StartMoments job job.recover (d.view was) (d.view is))
        → d.faults was ≤ d.faults is
        → IsOnWay d w rules specs job now.cut (lot was is wire wire meter 0) x
    on_way_begun moments later = record {
      found = b.found;
      begun_on = is;
      others = meter;
      spent = omega arith;
      found_is = b.begun.found_is;
      started = b.begun.started;
      lengths = b.begun.lengths;
      moments = moments;
      core = core;
      segment = subst (λ (u : Cuts). SegmentTo (setting d w job rules) (cut_from specs job)
          (start_of (run_by job rules specs b.found) first (d.view is)) (begins_at d u core))
          (sym b.core.cut_is)
          (segment_none (setting d w job rules) (cut_from specs job)
          (start_of (run_by job rules specs b.found) first (d.view is)));
      next_is = b.core.next_is;
      comes = record {
        come = come_at (by now.cut) b.found x.run.keeper (place_in now.cut x.run) first_is.begun
            first_is.going;
        waits = λ same. waits_at (by now.cut) b.found x.run.keeper (place_in now.cut x.run)
            first_is.begun first_is.going wait;
      };
      plain = λ unbalanced. b.core.cut_is ∙ sym (first_own specs job b.found unbalanced);
      folders = b.folders;
      begun_later = later;
      disk_later = omega arith;
      wire_later = omega arith;
      values = omega arith;
    }

    waited_begun : HaveWaited (by now.cut) x.next (place_in now.cut x.run)
    waited_begun = record {
      found = b.found;
      first = first;
      next_is = b.core.next_is;
      there = (come_at (by now.cut) b.found x.run.keeper (place_in now.cut x.run) first_is.begun
          first_is.going).there;
      waiting = waits_at (by now.cut) b.found x.run.keeper (place_in now.cut x.run)
          first_is.begun first_is.going wait;
    }

  pub at_begun : (now : Job) (stage : Stage) → BeginsAs d specs job now was is stage
      → IsAt d w rules specs now (lot was is wire wire meter 0) stage
  at_begun now (Going x) b =
      subst (λ (j : Job). IsOnWay d w rules specs j now.cut (lot was is wire wire meter 0) x)
      (sym (job_again job now x.own b.starts.core.own_is b.starts.core.job_is))
      (on_way_begun now x b.starts b.moments b.later)
  at_begun now (Over (Ok one)) b = absurd b.starts
  at_begun now (Over (Err fault)) b =
      subst (λ (j : Job).
      IsOver d w rules specs j (lot was is wire wire meter 0) (Err fault)) (sym b.starts.0)
      (record {
        meter = record { old = meter; new = meter };
        spent = omega arith;
        within = omega arith;
        drives = refused (driven_by job rules specs d w was is wire wire meter meter) laws fault
            b.starts.1 refl refl b.moments b.later (omega arith) refl;
        folders = tt;
        scalars = tt;
      })

  pub able_begun : part_count (parts_of job.shape job.cut) ≤ w.parts wire → (now : Job)
      (stage : Stage) → BeginsAs d specs job now was is stage
      → IsAble d w rules specs now is wire meter stage
  able_begun enough now (Going x) b =
      let one : IsFirst now.cut b.starts.found x.run = first_is now x b.starts in
      record {
        ready = b.starts.core.ready;
        fit = b.starts.core.fit;
        going = one.going;
        able = subst (λ (j : Job). CanAdvance d w j rules (run_state x.run is wire meter))
            (sym b.starts.core.job_is)
            (record {
              parts = subst (λ (n : ℕ). n ≤ w.parts wire) (sym one.parts) enough;
              mounted = b.starts.mounted;
              files = b.starts.files;
              names = ap (λ (f : Folders). f.names) b.starts.folders;
              going = going_at (by now.cut) b.starts.found x.run.keeper
                  (place_in now.cut x.run) one.begun;
            });
        parts = subst (λ (j : Job). part_count (parts_of j.shape now.cut)
            ≡ part_count (parts_of j.shape x.own)) (sym b.starts.core.job_is)
            (one.parts
            ∙ ap (λ (u : Cuts). part_count (parts_of job.shape u)) (sym b.starts.core.own_is));
        waits = λ same.
            subst (λ (j : Job). HaveWaited (setting d w j rules) x.next
            (place_at d w x.run.core is wire meter)) (sym b.starts.core.job_is)
            (waited_begun now x b.starts);
      }
  able_begun enough now (Over (Ok one)) b = absurd b.starts
  able_begun enough now (Over (Err fault)) b = tt
