-- A run that waits while others count on the same meter.
use Rattle.std.proofs.Common.{◌≡◌, ◌≤◌, ◌+◌, ◌-◌, ◌^◌, ℕ, min, max, sym, subst, arith}
use Rattle.std.specs.Prelude.{List}
use Rattle.cx_plan.specs.declared.job.Cuts.{Cuts}
use Rattle.cx_plan.specs.declared.job.Job.{Job}
use Rattle.cx_rule.specs.Meter.{raised}
use Rattle.cx_rule.specs.Routine.{Rule}
use Rattle.cx_rule.specs.declared.spec.Spec.{Spec}
use Rattle.cx_disk.specs.declared.disk.Disk.{Ghosts as DiskGhosts}
use Rattle.cx_wire.specs.declared.wire.Wire.{Ghosts as WireGhosts}
use Rattle.cx_core.specs.Steps.{counts}
use Rattle.cx_run_loop.specs.Cores.{run_by, start_of}
use Rattle.cx_run_loop.specs.Going.{IsGoing, place_at, setting}
use Rattle.cx_run_loop.specs.Recuts.{cut_from, with_cut}
use Rattle.cx_run_loop.proofs.UnderWayLaws.{going_metered}
use Rattle.cx_run_batch.specs.Members.{Rises}
use Rattle.cx_run_batch.specs.Stages.{ComesWaiting, HaveWaited, IsAble, IsAt, IsOnWay, begins_at, lot}
use Rattle.cx_run_batch.specs.declared.stage.Stage.{Stage}
use Rattle.cx_run_batch.specs.declared.stage.Stage.TheVariants.{Going, Over}
use Rattle.cx_run_batch.specs.declared.stage.UnderWay.{UnderWay}
use Rattle.cx_run_batch.proofs.MeterLaws.{comes_metered, segment_metered, waited_metered, with_points}

-- ---- meters

pub rises_up : (most old new : ℕ) → new ≡ max old (min (old + (new - old)) most) → old ≤ new
rises_up most old new rises = omega (arith, rises)

pub rises_more : (most a b c : ℕ) → b ≡ max a (min (a + (b - a)) most)
    → c ≡ max b (min (b + (c - b)) most) → c ≡ max a (min (a + (c - a)) most)
rises_more most a b c one two = omega (arith, one, two)

pub rises_within : (most old new : ℕ) → old ≤ new → new ≤ most
    → new ≡ max old (min (old + (new - old)) most)
rises_within most old new le fits = omega (arith, le, fits)

-- what others have counted beside a run that waits
raised_part : (most others spent old new : ℕ) → others + spent ≡ old
    → new ≡ max old (min (old + (new - old)) most)
    → max others (min (others + (new - old)) most) + spent ≡ new
raised_part most others spent old new sum rises = omega (arith, sum, rises)

module _ {D W : Type 0} (d : DiskGhosts D) (w : WireGhosts W) (rules : List Rule)
    (specs : List Spec) where
  -- a run that is over stays as it is
  pub stays : (job : Job) (disk_lent disk : D) (wire_lent wire : W) (meter spent more : ℕ)
      → meter ≡ meter + more → (stage : Stage)
      → IsAt d w rules specs job (lot disk_lent disk wire_lent wire meter spent) stage
      → IsAt d w rules specs job (lot disk_lent disk wire_lent wire meter (spent + more)) stage
  stays job disk_lent disk wire_lent wire meter spent more none stage x =
      let same : spent ≡ spent + more = omega (arith, none) in
      subst (λ (n : ℕ).
      IsAt d w rules specs job (lot disk_lent disk wire_lent wire meter n) stage) same x

  -- ---- a turn of another run

  module _ (disk_lent disk : D) (wire_lent wire : W) (meter meter_after spent : ℕ)
      (rises : Rises meter meter_after) where
    abbrev more : ℕ
    more = meter_after - meter

    on_way_waits : (job : Job) (cut : Cuts) (x : UnderWay)
        → IsOnWay d w rules specs job cut (lot disk_lent disk wire_lent wire meter spent) x
        → IsOnWay d w rules specs job cut (lot disk_lent disk wire_lent wire meter_after spent) x
    on_way_waits job cut x o =
        record {
          found = o.found;
          begun_on = o.begun_on;
          others = raised o.others more;
          spent = raised_part (2 ^ 128 - 1) o.others spent meter meter_after o.spent rises;
          found_is = o.found_is;
          started = o.started;
          lengths = o.lengths;
          moments = o.moments;
          core = record o.core { counts = with_points more o.core.counts };
          segment = segment_metered (setting d w job rules) (cut_from specs job) more
              (start_of (run_by job rules specs o.found)
              (counts o.others (w.received wire_lent) (w.sum wire_lent)) (d.view o.begun_on))
              (begins_at d cut o.core) o.segment;
          next_is = o.next_is;
          comes = subst (λ (n : ℕ). ComesWaiting (setting d w (with_cut job cut) rules)
              o.core.found (with_points more o.core.counts) (d.view o.core.disk)
              (place_at d w x.run.core disk wire n)) (sym rises)
              (comes_metered (setting d w (with_cut job cut) rules) o.core.found o.core.counts more
              (place_at d w x.run.core disk wire meter) (d.view o.core.disk) o.comes);
          plain = o.plain;
          folders = o.folders;
          begun_later = o.begun_later;
          disk_later = o.disk_later;
          wire_later = o.wire_later;
          values = o.values;
        }

    pub waits : (job : Job) (stage : Stage)
        → IsAt d w rules specs job (lot disk_lent disk wire_lent wire meter spent) stage
        → IsAt d w rules specs job (lot disk_lent disk wire_lent wire meter_after spent) stage
    waits job (Going x) o = on_way_waits (with_cut job x.own) job.cut x o
    waits job (Over result) x =
        let a : x.meter.new ≤ meter = x.within in
        let b : meter ≤ meter_after = rises_up (2 ^ 128 - 1) meter meter_after rises in
        record {
          meter = x.meter;
          spent = x.spent;
          within = omega (arith, a, b);
          drives = x.drives;
          folders = x.folders;
          scalars = x.scalars;
        }

  module _ (disk : D) (wire : W) (meter meter_after : ℕ) (rises : Rises meter meter_after)
      (job : Job) where
    pub able_waits : (stage : Stage) → IsAble d w rules specs job disk wire meter stage
        → IsAble d w rules specs job disk wire meter_after stage
    able_waits (Going x) can = record {
      ready = can.ready;
      fit = can.fit;
      going = can.going;
      able = record {
        parts = can.able.parts;
        mounted = can.able.mounted;
        files = can.able.files;
        names = can.able.names;
        going = subst (λ (n : ℕ). IsGoing (setting d w job rules) x.run.keeper
            (place_at d w x.run.core disk wire n)) (sym rises)
            (going_metered (setting d w job rules) x.run.keeper (meter_after - meter)
            (place_at d w x.run.core disk wire meter) can.able.going);
      };
      parts = can.parts;
      waits = λ same.
          subst (λ (n : ℕ). HaveWaited (setting d w job rules) x.next
          (place_at d w x.run.core disk wire n)) (sym rises)
          (waited_metered (setting d w job rules) x.next (meter_after - meter)
          (place_at d w x.run.core disk wire meter) (can.waits same));
    }
    able_waits (Over result) can = tt
