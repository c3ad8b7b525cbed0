-- A run by one core after another: what holds of it at each answer, and its end.
use Rattle.std.proofs.Common.{◌≡◌, ◌≤◌, ℕ, true, false, List, arith, refl, sym, ◌∙◌, ap, subst}
use Rattle.std.specs.Prelude.{Bool, IsTrue, if◌then◌else◌}
use Rattle.cx_plan.specs.declared.job.Cuts.{Cuts}
use Rattle.cx_plan.specs.declared.job.Job.{Job}
use Rattle.cx_plan.specs.Setups.{setup_of}
use Rattle.cx_rule.specs.Meter.{raised}
use Rattle.cx_rule.specs.States.{State}
use Rattle.cx_rule.specs.declared.spec.Spec.{Spec}
use Rattle.cx_model.specs.Runs.{no_lengths}
use Rattle.cx_model.specs.Traces.{Goes}
use Rattle.cx_cut.specs.Cuts.{Parts}
use Rattle.cx_cut.specs.Faults.{parts_of}
use Rattle.cx_disk.specs.declared.disk.Disk.{Ghosts as DiskGhosts}
use Rattle.cx_disk.proofs.Moments.{joins}
use Rattle.cx_wire.specs.Received.{counted}
use Rattle.cx_wire.specs.declared.wire.Wire.{Ghosts as WireGhosts}
use Rattle.cx_turns.specs.declared.turns.Turns.{Ghosts as TurnsGhosts}
use Rattle.law_course.specs.Courses.{checkpoint_of}
use Rattle.cx_core.specs.Steps.{Counts, counts}
use Rattle.cx_run_loop.specs.Advances.{Keeps, RunState, place_of}
use Rattle.cx_run_loop.specs.Cores.{From, RunsCore, RunsOn, StaysBelowFrom, WaitsFor, setting_of, start_of}
use Rattle.cx_run_loop.specs.Going.{EndsAt, IsImageOf, Place, RunsFrom, Setting, kept_in, setting, trace_in}
use Rattle.cx_run_loop.specs.Recuts.{cut_from, swept_cut, weighed_cut, with_cut}
use Rattle.cx_run_loop.specs.Segments.{RunsBy, Start, entries_at, parts_at}
use Rattle.cx_run_loop.specs.Sums.{AreUnsaved, CountsBelow, SumsAdd}
use Rattle.cx_run_loop.specs.UnderWay.{HasCome}
use Rattle.cx_run_loop.specs.Within.{StaysWithin}
use Rattle.cx_run_loop.proofs.CoreLaws.{CountAsOne, one_cut, one_unsaved, runs_by}
use Rattle.cx_run_loop.proofs.CoresGo.{AreBetween}
use Rattle.cx_run_loop.proofs.GatherCounts.{works_unsaved}
use Rattle.cx_run_loop.proofs.Recast.{runs_cast, segment_back}
use Rattle.cx_run_loop.proofs.UnderWayLaws.{comes_on, ends, leaves_on}

-- a job that isn't balanced has one cut, whatever state it goes on from
pub one_again : (specs : List Spec) (job : Job) → job.balance ≡ false
    → cut_from specs job ≡ (λ state. parts_of job.shape job.cut)
one_again specs job unbalanced =
    ap {B = State → Parts} (λ (z : Bool) (state : State). parts_of job.shape
    (if z then swept_cut specs job
    (weighed_cut job (checkpoint_of (setup_of job) job.key 0 state no_lengths)) else job.cut))
    unbalanced

module _ {D W T : Type 0} (d : DiskGhosts D) (w : WireGhosts W) (t : TurnsGhosts T) (f : From)
    (disk : D) (wire : W) (meter : ℕ) (turns : T) where
  abbrev again : State → Parts
  again = cut_from f.specs f.job

  abbrev start : Start
  start = start_of f (counts meter (w.received wire) (w.sum wire)) (d.view disk)

  module _ (cut : Cuts) (next : ℕ) (was : RunState D W) (turns_was : T)
      (b : AreBetween d w t f disk wire meter turns cut next was turns_was)
      (sums : SumsAdd (setup_of f.job)) where
    abbrev job_now : Job
    job_now = with_cut f.job cut

    abbrev s : Setting
    s = setting d w job_now f.rules

    abbrev p : Place s
    p = place_of d w job_now f.rules was

    abbrev here : Start
    here = record { cut = cut; found = b.found; counts = p.is.now; view = p.view }

    -- with one cut the entries of this core are counted by it
    plain_counts : f.job.balance ≡ false → CountAsOne s again here
    plain_counts unbalanced =
        subst (λ (g : State → Parts). CountAsOne s g here)
        (sym (one_again f.specs f.job unbalanced
        ∙ ap {B = State → Parts} (λ (u : Cuts) (state : State). parts_of f.job.shape u)
        (sym (b.plain unbalanced))))
        (one_cut s here sums)

    -- no more was counted than the run counts in all, whatever the answer
    below : (now : Counts) → StaysWithin s p now
        → (f.job.balance ≡ true → StaysBelowFrom next s p now)
        → IsTrue w.tells → (last : State)
        → (trace_in (setting_of d w f) f.found).outcome ≡ Goes last
        → CountsBelow (setup_of f.job) again (parts_at s start)
        (entries_at (setting_of d w f) start) start.counts now
    below now within from tells last goes =
        (b.segment.counts tells last goes).below now (by_balance f.job.balance refl)
      where
        goes_here : (trace_in s b.found).outcome ≡ Goes last
        goes_here = b.segment.outcome tells ∙ goes

        by_balance : (z : Bool) → f.job.balance ≡ z
            → CountsBelow (setup_of f.job) again (parts_at s here) (entries_at s here) p.is.now now
        by_balance true same =
            from same tells b.found p.is.now b.come.there b.next_is (b.waits same) last goes_here
            again
        by_balance false unbalanced =
            let h = within tells b.found p.is.now b.come.there last goes_here in
            let one = plain_counts unbalanced in
            record {
              points = subst (λ (n : ℕ). now.points ≤ raised p.is.now.points n) (sym one.points)
                  h.points;
              values = subst (λ (n : ℕ). now.values ≤ counted p.is.now.values n) (sym one.values)
                  h.values;
            }

    -- what holds whatever the answer
    pub runs_on : (disk_after : D) (wire_after : W) (meter_after : ℕ)
        → Keeps d w job_now f.rules was disk_after wire_after meter_after
        → (f.job.balance ≡ true
        → StaysBelowFrom next s p (counts meter_after (w.received wire_after) (w.sum wire_after)))
        → RunsOn d w f disk disk_after wire wire_after meter meter_after
    runs_on disk_after wire_after meter_after keeps from =
        let points_first : meter ≤ was.meter = b.points in
        let points_after : was.meter ≤ meter_after = keeps.points in
        let values_first : w.received wire ≤ w.received was.wire = b.values in
        let values_after : w.received was.wire ≤ w.received wire_after = keeps.values in
        record {
          moments = λ dd tt y.
              let o = b.segment.goes_over dd tt y in
              joins (IsImageOf (kept_in (setting_of d w f) f.found)) o.moments
              (leaves_on s b.found p.is.now p.view p b.come (d.view disk_after) keeps.moments dd tt
              o.driven) o.images;
          mounted = keeps.mounted;
          files = keeps.files;
          folders = keeps.folders ∙ b.folders;
          points = omega arith;
          values = omega arith;
          below = below (counts meter_after (w.received wire_after) (w.sum wire_after))
              keeps.within from;
        }

    -- the last core's end is that of the run
    module _ (mid : RunState D W) (turns_mid : T)
        (runs : RunsCore d w t job_now f.rules next was mid turns_was turns_mid false)
        (is : Place s) (end : EndsAt s (place_of d w job_now f.rules mid) is) where
      abbrev q : Place s
      q = place_of d w job_now f.rules mid

      -- balanced, it has saved no checkpoint
      unsaved : f.job.balance ≡ true → IsTrue w.tells → AreUnsaved (entries_at s here)
      unsaved same tells =
          let it : WaitsFor s b.found p.is.now p q b.come.there next false =
          runs.waits same b.found p.is.now b.come.there in
          works_unsaved (entries_at s here)
          (subst AreUnsaved (sym (it.moves.there.over tells runs.stops))
          (it.unsaved refl b.next_is (b.waits same) tells))

      counts_once : IsTrue w.tells → CountAsOne s again here
      counts_once tells = by_balance f.job.balance refl
        where
          by_balance : (z : Bool) → f.job.balance ≡ z → CountAsOne s again here
          by_balance true same = one_unsaved s again here (unsaved same tells)
          by_balance false unbalanced = plain_counts unbalanced

      module _ (leaves : Keeps d w job_now f.rules was mid.disk mid.wire mid.meter) where
        come : HasCome s b.found p.is.now p.view q
        come = comes_on s b.found p.is.now p.view p b.come q runs.moves leaves.moments

        last : RunsFrom s b.found p.is.now p.view is
        last = ends s b.found p.is.now p.view q come is end

        pub runs_out : RunsBy (setting_of d w f) again start
            (record { is = is.is; view = is.view })
        runs_out =
            runs_cast (setting_of d w f) cut again start is
            (runs_by s again start here
            (segment_back (setting_of d w f) cut again start here b.segment) refl is last
            counts_once)
