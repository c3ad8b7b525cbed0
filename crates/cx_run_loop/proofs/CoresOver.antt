-- A run by one core after another, with the job as a loop over cores has it: one that is the job in
-- the present cut by an equation.
use Rattle.std.proofs.Common.{◌≡◌, ◌≤◌, ◌<◌, ◌+◌, ◌-◌, ℕ, true, false, List, length, arith, sym, ◌∙◌, ap, subst}
use Rattle.std.specs.Prelude.{Bool, Option, Some, None, Result, Ok, Err, IfOk, IfSome, OnOk, IsTrue}
use Rattle.cx_plan.specs.declared.job.Cuts.{Cuts}
use Rattle.cx_plan.specs.declared.job.Job.{Job}
use Rattle.cx_plan.specs.Setups.{Setup, setup_of}
use Rattle.cx_outputs.specs.Names.{HasShortNames}
use Rattle.cx_rule.specs.Jobs.{FitJob}
use Rattle.cx_rule.specs.declared.spec.Spec.{Spec}
use Rattle.cx_cut.specs.Faults.{cut_fault, parts_of}
use Rattle.cx_disk.specs.Moments.{IsQuiet}
use Rattle.cx_disk.specs.declared.disk.Disk.{Ghosts as DiskGhosts}
use Rattle.cx_wire.specs.declared.wire.Wire.{Ghosts as WireGhosts}
use Rattle.cx_turns.specs.declared.turns.Turns.{Ghosts as TurnsGhosts}
use Rattle.cx_chk.specs.declared.checkpoint.Checkpoint.{Checkpoint}
use Rattle.cx_keep.specs.Trails.{OutputsSettled}
use Rattle.law_parts.specs.Beginnings.{Beginning, IsBeginning, run_of}
use Rattle.law_parts.specs.Totals.{undivided_from}
use Rattle.cx_core.specs.Cores.{Cores}
use Rattle.cx_core.specs.Hands.{Stands}
use Rattle.cx_core.specs.Starts.{CanBegin, IsReady, begins_in}
use Rattle.cx_core.specs.Steps.{Counts, IsAt, Standing, counts}
use Rattle.cx_run_loop.specs.Advances.{CanAdvance, Keeps, RunState, place_of, turning_of}
use Rattle.cx_run_loop.specs.Cores.{CanCutAnew, From, LeadsOut, LeadsStop, RunsCore, RunsOn, RunsOut, StaysBelowFrom}
use Rattle.cx_run_loop.specs.Going.{EndsAt, Place, Setting, place_at, setting}
use Rattle.cx_run_loop.specs.Recuts.{with_cut}
use Rattle.cx_run_loop.specs.Sums.{SumsAdd}
use Rattle.cx_run_loop.specs.Turning.{TurnsStop}
use Rattle.cx_run_loop.proofs.CoresEnd.{runs_on, runs_out}
use Rattle.cx_run_loop.proofs.CoresGo.{AreBetween}
use Rattle.cx_run_loop.proofs.CoresLed.{leads_out, stops_after, stops_here}
use Rattle.cx_run_loop.proofs.FromLaws.{if_ok_is}
use Rattle.cx_run_loop.proofs.StepLaws.{ends_with}
use Rattle.cx_run_loop.proofs.TurnLaws.{moves_none}

-- ---- the job in its own cut again

own_again : (job now : Job) (own cut : Cuts) → own ≡ job.cut → now ≡ with_cut job cut
    → job ≡ with_cut now own
own_again job now own cut own_is now_is =
    sym (ap (with_cut now) own_is ∙ ap (λ (j : Job). with_cut j job.cut) now_is)

pub ready_own : (job now : Job) (own cut : Cuts) → own ≡ job.cut → now ≡ with_cut job cut
    → IsReady job → IsReady (with_cut now own)
ready_own job now own cut own_is now_is ready =
    subst IsReady (own_again job now own cut own_is now_is) ready

pub fits_own : (specs : List Spec) (job now : Job) (own cut : Cuts) → own ≡ job.cut
    → now ≡ with_cut job cut → FitJob specs job → FitJob specs (with_cut now own)
fits_own specs job now own cut own_is now_is fits =
    subst (FitJob specs) (own_again job now own cut own_is now_is) fits

pub cuts_own : (job now : Job) (own cut : Cuts) → own ≡ job.cut → now ≡ with_cut job cut
    → cut_fault (parts_of job.shape job.cut) ≡ None
    → cut_fault (parts_of now.shape own) ≡ None
cuts_own job now own cut own_is now_is fault =
    subst (λ (j : Job). cut_fault (parts_of j.shape j.cut) ≡ None)
    (own_again job now own cut own_is now_is) fault

pub short_own : (job now : Job) (cut : Cuts) → now ≡ with_cut job cut
    → HasShortNames (setup_of job) → HasShortNames (setup_of now)
short_own job now cut now_is short =
    subst (λ (j : Job). HasShortNames (setup_of j)) (sym now_is) short

-- ---- where a core begins

pub some_begins : (setup : Setup) (found : Option Checkpoint) → CanBegin setup found
    → IfSome found (λ c. CanBegin setup (Some c))
some_begins setup None can = tt
some_begins setup (Some c) can = can

-- ---- where a core is cut anew

-- it holds a checkpoint in which another core can begin
pub begins_anew : (job : Job) (next : ℕ) (core : Cores) → CanCutAnew job next core
    → CanBegin (setup_of job) (Some core.buffers.state)
begins_anew job next core can = (
  can.most,
  can.holds.state,
  ap (λ (l : List ℕ). length l) can.holds.lengths ∙ can.holds.count,
)

-- so the least iteration of a later checkpoint comes nearer to the last one
pub nearer_last : (next n last : ℕ) → next ≤ n → n ≤ last → last + 1 - (n + 1) < last + 1 - next
nearer_last next n last a b = omega (arith, a, b)

-- ---- at each answer

module _ {D W T : Type 0} (d : DiskGhosts D) (w : WireGhosts W) (t : TurnsGhosts T) (f : From)
    (disk : D) (wire : W) (meter : ℕ) (turns : T) (cut : Cuts) (next : ℕ) (was : RunState D W)
    (turns_was : T) (b : AreBetween d w t f disk wire meter turns cut next was turns_was)
    (now : Job) (now_is : now ≡ with_cut f.job cut) where
  pub able_by : CanAdvance d w now f.rules was
  able_by = subst (λ (j : Job). CanAdvance d w j f.rules was) (sym now_is) b.able

  pub runs_on_by : SumsAdd (setup_of f.job) → (disk_after : D) (wire_after : W) (meter_after : ℕ)
      → Keeps d w now f.rules was disk_after wire_after meter_after
      → (now.balance ≡ true → StaysBelowFrom next (setting d w now f.rules)
      (place_of d w now f.rules was)
      (counts meter_after (w.received wire_after) (w.sum wire_after)))
      → RunsOn d w f disk disk_after wire wire_after meter meter_after
  runs_on_by sums disk_after wire_after meter_after keeps below =
      runs_on d w t f disk wire meter turns cut next was turns_was b sums disk_after wire_after
      meter_after
      (subst (λ (j : Job). Keeps d w j f.rules was disk_after wire_after meter_after) now_is keeps)
      (subst (λ (j : Job). j.balance ≡ true → StaysBelowFrom next (setting d w j f.rules)
      (place_of d w j f.rules was)
      (counts meter_after (w.received wire_after) (w.sum wire_after))) now_is below)

  pub stops_here_by : (turns_after : T)
      → TurnsStop t (IsTrue w.tells) now f.rules (turning_of w was turns_was) turns_after
      → LeadsStop w t f wire meter turns turns_after
  stops_here_by turns_after stop =
      stops_here d w t f disk wire meter turns cut next was turns_was b turns_after
      (subst (λ (j : Job). TurnsStop t (IsTrue w.tells) j f.rules (turning_of w was turns_was)
      turns_after) now_is stop)

  module _ (mid : RunState D W) (turns_mid : T) (anew : Bool)
      (runs : RunsCore d w t now f.rules next was mid turns_was turns_mid anew) where
    runs_now : RunsCore d w t (with_cut f.job cut) f.rules next was mid turns_was turns_mid anew
    runs_now = subst (λ (j : Job). RunsCore d w t j f.rules next was mid turns_was turns_mid anew)
        now_is runs

    pub stops_after_by : LeadsStop w t f wire meter turns turns_mid
    stops_after_by =
        stops_after d w t f disk wire meter turns cut next was turns_was b mid turns_mid anew
        runs_now

    pub leads_out_by : {E : Type 0} (r : Result Cores E) → IfOk r (λ core. core ≡ mid.run.core)
        → IfOk r (LeadsOut w t f wire mid.wire meter mid.meter turns turns_mid)
    leads_out_by r same =
        if_ok_is r (LeadsOut w t f wire mid.wire meter mid.meter turns turns_mid) mid.run.core same
        (leads_out d w t f disk wire meter turns cut next was turns_was b mid turns_mid anew
        runs_now)

    -- ---- at the end

    module _ (ends : anew ≡ false) (keeps : Keeps d w now f.rules was mid.disk mid.wire mid.meter)
        (sums : SumsAdd (setup_of f.job))
        (stands : (c : Beginning) → IsBeginning (setup_of now) c → (first : Counts)
        (is : Standing (IsTrue w.tells))
        (at : IsAt (IsTrue w.tells) (run_of now f.rules c) first is.core is.queue is.now)
        → Stands (IsTrue w.tells) (run_of now f.rules c) (undivided_from (setup_of now) f.rules c)
        first is at)
        (disk_after : D) (quiet : d.tells → IsQuiet (d.view mid.disk) (d.view disk_after)) where
      abbrev s : Setting
      s = setting d w (with_cut f.job cut) f.rules

      abbrev p : Place s
      p = place_of d w (with_cut f.job cut) f.rules mid

      runs_false : RunsCore d w t (with_cut f.job cut) f.rules next was mid turns_was turns_mid
          false
      runs_false = subst (λ (z : Bool).
          RunsCore d w t (with_cut f.job cut) f.rules next was mid turns_was turns_mid z) ends
          runs_now

      stands_now : (c : Beginning) → IsBeginning (setup_of f.job) c → (first : Counts)
          (is : Standing (IsTrue w.tells))
          (at : IsAt (IsTrue w.tells) (run_of (with_cut f.job cut) f.rules c) first is.core
          is.queue is.now)
          → Stands (IsTrue w.tells) (run_of (with_cut f.job cut) f.rules c)
          (undivided_from (setup_of f.job) f.rules c) first is at
      stands_now = subst (λ (j : Job). (c : Beginning) → IsBeginning (setup_of j) c
          → (first : Counts) (is : Standing (IsTrue w.tells))
          (at : IsAt (IsTrue w.tells) (run_of j f.rules c) first is.core is.queue is.now)
          → Stands (IsTrue w.tells) (run_of j f.rules c) (undivided_from (setup_of j) f.rules c)
          first is at) now_is stands

      pub runs_out_by : {E : Type 0} (r : Result Cores E) → IfOk r (λ core. core ≡ mid.run.core)
          → (d.tells
          → OnOk r (OutputsSettled (length mid.run.keeper.lengths) (d.view disk_after)))
          → IfOk r (RunsOut d w f disk disk_after wire mid.wire meter mid.meter)
      runs_out_by r same settled =
          if_each r (ends_with s p mid.run.core p.is.queue p.is.now p.view (d.view disk_after)
          mid.run.keeper (moves_none s p) runs_false.able.going runs_false.stops
          (λ found first x. stands_now (begins_in (setup_of f.job) found) x.begins first p.is x.at)
          quiet r same settled)
        where
          if_each : {E : Type 0} (r : Result Cores E)
              → IfOk r (λ core. EndsAt s p (place_at d w core disk_after mid.wire mid.meter))
              → IfOk r (RunsOut d w f disk disk_after wire mid.wire meter mid.meter)
          if_each (Ok core) end =
              runs_out d w t f disk wire meter turns cut next was turns_was b sums mid turns_mid
              runs_false (place_at d w core disk_after mid.wire mid.meter) end
              (subst (λ (j : Job). Keeps d w j f.rules was mid.disk mid.wire mid.meter) now_is
              keeps)
          if_each (Err e) end = tt
