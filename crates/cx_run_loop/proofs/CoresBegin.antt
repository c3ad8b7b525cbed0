-- A run by one core after another, as it begins.
use Rattle.std.proofs.Common.{◌≡◌, ◌≤◌, ◌<◌, ◌^◌, ℕ, inl, inr, false, List, [], arith, refl, sym, ◌∙◌, ap, subst}
use Rattle.std.specs.Prelude.{Bool, Option, Some, None, Result, Ok, Err, IfOk, IfSome, OnOk, IsTrue, if◌then◌else◌}
use Rattle.cx_plan.specs.declared.job.Cuts.{Cuts}
use Rattle.cx_plan.specs.declared.job.Job.{Job}
use Rattle.cx_plan.specs.Setups.{setup_of}
use Rattle.cx_plan.specs.Whole.{IsWhole}
use Rattle.cx_rule.specs.Jobs.{FitJob}
use Rattle.cx_rule.specs.Meter.{raised}
use Rattle.cx_rule.specs.Routine.{Rule}
use Rattle.cx_rule.specs.declared.spec.Spec.{Spec}
use Rattle.cx_disk.specs.declared.disk.Disk.{Ghosts as DiskGhosts}
use Rattle.cx_disk.proofs.Moments.{started}
use Rattle.cx_wire.specs.Received.{counted}
use Rattle.cx_wire.specs.declared.wire.Wire.{Ghosts as WireGhosts}
use Rattle.cx_turns.specs.declared.turns.Turns.{Ghosts as TurnsGhosts}
use Rattle.cx_chk.specs.declared.checkpoint.Checkpoint.{Checkpoint}
use Rattle.law_parts.specs.Beginnings.{Beginning, IsBeginning, run_of}
use Rattle.cx_core.specs.declared.answers.Outcome.TheVariants.{Going}
use Rattle.cx_core.specs.Starts.{AreEmpty, CanBegin, IsReady, begins_in, lengths_first}
use Rattle.cx_core.specs.Steps.{Begins, counts}
use Rattle.cx_run_loop.specs.Advances.{CanAdvance, place_of, run_state}
use Rattle.cx_run_loop.specs.Cores.{BeginsCores, From, RunsOn, next_after, run_by, setting_of, start_of}
use Rattle.cx_run_loop.specs.CoresWait.{CoresWait}
use Rattle.cx_run_loop.specs.Going.{IsImageOf, IsKept, Place, kept_in, setting}
use Rattle.cx_run_loop.specs.Recuts.{cut_from, first_cut, next_cut, swept_cut, weighed_cut, with_cut}
use Rattle.cx_run_loop.specs.Segments.{SegmentTo, Start}
use Rattle.cx_run_loop.specs.UnderWay.{BeginsAnew, HasBegunAt, Runs}
use Rattle.cx_run_loop.proofs.CoreLaws.{segment_none}
use Rattle.cx_run_loop.proofs.CoresGo.{AreBetween, kept_on, waits_at}
use Rattle.cx_run_loop.proofs.UnderWayLaws.{come_at, going_at}

-- a job that isn't balanced goes on in its own cut
pub plain_cut : (specs : List Spec) (job : Job) (c : Checkpoint) → job.balance ≡ false
    → next_cut specs job c ≡ job.cut
plain_cut specs job c unbalanced =
    ap (λ (b : Bool). if b then swept_cut specs job (weighed_cut job c) else job.cut) unbalanced

module _ {D W T : Type 0} (d : DiskGhosts D) (w : WireGhosts W) (t : TurnsGhosts T)
    (disk : D) (wire : W) (meter : ℕ) (turns : T) where
  -- in the job's own cut
  module _ (f : From) (run : Runs) (own : first_cut f.specs f.job f.found ≡ f.job.cut)
      (begun : HasBegunAt (setting_of d w f) f.found run.keeper
      (place_of d w f.job f.rules (run_state run disk wire meter)))
      (able : CanAdvance d w f.job f.rules (run_state run disk wire meter))
      (going : run.core.outcome ≡ Going)
      (wait : CoresWait (IsTrue w.tells) f.job f.rules (begins_in (setup_of f.job) f.found)) where
    abbrev own_start : Cuts → Start
    own_start cut = record {
      cut = cut;
      found = f.found;
      counts = counts meter (w.received wire) (w.sum wire);
      view = d.view disk;
    }

    pub between_own : AreBetween d w t f disk wire meter turns f.job.cut (next_after f.found)
        (run_state run disk wire meter) turns
    between_own = record {
      found = f.found;
      next_is = refl;
      segment = subst (λ (cut : Cuts). SegmentTo (setting_of d w f) (cut_from f.specs f.job)
          (start_of f (counts meter (w.received wire) (w.sum wire)) (d.view disk))
          (own_start cut)) own
          (segment_none (setting_of d w f) (cut_from f.specs f.job)
          (start_of f (counts meter (w.received wire) (w.sum wire)) (d.view disk)));
      come = come_at (setting_of d w f) f.found run.keeper
          (place_of d w f.job f.rules (run_state run disk wire meter)) begun going;
      waits = λ same. waits_at (setting_of d w f) f.found run.keeper
          (place_of d w f.job f.rules (run_state run disk wire meter)) begun going wait;
      plain = λ unbalanced. refl;
      able = able;
      parts = able.parts;
      going = going;
      folders = refl;
      points = omega arith;
      values = omega arith;
      core = run.core;
      begins = subst (λ (cut : Cuts). Begins (IsTrue w.tells)
          (run_of (with_cut f.job cut) f.rules (begins_in (setup_of f.job) f.found))
          (counts meter (w.received wire) (w.sum wire)) run.core (w.queue wire)) (sym own)
          begun.begun;
      checkpoints = [];
      lead = ([], refl);
      cut_is = sym own;
    }

  -- in the cut after the checkpoint that was found
  module _ (job : Job) (rules : List Rule) (specs : List Spec) (c : Checkpoint) (was run : Runs)
      (begun : HasBegunAt (setting d w job rules) (Some c) was.keeper
      (place_of d w job rules (run_state was disk wire meter)))
      (able : CanAdvance d w job rules (run_state was disk wire meter))
      (lengths : was.core.lengths ≡ c.lengths) (empty : AreEmpty (w.queue wire))
      (fits : IsTrue w.tells → w.sum wire < 2 ^ 64)
      (anew : BeginsAnew (with_cut job (next_cut specs job c)) specs job c was.keeper run)
      (wait : CoresWait (IsTrue w.tells) (with_cut job (next_cut specs job c)) rules
      (begins_in (setup_of job) (Some c))) where
    abbrev f : From
    f = run_by job rules specs (Some c)

    abbrev job_now : Job
    job_now = with_cut job (next_cut specs job c)

    abbrev q : Place (setting d w job_now rules)
    q = place_of d w job_now rules (run_state run disk wire meter)

    begun_anew : HasBegunAt (setting d w job_now rules) (Some c) run.keeper q
    begun_anew = record {
      begins = anew.can;
      begun = anew.begins w.tells rules (w.queue wire)
          (counts meter (w.received wire) (w.sum wire)) empty fits;
      kept = subst (λ k. IsKept job_now d.tells k run.core (d.view disk)) (sym anew.keeper)
          (kept_on job job_now d.tells was.keeper was.core run.core (d.view disk) refl refl
          anew.key begun.kept (lengths ∙ sym anew.lengths));
    }

    pub between_first : AreBetween d w t f disk wire meter turns (next_cut specs job c)
        (next_after (Some c)) (run_state run disk wire meter) turns
    between_first = record {
      found = Some c;
      next_is = refl;
      segment = segment_none (setting_of d w f) (cut_from specs job)
          (start_of f (counts meter (w.received wire) (w.sum wire)) (d.view disk));
      come = come_at (setting d w job_now rules) (Some c) run.keeper q begun_anew anew.going;
      waits = λ same. waits_at (setting d w job_now rules) (Some c) run.keeper q begun_anew
          anew.going wait;
      plain = plain_cut specs job c;
      able = record {
        parts = subst (λ (n : ℕ). n ≤ w.parts wire) (sym anew.parts) able.parts;
        mounted = able.mounted;
        files = able.files;
        names = able.names;
        going = going_at (setting d w job_now rules) (Some c) run.keeper q begun_anew;
      };
      parts = able.parts;
      going = anew.going;
      folders = refl;
      points = omega arith;
      values = omega arith;
      core = run.core;
      begins = begun_anew.begun;
      checkpoints = [];
      lead = ([], refl);
      cut_is = refl;
    }

-- ---- where nothing was done

no_fewer_points : (first n : ℕ) → first ≤ raised first n
no_fewer_points first n = omega arith

no_fewer_values : (first n : ℕ) → first ≤ counted first n
no_fewer_values first n = omega arith

-- there was no memory for a first core
pub runs_none : {D W : Type 0} → (d : DiskGhosts D) (w : WireGhosts W) (f : From) (run : Runs)
    (disk : D) (wire : W) (meter : ℕ)
    → CanAdvance d w f.job f.rules (run_state run disk wire meter)
    → RunsOn d w f disk disk wire wire meter meter
runs_none d w f run disk wire meter able = record {
  moments = λ td tw y.
      started (d.view disk) (IsImageOf (kept_in (setting_of d w f) f.found));
  mounted = able.mounted;
  files = able.files;
  folders = refl;
  points = omega arith;
  values = omega arith;
  below = λ tells last goes. record {
    points = no_fewer_points meter _;
    values = no_fewer_values (w.received wire) _;
  };
}

-- ---- as the loop over cores is entered

-- a job that isn't balanced begins in its own cut
pub first_own : (specs : List Spec) (job : Job) (found : Option Checkpoint) → job.balance ≡ false
    → job.cut ≡ first_cut specs job found
first_own specs job None unbalanced = refl
first_own specs job (Some c) unbalanced = sym (plain_cut specs job c unbalanced)

module _ {D W T : Type 0} (d : DiskGhosts D) (w : WireGhosts W) (t : TurnsGhosts T)
    (disk : D) (wire : W) (meter : ℕ) (turns : T) (job : Job) (rules : List Rule)
    (specs : List Spec) (was run : Runs) where
  abbrev Between : Option Checkpoint → Cuts → Type 0
  Between found cut = AreBetween d w t (run_by job rules specs found) disk wire meter turns cut
      (next_after found) (run_state run disk wire meter) turns

  abbrev AllWait : Job → Type 0
  AllWait now =
      (b : Beginning) → IsBeginning (setup_of now) b → CoresWait (IsTrue w.tells) now rules b

  pub between_begun : (found : Option Checkpoint) (now : Job) → now ≡ with_cut job now.cut
      → now.cut ≡ first_cut specs job found → BeginsCores now specs job found was run
      → HasBegunAt (setting d w job rules) found was.keeper
      (place_of d w job rules (run_state was disk wire meter))
      → CanAdvance d w job rules (run_state was disk wire meter) → was.core.outcome ≡ Going
      → was.core.lengths ≡ lengths_first (setup_of job) found → AreEmpty (w.queue wire)
      → (IsTrue w.tells → w.sum wire < 2 ^ 64) → AllWait now → Between found now.cut
  between_begun found now is first (inl (same, own)) begun able going lengths empty fits wait =
      let plain : now ≡ job = is ∙ ap (with_cut job) own in
      subst (λ (r : Runs). AreBetween d w t (run_by job rules specs found) disk wire meter turns
      now.cut (next_after found) (run_state r disk wire meter) turns) (sym same)
      (subst (λ (u : Cuts). AreBetween d w t (run_by job rules specs found) disk wire meter turns
      u (next_after found) (run_state was disk wire meter) turns) (sym own)
      (between_own d w t disk wire meter turns (run_by job rules specs found) was
      (sym first ∙ own) begun able going
      (subst AllWait plain wait (begins_in (setup_of job) found) begun.begins)))
  between_begun found now is first (inr (c, there, anew)) begun able going lengths empty fits
      wait =
      let cut_is : now.cut ≡ next_cut specs job c = anew.cut in
      let now_is : now ≡ with_cut job (next_cut specs job c) = is ∙ ap (with_cut job) cut_is in
      subst (λ (o : Option Checkpoint). Between o now.cut) (sym there)
      (subst (λ (u : Cuts). Between (Some c) u) (sym cut_is)
      (between_first d w t disk wire meter turns job rules specs c was run
      (subst (λ (o : Option Checkpoint). HasBegunAt (setting d w job rules) o was.keeper
      (place_of d w job rules (run_state was disk wire meter))) there begun)
      able
      (lengths ∙ ap (lengths_first (setup_of job)) there) empty fits
      (subst (λ (j : Job). BeginsAnew j specs job c was.keeper run) now_is anew)
      (subst AllWait now_is wait (begins_in (setup_of job) (Some c))
      (subst (λ (j : Job). IsBeginning (setup_of j) (begins_in (setup_of j) (Some c))) now_is
      anew.can))))

-- ---- a first core, in the cut after what was found

pub record HasFirst {E : Type 0} (r : Result Runs E) (now : Job) (specs : List Spec) (job : Job)
    (found : Option Checkpoint) (was : Runs) : Type 0 where
  pub cut : OnOk r (now.cut ≡ first_cut specs job found)
  pub begins : IfOk r (BeginsCores now specs job found was)
  pub ready : OnOk r (IsReady now)
  pub routines : OnOk r (FitJob specs now)

pub first_anew : {E : Type 0} (r : Result Runs E) (now : Job) (specs : List Spec) (job : Job)
    (own : Cuts) → own ≡ job.cut → (found : Option Checkpoint) (c : Checkpoint) → found ≡ Some c
    → (was : Runs) → IfOk r (BeginsAnew now specs (with_cut job own) c was.keeper)
    → HasFirst r now specs job found was
first_anew (Ok run) now specs job own own_is found c there was h =
    let begun : BeginsAnew now specs job c was.keeper run =
    subst (λ (j : Job). BeginsAnew now specs j c was.keeper run) (ap (with_cut job) own_is) h in
    record {
      cut = begun.cut ∙ sym (ap (first_cut specs job) there);
      begins = inr (c, there, begun);
      ready = begun.ready;
      routines = begun.routines;
    }
first_anew (Err e) now specs job own own_is found c there was h =
    record { cut = tt; begins = tt; ready = tt; routines = tt }

pub first_none : (specs : List Spec) (job : Job) (found : Option Checkpoint) → found ≡ None
    → job.cut ≡ first_cut specs job found
first_none specs job found none = sym (ap (first_cut specs job) none)

-- iterations of the run are few
pub few_iterations : (job : Job) (found : Option Checkpoint) → IsWhole job
    → IfSome found (λ c. CanBegin (setup_of job) (Some c))
    → IfSome found (λ c. c.iteration < 2 ^ 63)
few_iterations job None whole can = tt
few_iterations job (Some c) whole can =
    let most : c.iteration ≤ job.itlast = can.0 in
    let limit : job.itlast ≤ 1000000 = whole.itlast_limit in
    few c.iteration job.itlast most limit
  where
    few : (n m : ℕ) → n ≤ m → m ≤ 1000000 → n < 2 ^ 63
    few n m a b = omega (arith, a, b)
