-- A run by one core after another, between two of them.
use Rattle.std.proofs.Common.{◌≡◌, ◌≤◌, ◌<◌, ◌^◌, ◌+◌, ℕ, true, false, List, [], ◌∷◌, ◌++◌, arith, refl, sym, ◌∙◌, ap, subst}
use Rattle.std.specs.Prelude.{Bool, Option, Some, IsTrue}
use Rattle.cx_plan.specs.declared.job.Cuts.{Cuts}
use Rattle.cx_plan.specs.declared.job.Job.{Job}
use Rattle.cx_plan.specs.Setups.{setup_of}
use Rattle.cx_rule.specs.States.{State}
use Rattle.cx_model.specs.Runs.{Lengths}
use Rattle.cx_cut.specs.Cuts.{Parts, part_count}
use Rattle.cx_cut.specs.Faults.{parts_of}
use Rattle.cx_disk.specs.Disk.{View}
use Rattle.cx_disk.specs.declared.disk.Disk.{Ghosts as DiskGhosts}
use Rattle.cx_wire.specs.declared.wire.Wire.{Ghosts as WireGhosts}
use Rattle.cx_turns.specs.declared.turns.Turns.{Ghosts as TurnsGhosts}
use Rattle.cx_chk.specs.declared.checkpoint.Checkpoint.{Checkpoint}
use Rattle.cx_keep.specs.Keeping.{Keeper}
use Rattle.cx_keep.specs.Trails.{Counts as AreCounted}
use Rattle.law_network.specs.Machine.{World}
use Rattle.law_parts.specs.Beginnings.{Beginning, IsBeginning}
use Rattle.law_parts.specs.Holding.{Held}
use Rattle.law_parts.specs.Moves.{Message, Channel}
use Rattle.law_reached.specs.Works.{handed_out}
use Rattle.cx_core.specs.declared.answers.Outcome.TheVariants.{Going}
use Rattle.cx_core.specs.Cores.{Cores}
use Rattle.cx_core.specs.Starts.{begins_in}
use Rattle.cx_core.specs.Steps.{Counts, counts}
use Rattle.cx_run_loop.specs.Advances.{CanAdvance, Keeps, RunState, place_of, run_state, turning_of}
use Rattle.cx_run_loop.specs.Cores.{BeginsCut, From, RunsCore, WaitsFor, next_after, setting_of, start_of}
use Rattle.cx_run_loop.specs.CoresWait.{CoresWait}
use Rattle.cx_run_loop.specs.Going.{Setting, Place, IsKept, run_in, setting}
use Rattle.cx_run_loop.specs.Laws.{DriveLaws}
use Rattle.cx_run_loop.specs.Lent.{wired}
use Rattle.cx_run_loop.specs.Recuts.{cut_from, first_cut, next_cut, with_cut}
use Rattle.cx_run_loop.specs.Segments.{SegmentTo, Start}
use Rattle.cx_run_loop.specs.Sums.{AreUnsaved, SumsAdd}
use Rattle.cx_run_loop.specs.Turning.{CoresLead, TurnsLead, turning}
use Rattle.cx_run_loop.specs.UnderWay.{BeginsAnew, HasBegunAt, HasCome, Runs}
use Rattle.cx_run_loop.specs.Waiting.{HasGathered, HoldsCheckpoint, IsWaiting}
use Rattle.cx_run_loop.proofs.CoreLaws.{segment_more, segment_one}
use Rattle.cx_run_loop.proofs.LeadLaws.{last_anew, last_cut, leads_anew, leads_on}
use Rattle.cx_run_loop.proofs.Recast.{segment_cast}
use Rattle.cx_run_loop.proofs.UnderWayLaws.{come_at, going_at, leaves_on}

-- where a core begins, all parts are together and nothing is handed out
pub waits_at : (s : Setting) (found : Option Checkpoint) (k : Keeper) (p : Place s)
    (b : HasBegunAt s found k p) (going : p.is.core.outcome ≡ Going)
    → CoresWait s.wire s.job s.rules (begins_in (setup_of s.job) found)
    → IsWaiting s found p.is.now p (come_at s found k p b going).there
unfolding come_at
waits_at s found k p b going wait = record {
  together = wait.begins p.is.now p.is.core p.is.queue b.begun;
  unsaved = λ t. subst AreUnsaved
      (sym (ap (λ (w : World Held (Message s.wire) Channel Lengths).
      handed_out (run_in s found) w) b.begun.nothing_done)) tt;
}

-- a keeper goes on with another core, of as long outputs
pub kept_on : (job now : Job) (tells : Type 0) (k : Keeper) (was is : Cores) (v : View)
    → now.keep ≡ job.keep → now.out_vars ≡ job.out_vars → is.buffers.state.key ≡ now.key
    → IsKept job tells k was v → was.lengths ≡ is.lengths → IsKept now tells k is v
kept_on job now tells k was is v keep vars has_key kept same = record {
  keeper = kept.keeper
      ∙ ap (λ (l : List ℕ). record { keep = job.keep; vars = job.out_vars; lengths = l }) same
      ∙ ap (λ (n : ℕ). record { keep = n; vars = job.out_vars; lengths = is.lengths })
      (sym keep)
      ∙ ap (λ us. record { keep = now.keep; vars = us; lengths = is.lengths }) (sym vars);
  key = has_key;
  counts = λ t. subst (λ (l : List ℕ). AreCounted l v) same (kept.counts t);
  slots = kept.slots;
}

-- so with one that begins in the checkpoint that it has saved
pub kept_anew : (job now : Job) (tells : Type 0) (k : Keeper) (was is : Cores) (c : Checkpoint)
    (v : View) → now.keep ≡ job.keep → now.out_vars ≡ job.out_vars
    → IsKept job tells k was v → HoldsCheckpoint (setup_of job) was
    → was.buffers.state ≡ c → is.buffers.state.key ≡ now.key → is.lengths ≡ c.lengths
    → IsKept now tells k is v
kept_anew job now tells k was is c v keep vars kept holds same_c has_key lengths =
    kept_on job now tells k was is v keep vars has_key kept
    (sym holds.lengths ∙ ap (λ (x : Checkpoint). x.lengths) same_c ∙ sym lengths)

module _ {D W T : Type 0} (d : DiskGhosts D) (w : WireGhosts W) (t : TurnsGhosts T) (f : From)
    (disk : D) (wire : W) (meter : ℕ) (turns : T) where
  abbrev start : Start
  start = start_of f (counts meter (w.received wire) (w.sum wire)) (d.view disk)

  abbrev again : State → Parts
  again = cut_from f.specs f.job

  abbrev job_by : Cuts → Job
  job_by cut = with_cut f.job cut

  abbrev by : Cuts → Setting
  by cut = setting d w (job_by cut) f.rules

  abbrev pub counted_at : RunState D W → Counts
  counted_at x = counts x.meter (w.received x.wire) (w.sum x.wire)

  abbrev pub start_at : Cuts → Option Checkpoint → RunState D W → Start
  start_at cut found x =
      record { cut = cut; found = found; counts = counted_at x; view = d.view x.disk }

  -- between two cores: the last one has begun in this cut, and each later checkpoint comes from
  -- this iteration on
  pub record AreBetween (cut : Cuts) (next : ℕ) (x : RunState D W) (turns_now : T) : Type 0 where
    pub found : Option Checkpoint
    pub next_is : next ≡ next_after found
    pub segment : SegmentTo (setting_of d w f) again start
        (start_at cut found x)
    pub come : HasCome (by cut) found (counted_at x) (d.view x.disk)
        (place_of d w (job_by cut) f.rules x)
    pub waits : f.job.balance ≡ true → IsWaiting (by cut) found (counted_at x)
        (place_of d w (job_by cut) f.rules x) come.there
    pub plain : f.job.balance ≡ false → cut ≡ f.job.cut
    pub able : CanAdvance d w (job_by cut) f.rules x
    pub parts : part_count (parts_of f.job.shape f.job.cut) ≤ w.parts x.wire
    pub going : x.run.core.outcome ≡ Going
    pub folders : d.folders x.disk ≡ d.folders disk
    pub points : meter ≤ x.meter
    pub values : w.received wire ≤ w.received x.wire
    pub core : Cores
    pub begins : BeginsCut (IsTrue w.tells) f core (wired w wire) meter
    pub checkpoints : List Checkpoint
    pub lead : CoresLead t (IsTrue w.tells) f.specs f.job f.rules
        (first_cut f.specs f.job f.found) checkpoints (turning core (wired w wire) meter turns)
        (turning_of w x turns_now)
    pub cut_is : cut ≡ last_cut f.specs f.job (first_cut f.specs f.job f.found) checkpoints

  -- from one to the next
  module _ (cut : Cuts) (next : ℕ) (was mid : RunState D W) (turns_was turns_mid : T)
      (b : AreBetween cut next was turns_was) (laws : DriveLaws (IsTrue w.tells) (job_by cut)
      f.rules)
      (sums : SumsAdd (setup_of f.job)) (balance : f.job.balance ≡ true)
      (runs : RunsCore d w t (job_by cut) f.rules next was mid turns_was turns_mid true)
      (keeps : Keeps d w (job_by cut) f.rules was mid.disk mid.wire mid.meter) where
    abbrev c : Checkpoint
    c = mid.run.core.buffers.state

    abbrev p : Place (by cut)
    p = place_of d w (job_by cut) f.rules mid

    abbrev it : WaitsFor (by cut) b.found (counted_at was)
        (place_of d w (job_by cut) f.rules was) p
        b.come.there next true
    it = runs.waits balance b.found (counted_at was) b.come.there

    gathered : HasGathered (by cut) b.found (counted_at was) p it.moves.there
    gathered = it.gathers refl b.next_is (b.waits balance)

    come : HasCome (by cut) b.found (counted_at was) (d.view was.disk) p
    come = record {
      there = it.moves.there;
      driven = λ td tw y. it.moves.driven td tw (b.come.driven td tw y);
      moments = leaves_on (by cut) b.found (counted_at was) (d.view was.disk)
          (place_of d w (job_by cut) f.rules was)
          b.come p.view keeps.moments;
    }

    abbrev after : Start
    after = record {
      cut = next_cut f.specs f.job c;
      found = Some c;
      counts = p.is.now;
      view = p.view;
    }

    segment : SegmentTo (setting_of d w f) again start after
    unfolding come
    segment =
        segment_more (setting_of d w f) again start
        (start_at cut b.found was) after b.segment
        (segment_cast (setting_of d w f) cut again
        (start_at cut b.found was) after
        (segment_one (by cut) laws sums f.specs f.job refl refl b.found (counted_at was)
        (d.view was.disk) p come
        gathered))

    module _ (run : Runs) (anew : BeginsAnew (job_by (next_cut f.specs f.job c)) f.specs f.job c
        mid.run.keeper run) (fits : IsTrue w.tells → w.sum mid.wire < 2 ^ 64)
        (wait : CoresWait (IsTrue w.tells) (job_by (next_cut f.specs f.job c)) f.rules
        (begins_in (setup_of f.job) (Some c))) where
      abbrev is : RunState D W
      is = run_state run mid.disk mid.wire mid.meter

      abbrev q : Place (by (next_cut f.specs f.job c))
      q = place_of d w (job_by (next_cut f.specs f.job c)) f.rules is

      begun : HasBegunAt (by (next_cut f.specs f.job c)) (Some c) run.keeper q
      begun = record {
        begins = anew.can;
        begun = anew.begins w.tells f.rules (w.queue mid.wire)
            (counts mid.meter (w.received mid.wire) (w.sum mid.wire)) gathered.none_left fits;
        kept = subst (λ (k : Keeper).
            IsKept (job_by (next_cut f.specs f.job c)) d.tells k run.core (d.view mid.disk))
            (sym anew.keeper)
            (kept_anew (job_by cut) (job_by (next_cut f.specs f.job c)) d.tells mid.run.keeper
            mid.run.core run.core c (d.view mid.disk) refl refl runs.able.going.kept
            runs.stops.holds refl anew.key anew.lengths);
      }

      parts_now : part_count (parts_of f.job.shape f.job.cut) ≤ w.parts mid.wire
      parts_now = subst (λ (n : ℕ). part_count (parts_of f.job.shape f.job.cut) ≤ n)
          (sym keeps.parts) b.parts

      points_now : meter ≤ mid.meter
      points_now =
          let one : meter ≤ was.meter = b.points in
          let two : was.meter ≤ mid.meter = keeps.points in
          omega arith

      values_now : w.received wire ≤ w.received mid.wire
      values_now =
          let one : w.received wire ≤ w.received was.wire = b.values in
          let two : w.received was.wire ≤ w.received mid.wire = keeps.values in
          omega arith

      pub between_anew : AreBetween (next_cut f.specs f.job c) (c.iteration + 1) is turns_mid
      between_anew = record {
        found = Some c;
        next_is = refl;
        segment = segment;
        come = come_at (by (next_cut f.specs f.job c)) (Some c) run.keeper q begun anew.going;
        waits = λ same. waits_at (by (next_cut f.specs f.job c)) (Some c) run.keeper q begun
            anew.going wait;
        plain = λ no_balance. absurd (let bad : true ≡ false = sym balance ∙ no_balance in cc);
        able = record {
          parts = subst (λ (n : ℕ). n ≤ w.parts mid.wire) (sym anew.parts) parts_now;
          mounted = runs.able.mounted;
          files = runs.able.files;
          names = runs.able.names;
          going = going_at (by (next_cut f.specs f.job c)) (Some c) run.keeper q begun;
        };
        parts = parts_now;
        going = anew.going;
        folders = keeps.folders ∙ b.folders;
        points = points_now;
        values = values_now;
        core = b.core;
        begins = b.begins;
        checkpoints = b.checkpoints ++ c ∷ [];
        lead = leads_anew t (IsTrue w.tells) f.specs f.job f.rules
            (first_cut f.specs f.job f.found) b.checkpoints c
            (turning b.core (wired w wire) meter turns) (turning_of w mid turns_mid)
            (turning_of w is turns_mid)
            (leads_on t (IsTrue w.tells) f.specs f.job f.rules (first_cut f.specs f.job f.found)
            b.checkpoints (turning b.core (wired w wire) meter turns)
            (turning_of w was turns_was) (turning_of w mid turns_mid) b.lead
            (subst (λ (u : Cuts). TurnsLead t (IsTrue w.tells) (job_by u) f.rules
            (turning_of w was turns_was) (turning_of w mid turns_mid)) b.cut_is runs.lead)) refl
            (record {
              begins = begun.begun;
              queue = refl;
              now = refl;
              turns = refl;
            });
        cut_is = sym (last_anew t (IsTrue w.tells) f.specs f.job f.rules
            (first_cut f.specs f.job f.found) b.checkpoints c);
      }

  -- so of a job that is this one by an equation, as a loop has it
  pub between_on : (own cut : Cuts) (next : ℕ) (was mid : RunState D W) (turns_was turns_mid : T)
      (b : AreBetween cut next was turns_was) → own ≡ f.job.cut → (now : Job) → now ≡ job_by cut
      → DriveLaws (IsTrue w.tells) now f.rules → SumsAdd (setup_of now) → (anew : Bool)
      → anew ≡ true → RunsCore d w t now f.rules next was mid turns_was turns_mid anew
      → Keeps d w now f.rules was mid.disk mid.wire mid.meter → (new : Job) (run : Runs)
      → new ≡ with_cut now new.cut
      → BeginsAnew new f.specs (with_cut now own) mid.run.core.buffers.state mid.run.keeper run
      → (IsTrue w.tells → w.sum mid.wire < 2 ^ 64)
      → ((b : Beginning) → IsBeginning (setup_of new) b
      → CoresWait (IsTrue w.tells) new f.rules b)
      → AreBetween new.cut (mid.run.core.buffers.state.iteration + 1)
      (run_state run mid.disk mid.wire mid.meter) turns_mid
  between_on own cut next was mid turns_was turns_mid b own_is now now_is laws sums anew is_anew
      runs
      keeps new run new_is begins fits wait =
      let c : Checkpoint = mid.run.core.buffers.state in
      let base : with_cut now own ≡ f.job =
      ap (with_cut now) own_is ∙ ap (λ (j : Job). with_cut j f.job.cut) now_is in
      let begun : BeginsAnew new f.specs f.job c mid.run.keeper run =
      subst (λ (j : Job). BeginsAnew new f.specs j c mid.run.keeper run) base begins in
      let cut_new : new.cut ≡ next_cut f.specs f.job c = begun.cut in
      let job_new : new ≡ job_by (next_cut f.specs f.job c) =
      new_is ∙ ap (λ (j : Job). with_cut j new.cut) now_is ∙ ap (with_cut f.job) cut_new in
      let runs_true : RunsCore d w t (job_by cut) f.rules next was mid turns_was turns_mid true =
      subst (λ (z : Bool). RunsCore d w t (job_by cut) f.rules next was mid turns_was turns_mid z)
      is_anew (subst (λ (j : Job). RunsCore d w t j f.rules next was mid turns_was turns_mid anew)
      now_is runs) in
      subst (λ (u : Cuts). AreBetween u (c.iteration + 1)
      (run_state run mid.disk mid.wire mid.meter) turns_mid) (sym cut_new)
      (between_anew cut next was mid turns_was turns_mid b
      (subst (λ (j : Job). DriveLaws (IsTrue w.tells) j f.rules) now_is laws)
      (subst (λ (j : Job). SumsAdd (setup_of j)) now_is sums) runs_true.stops.balance runs_true
      (subst (λ (j : Job). Keeps d w j f.rules was mid.disk mid.wire mid.meter) now_is keeps)
      run (subst (λ (j : Job). BeginsAnew j f.specs f.job c mid.run.keeper run) job_new begun)
      fits
      (subst (λ (j : Job). CoresWait (IsTrue w.tells) j f.rules
      (begins_in (setup_of j) (Some c))) job_new
      (wait (begins_in (setup_of new) (Some c)) begun.can)))
