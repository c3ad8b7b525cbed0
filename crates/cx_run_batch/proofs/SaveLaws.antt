-- A turn that saved a checkpoint: with which core the run goes on.
use Rattle.std.proofs.Common.{◌≡◌, ◌≤◌, ◌<◌, ◌+◌, ◌-◌, ◌*◌, ◌^◌, ℕ, inl, inr, true, false, [], refl, sym, ◌∙◌, ap, subst, arith}
use Rattle.std.specs.Prelude.{IsTrue, List, length, Some, Result, Err}
use Rattle.cx_cut.specs.Cuts.{part_count}
use Rattle.cx_cut.specs.Faults.{parts_of}
use Rattle.cx_plan.specs.declared.job.Cuts.{Cuts}
use Rattle.cx_plan.specs.declared.job.Job.{Job}
use Rattle.cx_plan.specs.Setups.{setup_of}
use Rattle.cx_rule.specs.Routine.{Rule}
use Rattle.cx_rule.specs.declared.spec.Spec.{Spec}
use Rattle.cx_disk.specs.Disk.{Folders}
use Rattle.cx_disk.specs.declared.disk.Disk.{Ghosts as DiskGhosts}
use Rattle.cx_wire.specs.declared.wire.Wire.{Ghosts as WireGhosts}
use Rattle.cx_chk.specs.declared.checkpoint.Checkpoint.{Checkpoint}
use Rattle.cx_core.specs.declared.answers.Outcome.TheVariants.{Going as GoesOn}
use Rattle.cx_core.specs.Cores.{Cores}
use Rattle.cx_core.specs.Left.{rank_limit, steps_left}
use Rattle.cx_core.specs.Starts.{AreEmpty, CanBegin, begins_in}
use Rattle.cx_core.specs.Steps.{counts}
use Rattle.cx_run_loop.specs.Advances.{Keeps, run_state}
use Rattle.cx_run_loop.specs.Cores.{is_cut_anew}
use Rattle.cx_run_loop.specs.CoresWait.{CoresWait}
use Rattle.cx_run_loop.specs.Going.{IsGoing, MovesOn, Place, Setting, place_at, setting}
use Rattle.cx_run_loop.specs.Laws.{DriveLaws}
use Rattle.cx_run_loop.specs.Recuts.{next_cut, with_cut}
use Rattle.cx_run_loop.specs.UnderWay.{BeginsAnew, Runs}
use Rattle.cx_run_loop.specs.Waiting.{HoldsCheckpoint, StaysBelow, WaitsOn}
use Rattle.cx_run_loop.specs.declared.fault.DriveFault.{DriveFault}
use Rattle.cx_run_loop.specs.declared.fault.DriveFault.TheVariants as faults
use Rattle.cx_run_loop.specs.declared.turn.Advance.{Advance}
use Rattle.cx_run_loop.specs.declared.turn.Advance.TheVariants.{Saved}
use Rattle.cx_run_loop.proofs.AdvanceLaws.{can_again}
use Rattle.cx_run_loop.proofs.CoreTurns.{IsCut, cut_is}
use Rattle.cx_run_loop.proofs.CoresOver.{nearer_last}
use Rattle.cx_run_loop.proofs.StopLaws.{count, memory_stops}
use Rattle.cx_run_batch.specs.Stages.{AllWait, CanGoOn, ComesWaiting, GoesOnAfter, HasCutAnew, HaveWaited, IsAble, IsAt, IsOnWay, IsOver, Lot, lot, most_steps, own_job, turns_left}
use Rattle.cx_run_batch.specs.declared.stage.Stage.{Stage}
use Rattle.cx_run_batch.specs.declared.stage.Stage.TheVariants.{Going, Over}
use Rattle.cx_run_batch.specs.declared.stage.UnderWay.{UnderWay}
use Rattle.cx_run_batch.proofs.AnewLaws.{comes_anew, going_anew, waited_anew}
use Rattle.cx_run_batch.proofs.ComeLaws.{IsGathered, comes_more, gathers, none_left, waited_more}
use Rattle.cx_run_batch.proofs.FreshLaws.{fewer_cores, fewer_steps, fresh_few, some_left}
use Rattle.cx_run_batch.proofs.StageLaws.{on_way, on_way_anew, stopped}

-- the checkpoint that was just saved is one in which another core can begin
pub can_begin : (job : Job) (next : ℕ) (core : Cores) → HoldsCheckpoint (setup_of job) core
    → is_cut_anew job next Saved core ≡ true → CanBegin (setup_of job) (Some core.buffers.state)
can_begin job next core holds anew = (
  (cut_is job next Saved core anew).most,
  holds.state,
  ap (λ (l : List ℕ). length l) holds.lengths ∙ holds.count,
)

-- of an iteration of the run
pub few_iterations : (job : Job) (next : ℕ) (core : Cores) (c : Checkpoint)
    → job.itlast ≤ 1000000 → is_cut_anew job next Saved core ≡ true → c ≡ core.buffers.state
    → c.iteration ≤ 1000000
few_iterations job next core c limit anew same =
    few c.iteration core.buffers.state.iteration job.itlast
    (ap (λ (k : Checkpoint). k.iteration) same) (cut_is job next Saved core anew).most limit
  where
    few : (n m last : ℕ) → n ≡ m → m ≤ last → last ≤ 1000000 → n ≤ 1000000
    few n m last a b e = omega (arith, a, b, e)

-- ---- its job

-- in the cut after that checkpoint
job_next : (specs : List Spec) (now new : Job) (x y : UnderWay) → HasCutAnew specs now new x y
    → new ≡ with_cut (with_cut now x.own)
    (next_cut specs (with_cut now x.own) x.run.core.buffers.state)
job_next specs now new x y h = h.job_is ∙ ap (with_cut now) h.begins.cut

pub own_after : (specs : List Spec) (now new : Job) (x : UnderWay) (stage : Stage)
    → GoesOnAfter specs now new x stage → own_job new stage ≡ with_cut now x.own
own_after specs now new x (Going y) (inl h) =
    ap (λ (j : Job). with_cut j y.own) h.job_is ∙ ap (with_cut now) h.own_is
own_after specs now new x (Going y) (inr h) =
    ap (λ (j : Job). with_cut j y.own) h.job_is
    ∙ ap (λ (z : UnderWay). with_cut now z.own) h.same
own_after specs now new x (Over result) h = h.job_is

-- ---- turns that are left

module _ (specs : List Spec) (now : Job) (x : UnderWay) (mid : Runs) where
  abbrev y : UnderWay
  y = record x { run = mid }

  anew_less : (new : Job) (z : UnderWay) → HasCutAnew specs now new y z
      → turns_left new (Going z) < turns_left now (Going x)
  anew_less new z h =
      let job : Job = with_cut now x.own in
      let c : Checkpoint = mid.core.buffers.state in
      let next : Cuts = next_cut specs job c in
      let new_is : new ≡ with_cut job next = job_next specs now new y z h in
      let anew : BeginsAnew (with_cut job next) specs job c mid.keeper z.run =
      subst (λ (j : Job). BeginsAnew j specs job c mid.keeper z.run) new_is h.begins in
      let cut : IsCut now x.next Saved mid.core = cut_is now x.next Saved mid.core h.anew in
      let few : steps_left (setup_of job) z.run.core.pace ≤ most_steps (with_cut job next) =
      fresh_few (with_cut job next) [] c (IsTrue true) (counts 0 0 0) z.run.core (λ a b. [])
      (anew.begins true [] (λ a b. []) (counts 0 0 0) (λ a b. refl) (λ t. omega arith)) in
      let same : most_steps (with_cut job next) ≡ most_steps job =
      ap (λ (n : ℕ). 2 * (n * rank_limit (setup_of job)) + rank_limit (setup_of job) + 2)
      anew.parts in
      let less : now.itlast + 1 - (c.iteration + 1) < now.itlast + 1 - x.next =
      nearer_last x.next c.iteration now.itlast cut.least cut.most in
      subst (λ (j : Job). turns_left j (Going z) < turns_left now (Going x)) (sym new_is)
      (subst (λ (u : Cuts).
      1 + (now.itlast + 1 - z.next) * (1 + most_steps (with_cut job u))
      + steps_left (setup_of job) z.run.core.pace < turns_left now (Going x)) (sym h.own_is)
      (subst (λ (n : ℕ). 1 + (now.itlast + 1 - n) * (1 + most_steps job)
      + steps_left (setup_of job) z.run.core.pace < turns_left now (Going x)) (sym h.next_is)
      (fewer_cores (now.itlast + 1 - (c.iteration + 1)) (now.itlast + 1 - x.next) (most_steps job)
      (steps_left (setup_of job) z.run.core.pace) (steps_left (setup_of now) x.run.core.pace) less
      (subst (λ (n : ℕ). steps_left (setup_of job) z.run.core.pace ≤ n) same few))))

  pub less_after : (new : Job) (stage : Stage) → GoesOnAfter specs now new y stage
      → steps_left (setup_of now) mid.core.pace < steps_left (setup_of now) x.run.core.pace
      → turns_left new stage < turns_left now (Going x)
  less_after new (Going z) (inl h) less = anew_less new z h
  less_after new (Going z) (inr h) less =
      subst (λ (j : Job). turns_left j (Going z) < turns_left now (Going x)) (sym h.job_is)
      (subst (λ (v : UnderWay). turns_left now (Going v) < turns_left now (Going x)) (sym h.same)
      (fewer_steps ((now.itlast + 1 - x.next) * (1 + most_steps (with_cut now x.own)))
      (steps_left (setup_of now) mid.core.pace) (steps_left (setup_of now) x.run.core.pace)
      less))
  less_after new (Over result) h less =
      some_left ((now.itlast + 1 - x.next) * (1 + most_steps (with_cut now x.own)))
      (steps_left (setup_of now) x.run.core.pace)

-- ---- where it is

module _ {D W : Type 0} (d : DiskGhosts D) (w : WireGhosts W) (rules : List Rule)
    (specs : List Spec) (now : Job) (x : UnderWay) (mid : Runs) (disk after : D)
    (wire wire_after : W) (meter meter_after : ℕ)
    (keeps : Keeps d w now rules (run_state x.run disk wire meter) after wire_after meter_after)
    (came : Advance)
    (moves : MovesOn (setting d w now rules) (place_at d w x.run.core disk wire meter)
    (place_at d w mid.core after wire_after meter_after))
    (waits : now.balance ≡ true → WaitsOn (setting d w now rules)
    (place_at d w x.run.core disk wire meter) (place_at d w mid.core after wire_after meter_after)
    came)
    (going : IsGoing (setting d w now rules) mid.keeper
    (place_at d w mid.core after wire_after meter_after)) where
  abbrev s : Setting
  s = setting d w now rules

  abbrev was : Place s
  was = place_at d w x.run.core disk wire meter

  abbrev is : Place s
  is = place_at d w mid.core after wire_after meter_after

  abbrev job : Job
  job = with_cut now x.own

  abbrev c : Checkpoint
  c = mid.core.buffers.state

  abbrev next : Cuts
  next = next_cut specs job c

  abbrev gone : UnderWay
  gone = record x { run = mid }

  -- another core, in the cut after the checkpoint
  module _ (new : Job) (z : UnderWay) (h : HasCutAnew specs now new gone z) where
    new_is : new ≡ with_cut job next
    new_is = job_next specs now new gone z h

    begins_next : BeginsAnew (with_cut job next) specs job c mid.keeper z.run
    begins_next = subst (λ (j : Job). BeginsAnew j specs job c mid.keeper z.run) new_is h.begins

    waits_next : CoresWait (IsTrue w.tells) (with_cut job next) rules
        (begins_in (setup_of job) (Some c))
    waits_next =
        let all : AllWait (with_cut job next) = subst AllWait new_is h.waits in
        all w.tells rules (begins_in (setup_of job) (Some c)) begins_next.can

  -- ---- it can be moved on

  module _ (can : CanGoOn d w rules specs now disk wire meter x) where
    -- with the same core
    pub able_same : is_cut_anew now x.next came mid.core ≡ false → mid.core.outcome ≡ GoesOn
        → CanGoOn d w rules specs now after wire_after meter_after gone
    able_same stays goes = record {
      ready = can.ready;
      fit = can.fit;
      going = goes;
      able = can_again d w now rules (run_state x.run disk wire meter)
          (run_state mid after wire_after meter_after) can.able keeps going;
      parts = can.parts;
      waits = λ same. waited_more s was is x.next (can.waits same) came same (waits same) stays;
    }

    -- where it is to be cut anew no message is left
    pub empty_after : came ≡ Saved → is_cut_anew now x.next Saved mid.core ≡ true
        → AreEmpty (w.queue wire_after)
    empty_after saved anew =
        let balanced : now.balance ≡ true = (cut_is now x.next Saved mid.core anew).balance in
        none_left s was is x.next (can.waits balanced)
        (subst (λ (a : Advance). WaitsOn s was is a) saved (waits balanced))

    -- with another one
    module _ (saved : came ≡ Saved) (holds : HoldsCheckpoint (setup_of now) mid.core)
        (fits : IsTrue w.tells → w.sum wire_after < 2 ^ 64) (new : Job) (z : UnderWay)
        (h : HasCutAnew specs now new gone z) where
      empty : AreEmpty (w.queue wire_after)
      empty = empty_after saved h.anew

      able_next : CanGoOn d w rules specs (with_cut job next) after wire_after meter_after z
      able_next = record {
        ready = (begins_next new z h).ready;
        fit = (begins_next new z h).routines;
        going = (begins_next new z h).going;
        able = record {
          parts = subst (λ (n : ℕ). n ≤ w.parts wire_after)
              (can.parts ∙ sym (begins_next new z h).parts)
              (subst (λ (n : ℕ). part_count (parts_of now.shape now.cut) ≤ n) (sym keeps.parts)
              can.able.parts);
          mounted = keeps.mounted;
          files = keeps.files;
          names = ap (λ (f : Folders). f.names) keeps.folders ∙ can.able.names;
          going = going_anew d w rules specs job now.cut after wire_after meter_after mid z.run
              going.kept holds empty fits (begins_next new z h);
        };
        parts = (begins_next new z h).parts
            ∙ ap (λ (u : Cuts). part_count (parts_of now.shape u)) (sym h.own_is);
        waits = λ same.
            subst (λ (n : ℕ). HaveWaited (setting d w (with_cut job next) rules) n
            (place_at d w z.run.core after wire_after meter_after)) (sym h.next_is)
            (waited_anew d w rules specs job now.cut after wire_after meter_after mid z.run
            going.kept holds empty fits (begins_next new z h) (waits_next new z h));
      }

      able_anew : CanGoOn d w rules specs new after wire_after meter_after z
      able_anew = subst (λ (j : Job). CanGoOn d w rules specs j after wire_after meter_after z)
          (sym (new_is new z h)) able_next

    pub able_after : came ≡ Saved → HoldsCheckpoint (setup_of now) mid.core
        → mid.core.outcome ≡ GoesOn → (IsTrue w.tells → w.sum wire_after < 2 ^ 64) → (new : Job)
        (stage : Stage) → GoesOnAfter specs now new gone stage
        → IsAble d w rules specs new after wire_after meter_after stage
    able_after saved holds goes fits new (Going z) (inl h) =
        able_anew saved holds fits new z h
    able_after saved holds goes fits new (Going z) (inr h) =
        subst (λ (j : Job). CanGoOn d w rules specs j after wire_after meter_after z)
        (sym h.job_is)
        (subst (λ (v : UnderWay). CanGoOn d w rules specs now after wire_after meter_after v)
        (sym h.same)
        (able_same
        (subst (λ (a : Advance). is_cut_anew now x.next a mid.core ≡ false) (sym saved) h.stays)
        goes))
    able_after saved holds goes fits new (Over result) h = tt

  -- ---- how far it is

  module _ (disk_lent : D) (wire_lent : W) (spent more : ℕ)
      (metered_so : meter_after ≡ meter + more)
      (o : IsOnWay d w rules specs job now.cut (lot disk_lent disk wire_lent wire meter spent) x)
      (disk_later : d.faults disk ≤ d.faults after)
      (wire_later : w.faults wire ≤ w.faults wire_after) where
    abbrev lot_after : Lot D W
    lot_after = lot disk_lent after wire_lent wire_after meter_after (spent + more)

    -- with the same core
    pub comes_same : is_cut_anew now x.next came mid.core ≡ false
        → ComesWaiting s o.core.found o.core.counts (d.view o.core.disk) is
    comes_same stays =
        comes_more s o.core.found o.core.counts (d.view o.core.disk) was is o.comes came moves
        waits keeps.moments x.next o.next_is stays

    pub at_same : is_cut_anew now x.next came mid.core ≡ false
        → IsOnWay d w rules specs job now.cut lot_after gone
    at_same stays =
        on_way d w rules specs job now.cut disk_lent disk after wire_lent wire wire_after meter
        meter_after spent more metered_so x o keeps disk_later wire_later gone refl
        (comes_same stays)

    -- with another one
    module _ (saved : came ≡ Saved) (laws : DriveLaws (IsTrue w.tells) now rules)
        (holds : HoldsCheckpoint (setup_of now) mid.core)
        (fits : IsTrue w.tells → w.sum wire_after < 2 ^ 64) (new : Job) (z : UnderWay)
        (h : HasCutAnew specs now new gone z) where
      balanced : now.balance ≡ true
      balanced = (cut_is now x.next Saved mid.core h.anew).balance

      gathered : IsGathered s o.core.found o.core.counts (d.view o.core.disk) is
      gathered =
          gathers s o.core.found o.core.counts (d.view o.core.disk) was is o.comes came moves
          waits keeps.moments saved balanced

      at_next : IsOnWay d w rules specs job next lot_after z
      at_next =
          on_way_anew d w rules specs job now.cut disk_lent disk after wire_lent wire wire_after
          meter meter_after spent more metered_so x o keeps disk_later wire_later mid laws gathered
          balanced z h.next_is
          (comes_anew d w rules specs job now.cut after wire_after meter_after mid z.run going.kept
          holds gathered.gathered.none_left fits (begins_next new z h) (waits_next new z h))

      at_anew : IsOnWay d w rules specs (with_cut new z.own) new.cut lot_after z
      at_anew =
          subst (λ (j : Job). IsOnWay d w rules specs (with_cut j z.own) j.cut lot_after z)
          (sym (new_is new z h))
          (subst (λ (u : Cuts). IsOnWay d w rules specs (with_cut job u) next lot_after z)
          (sym h.own_is) at_next)

    pub at_after : came ≡ Saved → DriveLaws (IsTrue w.tells) now rules
        → HoldsCheckpoint (setup_of now) mid.core
        → (IsTrue w.tells → w.sum wire_after < 2 ^ 64)
        → (d.tells → (d.view disk_lent).images (d.view disk_lent).seen)
        → (now.balance ≡ true → StaysBelow s was
        (counts meter_after (w.received wire_after) (w.sum wire_after)))
        → (new : Job) (stage : Stage) → GoesOnAfter specs now new gone stage
        → IsAt d w rules specs new lot_after stage
    at_after saved laws holds fits reads below new (Going z) (inl h) =
        at_anew saved laws holds fits new z h
    at_after saved laws holds fits reads below new (Going z) (inr h) =
        subst (λ (j : Job). IsOnWay d w rules specs (with_cut j z.own) j.cut lot_after z)
        (sym h.job_is)
        (subst (λ (v : UnderWay). IsOnWay d w rules specs (with_cut now v.own) now.cut lot_after v)
        (sym h.same)
        (at_same
        (subst (λ (a : Advance). is_cut_anew now x.next a mid.core ≡ false) (sym saved) h.stays)))
    at_after saved laws holds fits reads below new (Over result) h =
        subst (λ (r : Result Cores DriveFault). IsOver d w rules specs new lot_after r)
        (sym h.result_is)
        (subst (λ (j : Job). IsOver d w rules specs j lot_after (Err faults.Memory))
        (sym h.job_is)
        (stopped d w rules specs job now.cut disk_lent disk after wire_lent wire wire_after meter
        meter_after spent more metered_so x o keeps disk_later wire_later
        (subst (λ (j : Job). DriveLaws (IsTrue w.tells) j rules) h.job_is
        (h.laws w.tells rules)) reads faults.Memory
        (memory_stops Advance (count (d.faults disk) (d.faults after))
        (count (w.faults wire) (w.faults wire_after)) disk_later wire_later) below))
