-- One turn of a run whose parts wait for each other at checkpoints.
use Rattle.std.proofs.Common.{◌≡◌, ◌≤◌, ◌<◌, ◌+◌, ◌⊎◌, inl, inr, ℕ, zero, suc, Bool, true, false, List, [], ◌∷◌, ◌++◌, length, Option, Some, None, arith, refl, sym, ◌∙◌, ap, subst, append_assoc}
use Rattle.std.proofs.lemmas.Bool.{both_ways, cases_lt}
use Rattle.std.proofs.lemmas.List.Elements.{All-contains, All-head, All-tail}
use Rattle.std.specs.Prelude.{All, slice_get, ◌%◌, ◌^◌}
use Rattle.cx_plan.specs.declared.job.Job.{Job}
use Rattle.cx_plan.specs.Setups.{setup_of}
use Rattle.cx_rule.specs.Meter.{raised}
use Rattle.cx_rule.specs.Routine.{Rule}
use Rattle.cx_rule.specs.States.{State}
use Rattle.cx_model.specs.Runs.{Lengths}
use Rattle.cx_model.specs.Traces.{Entry, Saved as SavedState, Trace, Goes}
use Rattle.cx_cut.specs.Cuts.{Parts}
use Rattle.cx_cut.specs.Faults.{parts_of}
use Rattle.cx_wire.specs.Received.{counted}
use Rattle.cx_flat.specs.Laws.{RunsAs}
use Rattle.cx_flat.specs.declared.op.Op.{Op}
use Rattle.cx_flat.specs.declared.op.Op.TheVariants as ops
use Rattle.law_network.specs.Machine.{World, Can, After, IsNext}
use Rattle.law_network.specs.Machine as network
use Rattle.law_network.specs.Together.{AreTogether, IsGathered}
use Rattle.law_network.proofs.TogetherLaws.{parts_gather}
use Rattle.law_parts.specs.Beginnings.{Beginning, Afresh, From, run_of}
use Rattle.law_parts.specs.Ends.{noted}
use Rattle.law_parts.specs.Holding.{Held}
use Rattle.law_parts.specs.Laws.{IsReachedState}
use Rattle.law_parts.specs.Moves.{Message, Channel, buffer_of}
use Rattle.law_parts.specs.Nets.{net, within_lead}
use Rattle.law_parts.specs.Runs.{Run, Oracle, cut_of, parts_in, next_op, op_of, notes_of, guided, last_of, undivided}
use Rattle.law_parts.specs.Totals.{undivided_from}
use Rattle.law_parts.specs.Truths.{Agrees, Books, entries_of, script}
use Rattle.law_parts.specs.Work.{work, carried_count, total_sum}
use Rattle.law_parts.proofs.FitLaws.{some_part}
use Rattle.law_parts.proofs.TraceTotals.{AllQuiet, all_noted, entries_both, quiet_left}
use Rattle.law_parts.proofs.WholeRun.{IsRun}
use Rattle.law_reached.specs.Works.{handed_out}
use Rattle.law_reached.proofs.TellLaws.{count_is}
use Rattle.cx_core.specs.declared.answers.Event.{Event}
use Rattle.cx_core.specs.declared.answers.Event.TheVariants.{Save}
use Rattle.cx_core_events.specs.Shows.{PaceTells}
use Rattle.cx_core.specs.Cores.{ahead_in, enabled_in}
use Rattle.cx_core.specs.Gathered.{CoresGather, is_save, saves}
use Rattle.cx_core.specs.Hands.{LiesAhead, Stands, StepsTo}
use Rattle.cx_core.specs.Steps.{Answers, AnswersWork, AreEnabled, Counts, IsAt, Rises, Standing, rank, work_event}
use Rattle.cx_run_loop.specs.CoresWait.{CoresWait, IsTogether, SpendsBelow}
use Rattle.cx_run_loop.specs.Sums.{AreUnsaved}
use Rattle.cx_run_loop.specs.Waiting.{HasCounted}
use Rattle.cx_run_loop.proofs.GatherCounts.{AreNone, CountsTo, entries_more, gathered_counts, none_noted, noted_more, notes_saved, op_is, save_is, saved_there, spent_is, works_unsaved}
use Rattle.cx_run_loop.proofs.OneList.{Rising, one_list, there_below}
use Rattle.cx_run_loop.proofs.WaitCounts.{SpendsWithAll, spends_below}

-- ---- events in their order

rising : (f : network.Event → ℕ) (es : List network.Event) → Rises f es → Rising f es
rising f [] r = tt
rising f (e ∷ es) r = (r.0, rising f es r.1)

-- the events that can happen are one list
one_events : (tells : Type 0) (r : Run) (o : Oracle)
    (w : World Held (Message tells) Channel Lengths) (es fs : List network.Event)
    → AreEnabled tells r o w es → AreEnabled tells r o w fs → es ≡ fs
one_events tells r o w es fs a b =
    one_list (rank (parts_in r)) es fs
    (rising (rank (parts_in r)) es a.order) (rising (rank (parts_in r)) fs b.order)
    (λ e in_es. b.all e
    (All-contains (λ (d : network.Event). Can (net tells within_lead r o) w d) es e a.each in_es))
    (λ e in_fs. a.all e
    (All-contains (λ (d : network.Event). Can (net tells within_lead r o) w d) fs e b.each in_fs))

-- an event that doesn't lie ahead by its number, by what it is
lies_not : (tells : Type 0) (r : Run) (trace : Trace) (first : Counts) (k : ℕ)
    (was is : Standing tells) (at : IsAt tells r first was.core was.queue was.now) (event : Event)
    → (s : StepsTo tells r trace first k was is at event) → Stands tells r trace first was at
    → ahead_in was.core k ≡ false → LiesAhead r at.oracle at.world (Some s.does.which) → ⊥
lies_not tells r trace first k was is at event s stands fails lies =
    let one : stands.events ≡ s.does.events =
    one_events tells r at.oracle at.world stands.events s.does.events stands.enabled
    s.does.enabled in
    let kth : slice_get stands.events k ≡ Some s.does.which =
    ap (λ (es : List network.Event). slice_get es k) one ∙ s.does.kth in
    let below : k < length stands.events = there_below stands.events k s.does.which kth in
    let count : enabled_in was.core ≡ length stands.events = stands.count in
    both_ways (ahead_in was.core k) fails
    ((stands.ahead k (omega (arith, below, count))).1
    (subst (λ (e : Option network.Event). LiesAhead r at.oracle at.world e) (sym kth) lies))

-- ---- a checkpoint that was just saved

-- that it is the writer's work at a place
pub record WritesAt (tells : Type 0) (r : Run) (o : Oracle)
    (w v : World Held (Message tells) Channel Lengths) : Type 0 where
  pub place : ℕ
  pub next : IsNext (net tells within_lead r o) w place
  pub saves_there : is_save (next_op r (guided r o place).control) ≡ true
  pub places : v.place ≡ w.place
  pub meter : v.meter ≡ w.meter

work_saves : (o : Op) (iteration c : ℕ) → Save c ≡ work_event o iteration → is_save o ≡ true
work_saves ops.Save iteration c e = refl
work_saves (ops.Sweep k) iteration c e = absurd cc
work_saves (ops.Apply k) iteration c e = absurd cc
work_saves (ops.Give k) iteration c e = absurd cc
work_saves (ops.Join k) iteration c e = absurd cc
work_saves (ops.Post d vars) iteration c e = absurd cc
work_saves (ops.Take d vars path) iteration c e = absurd cc
work_saves (ops.Test v path skip) iteration c e = absurd cc
work_saves ops.Open iteration c e = absurd cc
work_saves (ops.Turn v path skip) iteration c e = absurd cc
work_saves (ops.Again back) iteration c e = absurd cc
work_saves ops.Rotate iteration c e = absurd cc
work_saves (ops.Due skip) iteration c e = absurd cc
work_saves (ops.Written skip) iteration c e = absurd cc
work_saves (ops.Skip skip) iteration c e = absurd cc
work_saves (ops.Next back) iteration c e = absurd cc
work_saves (ops.Piece v) iteration c e = absurd cc
work_saves ops.Halt iteration c e = absurd cc

nth : {A : Type 0} (P : A → Type 0) (xs : List A) (k : ℕ) (x : A) → All P xs
    → slice_get xs k ≡ Some x → P x
nth P [] k x all e = absurd cc
nth P (y ∷ ys) zero x all e = subst P (some_is y x e) (All-head P y ys all)
  where
    some_is : {A : Type 0} (a b : A) → Some a ≡ Some b → a ≡ b
    some_is a b q = cc
nth P (y ∷ ys) (suc k) x all e = nth P ys k x (All-tail P y ys all) e

writes_at : (tells : Type 0) (r : Run) (trace : Trace) (first : Counts) (k c : ℕ)
    (was is : Standing tells) (at : IsAt tells r first was.core was.queue was.now)
    → (s : StepsTo tells r trace first k was is at (Save c))
    → WritesAt tells r at.oracle at.world s.there.world
writes_at tells r trace first k c was is at s =
    by s.does.which
    (nth (λ (e : network.Event). Can (net tells within_lead r at.oracle) at.world e)
    s.does.events k s.does.which s.does.enabled.each s.does.kth) s.does.after s.does.answers
  where
    answered : (n : ℕ) (over : Option ℕ) → AnswersWork r at.oracle n over (Save c)
        → is_save (next_op r (guided r at.oracle n).control) ≡ true
    answered n None e = work_saves (next_op r (guided r at.oracle n).control)
        (guided r at.oracle n).control.iteration c e
    answered n (Some m) e = absurd cc

    places : (n : ℕ) → After (net tells within_lead r at.oracle) at.world (network.Write n)
        s.there.world → s.there.world.place ≡ at.world.place
    places n (inl (book, writes, e)) =
        ap (λ (w : World Held (Message tells) Channel Lengths). w.place) e
    places n (inr (writes, e)) =
        ap (λ (w : World Held (Message tells) Channel Lengths). w.place) e

    meters : (n : ℕ) → After (net tells within_lead r at.oracle) at.world (network.Write n)
        s.there.world → s.there.world.meter ≡ at.world.meter
    meters n (inl (book, writes, e)) =
        ap (λ (w : World Held (Message tells) Channel Lengths). w.meter) e
    meters n (inr (writes, e)) =
        ap (λ (w : World Held (Message tells) Channel Lengths). w.meter) e

    by : (e : network.Event) → Can (net tells within_lead r at.oracle) at.world e
        → After (net tells within_lead r at.oracle) at.world e s.there.world
        → Answers r at.oracle e s.there.world (Save c)
        → WritesAt tells r at.oracle at.world s.there.world
    by (network.Part j) can step answers = absurd cc
    by (network.Write n) can step answers = record {
      place = n;
      next = can;
      saves_there = answered n s.there.world.over answers;
      places = places n step;
      meter = meters n step;
    }
    by network.End can step answers = absurd cc

-- two ways to an unsaved front before a checkpoint place are one
pub same_front : (a b d e : List Entry) (i j : ℕ) (s u : State) → AreUnsaved a → AreUnsaved d
    → a ++ SavedState i s ∷ b ≡ d ++ SavedState j u ∷ e → a ≡ d
same_front [] b [] e i j s u x y same = refl
same_front [] b (z ∷ d) e i j s u x y same =
    let h : SavedState i s ≡ z = cc in
    absurd (subst AreUnsaved (ap (λ (w : Entry). w ∷ d) (sym h)) y).0
same_front (z ∷ a) b [] e i j s u x y same =
    let h : z ≡ SavedState j u = cc in
    absurd (subst AreUnsaved (ap (λ (w : Entry). w ∷ a) h) x).0
same_front (z ∷ a) b (w ∷ d) e i j s u x y same =
    let h : z ≡ w = cc in
    let t : a ++ SavedState i s ∷ b ≡ d ++ SavedState j u ∷ e = cc in
    ap (λ (v : Entry). v ∷ a) h ∙ ap (λ (l : List Entry). w ∷ l)
    (same_front a b d e i j s u x.1 y.1 t)

-- what was counted, by the entries before the place
module _ (tells : Type 0) (t : tells) (r : Run) (run : IsRun r) (trace : Trace)
    (runs : RunsAs r.setup r.rules r.first r.so_far trace) (o p : Oracle)
    (w v : World Held (Message tells) Channel Lengths) (st : IsReachedState tells r o w)
    (now : IsReachedState tells r p v) (writes : WritesAt tells r o w v)
    (together : AreTogether (net tells within_lead r o) (saves r o) w)
    (unsaved : AreUnsaved (handed_out r w)) (last : State) (goes : trace.outcome ≡ Goes last) where
  abbrev n : ℕ
  n = writes.place

  here : IsGathered (net tells within_lead r o) (script tells r o) w n
  here = (parts_gather (net tells within_lead r o) (script tells r o) (Agrees tells r o)
      (Books tells r)).gathers (saves r o) (works o) w n st.woven together writes.next
      writes.saves_there
    where
      works : (o : Oracle) (m : ℕ) → saves r o m ≡ true
          → (b : ℕ) × (buffer_of r (next_op r (guided r o m).control) ≡ Some b)
      works o m e = (_, ap (buffer_of r) (save_is (next_op r (guided r o m).control) e))

  op_saves : op_of r n ≡ ops.Save
  op_saves = sym (op_is tells t r run o w st n)
      ∙ save_is (next_op r (guided r o n).control) writes.saves_there

  below : n < runs.count
  below =
      let a : w.place 0 ≡ suc n = here.places 0 (some_part r run) in
      let b : w.place 0 ≤ last_of r o = st.woven.within 0 (some_part r run) in
      let c : last_of r o ≡ runs.count = count_is tells r run o st.oracle_is t trace runs in
      omega (arith, a, b, c)

  -- no other was saved before it
  pub none : AreNone r n
  none j l = go (is_save (op_of r j)) refl (cases_lt j w.wrote)
    where
      go : (b : Bool) → is_save (op_of r j) ≡ b → (j < w.wrote) ⊎ (w.wrote ≤ j)
          → is_save (op_of r j) ≡ false
      go false e early = e
      go true e (inl m) =
          absurd (saved_there r j w.wrote m (save_is (op_of r j) e)
          (works_unsaved (entries_of (noted r w.wrote)) unsaved))
      go true e (inr m) =
          absurd (writes.next.none_before j m l
          (_, ap (buffer_of r) (op_is tells t r run o w st j ∙ save_is (op_of r j) e)))

  pub counts_at : CountsTo tells t r run p v now n
  counts_at =
      gathered_counts tells t r run p v now n op_saves quiet
      (λ k l. ap (λ (f : ℕ → ℕ). f k) writes.places ∙ here.places k l)
      (λ i. ap (λ (f : ℕ → ℕ). f i) writes.meter ∙ here.meter i
      ∙ spent_is tells t r run o w st i (suc n) ∙ sym (spent_is tells t r run p v now i (suc n)))
    where
      quiet : AllQuiet (noted r n)
      quiet =
          let more = noted_more r n runs.count (omega (arith, below)) in
          quiet_left (noted r n) more.0
          (subst AllQuiet more.1 (all_noted r trace runs last goes).0)

  -- the entries before it are those before the first checkpoint place of the run
  pub front_is : (earlier later : List Entry) (c : ℕ) (s : State) → AreUnsaved earlier
      → trace.entries ≡ earlier ++ SavedState c s ∷ later → entries_of (noted r n) ≡ earlier
  front_is earlier later c s u there =
      let more = entries_more r (suc n) runs.count (omega (arith, below)) in
      let next : entries_of (noted r (suc n))
      ≡ entries_of (noted r n)
      ++ SavedState (undivided r n).control.iteration (undivided r n).state ∷ [] =
      entries_both (noted r n) (notes_of r n)
      ∙ ap (λ (l : List Entry). entries_of (noted r n) ++ l) (notes_saved r n op_saves) in
      let all : trace.entries
      ≡ entries_of (noted r n)
      ++ SavedState (undivided r n).control.iteration (undivided r n).state ∷ more.0 =
      (all_noted r trace runs last goes).1 ∙ more.1
      ∙ ap (λ (l : List Entry). l ++ more.0) next
      ∙ append_assoc (entries_of (noted r n))
      (SavedState (undivided r n).control.iteration (undivided r n).state ∷ []) more.0 in
      same_front (entries_of (noted r n)) more.0 earlier later
      (undivided r n).control.iteration c (undivided r n).state s (none_noted r n none) u
      (sym all ∙ there)

-- ---- the law

-- by the job's setup and cut
counted_by : (job : Job) (rules : List Rule) (b : Beginning) (es : List Entry) (first now : Counts)
    → HasCounted (run_of job rules b).setup (cut_of (run_of job rules b)) es first now
    → HasCounted (setup_of job) (parts_of job.shape job.cut) es first now
counted_by job rules Afresh es first now h = h
counted_by job rules (From c state so_far) es first now h = h

below_by : (tells : Type 0) (job : Job) (rules : List Rule) (b : Beginning) (first : Counts)
    (is : Standing tells) (at : IsAt tells (run_of job rules b) first is.core is.queue is.now)
    (k : ℕ) (again : State → Parts)
    → SpendsWithAll (run_of job rules b) (undivided_from (setup_of job) rules b) at.world.meter
    is.core.pace k
    → SpendsBelow tells job rules b first is at k again
below_by tells job rules Afresh first is at k again h =
    record { points = h.points again; values = h.values again }
below_by tells job rules (From c state so_far) first is at k again h =
    record { points = h.points again; values = h.values again }

module _ (tells : Type 0) (job : Job) (rules : List Rule) (b : Beginning)
    (run : IsRun (run_of job rules b))
    (runs : RunsAs (run_of job rules b).setup (run_of job rules b).rules (run_of job rules b).first
    (run_of job rules b).so_far (undivided_from (setup_of job) rules b))
    (pace : PaceTells tells (run_of job rules b))
    (gather : CoresGather tells (run_of job rules b) (undivided_from (setup_of job) rules b))
    (stands : (first : Counts) (is : Standing tells)
    (at : IsAt tells (run_of job rules b) first is.core is.queue is.now)
    → Stands tells (run_of job rules b) (undivided_from (setup_of job) rules b) first is at) where
  abbrev r : Run
  r = run_of job rules b

  abbrev trace : Trace
  trace = undivided_from (setup_of job) rules b

  counts_here : (t : tells) (first : Counts) (k c : ℕ) (was is : Standing tells)
      (at : IsAt tells r first was.core was.queue was.now)
      → (s : StepsTo tells r trace first k was is at (Save c))
      → IsTogether tells r first was at → AreUnsaved (handed_out r at.world) → (last : State)
      → trace.outcome ≡ Goes last
      → (earlier later : List Entry) (n : ℕ) (state : State) → AreUnsaved earlier
      → trace.entries ≡ earlier ++ SavedState n state ∷ later
      → HasCounted r.setup (cut_of r) earlier first is.now
  counts_here t first k c was is at s together unsaved last goes earlier later n state u there =
      let writes = writes_at tells r trace first k c was is at s in
      let front = front_is tells t r run trace runs at.oracle s.there.oracle at.world s.there.world
      at.reached s.there.reached writes together unsaved last goes earlier later n state u there in
      let all = counts_at tells t r run trace runs at.oracle s.there.oracle at.world s.there.world
      at.reached s.there.reached writes together unsaved last goes in
      record {
        points = s.there.points ∙ ap (λ (m : ℕ). raised first.points m)
            (all.points ∙ ap (λ (es : List Entry). work r.setup (cut_of r) es) front);
        values = s.there.values ∙ ap (λ (m : ℕ). counted first.values m)
            (all.values ∙ ap (λ (es : List Entry). carried_count r.setup (cut_of r) es) front);
        sum = s.there.sum t ∙ ap (λ (m : ℕ). (first.sum + m) % 2 ^ 64)
            (all.sum ∙ ap (λ (es : List Entry). total_sum r.setup (cut_of r) es) front);
      }

  pub cores_wait : CoresWait tells job rules b
  cores_wait = record {
    begins = λ first core queue x. gather.begins first core queue x;
    keeps = λ first k was is at event s fails together.
        gather.keeps first k was is at event s together
        (lies_not tells r trace first k was is at event s (stands first was at) fails);
    none_left = λ first k c was is at s together. gather.none_left first k c was is at s together;
    counted = λ t first k c was is at s together unsaved last goes earlier later n state u there.
        counted_by job rules b earlier first is.now
        (counts_here t first k c was is at s together unsaved last goes earlier later n state u
        there);
    below = λ t first k is at fails together unsaved last goes again.
        below_by tells job rules b first is at k again
        (spends_below tells r run trace runs pace t at.oracle at.world is.core.pace at.reached
        at.shows.pace last goes together unsaved k fails);
  }
