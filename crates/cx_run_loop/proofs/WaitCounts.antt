-- Parts that wait for each other count no more than the entries before the next checkpoint place.
use Rattle.std.proofs.Common.{◌≡◌, ◌≤◌, ◌<◌, ◌+◌, ℕ, suc, ◌⊎◌, inl, inr, true, false, List, ◌++◌, Option, Some, None, arith, refl, sym, ◌∙◌, ap, subst}
use Rattle.std.proofs.lemmas.Bool.{both_ways, cases_lt}
use Rattle.std.specs.Prelude.{slice_get}
use Rattle.cx_rule.specs.States.{State}
use Rattle.cx_cut.specs.Cuts.{Parts}
use Rattle.cx_model.specs.Runs.{Lengths}
use Rattle.cx_model.specs.Traces.{Entry, Trace, Goes}
use Rattle.cx_flat.proofs.AtLaws.{halt_is}
use Rattle.cx_flat.specs.Flats.{ends_pair}
use Rattle.cx_flat.specs.Laws.{RunsAs}
use Rattle.cx_flat.specs.declared.op.Op.{Op}
use Rattle.cx_flat.specs.declared.op.Op.TheVariants.{Save}
use Rattle.law_network.specs.Machine.{World, CanMove, sum_below}
use Rattle.law_network.specs.Agreement.{Fits, spent}
use Rattle.law_network.specs.Together.{AreTogether, IsNextMark}
use Rattle.law_parts.specs.Ends.{noted}
use Rattle.law_parts.specs.Holding.{Held}
use Rattle.law_parts.specs.Laws.{IsReachedState}
use Rattle.law_parts.specs.Moves.{Message, Channel}
use Rattle.law_parts.specs.Nets.{net, within_lead, costs}
use Rattle.law_parts.specs.Runs.{Run, Oracle, cut_of, parts_in, next_op, op_of, guided, last_of}
use Rattle.law_parts.specs.Truths.{Agrees, Books, GivesAt, entries_of, script}
use Rattle.law_parts.specs.Work.{work, carried_count}
use Rattle.law_parts.proofs.DoneTotals.{halted_there}
use Rattle.law_parts.proofs.TraceTotals.{AllQuiet, all_noted, quiet_left}
use Rattle.law_parts.proofs.WholeRun.{IsRun}
use Rattle.law_reached.specs.Works.{handed_out}
use Rattle.law_reached.proofs.TellLaws.{count_is, fits}
use Rattle.cx_core_events.specs.Events.{events, has_saved, lies_ahead}
use Rattle.cx_core_events.specs.Paces.{Paces}
use Rattle.cx_core_events.specs.Shows.{IsNextSave, PaceTells, ShowsPace, TellsEvents}
use Rattle.cx_core_events.specs.declared.standing.Next.{Next}
use Rattle.cx_core_events.specs.declared.standing.Next.TheVariants as next
use Rattle.cx_core.specs.Gathered.{is_save, saves}
use Rattle.cx_core.specs.Steps.{event_costs}
use Rattle.cx_run_loop.specs.Sums.{AreUnsaved, carried_in, work_in}
use Rattle.cx_run_loop.proofs.GatherCounts.{First, entries_more, first_save, none_noted, noted_more, op_is, points_to, save_is, saved_there, spent_all, spent_saved_at, values_to, works_unsaved}
use Rattle.cx_run_loop.proofs.SumLaws.{count_later, work_later}
use Rattle.cx_run_loop.proofs.WithinLaws.{no_stop, sum_le, sum_le_more, sum_longer}

-- what the parts have counted, with what one more event costs, is within what entries count,
-- however
-- the grid is cut anew
pub record SpendsWithAll (r : Run) (trace : Trace) (meter : ℕ → ℕ) (p : Paces) (k : ℕ)
    : Type 0 where
  pub points : (again : State → Parts)
      → meter 0 + event_costs r p (slice_get (events p) k) 0
      ≤ work_in r.setup again (cut_of r) trace.entries
  pub values : (again : State → Parts)
      → meter 1 + event_costs r p (slice_get (events p) k) 1
      ≤ carried_in r.setup again (cut_of r) trace.entries

module _ (tells : Type 0) (r : Run) (run : IsRun r) (trace : Trace)
    (runs : RunsAs r.setup r.rules r.first r.so_far trace) (pace : PaceTells tells r) (t : tells)
    (o : Oracle) (w : World Held (Message tells) Channel Lengths) (p : Paces)
    (st : IsReachedState tells r o w) (shown : ShowsPace tells r o w p) (last : State)
    (goes : trace.outcome ≡ Goes last)
    (together : AreTogether (net tells within_lead r o) (saves r o) w)
    (unsaved : AreUnsaved (handed_out r w)) where
  mark : First r runs.count
  mark = first_save r runs.count

  abbrev m : ℕ
  m = mark.place

  abbrev spent_by : ℕ → ℕ → ℕ → ℕ
  spent_by i k n = spent (net tells within_lead r o) i k n

  -- ---- the next checkpoint place

  written : op_of r m ≡ Save → w.wrote ≤ m
  written e = go (cases_lt m w.wrote)
    where
      go : (m < w.wrote) ⊎ (w.wrote ≤ m) → w.wrote ≤ m
      go (inl l) =
          absurd (saved_there r m w.wrote l e (works_unsaved (entries_of (noted r w.wrote))
          unsaved))
      go (inr l) = l

  is_next : m < runs.count → op_of r m ≡ Save → IsNextMark (saves r o) w.wrote m
  is_next l e = record {
    from = written e;
    marked = ap is_save (op_is tells t r run o w st m ∙ e);
    none_before = λ j a b marked. both_ways (is_save (op_of r j)) (mark.none j b)
        (sym (ap is_save (op_is tells t r run o w st j)) ∙ marked);
  }

  -- ---- what each part has spent

  last_is : last_of r o ≡ runs.count
  last_is = count_is tells r run o st.oracle_is t trace runs

  within : (k : ℕ) → k < parts_in r → w.place k ≤ runs.count
  within k l = let a : w.place k ≤ last_of r o = st.woven.within k l in
      omega (arith, a, last_is)

  -- up to a place that isn't past the next one, or just past it
  spent_to : (i k n : ℕ) → (n ≤ m) ⊎ ((n ≤ suc m) × (op_of r m ≡ Save))
      → spent_by i k n ≤ spent_by i k m
  spent_to i k n (inl l) =
      sum_longer m n (λ j. costs r i k (next_op r (guided r o j).control)) l
  spent_to i k n (inr (l, e)) =
      let a : spent_by i k n ≤ spent_by i k (suc m) =
      sum_longer (suc m) n (λ j. costs r i k (next_op r (guided r o j).control)) l in
      let b : spent_by i k (suc m) ≡ spent_by i k m = spent_saved_at tells t r run o w st i k m e in
      omega (arith, a, b)

  place_spent : (i k : ℕ) → k < parts_in r → spent_by i k (w.place k) ≤ spent_by i k m
  place_spent i k l = spent_to i k (w.place k) (go mark.saves)
    where
      go : (m ≡ runs.count) ⊎ ((m < runs.count) × (op_of r m ≡ Save))
          → (w.place k ≤ m) ⊎ ((w.place k ≤ suc m) × (op_of r m ≡ Save))
      go (inl end) = inl (let a : w.place k ≤ runs.count = within k l in omega (arith, a, end))
      go (inr early) = inr (together.places m k (is_next early.0 early.1) l, early.1)

  stop : w.stop ≡ r.most
  stop = no_stop tells r run trace runs pace t o w p st shown last goes

  meter_most : (i : ℕ) → w.meter i ≤ spent_all tells t r run o w st i m
  meter_most i =
      let a : sum_below (parts_in r) (λ k. spent_by i k (w.place k))
      ≤ sum_below (parts_in r) (λ k. spent_by i k m) =
      sum_le (parts_in r) (λ k. spent_by i k (w.place k)) (λ k. spent_by i k m)
      (λ k l. place_spent i k l) in
      let b : w.meter i ≡ sum_below (parts_in r) (λ k. spent_by i k (w.place k)) =
      st.woven.meter i stop in
      omega (arith, a, b)

  -- ---- with the next operation of a part that waits

  fitted : Fits (net tells within_lead r o) (script tells r o) (Agrees tells r o) (GivesAt r o)
      (Books tells r)
  fitted = fits tells r run o st.oracle_is t

  halts_not : (j : ℕ) → CanMove (net tells within_lead r o) w j → w.place j < last_of r o
  halts_not j can = go (cases_lt (w.place j) (last_of r o)) (st.woven.within j can.part)
    where
      looks : (w.held j).control ≡ (guided r o (w.place j)).control
      looks = fitted.looks j (w.place j) (w.held j) can.part (st.woven.agrees j can.part)

      halts_at : (n : ℕ) → n ≡ last_of r o
          → (net tells within_lead r o).halts (guided r o n).control ≡ true
      halts_at n same =
          ap (λ (i : ℕ). (net tells within_lead r o).halts (guided r o i).control) same
          ∙ fitted.halted

      go : (w.place j < last_of r o) ⊎ (last_of r o ≤ w.place j) → w.place j ≤ last_of r o
          → w.place j < last_of r o
      go (inl below) le = below
      go (inr past) le =
          let same : w.place j ≡ last_of r o = omega (arith, past, le) in
          absurd (both_ways ((net tells within_lead r o).halts (w.held j).control) can.left_over
          (ap (net tells within_lead r o).halts looks ∙ halts_at (w.place j) same))

  moves : (i j : ℕ) → CanMove (net tells within_lead r o) w j
      → ((n : ℕ) → IsNextMark (saves r o) w.wrote n → w.place j ≤ n)
      → w.meter i + costs r i j (next_op r (w.held j).control) ≤ spent_all tells t r run o w st i m
  moves i j can waits =
      let looks : (w.held j).control ≡ (guided r o (w.place j)).control =
      fitted.looks j (w.place j) (w.held j) can.part (st.woven.agrees j can.part) in
      let below : w.place j < last_of r o = halts_not j can in
      let here : spent_by i j (suc (w.place j)) ≤ spent_by i j m =
      spent_to i j (suc (w.place j)) (go (omega (arith, below, last_is)) mark.saves) in
      let a : sum_below (parts_in r) (λ k. spent_by i k (w.place k))
      + costs r i j (next_op r (guided r o (w.place j)).control)
      ≤ sum_below (parts_in r) (λ k. spent_by i k m) =
      sum_le_more (parts_in r) j (costs r i j (next_op r (guided r o (w.place j)).control))
      (λ k. spent_by i k (w.place k)) (λ k. spent_by i k m) can.part here
      (λ k l. place_spent i k l) in
      let b : w.meter i ≡ sum_below (parts_in r) (λ k. spent_by i k (w.place k)) =
      st.woven.meter i stop in
      subst (λ c. w.meter i + costs r i j (next_op r c) ≤ spent_all tells t r run o w st i m)
      (sym looks) (omega (arith, a, b))
    where
      go : w.place j < runs.count → (m ≡ runs.count) ⊎ ((m < runs.count) × (op_of r m ≡ Save))
          → (suc (w.place j) ≤ m) ⊎ ((suc (w.place j) ≤ suc m) × (op_of r m ≡ Save))
      go below (inl end) = inl (omega (arith, below, end))
      go below (inr early) =
          let le : w.place j ≤ m = waits m (is_next early.0 early.1) in
          inr (omega (arith, le), early.1)

  told : TellsEvents tells r o w p
  told = pace.events o w p st shown

  waits_at : (j : ℕ) → j < parts_in r → has_saved p j ≡ false → (n : ℕ)
      → IsNextMark (saves r o) w.wrote n → w.place j ≤ n
  waits_at j part fails n coming = go (cases_lt n (w.place j))
    where
      behind : IsNextSave r o w.wrote n
      behind = record {
        from = coming.from;
        save = save_is (next_op r (guided r o n).control) coming.marked;
        none_before = λ i a b e. coming.none_before i a b (ap is_save e);
      }

      go : (n < w.place j) ⊎ (w.place j ≤ n) → w.place j ≤ n
      go (inl l) =
          absurd (both_ways (has_saved p j) fails ((told.behind j part).1 (n, behind, l)))
      go (inr l) = l

  spends : (i k : ℕ) → lies_ahead p (slice_get (events p) k) ≡ false
      → w.meter i + event_costs r p (slice_get (events p) k) i ≤ spent_all tells t r run o w st i m
  spends i k = go (slice_get (events p) k) refl
    where
      stay : w.meter i + 0 ≤ spent_all tells t r run o w st i m
      stay = let a : w.meter i ≤ spent_all tells t r run o w st i m = meter_most i in
          omega (arith, a)

      go : (e : Option Next) → slice_get (events p) k ≡ e → lies_ahead p e ≡ false
          → w.meter i + event_costs r p e i ≤ spent_all tells t r run o w st i m
      go (Some (next.Part j)) is fails =
          let can : CanMove (net tells within_lead r o) w j =
          told.events.each k (next.Part j) is in
          subst (λ (q : Op). w.meter i + costs r i j q ≤ spent_all tells t r run o w st i m)
          (sym (told.op j can.part)) (moves i j can (waits_at j can.part fails))
      go (Some next.Write) is fails = stay
      go (Some next.End) is fails = stay
      go None is fails = stay

  -- ---- the entries before it

  quiet : AllQuiet (noted r m)
  quiet =
      let more = noted_more r m runs.count mark.within in
      quiet_left (noted r m) more.0
      (subst AllQuiet more.1 (all_noted r trace runs last goes).0)

  apart : ends_pair (op_of r m) ≡ None
  apart = go mark.saves
    where
      go : (m ≡ runs.count) ⊎ ((m < runs.count) × (op_of r m ≡ Save))
          → ends_pair (op_of r m) ≡ None
      go (inl end) =
          ap (λ (n : ℕ). ends_pair (op_of r n)) end
          ∙ ap (λ (q : Op). ends_pair q)
          (halt_is (op_of r runs.count) (halted_there r run trace runs))
      go (inr early) = ap (λ (q : Op). ends_pair q) early.1

  abbrev before : List Entry
  before = entries_of (noted r m)

  split : (rest : List Entry) × (trace.entries ≡ before ++ rest)
  split =
      let more = entries_more r m runs.count mark.within in
      (more.0, (all_noted r trace runs last goes).1 ∙ more.1)

  pub spends_below : (k : ℕ) → lies_ahead p (slice_get (events p) k) ≡ false
      → SpendsWithAll r trace w.meter p k
  spends_below k fails = record {
    points = λ again.
        let a = spends 0 k fails in
        let b : spent_all tells t r run o w st 0 m ≡ work r.setup (cut_of r) before =
        points_to tells t r run o w st m quiet in
        let c : work r.setup (cut_of r) before
        ≤ work_in r.setup again (cut_of r) (before ++ split.0) =
        work_later r.setup again (cut_of r) before split.0 (none_noted r m mark.none) in
        subst (λ (es : List Entry). w.meter 0 + event_costs r p (slice_get (events p) k) 0
        ≤ work_in r.setup again (cut_of r) es) (sym split.1) (omega (arith, a, b, c));
    values = λ again.
        let a = spends 1 k fails in
        let b : spent_all tells t r run o w st 1 m ≡ carried_count r.setup (cut_of r) before =
        values_to tells t r run o w st m apart in
        let c : carried_count r.setup (cut_of r) before
        ≤ carried_in r.setup again (cut_of r) (before ++ split.0) =
        count_later r.setup again (cut_of r) before split.0 (none_noted r m mark.none) in
        subst (λ (es : List Entry). w.meter 1 + event_costs r p (slice_get (events p) k) 1
        ≤ carried_in r.setup again (cut_of r) es) (sym split.1) (omega (arith, a, b, c));
  }
