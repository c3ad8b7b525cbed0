-- A run in parts that comes to its last place has counted no more than its entries say, at any
-- moment.
use Rattle.std.proofs.Common.{◌≡◌, ◌≤◌, ◌<◌, ◌+◌, ℕ, zero, suc, ◌⊎◌, inl, inr, true, false, List, [], ◌∷◌, arith, refl, sym, ◌∙◌, ap, subst}
use Rattle.std.proofs.lemmas.Bool.{both_ways, cases_lt}
use Rattle.std.specs.Prelude.{Option, Some, None, is_some, slice_get}
use Rattle.cx_plan.specs.declared.job.Job.{Job}
use Rattle.cx_plan.specs.Setups.{setup_of}
use Rattle.cx_cut.specs.Faults.{parts_of}
use Rattle.cx_rule.specs.Meter.{raised}
use Rattle.cx_rule.specs.Routine.{Rule}
use Rattle.cx_rule.specs.States.{State}
use Rattle.cx_model.specs.Courses.{Note}
use Rattle.cx_model.specs.Runs.{Lengths}
use Rattle.cx_model.specs.Traces.{Entry, Trace, Goes}
use Rattle.cx_wire.specs.Received.{counted}
use Rattle.cx_model.specs.declared.ends.End.{End}
use Rattle.cx_flat.specs.Flats.{Flat}
use Rattle.cx_flat.specs.Laws.{RunsAs}
use Rattle.cx_flat.specs.declared.op.Op.{Op}
use Rattle.law_network.specs.Machine.{Net, World, CanMove, sum_below}
use Rattle.law_network.specs.Agreement.{Fits, Script, Woven, spent}
use Rattle.law_network.proofs.Put as put
use Rattle.law_parts.specs.Beginnings.{Beginning, Afresh, From, IsBeginning, run_of}
use Rattle.law_parts.specs.Ends.{met_of, noted, or_end}
use Rattle.law_parts.specs.Holding.{Held}
use Rattle.law_parts.specs.Laws.{IsReachedState}
use Rattle.law_parts.specs.Moves.{Message, Channel}
use Rattle.law_parts.specs.Nets.{net, within_lead, costs}
use Rattle.law_parts.specs.Runs.{Run, Oracle, cut_of, parts_in, next_op, notes_of, op_of, guided, undivided, last_of}
use Rattle.law_parts.specs.Totals.{CountsAll, undivided_from}
use Rattle.law_parts.specs.Truths.{Agrees, Books, GivesAt, is_faulty, script, truth}
use Rattle.law_parts.specs.Work.{work, carried_count}
use Rattle.law_parts.proofs.DoneTotals.{counts_all}
use Rattle.law_parts.proofs.EndTiles.{tiles_meet}
use Rattle.law_parts.proofs.FirstLaws.{none_of}
use Rattle.law_parts.proofs.FitLaws.{some_part}
use Rattle.law_parts.proofs.TraceTotals.{AllQuiet, all_noted, quiet_left, quiet_right}
use Rattle.law_parts.proofs.TruthLaws.{guided_truth}
use Rattle.law_parts.proofs.WholeRun.{IsRun, all_folds, names_at}
use Rattle.law_reached.proofs.TellLaws.{count_is, fits, last_true, way}
use Rattle.cx_core_events.specs.Events.{events}
use Rattle.cx_core_events.specs.Paces.{Paces}
use Rattle.cx_core_events.specs.Shows.{PaceTells, ShowsPace, TellsEvents}
use Rattle.cx_core_events.specs.declared.standing.Next.{Next}
use Rattle.cx_core_events.specs.declared.standing.Next.TheVariants as next
use Rattle.cx_core_part.specs.Jobs.{IsRunOf}
use Rattle.cx_core_part.proofs.MoveLaws.{is_run}
use Rattle.cx_core.specs.Starts.{begins_in}
use Rattle.cx_core.specs.Steps.{Counts, RisesWithin, Standing, event_costs}
use Rattle.cx_run_loop.specs.Going.{Setting, Place, MovesOn}
use Rattle.cx_run_loop.specs.Within.{CountsStay, SpendsWithin, StaysWithin, StepsWithin}

-- ---- sums

pub sum_le : (n : ℕ) (f g : ℕ → ℕ) → ((j : ℕ) → j < n → f j ≤ g j) → sum_below n f ≤ sum_below n g
sum_le zero f g all = omega arith
sum_le (suc n) f g all =
    let a : sum_below n f ≤ sum_below n g = sum_le n f g (λ j l. all j (omega (arith, l))) in
    let b : f n ≤ g n = all n (omega arith) in
    omega (arith, a, b)

-- with so much more at one place
pub sum_le_more : (n k c : ℕ) (f g : ℕ → ℕ) → k < n → f k + c ≤ g k
    → ((j : ℕ) → j < n → f j ≤ g j) → sum_below n f + c ≤ sum_below n g
sum_le_more zero k c f g l here all = absurd (omega (arith, l))
sum_le_more (suc n) k c f g l here all =
    go (λ m. sum_le_more n k c f g m here below) (cases_lt k n)
  where
    below : (j : ℕ) → j < n → f j ≤ g j
    below j m = all j (omega (arith, m))

    go : (k < n → sum_below n f + c ≤ sum_below n g) → (k < n) ⊎ (n ≤ k)
        → sum_below n f + f n + c ≤ sum_below n g + g n
    go more (inl m) =
        let a : sum_below n f + c ≤ sum_below n g = more m in
        let b : f n ≤ g n = all n (omega arith) in
        omega (arith, a, b)
    go more (inr m) =
        let same : k ≡ n = omega (arith, l, m) in
        let a : sum_below n f ≤ sum_below n g = sum_le n f g below in
        let b : f n + c ≤ g n = subst (λ (x : ℕ). f x + c ≤ g x) same here in
        omega (arith, a, b)

pub sum_longer : (m n : ℕ) (f : ℕ → ℕ) → n ≤ m → sum_below n f ≤ sum_below m f
sum_longer zero zero f le = omega arith
sum_longer zero (suc n) f le = absurd (omega (arith, le))
sum_longer (suc m) n f le = go (sum_longer m n f) (cases_lt m n)
  where
    go : (n ≤ m → sum_below n f ≤ sum_below m f) → (m < n) ⊎ (n ≤ m)
        → sum_below n f ≤ sum_below m f + f m
    go more (inl l) =
        let same : n ≡ suc m = omega (arith, l, le) in
        subst (λ (x : ℕ). sum_below x f ≤ sum_below m f + f m) (sym same) (omega arith)
    go more (inr l) = let a : sum_below n f ≤ sum_below m f = more l in omega (arith, a)

-- ---- any network

module _ {L M C K B : Type 0} (N : Net L M C K B) (S : Script M C) (Agreed : ℕ → ℕ → L → Type 0)
    (Booked : ℕ → B → Type 0) (w : World L M C B) (inv : Woven N S Agreed Booked w)
    (stop : w.stop ≡ N.most) (i : ℕ) where
  abbrev total : ℕ
  total = sum_below N.last (λ n. sum_below N.parts (λ k. N.cost i k (N.way n)))

  swapped : sum_below N.parts (λ k. spent N i k N.last) ≡ total
  swapped = put.sum_swap N.parts N.last (λ k n. N.cost i k (N.way n))

  each : (k : ℕ) → k < N.parts → spent N i k (w.place k) ≤ spent N i k N.last
  each k l = sum_longer N.last (w.place k) (λ n. N.cost i k (N.way n)) (inv.within k l)

  meter_within : w.meter i ≤ total
  meter_within =
      let a : sum_below N.parts (λ k. spent N i k (w.place k))
      ≤ sum_below N.parts (λ k. spent N i k N.last) = sum_le N.parts _ _ each in
      let b : w.meter i ≡ sum_below N.parts (λ k. spent N i k (w.place k)) = inv.meter i stop in
      omega (arith, a, b, swapped)

  next_within : (k : ℕ) → k < N.parts → w.place k < N.last
      → w.meter i + N.cost i k (N.way (w.place k)) ≤ total
  next_within k l below =
      let here : spent N i k (w.place k) + N.cost i k (N.way (w.place k)) ≤ spent N i k N.last =
      sum_longer N.last (suc (w.place k)) (λ n. N.cost i k (N.way n)) below in
      let a : sum_below N.parts (λ j. spent N i j (w.place j)) + N.cost i k (N.way (w.place k))
      ≤ sum_below N.parts (λ j. spent N i j N.last) =
      sum_le_more N.parts k (N.cost i k (N.way (w.place k))) (λ j. spent N i j (w.place j))
      (λ j. spent N i j N.last) l here each in
      let b : w.meter i ≡ sum_below N.parts (λ j. spent N i j (w.place j)) = inv.meter i stop in
      omega (arith, a, b, swapped)

-- ---- a run that comes to its last place meets no end

quiet_notes : (r : Run) (m n : ℕ) → n < m → AllQuiet (noted r m) → AllQuiet (notes_of r n)
quiet_notes r zero n l quiet = absurd (omega (arith, l))
quiet_notes r (suc m) n l quiet = go (quiet_notes r m n) (cases_lt n m)
  where
    go : (n < m → AllQuiet (noted r m) → AllQuiet (notes_of r n)) → (n < m) ⊎ (m ≤ n)
        → AllQuiet (notes_of r n)
    go more (inl k) = more k (quiet_left (noted r m) (notes_of r m) quiet)
    go more (inr k) =
        let same : m ≡ n = omega (arith, l, k) in
        subst (λ (x : ℕ). AllQuiet (notes_of r x)) same
        (quiet_right (noted r m) (notes_of r m) quiet)

none_met : (ns : List Note) → AllQuiet ns → met_of ns ≡ None
none_met [] quiet = refl
none_met (n ∷ ns) quiet =
    ap (λ (o : Option End). or_end o (met_of ns)) quiet.0 ∙ none_met ns quiet.1

module _ (tells : Type 0) (r : Run) (run : IsRun r) (trace : Trace)
    (runs : RunsAs r.setup r.rules r.first r.so_far trace) (pace : PaceTells tells r) (t : tells)
    (o : Oracle) (w : World Held (Message tells) Channel Lengths) (p : Paces)
    (st : IsReachedState tells r o w) (shown : ShowsPace tells r o w p)
    (state : State) (goes : trace.outcome ≡ Goes state) where
  fitted : Fits (net tells within_lead r o) (script tells r o) (Agrees tells r o) (GivesAt r o)
      (Books tells r)
  fitted = fits tells r run o st.oracle_is t

  never_faulty : (n k : ℕ) → n < last_of r o → k < parts_in r
      → is_faulty r k (op_of r n) (undivided r n) ≡ false
  never_faulty n k before part =
      let count : last_of r o ≡ runs.count = count_is tells r run o st.oracle_is t trace runs in
      none_of (λ j. is_faulty r j (op_of r n) (undivided r n)) 0 (parts_in r) k
      (tiles_meet r run (some_part r run) (op_of r n) (undivided r n)
      (names_at r run (undivided r n).control.pc)
      ∙ ap is_some (none_met (notes_of r n)
      (quiet_notes r runs.count n (omega (arith, before, count))
      (all_noted r trace runs state goes).0)))
      (omega arith) (omega (arith, part))

  pub no_stop : w.stop ≡ r.most
  no_stop = go st.woven.stopped (st.ended t).cause
    where
      go : (w.stop ≡ r.most)
          ⊎ ((k : ℕ) × (k < parts_in r) × (w.place k ≡ w.stop) × (w.stop < last_of r o))
          → (w.stop ≡ r.most)
          ⊎ ((k : ℕ) × (k < parts_in r)
          × (is_faulty r k (op_of r w.stop) (undivided r w.stop) ≡ true))
          → w.stop ≡ r.most
      go (inl none) cause = none
      go (inr met) (inl none) = none
      go (inr met) (inr faulty) =
          absurd (both_ways (is_faulty r faulty.0 (op_of r w.stop) (undivided r w.stop))
          (never_faulty w.stop faulty.0 met.3 faulty.1) faulty.2)

  -- ---- what the parts have counted

  abbrev whole_count : ℕ → ℕ
  whole_count i = sum_below (last_of r o)
      (λ n. sum_below (parts_in r) (λ k. costs r i k (next_op r (guided r o n).control)))

  same_control : (n : ℕ) → guided r o n ≡ guided r (truth r) n
  same_control n = way tells r run o st.oracle_is t n ∙ sym (guided_truth r (all_folds r run) n)

  whole_is : (i : ℕ) → whole_count i
      ≡ sum_below (last_of r (truth r))
      (λ n. sum_below (parts_in r) (λ k. costs r i k (next_op r (guided r (truth r) n).control)))
  whole_is i =
      ap (λ m. sum_below m (λ n.
      sum_below (parts_in r) (λ k. costs r i k (next_op r (guided r o n).control))))
      (last_true tells r run o st.oracle_is t)
      ∙ put.sum_same (last_of r (truth r))
      (λ n. sum_below (parts_in r) (λ k. costs r i k (next_op r (guided r o n).control)))
      (λ n. sum_below (parts_in r)
      (λ k. costs r i k (next_op r (guided r (truth r) n).control)))
      (λ n l. put.sum_same (parts_in r) (λ k. costs r i k (next_op r (guided r o n).control))
      (λ k. costs r i k (next_op r (guided r (truth r) n).control))
      (λ k q. ap (λ (g : Flat). costs r i k (next_op r g.control)) (same_control n)))

  counts : CountsAll r.setup (cut_of r) trace.entries whole_count
  counts = counts_all r run trace runs whole_count whole_is state goes

  stays : (i : ℕ) → w.meter i ≤ whole_count i
  stays i = meter_within (net tells within_lead r o) (script tells r o) (Agrees tells r o)
      (Books tells r) w st.woven no_stop i

  -- with the next operation of a part that can move
  moves : (i k : ℕ) → CanMove (net tells within_lead r o) w k
      → w.meter i + costs r i k (next_op r (w.held k).control) ≤ whole_count i
  moves i k can =
      let looks : (w.held k).control ≡ (guided r o (w.place k)).control =
      fitted.looks k (w.place k) (w.held k) can.part (st.woven.agrees k can.part) in
      let within : w.place k ≤ last_of r o = st.woven.within k can.part in
      subst (λ c. w.meter i + costs r i k (next_op r c) ≤ whole_count i) (sym looks)
      (next_within (net tells within_lead r o) (script tells r o) (Agrees tells r o)
      (Books tells r) w st.woven no_stop i k can.part (go (cases_lt (w.place k) (last_of r o))
      within looks))
    where
      halts_at : (n : ℕ) → n ≡ last_of r o
          → (net tells within_lead r o).halts (guided r o n).control ≡ true
      halts_at n same =
          ap (λ (m : ℕ). (net tells within_lead r o).halts (guided r o m).control) same
          ∙ fitted.halted

      go : (w.place k < last_of r o) ⊎ (last_of r o ≤ w.place k) → w.place k ≤ last_of r o
          → (w.held k).control ≡ (guided r o (w.place k)).control → w.place k < last_of r o
      go (inl below) within looks = below
      go (inr past) within looks =
          let same : w.place k ≡ last_of r o = omega (arith, past, within) in
          absurd (both_ways ((net tells within_lead r o).halts (w.held k).control) can.left_over
          (ap (net tells within_lead r o).halts looks ∙ halts_at (w.place k) same))

  told : TellsEvents tells r o w p
  told = pace.events o w p st shown

  spends : (i k : ℕ) → w.meter i + event_costs r p (slice_get (events p) k) i ≤ whole_count i
  spends i k = go (slice_get (events p) k) refl
    where
      stay : w.meter i + 0 ≤ whole_count i
      stay = let a : w.meter i ≤ whole_count i = stays i in omega (arith, a)

      go : (e : Option Next) → slice_get (events p) k ≡ e
          → w.meter i + event_costs r p e i ≤ whole_count i
      go (Some (next.Part j)) is =
          let can : CanMove (net tells within_lead r o) w j =
          told.events.each k (next.Part j) is in
          subst (λ (q : Op). w.meter i + costs r i j q ≤ whole_count i) (sym (told.op j can.part))
          (moves i j can)
      go (Some next.Write) is = stay
      go (Some next.End) is = stay
      go None is = stay

  spends_within : (k : ℕ)
      → SpendsWithin r.setup (cut_of r) trace.entries r w.meter p k
  spends_within k = record {
    points = subst (λ (n : ℕ). w.meter 0 + event_costs r p (slice_get (events p) k) 0 ≤ n)
        counts.points (spends 0 k);
    values = subst (λ (n : ℕ). w.meter 1 + event_costs r p (slice_get (events p) k) 1 ≤ n)
        counts.received (spends 1 k);
  }

-- by the job's setup and cut
by_job : (job : Job) (rules : List Rule) (b : Beginning) (es : List Entry) (meter : ℕ → ℕ)
    (p : Paces) (k : ℕ)
    → SpendsWithin (run_of job rules b).setup (cut_of (run_of job rules b)) es (run_of job rules b)
    meter p k
    → SpendsWithin (setup_of job) (parts_of job.shape job.cut) es (run_of job rules b) meter p k
by_job job rules Afresh es meter p k spends = spends
by_job job rules (From c state so_far) es meter p k spends = spends

pub counts_stay : (tells : Type 0) (job : Job) (rules : List Rule) (b : Beginning)
    → IsRun (run_of job rules b)
    → RunsAs (run_of job rules b).setup (run_of job rules b).rules (run_of job rules b).first
    (run_of job rules b).so_far (undivided_from (setup_of job) rules b)
    → PaceTells tells (run_of job rules b) → CountsStay tells job rules b
counts_stay tells job rules b run runs pace t o w p st shown state goes k =
    by_job job rules b (undivided_from (setup_of job) rules b).entries w.meter p k
    (spends_within tells (run_of job rules b) run (undivided_from (setup_of job) rules b) runs pace
    t o w p st shown state goes k)

-- ---- a step, and none

pub step_points : (first m c most before after : ℕ) → before ≡ raised first m
    → after ≤ raised before c → m + c ≤ most → after ≤ raised first most
step_points first m c most before after is rose le = omega (arith, is, rose, le)

pub step_values : (first m c most before after : ℕ) → before ≡ counted first m
    → after ≤ counted before c → m + c ≤ most → after ≤ counted first most
step_values first m c most before after is rose le = omega (arith, is, rose, le)

pub stay_points : (first m c most now : ℕ) → now ≡ raised first m → m + c ≤ most
    → now ≤ raised first most
stay_points first m c most now is le = omega (arith, is, le)

pub stay_values : (first m c most now : ℕ) → now ≡ counted first m → m + c ≤ most
    → now ≤ counted first most
stay_values first m c most now is le = omega (arith, is, le)

module _ (tells : Type 0) (job : Job) (rules : List Rule)
    (law : (b : Beginning) → IsBeginning (setup_of job) b → CountsStay tells job rules b)
    (was : Standing tells) where
  abbrev cost : Beginning → ℕ → ℕ → ℕ
  cost b k i = event_costs (run_of job rules b) was.core.pace
      (slice_get (events was.core.pace) k) i

  abbrev points_in : Beginning → ℕ
  points_in b = work (setup_of job) (parts_of job.shape job.cut)
      (undivided_from (setup_of job) rules b).entries

  abbrev values_in : Beginning → ℕ
  values_in b = carried_count (setup_of job) (parts_of job.shape job.cut)
      (undivided_from (setup_of job) rules b).entries

  -- where its costs bound what a step counts
  pub steps_within : (k : ℕ) (now : Counts)
      → ((r : Run) → IsRunOf job r
      → RisesWithin (event_costs r was.core.pace (slice_get (events was.core.pace) k)) was.now now)
      → StepsWithin tells job rules was now
  steps_within k now rises t b begins first at state goes =
      let spends = law b begins t at.oracle at.world was.core.pace at.reached at.shows.pace state
      goes k in
      let rose = rises (run_of job rules b) (is_run job rules b) in
      record {
        points = step_points first.points (at.world.meter 0) (cost b k 0) (points_in b)
            was.now.points now.points at.points rose.points.most spends.points;
        values = step_values first.values (at.world.meter 1) (cost b k 1) (values_in b)
            was.now.values now.values at.values rose.values.most spends.values;
      }

  pub stays_there : StepsWithin tells job rules was was.now
  stays_there t b begins first at state goes =
      let spends = law b begins t at.oracle at.world was.core.pace at.reached at.shows.pace state
      goes 0 in
      record {
        points = stay_points first.points (at.world.meter 0) (cost b 0 0) (points_in b)
            was.now.points at.points spends.points;
        values = stay_values first.values (at.world.meter 1) (cost b 0 1) (values_in b)
            was.now.values at.values spends.values;
      }

-- a run that is driven
pub driven_within : (s : Setting) (was : Place s) (now : Counts)
    → StepsWithin s.wire s.job s.rules was.is now → StaysWithin s was now
driven_within s was now steps t found first x state goes =
    steps t (begins_in (setup_of s.job) found) x.begins first x.at state goes

-- and one that was moved on before
pub stays_more : (s : Setting) (was mid : Place s) (now : Counts) → MovesOn s was mid
    → StaysWithin s mid now → StaysWithin s was now
stays_more s was mid now moves stays t found first x state goes =
    stays t found first (moves found first x).there state goes
