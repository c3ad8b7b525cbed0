-- Runs from states that agree.
use Rattle.std.proofs.Common.{◌≡◌, ℕ, zero, suc, ◌+◌, ◌-◌, ◌<◌, ℤ, pos, negsuc, Bool, true, false, cond, arith, refl, sym, ap, subst, ◌∙◌, List, [], ◌∷◌, ◌++◌, map, append-nil, Option, Some, None}
use Rattle.std.specs.List.{flat_map, range_with_len}
use Rattle.std.proofs.lemmas.Bool.{false≢true}
use Rattle.std.proofs.lemmas.List.{map-append}
use Rattle.cx_plan.specs.declared.variable.VarId.{VarId}
use Rattle.cx_plan.specs.declared.tree.Tree.{Tree, Seq', Call, Sync, If', While', Row_of-Tree, end_of-Tree, more_of-Tree}
use Rattle.cx_plan.specs.Setups.{Setup}
use Rattle.cx_plan.specs.Dues.{is_due, is_written}
use Rattle.cx_plan.specs.Lookups.{bin, is_scalar, CHECKPOINT, ANALYSIS, step_bins, end_bins, run_bin_count}
use Rattle.cx_plan.specs.Steering.{item_at}
use Rattle.cx_plan.specs.Regions.{Flags, cleared, all_written, rotated}
use Rattle.cx_plan.specs.Paths.{Sound}
use Rattle.cx_rule.specs.Routine.{Rule}
use Rattle.cx_rule.specs.States.{State, scalar_of, rotate}
use Rattle.cx_model.specs.States.{IsState}
use Rattle.cx_model.specs.Turns.{turn}
use Rattle.cx_model.specs.declared.ends.End.{End}
use Rattle.cx_model.specs.declared.ends.End.TheVariants.{WhileLimit}
use Rattle.cx_model.specs.Traces.{Entry, Turned, Overflowed, Exchanged, Tested, Rotated, Wrote, Saved, Outcome, Goes, Ends, Trace, stays, ends, does, after, follow, then_go}
use Rattle.cx_model.specs.Trees.{at_zero, test, turn_trace, loop, run_tree, run_row}
use Rattle.cx_model.specs.Stages.{Stage, Bin, Rotate, Save, Write, bins, before_analysis, from_analysis, iteration, rest_behind, stages, stages_after}
use Rattle.cx_model.specs.Runs.{text_of, run_stage, run_stages, text_to, output_of, Lengths, no_lengths, lengths_after, passing, stop_or, within_limit, limited, end_by}
use Rattle.cx_model.specs.Runs.{all_written as texts_of}
use Rattle.cx_model.specs.Work.{entry_points, points_computed}
use Rattle.cx_model.specs.Uses.{entry_needs, entry_leaves, entries_leave}
use Rattle.cx_model.specs.Agreement.{Agree, AgreeOrNone, Met, IsReadyTree, IsReadyRow, IsSettled}
use Rattle.cx_model.specs.Alike.{bare, bared, SameRun, AlikeOutcome, Alike, UsesOnlyOwn}
use Rattle.cx_model.proofs.Guides.{EntriesMet, entries-leave-both}
use Rattle.cx_model.proofs.RunGuides.{met-run}
use Rattle.cx_model.proofs.CellLaws.{turn-agrees}
use Rattle.cx_model.proofs.ActLaws.{agree-exchanged, agree-rotated, tested-same, text-same}
use Rattle.cx_model.proofs.ReadyLaws.{ready-at}

-- ---- parts that do little

alike-stays : (setup : Setup) (flags : Flags) (a b : State) → Agree setup flags a b
    → Alike setup flags (stays a) (stays b)
alike-stays setup flags a b agree = record { entries = refl; outcome = agree }

pub entries-met-behind : (setup : Setup) (xs ys : List Entry) (flags : Flags)
    → EntriesMet setup flags (xs ++ ys) → EntriesMet setup (entries_leave setup xs flags) ys
entries-met-behind setup [] ys flags met = met
entries-met-behind setup (e ∷ xs) ys flags met =
    entries-met-behind setup xs ys (entry_leaves setup e flags) met.1

entries-met-before : (setup : Setup) (xs ys : List Entry) (flags : Flags)
    → EntriesMet setup flags (xs ++ ys) → EntriesMet setup flags xs
entries-met-before setup [] ys flags met = tt
entries-met-before setup (e ∷ xs) ys flags met =
    (met.0, entries-met-before setup xs ys (entry_leaves setup e flags) met.1)

-- one part after another
alike-then : (setup : Setup) (flags : Flags) (s t : Trace) (f g : State → Trace)
    → Alike setup flags s t → EntriesMet setup flags (then_go s f).entries
    → ((a b : State) → Agree setup (entries_leave setup s.entries flags) a b
    → EntriesMet setup (entries_leave setup s.entries flags) (f a).entries
    → Alike setup (entries_leave setup s.entries flags) (f a) (g b))
    → Alike setup flags (then_go s f) (then_go t g)
alike-then setup flags s t f g one met next =
    by s.outcome t.outcome one.outcome
    (entries-met-behind setup s.entries (follow s.outcome f).entries flags met)
  where
    left : Flags
    left = entries_leave setup s.entries flags

    nil : (xs : List Entry) → map bare (xs ++ []) ≡ map bare xs
    nil xs = ap (map bare) (append-nil xs)

    by : (o p : Outcome) → AlikeOutcome setup left o p → EntriesMet setup left (follow o f).entries
        → Alike setup flags (after s.entries (follow o f)) (after t.entries (follow p g))
    by (Goes a) (Goes b) agree rest =
        let r = next a b agree rest in
        record {
          entries = map-append bare s.entries (f a).entries
              ∙ ap (λ (xs : List Entry). xs ++ map bare (f a).entries) one.entries
              ∙ ap (λ (ys : List Entry). map bare t.entries ++ ys) r.entries
              ∙ sym (map-append bare t.entries (g b).entries);
          outcome = subst (λ h. AlikeOutcome setup h (f a).outcome (g b).outcome)
              (sym (entries-leave-both setup s.entries (f a).entries flags)) r.outcome;
        }
    by (Ends e) (Ends h) same rest =
        record { entries = nil s.entries ∙ one.entries ∙ sym (nil t.entries); outcome = same }
    by (Goes a) (Ends e) none rest = absurd none
    by (Ends e) (Goes b) none rest = absurd none

-- ---- trees

alike-test : (setup : Setup) (flags : Flags) (v : VarId) (path : List ℕ) (f g h k : State → Trace)
    (a b : State) → is_scalar setup v ≡ true → Agree setup flags a b
    → EntriesMet setup flags (test v path f g a).entries
    → (EntriesMet setup flags (f a).entries → Alike setup flags (f a) (h b))
    → (EntriesMet setup flags (g a).entries → Alike setup flags (g a) (k b))
    → Alike setup flags (test v path f g a) (test v path h k b)
alike-test setup flags v path f g h k a b scalar agree met zeroth other =
    subst (λ n. Alike setup flags (test v path f g a)
    (after (Tested v path b ∷ []) (at_zero n h k b)))
    (tested-same setup flags v path a b scalar agree met.0)
    (by (scalar_of a v) met.1)
  where
    tested : (s t : Trace) → Alike setup flags s t
        → Alike setup flags (after (Tested v path a ∷ []) s) (after (Tested v path b ∷ []) t)
    tested s t r = record {
      entries = ap (λ (xs : List Entry). Tested v path [] ∷ xs) r.entries;
      outcome = r.outcome;
    }

    by : (n : ℤ) → EntriesMet setup flags (at_zero n f g a).entries
        → Alike setup flags (after (Tested v path a ∷ []) (at_zero n f g a))
        (after (Tested v path b ∷ []) (at_zero n h k b))
    by (pos zero) met = tested (f a) (h b) (zeroth met)
    by (pos (suc n)) met = tested (g a) (k b) (other met)
    by (negsuc n) met = tested (g a) (k b) (other met)

abbrev AlikeFrom : Setup → (State → Trace) → Type 0
AlikeFrom setup body = (flags : Flags) (a b : State) → Agree setup flags a b
    → EntriesMet setup flags (body a).entries → Alike setup flags (body a) (body b)

alike-loop : (setup : Setup) (v : VarId) (path : List ℕ) (limit : End) (body : State → Trace)
    → is_scalar setup v ≡ true → AlikeFrom setup body → (turns : ℕ)
    → AlikeFrom setup (loop v path limit body turns)
alike-loop setup v path limit body scalar each zero flags a b agree met =
    alike-test setup flags v path stays (λ _. ends limit) stays (λ _. ends limit)
    a b scalar agree met
    (λ none. alike-stays setup flags a b agree) (λ none. record { entries = refl; outcome = refl })
alike-loop setup v path limit body scalar each (suc turns) flags a b agree met =
    let next = loop v path limit body turns in
    alike-test setup flags v path stays (λ s. then_go (body s) next) stays
    (λ s. then_go (body s) next) a b scalar agree met
    (λ none. alike-stays setup flags a b agree)
    (λ rest.
    alike-then setup flags (body a) (body b) next next
    (each flags a b agree (entries-met-before setup (body a).entries
    (follow (body a).outcome next).entries flags rest)) rest
    (λ c d. alike-loop setup v path limit body scalar each turns
    (entries_leave setup (body a).entries flags) c d))

alike-turn : (setup : Setup) (k : ℕ) (iteration : ℕ) (flags : Flags) (a b : State)
    (o p : Option State) → AgreeOrNone setup
    (all_written setup (item_at setup k iteration).writes flags) o p
    → Alike setup flags (turn_trace k (item_at setup k iteration) iteration a o)
    (turn_trace k (item_at setup k iteration) iteration b p)
alike-turn setup k iteration flags a b None None agree = record { entries = refl; outcome = refl }
alike-turn setup k iteration flags a b (Some c) (Some d) agree =
    record { entries = refl; outcome = agree }
alike-turn setup k iteration flags a b None (Some d) agree = absurd agree
alike-turn setup k iteration flags a b (Some c) None agree = absurd agree

turn-met : (setup : Setup) (k : ℕ) (iteration : ℕ) (flags : Flags) (a : State) (o : Option State)
    → EntriesMet setup flags (turn_trace k (item_at setup k iteration) iteration a o).entries
    → Met setup flags (entry_needs setup (Turned k iteration a))
turn-met setup k iteration flags a None met = met.0
turn-met setup k iteration flags a (Some c) met = met.0

mutual
  alike-tree : (setup : Setup) (rules : List Rule) (iteration : ℕ) (tree : Tree) → IsSettled setup
      → IsReadyTree setup tree → AlikeFrom setup (run_tree setup rules iteration tree)
  alike-tree setup rules iteration (Seq' shape all) settled ready =
      alike-row setup rules iteration all settled ready
  alike-tree setup rules iteration (Call k) settled ready = λ flags a b agree met.
      let o = turn setup rules (item_at setup k iteration) a iteration in
      alike-turn setup k iteration flags a b o
      (turn setup rules (item_at setup k iteration) b iteration)
      (turn-agrees setup rules flags (item_at setup k iteration) a b iteration settled
      (ready-at setup k iteration ready) agree (turn-met setup k iteration flags a o met))
  alike-tree setup rules iteration (Sync vars path) settled ready =
      λ flags a b agree met. record {
        entries = refl;
        outcome = agree-exchanged setup flags vars a b agree;
      }
  alike-tree setup rules iteration (If' v path shape one) settled ready = λ flags a b agree met.
      alike-test setup flags v path stays (run_row setup rules iteration one) stays
      (run_row setup rules iteration one) a b ready.0 agree met
      (λ none. alike-stays setup flags a b agree)
      (λ rest. alike-row setup rules iteration one settled ready.1 flags a b agree rest)
  alike-tree setup rules iteration (While' v path shape one) settled ready =
      alike-loop setup v path (WhileLimit iteration path) (run_row setup rules iteration one)
      ready.0 (alike-row setup rules iteration one settled ready.1) setup.while_limit

  alike-row : {m : _} (setup : Setup) (rules : List Rule) (iteration : ℕ) (row : Row_of-Tree m)
      → IsSettled setup → IsReadyRow setup row → AlikeFrom setup (run_row setup rules iteration row)
  alike-row setup rules iteration end_of-Tree settled ready =
      λ flags a b agree met. alike-stays setup flags a b agree
  alike-row setup rules iteration (more_of-Tree tree rest) settled ready = λ flags a b agree met.
      let s = run_tree setup rules iteration tree a in
      alike-then setup flags s (run_tree setup rules iteration tree b)
      (run_row setup rules iteration rest) (run_row setup rules iteration rest)
      (alike-tree setup rules iteration tree settled ready.0 flags a b agree
      (entries-met-before setup s.entries
      (follow s.outcome (run_row setup rules iteration rest)).entries flags met)) met
      (λ c d. alike-row setup rules iteration rest settled ready.1
      (entries_leave setup s.entries flags) c d)

-- ---- stages

written-leave : (setup : Setup) (n : ℕ) (state : State) (flags : Flags) (vs : List VarId)
    → entries_leave setup (texts_of setup n state vs) flags ≡ flags
written-leave setup n state flags [] = refl
written-leave setup n state flags (v ∷ vs) = written-leave setup n state flags vs

written-same : (setup : Setup) (n : ℕ) (flags : Flags) (a b : State) (vs : List VarId)
    → Agree setup flags a b → EntriesMet setup flags (texts_of setup n a vs)
    → map bare (texts_of setup n a vs) ≡ map bare (texts_of setup n b vs)
written-same setup n flags a b [] agree met = refl
written-same setup n flags a b (v ∷ vs) agree met =
    ap (λ (text : List ℕ). Wrote v n text [] ∷ map bare (texts_of setup n a vs))
    (text-same setup flags n v a b agree met.0)
    ∙ ap (λ (es : List Entry). Wrote v n (text_of setup n b v) [] ∷ es)
    (written-same setup n flags a b vs agree met.1)

-- the bins of some stages are among those that are run
abbrev pub EachBin : List Stage → Type 0
EachBin [] = Unit {0}
EachBin (Bin b n ∷ ss) = (b < run_bin_count) × EachBin ss
EachBin (Rotate ∷ ss) = EachBin ss
EachBin (Save n ∷ ss) = EachBin ss
EachBin (Write n ∷ ss) = EachBin ss

alike-stages : (setup : Setup) (rules : List Rule) (ss : List Stage) → IsSettled setup → EachBin ss
    → AlikeFrom setup (run_stages setup rules ss)
alike-stages setup rules [] settled each = λ flags a b agree met. alike-stays setup flags a b agree
alike-stages setup rules (Bin k n ∷ ss) settled each = λ flags a b agree met.
    let s = run_tree setup rules n (bin setup k) a in
    alike-then setup flags s (run_tree setup rules n (bin setup k) b) (run_stages setup rules ss)
    (run_stages setup rules ss)
    (alike-tree setup rules n (bin setup k) settled (settled.trees k each.0) flags a b agree
    (entries-met-before setup s.entries
    (follow s.outcome (run_stages setup rules ss)).entries flags met)) met
    (λ c d. alike-stages setup rules ss settled each.1 (entries_leave setup s.entries flags) c d)
alike-stages setup rules (Rotate ∷ ss) settled each = λ flags a b agree met.
    alike-then setup flags (does (Rotated a) (rotate a)) (does (Rotated b) (rotate b))
    (run_stages setup rules ss) (run_stages setup rules ss)
    (record { entries = refl; outcome = agree-rotated setup flags a b settled.one_level agree }) met
    (λ c d. alike-stages setup rules ss settled each (rotated setup flags) c d)
alike-stages setup rules (Save n ∷ ss) settled each = λ flags a b agree met.
    alike-then setup flags (does (Saved n a) a) (does (Saved n b) b) (run_stages setup rules ss)
    (run_stages setup rules ss)
    (record { entries = refl; outcome = agree }) met
    (λ c d. alike-stages setup rules ss settled each flags c d)
alike-stages setup rules (Write n ∷ ss) settled each = λ flags a b agree met.
    let s = run_stage setup rules (Write n) a in
    alike-then setup flags s (run_stage setup rules (Write n) b) (run_stages setup rules ss)
    (run_stages setup rules ss)
    (record {
      entries = written-same setup n flags a b setup.out_vars agree
          (entries-met-before setup s.entries (run_stages setup rules ss a).entries flags met);
      outcome = subst (λ f. Agree setup f a b) (sym (written-leave setup n a flags setup.out_vars))
          agree;
    }) met
    (λ c d. alike-stages setup rules ss settled each (entries_leave setup s.entries flags) c d)

-- ---- the stages of a run

each-both : (xs ys : List Stage) → EachBin xs → EachBin ys → EachBin (xs ++ ys)
each-both [] ys one two = two
each-both (Bin b n ∷ xs) ys one two = (one.0, each-both xs ys one.1 two)
each-both (Rotate ∷ xs) ys one two = each-both xs ys one two
each-both (Save n ∷ xs) ys one two = each-both xs ys one two
each-both (Write n ∷ xs) ys one two = each-both xs ys one two

each-analysis : (setup : Setup) (n : ℕ) → EachBin (from_analysis setup n)
each-analysis setup n = by (is_written setup n)
  where
    by : (b : Bool) → EachBin (Bin ANALYSIS n ∷ cond b (Write n ∷ []) [])
    by true = (omega arith, tt)
    by false = (omega arith, tt)

each-iteration : (setup : Setup) (n : ℕ) → EachBin (iteration setup n)
each-iteration setup zero =
    each-both (before_analysis setup 0) (from_analysis setup 0) (
      omega arith,
      (
        omega arith,
        (omega arith, (omega arith, (omega arith, (omega arith, (omega arith, tt))))),
      ),
    )
    (each-analysis setup 0)
each-iteration setup (suc n) =
    each-both (before_analysis setup (suc n)) (from_analysis setup (suc n))
    (by (is_due setup (suc n))) (each-analysis setup (suc n))
  where
    by : (due : Bool) → EachBin
        (Rotate ∷ bins step_bins (suc n)
        ++ cond due (Bin CHECKPOINT (suc n) ∷ Save (suc n) ∷ []) [])
    by true = (omega arith, (omega arith, (omega arith, (omega arith, tt))))
    by false = (omega arith, (omega arith, (omega arith, tt)))

each-rest : (setup : Setup) (c count : ℕ) → EachBin (rest_behind setup c count)
each-rest setup c count =
    each-both (flat_map (iteration setup) (range_with_len (c + 1) count))
    (bins end_bins setup.itlast) (by (c + 1) count) (omega arith, (omega arith, tt))
  where
    by : (k count : ℕ) → EachBin (flat_map (iteration setup) (range_with_len k count))
    by k zero = tt
    by k (suc count) = each-both (iteration setup k)
        (flat_map (iteration setup) (range_with_len (k + 1) count)) (each-iteration setup k)
        (by (k + 1) count)

pub each-of-stages : (setup : Setup) → EachBin (stages setup)
each-of-stages setup = each-both (iteration setup 0) (rest_behind setup 0 setup.itlast)
    (each-iteration setup 0) (each-rest setup 0 setup.itlast)

pub each-of-after : (setup : Setup) (c : ℕ) → EachBin (stages_after setup c)
each-of-after setup c = each-both (from_analysis setup c) (rest_behind setup c (setup.itlast - c))
    (each-analysis setup c) (each-rest setup c (setup.itlast - c))

-- two runs that begin in states that agree for flags with which each need of the first one is met
pub alike-runs : (setup : Setup) (rules : List Rule) → IsSettled setup
    → AlikeFrom setup (run_stages setup rules (stages setup))
alike-runs setup rules settled =
    alike-stages setup rules (stages setup) settled (each-of-stages setup)

pub alike-continued : (setup : Setup) (rules : List Rule) (c : ℕ) → IsSettled setup
    → AlikeFrom setup (run_stages setup rules (stages_after setup c))
alike-continued setup rules c settled =
    alike-stages setup rules (stages_after setup c) settled (each-of-after setup c)

-- ---- the limit

bare-text : (v : VarId) (e : Entry) → text_to v e ≡ text_to v (bare e)
bare-text v (Turned k n state) = refl
bare-text v (Overflowed k n state) = refl
bare-text v (Exchanged vars path state) = refl
bare-text v (Tested w path state) = refl
bare-text v (Rotated state) = refl
bare-text v (Wrote w n text state) = refl
bare-text v (Saved n state) = refl

bare-after : (so_far : Lengths) (e : Entry) → lengths_after so_far e ≡ lengths_after so_far (bare e)
bare-after so_far (Turned k n state) = refl
bare-after so_far (Overflowed k n state) = refl
bare-after so_far (Exchanged vars path state) = refl
bare-after so_far (Tested w path state) = refl
bare-after so_far (Rotated state) = refl
bare-after so_far (Wrote w n text state) = refl
bare-after so_far (Saved n state) = refl

bare-passing : (so_far : Lengths) (e : Entry) → passing so_far e ≡ passing so_far (bare e)
bare-passing so_far (Turned k n state) = refl
bare-passing so_far (Overflowed k n state) = refl
bare-passing so_far (Exchanged vars path state) = refl
bare-passing so_far (Tested v path state) = refl
bare-passing so_far (Rotated state) = refl
bare-passing so_far (Wrote v n text state) = refl
bare-passing so_far (Saved n state) = refl

bared-limit : (so_far : Lengths) (es : List Entry) (o : Outcome)
    → bared (within_limit so_far es o) ≡ within_limit so_far (map bare es) (Ends (end_by o))
bared-limit so_far [] o = refl
bared-limit so_far (e ∷ es) o =
    by (passing so_far e) (within_limit (lengths_after so_far e) es o)
    ∙ ap (λ p. stop_or p (after (bare e ∷ []) (bared (within_limit (lengths_after so_far e) es o))))
    (bare-passing so_far e)
    ∙ ap (λ t. stop_or (passing so_far (bare e)) (after (bare e ∷ []) t))
    (bared-limit (lengths_after so_far e) es o
    ∙ ap (λ (n : Lengths). within_limit n (map bare es) (Ends (end_by o)))
    (bare-after so_far e))
  where
    by : (p : Option ℕ) (rest : Trace)
        → bared (stop_or p (after (e ∷ []) rest)) ≡ stop_or p (after (bare e ∷ []) (bared rest))
    by None rest = refl
    by (Some n) rest = refl

same-end : (setup : Setup) (flags : Flags) (o p : Outcome) → AlikeOutcome setup flags o p
    → end_by o ≡ end_by p
same-end setup flags (Goes a) (Goes b) agree = refl
same-end setup flags (Ends e) (Ends f) same = same
same-end setup flags (Goes a) (Ends f) none = absurd none
same-end setup flags (Ends e) (Goes b) none = absurd none

bared-same : (setup : Setup) (flags : Flags) (so_far : Lengths) (s t : Trace)
    → Alike setup flags s t → bared (limited so_far s) ≡ bared (limited so_far t)
bared-same setup flags so_far s t r =
    bared-limit so_far s.entries s.outcome
    ∙ ap (λ es. within_limit so_far es (Ends (end_by s.outcome))) r.entries
    ∙ ap (λ e. within_limit so_far (map bare t.entries) (Ends e))
    (same-end setup (entries_leave setup s.entries flags) s.outcome t.outcome r.outcome)
    ∙ sym (bared-limit so_far t.entries t.outcome)

bare-output : (v : VarId) (es : List Entry) → output_of v es ≡ output_of v (map bare es)
bare-output v [] = refl
bare-output v (e ∷ es) =
    ap (λ (text : List ℕ). text ++ output_of v es) (bare-text v e)
    ∙ ap (λ (rest : List ℕ). text_to v (bare e) ++ rest) (bare-output v es)

bare-entry-points : (setup : Setup) (e : Entry) → entry_points setup e ≡ entry_points setup (bare e)
bare-entry-points setup (Turned k n state) = refl
bare-entry-points setup (Overflowed k n state) = refl
bare-entry-points setup (Exchanged vars path state) = refl
bare-entry-points setup (Tested v path state) = refl
bare-entry-points setup (Rotated state) = refl
bare-entry-points setup (Wrote v n text state) = refl
bare-entry-points setup (Saved n state) = refl

bare-points : (setup : Setup) (es : List Entry)
    → points_computed setup es ≡ points_computed setup (map bare es)
bare-points setup [] = refl
bare-points setup (e ∷ es) =
    ap (λ n. n + points_computed setup es) (bare-entry-points setup e)
    ∙ ap (λ n. entry_points setup (bare e) + n) (bare-points setup es)

same-bared : (setup : Setup) (s t : Trace) → bared s ≡ bared t → SameRun setup s t
same-bared setup s t same =
    record {
      does = same;
      output = λ v. bare-output v s.entries ∙ ap (λ (u : Trace). output_of v u.entries) same
          ∙ sym (bare-output v t.entries);
      points = bare-points setup s.entries
          ∙ ap (λ (u : Trace). points_computed setup u.entries) same
          ∙ sym (bare-points setup t.entries);
      end = ap (λ (u : Trace). end_by u.outcome) same;
    }

pub same-run : (setup : Setup) (flags : Flags) (so_far : Lengths) (s t : Trace)
    → Alike setup flags s t → SameRun setup (limited so_far s) (limited so_far t)
same-run setup flags so_far s t r =
    same-bared setup (limited so_far s) (limited so_far t) (bared-same setup flags so_far s t r)

-- nothing is told by cleared flags
agree-cleared : (setup : Setup) (a b : State) → IsState setup a → IsState setup b
    → Agree setup cleared a b
agree-cleared setup a b one two =
    record {
      first = one;
      second = two;
      points = λ v level p is h told. absurd (none _ told);
      scalars = λ v level is told. absurd (false≢true told);
    }
  where
    none : (b : Bool) → cond b false false ≡ true → ⊥
    none true e = false≢true e
    none false e = false≢true e

pub uses-only-own : (setup : Setup) (rules : List Rule) → IsSettled setup → Sound setup
    → UsesOnlyOwn setup rules
uses-only-own setup rules settled sound a b one two =
    let s = run_stages setup rules (stages setup) a in
    same-run setup cleared no_lengths s (run_stages setup rules (stages setup) b)
    (alike-runs setup rules settled cleared a b (agree-cleared setup a b one two)
    (met-run setup rules a sound))
