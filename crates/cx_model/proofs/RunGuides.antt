-- The path of its job that an undivided run follows.
use Rattle.std.proofs.Common.{◌≡◌, ℕ, zero, suc, ◌+◌, ◌%◌, ◌==◌, ℤ, pos, negsuc, int_lt, arith, refl, sym, ap, subst, ◌∙◌, Bool, true, false, cond, List, [], ◌∷◌, ◌++◌, flat_map, ◌⊎◌, inl, inr, MatchBool, Option, Some, None}
use Rattle.std.specs.List.{range_with_len}
use Rattle.std.proofs.lemmas.List.{append_assoc}
use Rattle.std.proofs.lemmas.List.Elements.{All-nil}
use Rattle.cx_plan.specs.declared.variable.VarId.{VarId}
use Rattle.cx_plan.specs.declared.tree.Tree.{Tree, Seq', Call, Sync, If', While', Row_of-Tree, end_of-Tree, more_of-Tree}
use Rattle.cx_plan.specs.Setups.{Setup}
use Rattle.cx_plan.specs.Dues.{is_due, is_each, is_written}
use Rattle.cx_plan.specs.Lookups.{bin, is_empty, has_none, CHECKPOINT, ANALYSIS, start_bins, step_bins, end_bins}
use Rattle.cx_plan.specs.Regions.{Rotates, Outputs, Flags, Need, cleared, output_needs, is_met}
use Rattle.cx_plan.specs.Paths.{Mark, Letter, Meets, letter_i, letter_y, letter_n, Then, Just, Path, PathIn, PathOfBins, PathOfAnalysis, PathOfCheckpoint, PathOfIteration, PathOfIterations, PathOfJob, Sound}
use Rattle.cx_rule.specs.Routine.{Rule}
use Rattle.cx_rule.specs.States.{State, rotate}
use Rattle.cx_model.specs.States.{start}
use Rattle.cx_model.specs.Traces.{Entry, Rotated, Outcome, Goes, Ends, Trace, ends, does, after, follow, then_go}
use Rattle.cx_model.specs.Trees.{run_tree}
use Rattle.cx_model.specs.Stages.{Stage, Bin, Rotate, Save, Write, bins, checkpoint, before_analysis, from_analysis, iteration, rest_behind, stages}
use Rattle.cx_model.specs.Runs.{all_written, run_stage, run_stages, Lengths, no_lengths, lengths_after, passing, stop_or, within_limit}
use Rattle.cx_model.specs.Uses.{entry_leaves, entries_leave, UsesOnlySet}
use Rattle.cx_model.specs.Agreement.{Met}
use Rattle.cx_model.proofs.ListLaws.{all-left, all-right}
use Rattle.cx_model.proofs.Guides.{EntriesMet, Guided, SameLeft, guided-map, guided-stays, guided-then, then-nothing, then-right, path-met, entry-met}
use Rattle.cx_model.proofs.TreeGuides.{guided-tree}

-- ---- stages, one after another

then_go-after : (es : List Entry) (t : Trace) (next : State → Trace)
    → then_go (after es t) next ≡ after es (then_go t next)
then_go-after es t next =
    ap (λ entries. record { entries = entries; outcome = (follow t.outcome next).outcome })
    (append_assoc es t.entries (follow t.outcome next).entries)

then_go-both : (es : List Entry) (o : Outcome) (f g h : State → Trace)
    → ((state : State) → f state ≡ then_go (g state) h)
    → after es (follow o f) ≡ then_go (after es (follow o g)) h
then_go-both es (Goes state) f g h same =
    ap (after es) (same state) ∙ sym (then_go-after es (g state) h)
then_go-both es (Ends end) f g h same = sym (then_go-after es (ends end) h)

run-both : (setup : Setup) (rules : List Rule) (xs ys : List Stage) (state : State)
    → run_stages setup rules (xs ++ ys) state
    ≡ then_go (run_stages setup rules xs state) (run_stages setup rules ys)
run-both setup rules [] ys state = refl
run-both setup rules (x ∷ xs) ys state =
    let t = run_stage setup rules x state in
    then_go-both t.entries t.outcome (run_stages setup rules (xs ++ ys)) (run_stages setup rules xs)
    (run_stages setup rules ys) (run-both setup rules xs ys)

-- what all runs of some stages follow
abbrev Follow : Setup → List Rule → (List Mark → Type 0) → List Stage → Type 0
Follow setup rules P ss = (state : State) → Guided setup P (run_stages setup rules ss state)

follow-both : (setup : Setup) (rules : List Rule) (P Q : List Mark → Type 0) (xs ys : List Stage)
    → Follow setup rules P xs → Follow setup rules Q ys → Follow setup rules (Then P Q) (xs ++ ys)
follow-both setup rules P Q xs ys one two state =
    subst (Guided setup (Then P Q)) (sym (run-both setup rules xs ys state))
    (guided-then setup P Q (run_stages setup rules xs state) (run_stages setup rules ys)
    (one state) two)

follow-map : (setup : Setup) (rules : List Rule) (P Q : List Mark → Type 0) (ss : List Stage)
    → ((marks : List Mark) → P marks → Q marks) → Follow setup rules P ss → Follow setup rules Q ss
follow-map setup rules P Q ss to one state =
    guided-map setup P Q (run_stages setup rules ss state) to (one state)

follow-bins : (setup : Setup) (rules : List Rule) (n : ℕ) (bs : List ℕ)
    → Follow setup rules (PathOfBins setup bs) (bins bs n)
follow-bins setup rules n [] state = guided-stays setup state
follow-bins setup rules n (b ∷ bs) state =
    guided-then setup (Path (bin setup b)) (PathOfBins setup bs)
    (run_tree setup rules n (bin setup b) state) (run_stages setup rules (bins bs n))
    (guided-tree setup rules n (bin setup b) state) (follow-bins setup rules n bs)

-- ---- output

met-written : (setup : Setup) (n : ℕ) (state : State) (flags : Flags) (vs : List VarId)
    → Met setup flags (flat_map (output_needs setup) vs)
    → EntriesMet setup flags (all_written setup n state vs)
met-written setup n state flags [] met = tt
met-written setup n state flags (v ∷ vs) met =
    let P = λ (need : Need). is_met setup flags need ≡ true in (
      all-left P (output_needs setup v) (flat_map (output_needs setup) vs) met,
      met-written setup n state flags vs
          (all-right P (output_needs setup v) (flat_map (output_needs setup) vs) met),
    )

written-leave : (setup : Setup) (n : ℕ) (state : State) (flags : Flags) (vs : List VarId)
    → entries_leave setup (all_written setup n state vs) flags ≡ flags
written-leave setup n state flags [] = refl
written-leave setup n state flags (v ∷ vs) = written-leave setup n state flags vs

guided-write : (setup : Setup) (rules : List Rule) (n : ℕ) (state : State)
    → Guided setup (Just (Meets Outputs ∷ [])) (run_stage setup rules (Write n) state)
guided-write setup rules n state =
    record {
      marks = Meets Outputs ∷ [];
      path = refl;
      met = λ flags met. met-written setup n state flags setup.out_vars met.0;
      left = λ flags. written-leave setup n state flags setup.out_vars;
    }

-- the output that a path meets where there is any; where it isn't due the run writes nothing
abbrev pub outputs_if : Bool → List Mark
outputs_if true = Meets Outputs ∷ []
outputs_if false = []

pub is_positive : (k : ℕ) → true ≡ int_lt (pos 0) (pos (suc k))
is_positive k = grind arith

follow-output : (setup : Setup) (rules : List Rule) (n : ℕ) (z : ℤ)
    → Follow setup rules (Just (outputs_if (int_lt (pos 0) z)))
    (cond (is_each z n) (Write n ∷ []) [])
follow-output setup rules n (pos zero) state = guided-stays setup state
follow-output setup rules n (negsuc k) state = guided-stays setup state
follow-output setup rules n (pos (suc k)) state =
    subst (λ b. Guided setup (Just (outputs_if b))
    (run_stages setup rules (cond (is_each (pos (suc k)) n) (Write n ∷ []) []) state))
    (is_positive k) (by (n % suc k == 0))
  where
    by : (b : Bool) → Guided setup (Just (Meets Outputs ∷ []))
        (run_stages setup rules (cond b (Write n ∷ []) []) state)
    by true =
        guided-map setup (Then (Just (Meets Outputs ∷ [])) (Just [])) (Just (Meets Outputs ∷ []))
        (run_stages setup rules (Write n ∷ []) state) (then-nothing (Just (Meets Outputs ∷ [])))
        (guided-then setup (Just (Meets Outputs ∷ [])) (Just [])
        (run_stage setup rules (Write n) state) (run_stages setup rules [])
        (guided-write setup rules n state) (guided-stays setup))
    by false = record {
      marks = Meets Outputs ∷ [];
      path = refl;
      met = λ flags met. tt;
      left = λ flags. refl;
    }

pub analysis : (setup : Setup) (z : ℤ) (marks : List Mark)
    → Then (Path (bin setup ANALYSIS)) (Just (outputs_if (int_lt (pos 0) z))) marks
    → PathOfAnalysis (record setup { out_every = z }) marks
analysis setup (pos zero) marks way = way
analysis setup (pos (suc k)) marks way = way
analysis setup (negsuc k) marks way = way

abbrev Written : Setup → List Mark → Type 0
Written setup = Just (outputs_if (int_lt (pos 0) setup.out_every))

follow-analysis : (setup : Setup) (rules : List Rule) (n : ℕ)
    → Follow setup rules (PathOfAnalysis setup) (from_analysis setup n)
follow-analysis setup rules n state =
    let t = run_tree setup rules n (bin setup ANALYSIS) state in
    let next = run_stages setup rules (cond (is_written setup n) (Write n ∷ []) []) in
    guided-map setup (Then (Path (bin setup ANALYSIS)) (Written setup)) (PathOfAnalysis setup)
    (then_go t next) (analysis setup setup.out_every)
    (guided-then setup (Path (bin setup ANALYSIS)) (Written setup) t next
    (guided-tree setup rules n (bin setup ANALYSIS) state)
    (follow-output setup rules n setup.out_every))

-- ---- checkpoints

pub empty-path : (tree : Tree) (marks : List Mark) → is_empty tree ≡ true → Path tree marks
    → marks ≡ []
empty-path (Seq' shape all) marks none way = by all none way
  where
    by : {m : _} (row : Row_of-Tree m) → has_none row ≡ true → PathIn row marks → marks ≡ []
    by end_of-Tree none way = way
    by (more_of-Tree tree rest) none way = absurd cc
empty-path (Call k) marks none way = absurd cc
empty-path (Sync vars path) marks none way = absurd cc
empty-path (If' v path shape one) marks none way = absurd cc
empty-path (While' v path shape one) marks none way = absurd cc

guided-letter : (setup : Setup) (c : ℕ) (P : List Mark → Type 0) (t : Trace) → Guided setup P t
    → Guided setup (Then (Just (Letter c ∷ [])) P) t
guided-letter setup c P t g =
    record {
      marks = Letter c ∷ g.marks;
      path = (Letter c ∷ [], g.marks, refl, g.path, refl);
      met = g.met;
      left = by t.outcome g.left;
    }
  where
    by : (o : Outcome) → SameLeft setup g.marks t.entries o
        → SameLeft setup (Letter c ∷ g.marks) t.entries o
    by (Goes state) same = same
    by (Ends end) same = same

guided-save : (setup : Setup) (rules : List Rule) (n : ℕ) (state : State)
    → Guided setup (Just []) (run_stages setup rules (Save n ∷ []) state)
guided-save setup rules n state =
    record {
      marks = [];
      path = refl;
      met = λ flags met. (All-nil (λ need. is_met setup flags need ≡ true), tt);
      left = λ flags. refl;
    }

-- the bin of a due checkpoint
follow-due : (setup : Setup) (rules : List Rule) (n : ℕ)
    → Follow setup rules (Path (bin setup CHECKPOINT)) (Bin CHECKPOINT n ∷ Save n ∷ [])
follow-due setup rules n state =
    let tree = bin setup CHECKPOINT in
    guided-map setup (Then (Path tree) (Just [])) (Path tree)
    (run_stages setup rules (Bin CHECKPOINT n ∷ Save n ∷ []) state) (then-nothing (Path tree))
    (guided-then setup (Path tree) (Just []) (run_tree setup rules n tree state)
    (run_stages setup rules (Save n ∷ [])) (guided-tree setup rules n tree state)
    (guided-save setup rules n))

abbrev Bin-or-letter : Setup → Bool → List Mark → Type 0
Bin-or-letter setup b marks =
    MatchBool b (Just [] marks)
    (Then (Just (letter_y ∷ [])) (Path (bin setup CHECKPOINT)) marks
    ⊎ Just (letter_n ∷ []) marks)

follow-checkpoint : (setup : Setup) (rules : List Rule) (n : ℕ)
    → Follow setup rules (PathOfCheckpoint setup) (checkpoint setup n)
follow-checkpoint setup rules n state = by (is_empty (bin setup CHECKPOINT)) refl (is_due setup n)
  where
    by : (b : Bool) → is_empty (bin setup CHECKPOINT) ≡ b → (due : Bool)
        → Guided setup (Bin-or-letter setup b)
        (run_stages setup rules (cond due (Bin CHECKPOINT n ∷ Save n ∷ []) []) state)
    by true none true =
        guided-map setup (Path (bin setup CHECKPOINT)) (Bin-or-letter setup true)
        (run_stages setup rules (Bin CHECKPOINT n ∷ Save n ∷ []) state)
        (λ marks. empty-path (bin setup CHECKPOINT) marks none) (follow-due setup rules n state)
    by true none false = record {
      marks = [];
      path = refl;
      met = λ flags met. tt;
      left = λ flags. refl;
    }
    by false none true =
        guided-map setup (Then (Just (letter_y ∷ [])) (Path (bin setup CHECKPOINT)))
        (Bin-or-letter setup false)
        (run_stages setup rules (Bin CHECKPOINT n ∷ Save n ∷ []) state) (λ marks way. inl way)
        (guided-letter setup 121 (Path (bin setup CHECKPOINT))
        (run_stages setup rules (Bin CHECKPOINT n ∷ Save n ∷ []) state)
        (follow-due setup rules n state))
    by false none false = record {
      marks = letter_n ∷ [];
      path = inr refl;
      met = λ flags met. tt;
      left = λ flags. refl;
    }

-- ---- iterations

guided-rotate : (setup : Setup) (state : State)
    → Guided setup (Just (letter_i ∷ Meets Rotates ∷ [])) (does (Rotated state) (rotate state))
guided-rotate setup state =
    record {
      marks = letter_i ∷ Meets Rotates ∷ [];
      path = refl;
      met = λ flags met. met;
      left = λ flags. refl;
    }

follow-iteration : (setup : Setup) (rules : List Rule) (n : ℕ)
    → Follow setup rules (PathOfIteration setup) (iteration setup (suc n))
follow-iteration setup rules n =
    let R = Just (letter_i ∷ Meets Rotates ∷ []) in
    let B = PathOfBins setup step_bins in
    let C = PathOfCheckpoint setup in
    let A = PathOfAnalysis setup in
    let evolving = bins step_bins (suc n) in
    follow-map setup rules (Then (Then (Then R B) C) A) (Then R (Then B (Then C A)))
    (iteration setup (suc n))
    (λ marks way. then-right R B (Then C A) marks (then-right (Then R B) C A marks way))
    (follow-both setup rules (Then (Then R B) C) A (before_analysis setup (suc n))
    (from_analysis setup (suc n))
    (follow-both setup rules (Then R B) C (Rotate ∷ evolving) (checkpoint setup (suc n))
    (λ state. guided-then setup R B (does (Rotated state) (rotate state))
    (run_stages setup rules evolving) (guided-rotate setup state)
    (follow-bins setup rules (suc n) step_bins))
    (follow-checkpoint setup rules (suc n)))
    (follow-analysis setup rules (suc n)))

follow-iterations : (setup : Setup) (rules : List Rule) (c count : ℕ)
    → Follow setup rules (PathOfIterations setup count)
    (flat_map (iteration setup) (range_with_len (c + 1) count))
follow-iterations setup rules c zero = guided-stays setup
follow-iterations setup rules c (suc count) =
    follow-both setup rules (PathOfIteration setup) (PathOfIterations setup count)
    (iteration setup (c + 1)) (flat_map (iteration setup) (range_with_len (c + 1 + 1) count))
    (subst (λ n. Follow setup rules (PathOfIteration setup) (iteration setup n)) next
    (follow-iteration setup rules c)) (follow-iterations setup rules (c + 1) count)
  where
    next : suc c ≡ c + 1
    next = omega arith

-- ---- the run

follow-job : (setup : Setup) (rules : List Rule)
    → Follow setup rules (PathOfJob setup) (stages setup)
follow-job setup rules =
    let S = PathOfBins setup start_bins in
    let E = PathOfBins setup end_bins in
    let N = PathOfIterations setup setup.itlast in
    let iterations = flat_map (iteration setup) (range_with_len 1 setup.itlast) in
    let ending = bins end_bins setup.itlast in
    follow-map setup rules (Then (Then S (PathOfAnalysis setup)) (Then N E)) (PathOfJob setup)
    (stages setup)
    (λ marks way. (
      way.0,
      way.1,
      way.2,
      (way.3.0, way.3.1, (setup.itlast, way.3.2), way.3.3, way.3.4),
      way.4,
    ))
    (follow-both setup rules (Then S (PathOfAnalysis setup)) (Then N E) (iteration setup 0)
    (rest_behind setup 0 setup.itlast)
    (follow-both setup rules S (PathOfAnalysis setup) (before_analysis setup 0)
    (from_analysis setup 0)
    (follow-bins setup rules 0 start_bins) (follow-analysis setup rules 0))
    (follow-both setup rules N E iterations ending (follow-iterations setup rules 0 setup.itlast)
    (follow-bins setup rules setup.itlast end_bins)))

met-within : (setup : Setup) (so_far : Lengths) (es : List Entry) (o : Outcome) (flags : Flags)
    → EntriesMet setup flags es → EntriesMet setup flags (within_limit so_far es o).entries
met-within setup so_far [] o flags met = tt
met-within setup so_far (e ∷ es) o flags met =
    by (passing so_far e) (within_limit (lengths_after so_far e) es o)
    (met-within setup (lengths_after so_far e) es o (entry_leaves setup e flags) met.1)
  where
    by : (p : Option ℕ) (rest : Trace) → EntriesMet setup (entry_leaves setup e flags) rest.entries
        → EntriesMet setup flags (stop_or p (after (e ∷ []) rest)).entries
    by None rest others = (met.0, others)
    by (Some n) rest others = tt

-- along the run of a sound job from any state each need is met
pub met-run : (setup : Setup) (rules : List Rule) (state : State) → Sound setup
    → EntriesMet setup cleared (run_stages setup rules (stages setup) state).entries
met-run setup rules state sound =
    let g = follow-job setup rules state in
    g.met cleared (path-met setup [] cleared g.marks (sound g.marks g.path))

pub uses-only-set : (setup : Setup) (rules : List Rule) → Sound setup → UsesOnlySet setup rules
uses-only-set setup rules sound earlier e later is =
    let run = run_stages setup rules (stages setup) (start setup) in
    let met = met-within setup no_lengths run.entries run.outcome cleared
    (met-run setup rules (start setup) sound) in
    entry-met setup earlier e later cleared (subst (EntriesMet setup cleared) is met)
