-- What holds of each state of a run, if it holds of the first one and each turn and each rotation
-- keep it.
use Rattle.std.proofs.Common.{◌≡◌, refl, subst, ◌∙◌, ℕ, zero, suc, ◌+◌, ◌<◌, Bool, true, false, cond, ℤ, pos, negsuc, List, [], ◌∷◌, ◌++◌, get_or, Option, Some, None, arith, lit<}
use Rattle.std.specs.List.{All, flat_map, range_with_len}
use Rattle.std.proofs.lemmas.List.Elements.{All-head}
use Rattle.std.proofs.lemmas.List.FromFn.{get_or-range_with_len}
use Rattle.cx_plan.specs.declared.variable.VarId.{VarId}
use Rattle.cx_plan.specs.declared.item.Item.{Item}
use Rattle.cx_plan.specs.declared.tree.Tree.{Tree, Seq', Call, Sync, If', While', Row_of-Tree, end_of-Tree, more_of-Tree}
use Rattle.cx_plan.specs.Setups.{Setup}
use Rattle.cx_plan.specs.Dues.{is_due, is_written}
use Rattle.cx_plan.specs.Lookups.{bin, called, called_in, CHECKPOINT, ANALYSIS, start_bins, step_bins, end_bins, run_bins, run_bin_count}
use Rattle.cx_plan.specs.Regions.{run_items}
use Rattle.cx_plan.specs.Steering.{item_at}
use Rattle.cx_rule.specs.Routine.{Rule}
use Rattle.cx_rule.specs.States.{State, scalar_of, rotate}
use Rattle.cx_model.specs.Turns.{turn}
use Rattle.cx_model.specs.declared.ends.End.{End}
use Rattle.cx_model.specs.declared.ends.End.TheVariants.{WhileLimit}
use Rattle.cx_model.specs.Traces.{Entry, Turned, Overflowed, Exchanged, Tested, Rotated, Wrote, Saved, Outcome, Goes, Ends, Trace, stays, ends, does, after, follow, then_go}
use Rattle.cx_model.specs.Trees.{at_zero, test, turn_trace, loop, run_tree, run_row}
use Rattle.cx_model.specs.Stages.{Stage, Bin, Rotate, Save, Write, bins, before_analysis, from_analysis, iteration, rest_behind, stages}
use Rattle.cx_model.specs.Runs.{text_of, all_written, run_stage, run_stages, Lengths, no_lengths, lengths_after, passing, stop_or, within_limit}
use Rattle.cx_model.specs.Alike.{run_from}
use Rattle.cx_model.proofs.ListLaws.{all-left, all-right, all-of-one}
use Rattle.cx_model.proofs.WalkLaws.{Each, each-both, OfTrees, walk-tree}

abbrev pub GoodOr : (State → Type 0) → Option State → Type 0
GoodOr Good None = Unit {0}
GoodOr Good (Some state) = Good state

-- each turn of an item keeps it
abbrev pub TurnsWell : Setup → List Rule → (State → Type 0) → ℕ → Type 0
TurnsWell setup rules Good k = (iteration : ℕ) (state : State) → Good state
    → GoodOr Good (turn setup rules (item_at setup k iteration) state iteration)

abbrev GoesOn : (State → Type 0) → Outcome → Type 0
GoesOn Good (Goes state) = Good state
GoesOn Good (Ends end) = Unit {0}

abbrev Leaves : (State → Type 0) → (State → Trace) → Type 0
Leaves Good body = (state : State) → Good state → GoesOn Good (body state).outcome

-- a text is that of a state in which it holds
pub record IsText (setup : Setup) (Good : State → Type 0) (v : VarId) (n : ℕ) (bytes : List ℕ)
    (state : State) : Type 0 where
  pub text : bytes ≡ text_of setup n state v
  pub good : Good state

abbrev pub IsGood : Setup → (State → Type 0) → Entry → Type 0
IsGood setup Good (Wrote v n text state) = IsText setup Good v n text state
IsGood setup Good (Turned k n state) = Unit {0}
IsGood setup Good (Overflowed k n state) = Unit {0}
IsGood setup Good (Exchanged vars path state) = Unit {0}
IsGood setup Good (Tested v path state) = Unit {0}
IsGood setup Good (Rotated state) = Unit {0}
IsGood setup Good (Saved n state) = Unit {0}

-- ---- trees

then_leaves : (Good : State → Type 0) (t : Trace) (next : State → Trace) → GoesOn Good t.outcome
    → Leaves Good next → GoesOn Good (then_go t next).outcome
then_leaves Good t next one two = by t.outcome one
  where
    by : (o : Outcome) → GoesOn Good o → GoesOn Good (follow o next).outcome
    by (Goes state) good = two state good
    by (Ends end) good = tt

test_leaves : (Good : State → Type 0) (v : VarId) (path : List ℕ) (a b : State → Trace)
    (state : State) → GoesOn Good (a state).outcome → GoesOn Good (b state).outcome
    → GoesOn Good (test v path a b state).outcome
test_leaves Good v path a b state one two = by (scalar_of state v)
  where
    by : (n : ℤ) → GoesOn Good (at_zero n a b state).outcome
    by (pos zero) = one
    by (pos (suc n)) = two
    by (negsuc n) = two

loop_leaves : (Good : State → Type 0) (v : VarId) (path : List ℕ) (limit : End)
    (body : State → Trace) → Leaves Good body → (turns : ℕ)
    → Leaves Good (loop v path limit body turns)
loop_leaves Good v path limit body each zero state good =
    test_leaves Good v path stays (λ _. ends limit) state good tt
loop_leaves Good v path limit body each (suc turns) state good =
    let next = loop v path limit body turns in
    test_leaves Good v path stays (λ s. then_go (body s) next) state good
    (then_leaves Good (body state) next (each state good)
    (loop_leaves Good v path limit body each turns))

turn_leaves : (Good : State → Type 0) (k : ℕ) (x : Item) (iteration : ℕ) (state : State)
    (o : Option State) → GoodOr Good o → GoesOn Good (turn_trace k x iteration state o).outcome
turn_leaves Good k x iteration state None new = tt
turn_leaves Good k x iteration state (Some now) new = new

module _ (setup : Setup) (rules : List Rule) (Good : State → Type 0) where
  mutual
    tree_leaves : (iteration : ℕ) (tree : Tree)
        → All (TurnsWell setup rules Good) (called tree)
        → Leaves Good (run_tree setup rules iteration tree)
    tree_leaves iteration (Seq' shape all) each = row_leaves iteration all each
    tree_leaves iteration (Call k) each = λ state good.
        turn_leaves Good k (item_at setup k iteration) iteration state
        (turn setup rules (item_at setup k iteration) state iteration)
        (All-head (TurnsWell setup rules Good) k [] each iteration state good)
    tree_leaves iteration (Sync vars path) each = λ state good. good
    tree_leaves iteration (If' v path shape one) each = λ state good.
        test_leaves Good v path stays (run_row setup rules iteration one) state good
        (row_leaves iteration one each state good)
    tree_leaves iteration (While' v path shape one) each =
        loop_leaves Good v path (WhileLimit iteration path) (run_row setup rules iteration one)
        (row_leaves iteration one each) setup.while_limit

    row_leaves : {m : _} (iteration : ℕ) (row : Row_of-Tree m)
        → All (TurnsWell setup rules Good) (called_in row)
        → Leaves Good (run_row setup rules iteration row)
    row_leaves iteration end_of-Tree each = λ state good. good
    row_leaves iteration (more_of-Tree tree rest) each = λ state good.
        then_leaves Good (run_tree setup rules iteration tree state)
        (run_row setup rules iteration rest)
        (tree_leaves iteration tree
        (all-left (TurnsWell setup rules Good) (called tree) (called_in rest) each) state good)
        (row_leaves iteration rest
        (all-right (TurnsWell setup rules Good) (called tree) (called_in rest) each))

-- the items of a bin that is run
bin_turns : (setup : Setup) (P : ℕ → Type 0) (b : ℕ) → b < run_bin_count
    → All P (run_items setup) → All P (called (bin setup b))
bin_turns setup P b below each =
    subst (λ k. All P (called (bin setup k))) number
    (all-of-one P (λ b. called (bin setup b)) run_bins b 0 below each)
  where
    number : get_or run_bins b 0 ≡ b
    number = get_or-range_with_len 0 run_bin_count b 0 below ∙ omega arith

-- ---- stages

-- the bins of some stages are among those that are run
abbrev AreRun : List Stage → Type 0
AreRun [] = Unit {0}
AreRun (Bin b n ∷ ss) = (b < run_bin_count) × AreRun ss
AreRun (Rotate ∷ ss) = AreRun ss
AreRun (Save n ∷ ss) = AreRun ss
AreRun (Write n ∷ ss) = AreRun ss

both_run : (xs ys : List Stage) → AreRun xs → AreRun ys → AreRun (xs ++ ys)
both_run [] ys one two = two
both_run (Bin b n ∷ xs) ys one two = (one.0, both_run xs ys one.1 two)
both_run (Rotate ∷ xs) ys one two = both_run xs ys one two
both_run (Save n ∷ xs) ys one two = both_run xs ys one two
both_run (Write n ∷ xs) ys one two = both_run xs ys one two

start_run : (n : ℕ) → AreRun (bins start_bins n)
start_run n = (lit< tt, (lit< tt, (lit< tt, (lit< tt, (lit< tt, (lit< tt, (lit< tt, tt)))))))

step_run : (n : ℕ) → AreRun (bins step_bins n)
step_run n = (lit< tt, (lit< tt, (lit< tt, tt)))

end_run : (n : ℕ) → AreRun (bins end_bins n)
end_run n = (lit< tt, (lit< tt, tt))

before_run : (setup : Setup) (n : ℕ) → AreRun (before_analysis setup n)
before_run setup zero = start_run 0
before_run setup (suc n) = by (is_due setup (suc n))
  where
    by : (due : Bool) → AreRun
        (Rotate ∷ bins step_bins (suc n)
        ++ cond due (Bin CHECKPOINT (suc n) ∷ Save (suc n) ∷ []) [])
    by true = (lit< tt, (lit< tt, (lit< tt, (lit< tt, tt))))
    by false = (lit< tt, (lit< tt, (lit< tt, tt)))

from_run : (setup : Setup) (n : ℕ) → AreRun (from_analysis setup n)
from_run setup n = by (is_written setup n)
  where
    by : (b : Bool) → AreRun (Bin ANALYSIS n ∷ cond b (Write n ∷ []) [])
    by true = (lit< tt, tt)
    by false = (lit< tt, tt)

iteration_run : (setup : Setup) (n : ℕ) → AreRun (iteration setup n)
iteration_run setup n =
    both_run (before_analysis setup n) (from_analysis setup n) (before_run setup n)
    (from_run setup n)

iterations_run : (setup : Setup) (k count : ℕ)
    → AreRun (flat_map (iteration setup) (range_with_len k count))
iterations_run setup k zero = tt
iterations_run setup k (suc count) =
    both_run (iteration setup k) (flat_map (iteration setup) (range_with_len (k + 1) count))
    (iteration_run setup k) (iterations_run setup (k + 1) count)

stages_run : (setup : Setup) → AreRun (stages setup)
stages_run setup =
    let most = setup.itlast in
    both_run (iteration setup 0) (rest_behind setup 0 most) (iteration_run setup 0)
    (both_run (flat_map (iteration setup) (range_with_len (0 + 1) most)) (bins end_bins most)
    (iterations_run setup (0 + 1) most) (end_run most))

-- ---- the run

record Keeps (setup : Setup) (Good : State → Type 0) (t : Trace) : Type 0 where
  entries : Each (IsGood setup Good) t.entries
  outcome : GoesOn Good t.outcome

keeps_then : (setup : Setup) (Good : State → Type 0) (t : Trace) (next : State → Trace)
    → Keeps setup Good t → ((state : State) → Good state → Keeps setup Good (next state))
    → Keeps setup Good (then_go t next)
keeps_then setup Good t next one two = by t.outcome one.outcome
  where
    by : (o : Outcome) → GoesOn Good o → Keeps setup Good (after t.entries (follow o next))
    by (Goes state) good = let r = two state good in
        record {
          entries = each-both (IsGood setup Good) t.entries
              (next state).entries one.entries r.entries;
          outcome = r.outcome;
        }
    by (Ends end) good = record {
      entries = each-both (IsGood setup Good) t.entries [] one.entries tt;
      outcome = tt;
    }

trees_write_none : (setup : Setup) (Good : State → Type 0)
    → OfTrees (IsGood setup Good) (λ end. Unit {0})
trees_write_none setup Good = record {
  turned = λ k n state. tt;
  overflowed = λ k n state. tt;
  exchanged = λ vars path state. tt;
  tested = λ v path state. tt;
  overflow = λ n path. tt;
  while_limit = λ n path. tt;
}

texts_good : (setup : Setup) (Good : State → Type 0) (n : ℕ) (state : State) (vs : List VarId)
    → Good state → Each (IsGood setup Good) (all_written setup n state vs)
texts_good setup Good n state [] good = tt
texts_good setup Good n state (v ∷ vs) good =
    (record { text = refl; good = good }, texts_good setup Good n state vs good)

each_within : (setup : Setup) (Good : State → Type 0) (so_far : Lengths) (es : List Entry)
    (o : Outcome) → Each (IsGood setup Good) es
    → Each (IsGood setup Good) (within_limit so_far es o).entries
each_within setup Good so_far [] o each = tt
each_within setup Good so_far (e ∷ es) o each =
    by (passing so_far e) (within_limit (lengths_after so_far e) es o)
    (each_within setup Good (lengths_after so_far e) es o each.1)
  where
    by : (p : Option ℕ) (rest : Trace) → Each (IsGood setup Good) rest.entries
        → Each (IsGood setup Good) (stop_or p (after (e ∷ []) rest)).entries
    by None rest others = (each.0, others)
    by (Some n) rest others = tt

module _ (setup : Setup) (rules : List Rule) (Good : State → Type 0)
    (turns : All (TurnsWell setup rules Good) (run_items setup))
    (rotates : (state : State) → Good state → Good (rotate state)) where
  keeps_stages : (ss : List Stage) → AreRun ss → (state : State) → Good state
      → Keeps setup Good (run_stages setup rules ss state)
  keeps_stages [] run state good = record { entries = tt; outcome = good }
  keeps_stages (Bin k n ∷ ss) run state good =
      keeps_then setup Good (run_tree setup rules n (bin setup k) state)
      (run_stages setup rules ss)
      (record {
        entries =
            (walk-tree (IsGood setup Good) (λ end. Unit {0}) setup rules n (bin setup k) state
            (trees_write_none setup Good)).entries;
        outcome = tree_leaves setup rules Good n (bin setup k)
            (bin_turns setup (TurnsWell setup rules Good) k run.0 turns) state good;
      })
      (keeps_stages ss run.1)
  keeps_stages (Rotate ∷ ss) run state good =
      keeps_then setup Good (does (Rotated state) (rotate state)) (run_stages setup rules ss)
      (record { entries = (tt, tt); outcome = rotates state good }) (keeps_stages ss run)
  keeps_stages (Save n ∷ ss) run state good =
      keeps_then setup Good (does (Saved n state) state) (run_stages setup rules ss)
      (record { entries = (tt, tt); outcome = good }) (keeps_stages ss run)
  keeps_stages (Write n ∷ ss) run state good =
      keeps_then setup Good (run_stage setup rules (Write n) state) (run_stages setup rules ss)
      (record { entries = texts_good setup Good n state setup.out_vars good; outcome = good })
      (keeps_stages ss run)

  -- each text of a run that begins in such a state is that of such a state
  pub texts_of_good : (first : State) → Good first
      → Each (IsGood setup Good) (run_from setup rules first).entries
  texts_of_good first good =
      let t = run_stages setup rules (stages setup) first in
      each_within setup Good no_lengths t.entries t.outcome
      (keeps_stages (stages setup) (stages_run setup) first good).entries
