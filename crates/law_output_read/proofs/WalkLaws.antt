-- What each text of a run is: its variable, its iteration and the numbers that it prints.
use Rattle.std.proofs.Common.{◌≡◌, refl, ℕ, zero, suc, ◌+◌, ◌≤◌, Bool, true, false, cond, ℤ, pos, negsuc, List, [], ◌∷◌, ◌++◌, All, Option, Some, None, arith}
use Rattle.std.specs.List.{flat_map, range_with_len}
use Rattle.std.proofs.lemmas.List.Elements.{All-head, All-tail}
use Rattle.cx_plan.specs.declared.variable.VarId.{VarId}
use Rattle.cx_plan.specs.declared.item.Item.{Item}
use Rattle.cx_plan.specs.declared.job.Job.{Job}
use Rattle.cx_plan.specs.declared.tree.Tree.{Tree, Seq', Call, Sync, If', While', Row_of-Tree, end_of-Tree, more_of-Tree}
use Rattle.cx_plan.specs.Setups.{Setup, setup_of}
use Rattle.cx_plan.specs.Dues.{is_due, is_written}
use Rattle.cx_plan.specs.Lookups.{bin, CHECKPOINT, ANALYSIS, step_bins, end_bins}
use Rattle.cx_plan.specs.Steering.{item_at}
use Rattle.cx_plan.specs.Whole.{IsStored}
use Rattle.cx_rule.specs.Routine.{Rule}
use Rattle.cx_rule.specs.States.{State, scalar_of, rotate}
use Rattle.cx_model.specs.States.{start}
use Rattle.cx_model.specs.Turns.{turn}
use Rattle.cx_model.specs.declared.ends.End.{End}
use Rattle.cx_model.specs.declared.ends.End.TheVariants.{WhileLimit}
use Rattle.cx_model.specs.Traces.{Entry, Turned, Overflowed, Exchanged, Tested, Rotated, Wrote, Saved, Outcome, Goes, Ends, Trace, stays, ends, does, after, follow, then_go}
use Rattle.cx_model.specs.Trees.{at_zero, test, turn_trace, loop, run_tree, run_row}
use Rattle.cx_model.specs.Stages.{Stage, Bin, Rotate, Save, Write, bins, before_analysis, from_analysis, iteration, rest_behind, stages}
use Rattle.cx_model.specs.Runs.{text_of, all_written, run_stage, run_stages, Lengths, no_lengths, lengths_after, passing, stop_or, within_limit, undivided_run}
use Rattle.cx_model.proofs.WalkLaws.{Each, each-both, OfTrees, walk-tree}
use Rattle.law_output_read.proofs.NumberLaws.{AreSmall, AreSmallOr, start_small, rotate_small, turn_small}

-- ---- what a tree leaves: a state whose numbers fit in 64 bits, or an end

abbrev GoesOn : Outcome → Type 0
GoesOn (Goes state) = AreSmall state
GoesOn (Ends end) = Unit {0}

abbrev LeavesSmall : (State → Trace) → Type 0
LeavesSmall body = (state : State) → AreSmall state → GoesOn (body state).outcome

then_leaves : (t : Trace) (next : State → Trace) → GoesOn t.outcome → LeavesSmall next
    → GoesOn (then_go t next).outcome
then_leaves t next one two = by t.outcome one
  where
    by : (o : Outcome) → GoesOn o → GoesOn (follow o next).outcome
    by (Goes state) small = two state small
    by (Ends end) small = tt

test_leaves : (v : VarId) (path : List ℕ) (a b : State → Trace) (state : State)
    → GoesOn (a state).outcome → GoesOn (b state).outcome → GoesOn (test v path a b state).outcome
test_leaves v path a b state one two = by (scalar_of state v)
  where
    by : (n : ℤ) → GoesOn (at_zero n a b state).outcome
    by (pos zero) = one
    by (pos (suc n)) = two
    by (negsuc n) = two

loop_leaves : (v : VarId) (path : List ℕ) (limit : End) (body : State → Trace) → LeavesSmall body
    → (turns : ℕ) → LeavesSmall (loop v path limit body turns)
loop_leaves v path limit body each zero state small =
    test_leaves v path stays (λ _. ends limit) state small tt
loop_leaves v path limit body each (suc turns) state small =
    let next = loop v path limit body turns in
    test_leaves v path stays (λ s. then_go (body s) next) state small
    (then_leaves (body state) next (each state small)
    (loop_leaves v path limit body each turns))

turn_leaves : (k : ℕ) (x : Item) (iteration : ℕ) (state : State) (o : Option State) → AreSmallOr o
    → GoesOn (turn_trace k x iteration state o).outcome
turn_leaves k x iteration state None new = tt
turn_leaves k x iteration state (Some now) new = new

mutual
  tree_leaves : (setup : Setup) (rules : List Rule) (iteration : ℕ) (tree : Tree)
      → LeavesSmall (run_tree setup rules iteration tree)
  tree_leaves setup rules iteration (Seq' shape all) = row_leaves setup rules iteration all
  tree_leaves setup rules iteration (Call k) = λ state small.
      turn_leaves k (item_at setup k iteration) iteration state
      (turn setup rules (item_at setup k iteration) state iteration)
      (turn_small setup rules (item_at setup k iteration) state iteration small)
  tree_leaves setup rules iteration (Sync vars path) = λ state small. small
  tree_leaves setup rules iteration (If' v path shape one) = λ state small.
      test_leaves v path stays (run_row setup rules iteration one) state small
      (row_leaves setup rules iteration one state small)
  tree_leaves setup rules iteration (While' v path shape one) =
      loop_leaves v path (WhileLimit iteration path) (run_row setup rules iteration one)
      (row_leaves setup rules iteration one) setup.while_limit

  row_leaves : {m : _} (setup : Setup) (rules : List Rule) (iteration : ℕ) (row : Row_of-Tree m)
      → LeavesSmall (run_row setup rules iteration row)
  row_leaves setup rules iteration end_of-Tree = λ state small. small
  row_leaves setup rules iteration (more_of-Tree tree rest) = λ state small.
      then_leaves (run_tree setup rules iteration tree state) (run_row setup rules iteration rest)
      (tree_leaves setup rules iteration tree state small)
      (row_leaves setup rules iteration rest)

-- ---- the texts

-- a text of the job's run: of a stored variable in an iteration, from a state whose numbers fit in
-- 64 bits
pub record IsText (job : Job) (v : VarId) (iteration : ℕ) (bytes : List ℕ)
    (state : State) : Type 0 where
  pub stored : IsStored job v 0
  pub within : iteration ≤ job.itlast
  pub text : bytes ≡ text_of (setup_of job) iteration state v
  pub small : AreSmall state

abbrev pub IsTold : Job → Entry → Type 0
IsTold job (Wrote v iteration text state) = IsText job v iteration text state
IsTold job (Turned k iteration state) = Unit {0}
IsTold job (Overflowed k iteration state) = Unit {0}
IsTold job (Exchanged vars path state) = Unit {0}
IsTold job (Tested v path state) = Unit {0}
IsTold job (Rotated state) = Unit {0}
IsTold job (Saved iteration state) = Unit {0}

trees_write_none : (job : Job) → OfTrees (IsTold job) (λ end. Unit {0})
trees_write_none job = record {
  turned = λ k n state. tt;
  overflowed = λ k n state. tt;
  exchanged = λ vars path state. tt;
  tested = λ v path state. tt;
  overflow = λ n path. tt;
  while_limit = λ n path. tt;
}

-- ---- stages

-- each output of some stages is in an iteration up to this one
abbrev AreWithin : ℕ → List Stage → Type 0
AreWithin most [] = Unit {0}
AreWithin most (Bin b n ∷ ss) = AreWithin most ss
AreWithin most (Rotate ∷ ss) = AreWithin most ss
AreWithin most (Save n ∷ ss) = AreWithin most ss
AreWithin most (Write n ∷ ss) = (n ≤ most) × AreWithin most ss

both_within : (most : ℕ) (xs ys : List Stage) → AreWithin most xs → AreWithin most ys
    → AreWithin most (xs ++ ys)
both_within most [] ys one two = two
both_within most (Bin b n ∷ xs) ys one two = both_within most xs ys one two
both_within most (Rotate ∷ xs) ys one two = both_within most xs ys one two
both_within most (Save n ∷ xs) ys one two = both_within most xs ys one two
both_within most (Write n ∷ xs) ys one two = (one.0, both_within most xs ys one.1 two)

bins_within : (most : ℕ) (bs : List ℕ) (n : ℕ) → AreWithin most (bins bs n)
bins_within most [] n = tt
bins_within most (b ∷ bs) n = bins_within most bs n

before_within : (setup : Setup) (most n : ℕ) → AreWithin most (before_analysis setup n)
before_within setup most zero = tt
before_within setup most (suc n) = by (is_due setup (suc n))
  where
    by : (due : Bool) → AreWithin most
        (Rotate ∷ bins step_bins (suc n)
        ++ cond due (Bin CHECKPOINT (suc n) ∷ Save (suc n) ∷ []) [])
    by true = tt
    by false = tt

from_within : (setup : Setup) (most n : ℕ) → n ≤ most → AreWithin most (from_analysis setup n)
from_within setup most n l = by (is_written setup n)
  where
    by : (b : Bool) → AreWithin most (Bin ANALYSIS n ∷ cond b (Write n ∷ []) [])
    by true = (l, tt)
    by false = tt

iteration_within : (setup : Setup) (most n : ℕ) → n ≤ most → AreWithin most (iteration setup n)
iteration_within setup most n l =
    both_within most (before_analysis setup n) (from_analysis setup n) (before_within setup most n)
    (from_within setup most n l)

iterations_within : (setup : Setup) (most k count : ℕ) → k + count ≤ most + 1
    → AreWithin most (flat_map (iteration setup) (range_with_len k count))
iterations_within setup most k zero l = tt
iterations_within setup most k (suc count) l =
    both_within most (iteration setup k) (flat_map (iteration setup) (range_with_len (k + 1) count))
    (iteration_within setup most k (omega (arith, l)))
    (iterations_within setup most (k + 1) count (omega (arith, l)))

stages_within : (setup : Setup) → AreWithin setup.itlast (stages setup)
stages_within setup =
    let most = setup.itlast in
    both_within most (iteration setup 0) (rest_behind setup 0 most)
    (iteration_within setup most 0 (omega arith))
    (both_within most (flat_map (iteration setup) (range_with_len (0 + 1) most))
    (bins end_bins most)
    (iterations_within setup most (0 + 1) most (omega arith)) (bins_within most end_bins most))

-- ---- the run

record Keeps (job : Job) (t : Trace) : Type 0 where
  entries : Each (IsTold job) t.entries
  outcome : GoesOn t.outcome

keeps_then : (job : Job) (t : Trace) (next : State → Trace) → Keeps job t
    → ((state : State) → AreSmall state → Keeps job (next state)) → Keeps job (then_go t next)
keeps_then job t next one two = by t.outcome one.outcome
  where
    by : (o : Outcome) → GoesOn o → Keeps job (after t.entries (follow o next))
    by (Goes state) small = let r = two state small in
        record {
          entries = each-both (IsTold job) t.entries
              (next state).entries one.entries r.entries;
          outcome = r.outcome;
        }
    by (Ends end) small = record {
      entries = each-both (IsTold job) t.entries [] one.entries tt;
      outcome = tt;
    }

texts_told : (job : Job) (n : ℕ) (state : State) (vs : List VarId) → n ≤ job.itlast → AreSmall state
    → All (λ v. IsStored job v 0) vs → Each (IsTold job) (all_written (setup_of job) n state vs)
texts_told job n state [] l small stored = tt
texts_told job n state (v ∷ vs) l small stored = (
  record {
    stored = All-head (λ (w : VarId). IsStored job w 0) v vs stored;
    within = l;
    text = refl;
    small = small;
  },
  texts_told job n state vs l small (All-tail (λ (w : VarId). IsStored job w 0) v vs stored),
)

module _ (job : Job) (outputs : All (λ v. IsStored job v 0) job.out_vars) (rules : List Rule) where
  keeps_stages : (ss : List Stage) → AreWithin job.itlast ss → (state : State) → AreSmall state
      → Keeps job (run_stages (setup_of job) rules ss state)
  keeps_stages [] within state small = record { entries = tt; outcome = small }
  keeps_stages (Bin k n ∷ ss) within state small =
      keeps_then job (run_tree (setup_of job) rules n (bin (setup_of job) k) state)
      (run_stages (setup_of job) rules ss)
      (record {
        entries =
            (walk-tree (IsTold job) (λ end. Unit {0}) (setup_of job) rules n (bin (setup_of job) k)
            state (trees_write_none job)).entries;
        outcome = tree_leaves (setup_of job) rules n (bin (setup_of job) k) state small;
      })
      (keeps_stages ss within)
  keeps_stages (Rotate ∷ ss) within state small =
      keeps_then job (does (Rotated state) (rotate state)) (run_stages (setup_of job) rules ss)
      (record { entries = (tt, tt); outcome = rotate_small state small })
      (keeps_stages ss within)
  keeps_stages (Save n ∷ ss) within state small =
      keeps_then job (does (Saved n state) state) (run_stages (setup_of job) rules ss)
      (record { entries = (tt, tt); outcome = small }) (keeps_stages ss within)
  keeps_stages (Write n ∷ ss) within state small =
      keeps_then job (run_stage (setup_of job) rules (Write n) state)
      (run_stages (setup_of job) rules ss)
      (record {
        entries = texts_told job n state job.out_vars within.0 small outputs;
        outcome = small;
      }) (keeps_stages ss within.1)

  each_within : (so_far : Lengths) (es : List Entry) (o : Outcome) → Each (IsTold job) es
      → Each (IsTold job) (within_limit so_far es o).entries
  each_within so_far [] o each = tt
  each_within so_far (e ∷ es) o each =
      by (passing so_far e) (within_limit (lengths_after so_far e) es o)
      (each_within (lengths_after so_far e) es o each.1)
    where
      by : (p : Option ℕ) (rest : Trace) → Each (IsTold job) rest.entries
          → Each (IsTold job) (stop_or p (after (e ∷ []) rest)).entries
      by None rest others = (each.0, others)
      by (Some n) rest others = tt

  pub run_told : Each (IsTold job) (undivided_run (setup_of job) rules).entries
  run_told =
      let t = run_stages (setup_of job) rules (stages (setup_of job)) (start (setup_of job)) in
      each_within no_lengths t.entries t.outcome
      (keeps_stages (stages (setup_of job)) (stages_within (setup_of job))
      (start (setup_of job)) (start_small (setup_of job))).entries
