-- The run of a tree.
use Rattle.std.specs.Prelude.{ℕ, zero, suc, ℤ, pos, negsuc, List, [], ◌∷◌, Option, Some, None}
use Rattle.cx_plan.specs.declared.variable.VarId.{VarId}
use Rattle.cx_plan.specs.declared.item.Item.{Item}
use Rattle.cx_plan.specs.declared.tree.Tree.{Tree, Seq', Call, Sync, If', While', Row_of-Tree, end_of-Tree, more_of-Tree}
use Rattle.cx_plan.specs.Setups.{Setup}
use Rattle.cx_plan.specs.Steering.{item_at}
use Rattle.cx_rule.specs.Routine.{Rule}
use Rattle.cx_rule.specs.States.{State, scalar_of}
use Rattle.cx_model.specs.Turns.{turn}
use Rattle.cx_model.specs.declared.ends.End.{End}
use Rattle.cx_model.specs.declared.ends.End.TheVariants.{Overflow, WhileLimit}
use Rattle.cx_model.specs.Traces.{Trace, Turned, Overflowed, Exchanged, Tested, stays, ends, does, after, then_go}

-- the first where the number is 0, else the second
abbrev pub at_zero : ℤ → (State → Trace) → (State → Trace) → State → Trace
at_zero (pos zero) a b = a
at_zero (pos (suc n)) a b = b
at_zero (negsuc n) a b = b

-- a test of a scalar, and what follows: the first where it is 0, else the second
abbrev pub test : VarId → List ℕ → (State → Trace) → (State → Trace) → State → Trace
test v path a b state = after (Tested v path state ∷ []) (at_zero (scalar_of state v) a b state)

-- an item's turn, or the end that it meets
abbrev pub turn_trace : ℕ → Item → ℕ → State → Option State → Trace
turn_trace k x iteration before None =
    after (Overflowed k iteration before ∷ []) (ends (Overflow iteration x.path))
turn_trace k x iteration before (Some state) = does (Turned k iteration before) state

-- at most so many turns of a WHILE, each after a test that finds the scalar not 0
abbrev pub loop : VarId → List ℕ → End → (State → Trace) → ℕ → State → Trace
loop v path limit body zero state = test v path stays (λ _. ends limit) state
loop v path limit body (suc turns) state =
    test v path stays (λ s. then_go (body s) (loop v path limit body turns)) state

-- the run of a tree from a state; the row of an IF or a WHILE has one tree
abbrev mutual
  pub run_tree : Setup → List Rule → ℕ → Tree → State → Trace
  run_tree setup rules iteration (Seq' shape all) state = run_row setup rules iteration all state
  run_tree setup rules iteration (Call k) state =
      turn_trace k (item_at setup k iteration) iteration state
      (turn setup rules (item_at setup k iteration) state iteration)
  run_tree setup rules iteration (Sync vars path) state = does (Exchanged vars path state) state
  run_tree setup rules iteration (If' v path shape one) state =
      test v path stays (run_row setup rules iteration one) state
  run_tree setup rules iteration (While' v path shape one) state =
      loop v path (WhileLimit iteration path) (run_row setup rules iteration one)
      setup.while_limit state

  pub run_row : {m : _} → Setup → List Rule → ℕ → Row_of-Tree m → State → Trace
  run_row setup rules iteration end_of-Tree state = stays state
  run_row setup rules iteration (more_of-Tree tree rest) state =
      then_go (run_tree setup rules iteration tree state) (run_row setup rules iteration rest)
