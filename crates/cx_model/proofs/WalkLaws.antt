-- What holds of each entry that trees make, and of each end that they meet, holds throughout a
-- tree's run.
use Rattle.std.proofs.Common.{ℕ, zero, suc, ℤ, pos, negsuc, List, [], ◌∷◌, ◌++◌, Option, Some, None}
use Rattle.cx_plan.specs.declared.variable.VarId.{VarId}
use Rattle.cx_plan.specs.declared.item.Item.{Item}
use Rattle.cx_plan.specs.declared.tree.Tree.{Tree, Seq', Call, Sync, If', While', Row_of-Tree, end_of-Tree, more_of-Tree}
use Rattle.cx_plan.specs.Setups.{Setup}
use Rattle.cx_plan.specs.Steering.{item_at}
use Rattle.cx_rule.specs.Routine.{Rule}
use Rattle.cx_rule.specs.States.{State, scalar_of}
use Rattle.cx_model.specs.Turns.{turn}
use Rattle.cx_model.specs.declared.ends.End.{End}
use Rattle.cx_model.specs.declared.ends.End.TheVariants.{Overflow, WhileLimit}
use Rattle.cx_model.specs.Traces.{Entry, Turned, Overflowed, Exchanged, Tested, Outcome, Goes, Ends, Trace, stays, ends, after, follow, then_go}
use Rattle.cx_model.specs.Trees.{at_zero, test, turn_trace, loop, run_tree, run_row}

abbrev pub Each : (Entry → Type 0) → List Entry → Type 0
Each P [] = Unit {0}
Each P (e ∷ es) = P e × Each P es

pub each-both : (P : Entry → Type 0) (xs ys : List Entry) → Each P xs → Each P ys
    → Each P (xs ++ ys)
each-both P [] ys one two = two
each-both P (e ∷ xs) ys one two = (one.0, each-both P xs ys one.1 two)

abbrev pub OfEnd : (End → Type 0) → Outcome → Type 0
OfEnd Q (Goes state) = Unit {0}
OfEnd Q (Ends end) = Q end

-- each entry of a trace has P, and its end, if it has ended, Q
pub record Throughout (P : Entry → Type 0) (Q : End → Type 0) (t : Trace) : Type 0 where
  pub entries : Each P t.entries
  pub outcome : OfEnd Q t.outcome

-- each entry that trees make has P, and each end that they meet Q
pub record OfTrees (P : Entry → Type 0) (Q : End → Type 0) : Type 0 where
  pub turned : (k iteration : ℕ) (state : State) → P (Turned k iteration state)
  pub overflowed : (k iteration : ℕ) (state : State) → P (Overflowed k iteration state)
  pub exchanged : (vars : List VarId) (path : List ℕ) (state : State)
      → P (Exchanged vars path state)
  pub tested : (v : VarId) (path : List ℕ) (state : State) → P (Tested v path state)
  pub overflow : (iteration : ℕ) (path : List ℕ) → Q (Overflow iteration path)
  pub while_limit : (iteration : ℕ) (path : List ℕ) → Q (WhileLimit iteration path)

module _ (P : Entry → Type 0) (Q : End → Type 0) where
  pub throughout-stays : (state : State) → Throughout P Q (stays state)
  throughout-stays state = record { entries = tt; outcome = tt }

  throughout-after : (es : List Entry) (t : Trace) → Each P es → Throughout P Q t
      → Throughout P Q (after es t)
  throughout-after es t one two =
      record { entries = each-both P es t.entries one two.entries; outcome = two.outcome }

  pub throughout-then : (t : Trace) (next : State → Trace) → Throughout P Q t
      → ((state : State) → Throughout P Q (next state)) → Throughout P Q (then_go t next)
  throughout-then t next one two =
      throughout-after t.entries (follow t.outcome next) one.entries (by t.outcome one.outcome)
    where
      by : (o : Outcome) → OfEnd Q o → Throughout P Q (follow o next)
      by (Goes state) is = two state
      by (Ends end) is = record { entries = tt; outcome = is }

  walk-test : (v : VarId) (path : List ℕ) (a b : State → Trace) (state : State)
      → P (Tested v path state) → Throughout P Q (a state) → Throughout P Q (b state)
      → Throughout P Q (test v path a b state)
  walk-test v path a b state tested one two = by (scalar_of state v)
    where
      by : (n : ℤ) → Throughout P Q (after (Tested v path state ∷ []) (at_zero n a b state))
      by (pos zero) = throughout-after (Tested v path state ∷ []) (a state) (tested, tt) one
      by (pos (suc n)) = throughout-after (Tested v path state ∷ []) (b state) (tested, tt) two
      by (negsuc n) = throughout-after (Tested v path state ∷ []) (b state) (tested, tt) two

  walk-loop : (v : VarId) (path : List ℕ) (limit : End) (body : State → Trace) → OfTrees P Q
      → Q limit → ((state : State) → Throughout P Q (body state)) → (turns : ℕ) (state : State)
      → Throughout P Q (loop v path limit body turns state)
  walk-loop v path limit body all at_limit each zero state =
      walk-test v path stays (λ _. ends limit) state (all.tested v path state)
      (throughout-stays state) (record { entries = tt; outcome = at_limit })
  walk-loop v path limit body all at_limit each (suc turns) state =
      let next = loop v path limit body turns in
      walk-test v path stays (λ s. then_go (body s) next) state (all.tested v path state)
      (throughout-stays state)
      (throughout-then (body state) next (each state)
      (walk-loop v path limit body all at_limit each turns))

  walk-turn : (k : ℕ) (x : Item) (iteration : ℕ) (state : State) (given : Option State)
      → OfTrees P Q → Throughout P Q (turn_trace k x iteration state given)
  walk-turn k x iteration state None all =
      record {
        entries = (all.overflowed k iteration state, tt);
        outcome = all.overflow iteration x.path;
      }
  walk-turn k x iteration state (Some now) all =
      record { entries = (all.turned k iteration state, tt); outcome = tt }

  mutual
    pub walk-tree : (setup : Setup) (rules : List Rule) (iteration : ℕ) (tree : Tree)
        (state : State) → OfTrees P Q → Throughout P Q (run_tree setup rules iteration tree state)
    walk-tree setup rules iteration (Seq' shape all) state of =
        walk-row setup rules iteration all state of
    walk-tree setup rules iteration (Call k) state of =
        walk-turn k (item_at setup k iteration) iteration state
        (turn setup rules (item_at setup k iteration) state iteration) of
    walk-tree setup rules iteration (Sync vars path) state of =
        record { entries = (of.exchanged vars path state, tt); outcome = tt }
    walk-tree setup rules iteration (If' v path shape one) state of =
        walk-test v path stays (run_row setup rules iteration one) state (of.tested v path state)
        (throughout-stays state) (walk-row setup rules iteration one state of)
    walk-tree setup rules iteration (While' v path shape one) state of =
        walk-loop v path (WhileLimit iteration path) (run_row setup rules iteration one) of
        (of.while_limit iteration path) (λ s. walk-row setup rules iteration one s of)
        setup.while_limit state

    walk-row : {m : _} (setup : Setup) (rules : List Rule) (iteration : ℕ) (row : Row_of-Tree m)
        (state : State) → OfTrees P Q → Throughout P Q (run_row setup rules iteration row state)
    walk-row setup rules iteration end_of-Tree state of = throughout-stays state
    walk-row setup rules iteration (more_of-Tree tree rest) state of =
        throughout-then (run_tree setup rules iteration tree state)
        (run_row setup rules iteration rest)
        (walk-tree setup rules iteration tree state of)
        (λ s. walk-row setup rules iteration rest s of)
