-- What turns and rotations keep of a state holds of each state of a run.
use Rattle.std.proofs.Common.{ℕ, zero, suc, ℤ, pos, negsuc, subst, List, [], ◌∷◌, ◌++◌, Option, Some, None}
use Rattle.cx_plan.specs.declared.variable.VarId.{VarId}
use Rattle.cx_plan.specs.declared.item.Item.{Item}
use Rattle.cx_plan.specs.declared.tree.Tree.{Tree, Seq', Call, Sync, If', While', Row_of-Tree, end_of-Tree, more_of-Tree}
use Rattle.cx_plan.specs.Setups.{Setup}
use Rattle.cx_plan.specs.Lookups.{bin}
use Rattle.cx_plan.specs.Steering.{item_at}
use Rattle.cx_rule.specs.Routine.{Rule}
use Rattle.cx_rule.specs.States.{State, scalar_of, rotate}
use Rattle.cx_model.specs.States.{start}
use Rattle.cx_model.specs.Turns.{turn}
use Rattle.cx_model.specs.declared.ends.End.{End}
use Rattle.cx_model.specs.declared.ends.End.TheVariants.{WhileLimit}
use Rattle.cx_model.specs.Traces.{Entry, Tested, Rotated, Saved, Outcome, Goes, Ends, Trace, stays, ends, does, after, follow, then_go}
use Rattle.cx_model.specs.Trees.{at_zero, test, turn_trace, loop, run_tree, run_row}
use Rattle.cx_model.specs.Stages.{Stage, Bin, Rotate, Save, Write, stages}
use Rattle.cx_model.specs.Runs.{all_written, run_stage, run_stages, Lengths, no_lengths, lengths_after, passing, stop_or, within_limit, Reaches}
use Rattle.cx_model.specs.Values.{state_before}
use Rattle.cx_model.proofs.WalkLaws.{Each, each-both}

abbrev pub IfState : (State → Type 0) → Option State → Type 0
IfState P None = Unit {0}
IfState P (Some state) = P state

-- what turns and rotations keep
pub record IsKept (setup : Setup) (rules : List Rule) (P : State → Type 0) : Type 0 where
  pub turns : (x : Item) (state : State) (iteration : ℕ) → P state
      → IfState P (turn setup rules x state iteration)
  pub rotations : (state : State) → P state → P (rotate state)

module _ (setup : Setup) (rules : List Rule) (P : State → Type 0) (kept : IsKept setup rules P)
  where
    abbrev Holds : Entry → Type 0
    Holds e = P (state_before e)

    abbrev GoesOn : Outcome → Type 0
    GoesOn (Goes state) = P state
    GoesOn (Ends end) = Unit {0}

    record Keeps (t : Trace) : Type 0 where
      entries : Each Holds t.entries
      outcome : GoesOn t.outcome

    abbrev KeepsFrom : (State → Trace) → Type 0
    KeepsFrom body = (state : State) → P state → Keeps (body state)

    keeps_then : (t : Trace) (next : State → Trace) → Keeps t → KeepsFrom next
        → Keeps (then_go t next)
    keeps_then t next one two = by t.outcome one.outcome
      where
        by : (o : Outcome) → GoesOn o → Keeps (after t.entries (follow o next))
        by (Goes state) is = let r = two state is in
            record {
              entries = each-both Holds t.entries (next state).entries one.entries r.entries;
              outcome = r.outcome;
            }
        by (Ends end) is = record {
          entries = each-both Holds t.entries [] one.entries tt;
          outcome = tt;
        }

    keeps_test : (v : VarId) (path : List ℕ) (a b : State → Trace) (state : State) → P state
        → Keeps (a state) → Keeps (b state) → Keeps (test v path a b state)
    keeps_test v path a b state is one two = by (scalar_of state v)
      where
        by : (n : ℤ) → Keeps (after (Tested v path state ∷ []) (at_zero n a b state))
        by (pos zero) = record { entries = (is, one.entries); outcome = one.outcome }
        by (pos (suc n)) = record { entries = (is, two.entries); outcome = two.outcome }
        by (negsuc n) = record { entries = (is, two.entries); outcome = two.outcome }

    keeps_stays : KeepsFrom stays
    keeps_stays state is = record { entries = tt; outcome = is }

    keeps_loop : (v : VarId) (path : List ℕ) (limit : End) (body : State → Trace) → KeepsFrom body
        → (turns : ℕ) → KeepsFrom (loop v path limit body turns)
    keeps_loop v path limit body each zero state is =
        keeps_test v path stays (λ _. ends limit) state is (keeps_stays state is)
        (record { entries = tt; outcome = tt })
    keeps_loop v path limit body each (suc turns) state is =
        let next = loop v path limit body turns in
        keeps_test v path stays (λ s. then_go (body s) next) state is (keeps_stays state is)
        (keeps_then (body state) next (each state is) (keeps_loop v path limit body each turns))

    keeps_turn : (k : ℕ) (x : Item) (iteration : ℕ) (state : State) (o : Option State) → P state
        → IfState P o → Keeps (turn_trace k x iteration state o)
    keeps_turn k x iteration state None is new = record { entries = (is, tt); outcome = tt }
    keeps_turn k x iteration state (Some now) is new = record { entries = (is, tt); outcome = new }

    mutual
      keeps_tree : (iteration : ℕ) (tree : Tree) → KeepsFrom (run_tree setup rules iteration tree)
      keeps_tree iteration (Seq' shape all) = keeps_row iteration all
      keeps_tree iteration (Call k) = λ state is.
          keeps_turn k (item_at setup k iteration) iteration state
          (turn setup rules (item_at setup k iteration) state iteration) is
          (kept.turns (item_at setup k iteration) state iteration is)
      keeps_tree iteration (Sync vars path) =
          λ state is. record { entries = (is, tt); outcome = is }
      keeps_tree iteration (If' v path shape one) = λ state is.
          keeps_test v path stays (run_row setup rules iteration one) state is
          (keeps_stays state is)
          (keeps_row iteration one state is)
      keeps_tree iteration (While' v path shape one) =
          keeps_loop v path (WhileLimit iteration path) (run_row setup rules iteration one)
          (keeps_row iteration one) setup.while_limit

      keeps_row : {m : _} (iteration : ℕ) (row : Row_of-Tree m)
          → KeepsFrom (run_row setup rules iteration row)
      keeps_row iteration end_of-Tree = keeps_stays
      keeps_row iteration (more_of-Tree tree rest) = λ state is.
          keeps_then (run_tree setup rules iteration tree state)
          (run_row setup rules iteration rest)
          (keeps_tree iteration tree state is) (keeps_row iteration rest)

    keeps_texts : (n : ℕ) (state : State) (vs : List VarId) → P state
        → Each Holds (all_written setup n state vs)
    keeps_texts n state [] is = tt
    keeps_texts n state (v ∷ vs) is = (is, keeps_texts n state vs is)

    keeps_stages : (ss : List Stage) → KeepsFrom (run_stages setup rules ss)
    keeps_stages [] = keeps_stays
    keeps_stages (Bin k n ∷ ss) = λ state is.
        keeps_then (run_tree setup rules n (bin setup k) state) (run_stages setup rules ss)
        (keeps_tree n (bin setup k) state is) (keeps_stages ss)
    keeps_stages (Rotate ∷ ss) = λ state is.
        keeps_then (does (Rotated state) (rotate state)) (run_stages setup rules ss)
        (record { entries = (is, tt); outcome = kept.rotations state is }) (keeps_stages ss)
    keeps_stages (Save n ∷ ss) = λ state is.
        keeps_then (does (Saved n state) state) (run_stages setup rules ss)
        (record { entries = (is, tt); outcome = is }) (keeps_stages ss)
    keeps_stages (Write n ∷ ss) = λ state is.
        keeps_then (run_stage setup rules (Write n) state) (run_stages setup rules ss)
        (record { entries = keeps_texts n state setup.out_vars is; outcome = is })
        (keeps_stages ss)

    each_within : (so_far : Lengths) (es : List Entry) (o : Outcome) → Each Holds es
        → Each Holds (within_limit so_far es o).entries
    each_within so_far [] o each = tt
    each_within so_far (e ∷ es) o each =
        by (passing so_far e) (within_limit (lengths_after so_far e) es o)
        (each_within (lengths_after so_far e) es o each.1)
      where
        by : (p : Option ℕ) (rest : Trace) → Each Holds rest.entries
            → Each Holds (stop_or p (after (e ∷ []) rest)).entries
        by None rest others = (each.0, others)
        by (Some n) rest others = tt

    each_there : (xs : List Entry) (e : Entry) (ys : List Entry) → Each Holds (xs ++ e ∷ ys)
        → P (state_before e)
    each_there [] e ys each = each.0
    each_there (x ∷ xs) e ys each = each_there xs e ys each.1

    pub holds_where_reached : P (start setup) → (c : ℕ) (state : State) (so_far : Lengths)
        → Reaches setup rules c state so_far → P state
    holds_where_reached first c state so_far r =
        let t = run_stages setup rules (stages setup) (start setup) in
        each_there r.earlier (Saved c state) r.later
        (subst (Each Holds) r.there
        (each_within no_lengths t.entries t.outcome
        (keeps_stages (stages setup) (start setup) first).entries))
