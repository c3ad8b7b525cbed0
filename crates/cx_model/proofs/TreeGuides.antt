-- The paths that the runs of trees follow.
use Rattle.std.proofs.Common.{◌≡◌, ℕ, zero, suc, ℤ, pos, negsuc, refl, ap, ◌∙◌, List, [], ◌∷◌, ◌++◌, Option, Some, None, inl, inr}
use Rattle.cx_plan.specs.declared.variable.VarId.{VarId}
use Rattle.cx_plan.specs.declared.item.Item.{Item}
use Rattle.cx_plan.specs.declared.tree.Tree.{Tree, Seq', Call, Sync, If', While', Row_of-Tree, end_of-Tree, more_of-Tree}
use Rattle.cx_plan.specs.Setups.{Setup}
use Rattle.cx_plan.specs.Steering.{item_at}
use Rattle.cx_plan.specs.Regions.{Act, Turns, Syncs, Tests}
use Rattle.cx_plan.specs.Paths.{Mark, Letter, Meets, letter_n, letter_w, letter_x, Then, Just, Loop, Path, PathIn}
use Rattle.cx_rule.specs.Routine.{Rule}
use Rattle.cx_rule.specs.States.{State, scalar_of}
use Rattle.cx_model.specs.Turns.{turn}
use Rattle.cx_model.specs.declared.ends.End.{End}
use Rattle.cx_model.specs.declared.ends.End.TheVariants.{WhileLimit}
use Rattle.cx_model.specs.Traces.{Tested, Outcome, Goes, Ends, Trace, stays, ends, after, then_go}
use Rattle.cx_model.specs.Trees.{at_zero, test, turn_trace, loop, run_tree, run_row}
use Rattle.cx_model.proofs.Guides.{Guided, SameLeft, guided-map, guided-stays, guided-ends, guided-then}

-- ---- items

guided-turn : (setup : Setup) (k : ℕ) (x : Item) (iteration : ℕ) (before : State) (o : Option State)
    → Guided setup (Just (Meets (Turns k) ∷ [])) (turn_trace k x iteration before o)
guided-turn setup k x iteration before None =
    record { marks = Meets (Turns k) ∷ []; path = refl; met = λ flags met. met; left = tt }
guided-turn setup k x iteration before (Some state) =
    record {
      marks = Meets (Turns k) ∷ [];
      path = refl;
      met = λ flags met. met;
      left = λ flags. refl;
    }

-- ---- tests

guided-tested : (setup : Setup) (v : VarId) (path : List ℕ) (c : ℕ) (state : State)
    (P : List Mark → Type 0) (t : Trace) → Guided setup P t
    → Guided setup (Then (Just (Meets (Tests v path) ∷ Letter c ∷ [])) P)
    (after (Tested v path state ∷ []) t)
guided-tested setup v path c state P t g =
    record {
      marks = Meets (Tests v path) ∷ Letter c ∷ g.marks;
      path = (Meets (Tests v path) ∷ Letter c ∷ [], g.marks, refl, g.path, refl);
      met = λ flags met. (met.0, g.met flags met.1);
      left = by t.outcome g.left;
    }
  where
    by : (o : Outcome) → SameLeft setup g.marks t.entries o
        → SameLeft setup (Meets (Tests v path) ∷ Letter c ∷ g.marks)
        (Tested v path state ∷ t.entries) o
    by (Goes state) same = same
    by (Ends end) same = same

guided-test : (setup : Setup) (v : VarId) (path : List ℕ) (c d : ℕ) (A B R : List Mark → Type 0)
    (a b : State → Trace) (state : State)
    → ((marks : List Mark) → Then (Just (Meets (Tests v path) ∷ Letter c ∷ [])) A marks → R marks)
    → ((marks : List Mark) → Then (Just (Meets (Tests v path) ∷ Letter d ∷ [])) B marks → R marks)
    → Guided setup A (a state) → Guided setup B (b state) → Guided setup R (test v path a b state)
guided-test setup v path c d A B R a b state of_a of_b one two = by (scalar_of state v)
  where
    by : (n : ℤ) → Guided setup R (after (Tested v path state ∷ []) (at_zero n a b state))
    by (pos zero) = guided-map setup (Then (Just (Meets (Tests v path) ∷ Letter c ∷ [])) A) R
        (after (Tested v path state ∷ []) (a state)) of_a
        (guided-tested setup v path c state A (a state) one)
    by (pos (suc n)) = guided-map setup (Then (Just (Meets (Tests v path) ∷ Letter d ∷ [])) B) R
        (after (Tested v path state ∷ []) (b state)) of_b
        (guided-tested setup v path d state B (b state) two)
    by (negsuc n) = guided-map setup (Then (Just (Meets (Tests v path) ∷ Letter d ∷ [])) B) R
        (after (Tested v path state ∷ []) (b state)) of_b
        (guided-tested setup v path d state B (b state) two)

-- a test with nothing behind it
just-tested : (these marks : List Mark) → Then (Just these) (Just []) marks → (these ++ [] ≡ these)
    → marks ≡ these
just-tested these marks way same =
    way.4 ∙ ap (λ a. a ++ way.1) way.2 ∙ ap (λ b. these ++ b) way.3 ∙ same

-- ---- WHILE

abbrev Turning : Act → (List Mark → Type 0) → List Mark → Type 0
Turning act Body marks = (turns : ℕ) × Loop act Body turns marks

left-loop : (v : VarId) (path : List ℕ) (Body : List Mark → Type 0) (marks : List Mark)
    → Then (Just (Meets (Tests v path) ∷ letter_x ∷ [])) (Just []) marks
    → Turning (Tests v path) Body marks
left-loop v path Body marks way =
    (0, just-tested (Meets (Tests v path) ∷ letter_x ∷ []) marks way refl)

one_turn : (v : VarId) (path : List ℕ) (Body : List Mark → Type 0) (marks : List Mark)
    → Then (Just (Meets (Tests v path) ∷ letter_w ∷ [])) (Then Body (Turning (Tests v path) Body))
    marks → Turning (Tests v path) Body marks
one_turn v path Body marks way =
    let body = way.3 in
    let others = body.3 in
    (suc others.0, (way.0, way.1, way.2, (body.0, body.1, body.2, others.1, body.4), way.4))

guided-loop : (setup : Setup) (v : VarId) (path : List ℕ) (limit : End) (Body : List Mark → Type 0)
    (body : State → Trace) → ((state : State) → Guided setup Body (body state))
    → (turns : ℕ) (state : State)
    → Guided setup (Turning (Tests v path) Body) (loop v path limit body turns state)
guided-loop setup v path limit Body body each zero state =
    guided-test setup v path 120 120 (Just []) (Just []) (Turning (Tests v path) Body) stays
    (λ _. ends limit) state
    (left-loop v path Body) (left-loop v path Body) (guided-stays setup state)
    (guided-ends setup limit)
guided-loop setup v path limit Body body each (suc turns) state =
    let next = loop v path limit body turns in
    guided-test setup v path 120 119 (Just []) (Then Body (Turning (Tests v path) Body))
    (Turning (Tests v path) Body) stays (λ s. then_go (body s) next) state
    (left-loop v path Body) (one_turn v path Body) (guided-stays setup state)
    (guided-then setup Body (Turning (Tests v path) Body) (body state) next (each state)
    (guided-loop setup v path limit Body body each turns))

-- ---- trees

mutual
  pub guided-tree : (setup : Setup) (rules : List Rule) (iteration : ℕ) (tree : Tree)
      (state : State) → Guided setup (Path tree) (run_tree setup rules iteration tree state)
  guided-tree setup rules iteration (Seq' shape all) state =
      let g = guided-row setup rules iteration all state in
      record { marks = g.marks; path = g.path; met = g.met; left = g.left }
  guided-tree setup rules iteration (Call k) state =
      let g = guided-turn setup k (item_at setup k iteration) iteration state
      (turn setup rules (item_at setup k iteration) state iteration) in
      record { marks = g.marks; path = g.path; met = g.met; left = g.left }
  guided-tree setup rules iteration (Sync vars path) state =
      record {
        marks = Meets (Syncs vars path) ∷ [];
        path = refl;
        met = λ flags met. met;
        left = λ flags. refl;
      }
  guided-tree setup rules iteration (If' v path shape one) state =
      guided-test setup v path 110 121 (Just []) (PathIn one) (Path (If' v path shape one)) stays
      (run_row setup rules iteration one) state
      (λ marks way. inr (just-tested (Meets (Tests v path) ∷ letter_n ∷ []) marks way refl))
      (λ marks way. inl way)
      (guided-stays setup state) (guided-row setup rules iteration one state)
  guided-tree setup rules iteration (While' v path shape one) state =
      let g = guided-loop setup v path (WhileLimit iteration path) (PathIn one)
      (run_row setup rules iteration one) (guided-row setup rules iteration one)
      setup.while_limit state in
      record { marks = g.marks; path = g.path; met = g.met; left = g.left }

  guided-row : {m : _} (setup : Setup) (rules : List Rule) (iteration : ℕ) (row : Row_of-Tree m)
      (state : State) → Guided setup (PathIn row) (run_row setup rules iteration row state)
  guided-row setup rules iteration end_of-Tree state =
      record { marks = []; path = refl; met = λ flags met. tt; left = λ flags. refl }
  guided-row setup rules iteration (more_of-Tree tree rest) state =
      let g = guided-then setup (Path tree) (PathIn rest)
      (run_tree setup rules iteration tree state) (run_row setup rules iteration rest)
      (guided-tree setup rules iteration tree state) (guided-row setup rules iteration rest) in
      record { marks = g.marks; path = g.path; met = g.met; left = g.left }
