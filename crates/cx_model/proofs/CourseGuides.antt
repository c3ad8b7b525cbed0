-- The paths that runs follow which go on past ends.
use Rattle.std.proofs.Common.{◌≡◌, ℕ, zero, suc, ℤ, pos, negsuc, refl, sym, ap, subst, ◌∙◌, List, [], ◌∷◌, ◌++◌, Option, Some, None, inl, inr}
use Rattle.cx_plan.specs.declared.variable.VarId.{VarId}
use Rattle.cx_plan.specs.declared.item.Item.{Item}
use Rattle.cx_plan.specs.declared.tree.Tree.{Tree, Seq', Call, Sync, If', While', Row_of-Tree, end_of-Tree, more_of-Tree}
use Rattle.cx_plan.specs.Setups.{Setup}
use Rattle.cx_plan.specs.Steering.{item_at}
use Rattle.cx_plan.specs.Regions.{Flags, Act, Turns, Syncs, Tests}
use Rattle.cx_plan.specs.Paths.{Mark, Letter, Meets, letter_w, letter_x, Then, Just, Loop, Path, PathIn}
use Rattle.cx_rule.specs.Routine.{Rule}
use Rattle.cx_rule.specs.States.{State, scalar_of}
use Rattle.cx_model.specs.Turns.{turn}
use Rattle.cx_model.specs.declared.ends.End.{End}
use Rattle.cx_model.specs.declared.ends.End.TheVariants.{WhileLimit}
use Rattle.cx_model.specs.Traces.{Tested}
use Rattle.cx_model.specs.Courses.{Note, note, Course, rests, behind, goes_on, turned, turn_note, by_zero, tested, turning, course_tree, course_row}
use Rattle.cx_model.proofs.Guides.{PathMet, path_leaves, path-split, path-leaves-both}
use Rattle.cx_model.specs.Needs.{goes_on_with, notes_leave, NotesMet}

pub record Led (setup : Setup) (P : List Mark → Type 0) (c : Course) : Type 0 where
  pub marks : List Mark
  pub path : P marks
  pub met : (flags : Flags) → PathMet setup flags marks → NotesMet setup flags c.notes
  pub left : (flags : Flags) → notes_leave setup c.notes flags ≡ path_leaves setup marks flags

pub led-map : (setup : Setup) (P Q : List Mark → Type 0) (c : Course)
    → ((marks : List Mark) → P marks → Q marks) → Led setup P c → Led setup Q c
led-map setup P Q c to g =
    record { marks = g.marks; path = to g.marks g.path; met = g.met; left = g.left }

pub led-rests : (setup : Setup) (state : State) → Led setup (Just []) (rests state)
led-rests setup state = record {
  marks = [];
  path = refl;
  met = λ flags met. tt;
  left = λ flags. refl;
}

notes-leave-both : (setup : Setup) (a b : List Note) (flags : Flags)
    → notes_leave setup (a ++ b) flags ≡ notes_leave setup b (notes_leave setup a flags)
notes-leave-both setup [] b flags = refl
notes-leave-both setup (n ∷ a) b flags =
    notes-leave-both setup a b (goes_on_with setup n.entry flags)

notes-join : (setup : Setup) (a b : List Note) (flags : Flags) → NotesMet setup flags a
    → NotesMet setup (notes_leave setup a flags) b → NotesMet setup flags (a ++ b)
notes-join setup [] b flags one two = two
notes-join setup (n ∷ a) b flags one two =
    (one.0, notes-join setup a b (goes_on_with setup n.entry flags) one.1 two)

pub led-then : (setup : Setup) (P Q : List Mark → Type 0) (c : Course) (next : State → Course)
    → Led setup P c → ((state : State) → Led setup Q (next state))
    → Led setup (Then P Q) (goes_on c next)
led-then setup P Q c next one each =
    let two = each c.state in
    record {
      marks = one.marks ++ two.marks;
      path = (one.marks, two.marks, one.path, two.path, refl);
      met = λ flags met. let parts = path-split setup one.marks two.marks flags met in
          notes-join setup c.notes (next c.state).notes flags (one.met flags parts.0)
          (subst (λ f. NotesMet setup f (next c.state).notes) (sym (one.left flags))
          (two.met (path_leaves setup one.marks flags) parts.1));
      left = λ flags.
          notes-leave-both setup c.notes (next c.state).notes flags
          ∙ ap (λ f. notes_leave setup (next c.state).notes f) (one.left flags)
          ∙ two.left (path_leaves setup one.marks flags)
          ∙ sym (path-leaves-both setup one.marks two.marks flags);
    }

-- ---- trees

led-turn : (setup : Setup) (k : ℕ) (x : Item) (iteration : ℕ) (before now : State)
    (o : Option State) → Led setup (Just (Meets (Turns k) ∷ []))
    (record { notes = turn_note k x iteration before o ∷ []; state = now })
led-turn setup k x iteration before now None =
    record {
      marks = Meets (Turns k) ∷ [];
      path = refl;
      met = λ flags met. met;
      left = λ flags. refl;
    }
led-turn setup k x iteration before now (Some state) =
    record {
      marks = Meets (Turns k) ∷ [];
      path = refl;
      met = λ flags met. met;
      left = λ flags. refl;
    }

-- a test and what follows, either way
led-tested : (setup : Setup) (v : VarId) (path : List ℕ) (d : ℕ) (B R : List Mark → Type 0)
    (next : State → Course) (state : State)
    → ((marks : List Mark) → Just (Meets (Tests v path) ∷ Letter d ∷ []) marks → R marks)
    → (e : ℕ) → ((marks : List Mark) → Then (Just (Meets (Tests v path) ∷ Letter e ∷ [])) B marks
    → R marks)
    → Led setup B (next state) → Led setup R (tested v path next state)
led-tested setup v path d B R next state out e on g = by (scalar_of state v)
  where
    other : Led setup R (behind (note (Tested v path state) ∷ []) (next state))
    other =
        record {
          marks = Meets (Tests v path) ∷ Letter e ∷ g.marks;
          path = on (Meets (Tests v path) ∷ Letter e ∷ g.marks)
              (Meets (Tests v path) ∷ Letter e ∷ [], g.marks, refl, g.path, refl);
          met = λ flags met. (met.0, g.met flags met.1);
          left = g.left;
        }

    by : (n : ℤ) → Led setup R
        (behind (note (Tested v path state) ∷ []) (by_zero n (rests state) (next state)))
    by (pos zero) =
        record {
          marks = Meets (Tests v path) ∷ Letter d ∷ [];
          path = out (Meets (Tests v path) ∷ Letter d ∷ []) refl;
          met = λ flags met. met;
          left = λ flags. refl;
        }
    by (pos (suc n)) = other
    by (negsuc n) = other

abbrev Turning : Act → (List Mark → Type 0) → List Mark → Type 0
Turning act Body marks = (turns : ℕ) × Loop act Body turns marks

one_turn : (v : VarId) (path : List ℕ) (Body : List Mark → Type 0) (marks : List Mark)
    → Then (Just (Meets (Tests v path) ∷ letter_w ∷ [])) (Then Body (Turning (Tests v path) Body))
    marks → Turning (Tests v path) Body marks
one_turn v path Body marks way =
    let body = way.3 in
    let others = body.3 in
    (suc others.0, (way.0, way.1, way.2, (body.0, body.1, body.2, others.1, body.4), way.4))

led-turning : (setup : Setup) (v : VarId) (path : List ℕ) (limit : End) (Body : List Mark → Type 0)
    (body : State → Course) → ((state : State) → Led setup Body (body state))
    → (turns : ℕ) (state : State)
    → Led setup (Turning (Tests v path) Body) (turning v path limit body turns state)
led-turning setup v path limit Body body each zero state =
    record {
      marks = Meets (Tests v path) ∷ letter_x ∷ [];
      path = (0, refl);
      met = λ flags met. met;
      left = λ flags. refl;
    }
led-turning setup v path limit Body body each (suc turns) state =
    let next = turning v path limit body turns in
    led-tested setup v path 120 (Then Body (Turning (Tests v path) Body))
    (Turning (Tests v path) Body) (λ s. goes_on (body s) next) state
    (λ marks is. (0, is)) 119 (one_turn v path Body)
    (led-then setup Body (Turning (Tests v path) Body) (body state) next (each state)
    (led-turning setup v path limit Body body each turns))

mutual
  pub led-tree : (setup : Setup) (rules : List Rule) (iteration : ℕ) (tree : Tree) (state : State)
      → Led setup (Path tree) (course_tree setup rules iteration tree state)
  led-tree setup rules iteration (Seq' shape all) state =
      led-map setup (PathIn all) (Path (Seq' shape all))
      (course_row setup rules iteration all state) (λ marks way. way)
      (led-row setup rules iteration all state)
  led-tree setup rules iteration (Call k) state =
      led-map setup (Just (Meets (Turns k) ∷ [])) (Path (Call k))
      (course_tree setup rules iteration (Call k) state) (λ marks way. way)
      (led-turn setup k (item_at setup k iteration) iteration state
      (turned setup rules (item_at setup k iteration) state iteration)
      (turn setup rules (item_at setup k iteration) state iteration))
  led-tree setup rules iteration (Sync vars path) state =
      record {
        marks = Meets (Syncs vars path) ∷ [];
        path = refl;
        met = λ flags met. met;
        left = λ flags. refl;
      }
  led-tree setup rules iteration (If' v path shape one) state =
      led-tested setup v path 110 (PathIn one) (Path (If' v path shape one))
      (course_row setup rules iteration one) state
      (λ marks is. inr is) 121 (λ marks way. inl way) (led-row setup rules iteration one state)
  led-tree setup rules iteration (While' v path shape one) state =
      led-map setup (Turning (Tests v path) (PathIn one)) (Path (While' v path shape one))
      (course_tree setup rules iteration (While' v path shape one) state) (λ marks way. way)
      (led-turning setup v path (WhileLimit iteration path) (PathIn one)
      (course_row setup rules iteration one) (led-row setup rules iteration one)
      setup.while_limit state)

  pub led-row : {m : _} (setup : Setup) (rules : List Rule) (iteration : ℕ) (row : Row_of-Tree m)
      (state : State) → Led setup (PathIn row) (course_row setup rules iteration row state)
  led-row setup rules iteration end_of-Tree state = led-rests setup state
  led-row setup rules iteration (more_of-Tree tree rest) state =
      led-then setup (Path tree) (PathIn rest) (course_tree setup rules iteration tree state)
      (course_row setup rules iteration rest)
      (led-tree setup rules iteration tree state) (led-row setup rules iteration rest)
