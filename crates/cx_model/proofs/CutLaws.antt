-- A run is its course up to the first end.
use Rattle.std.proofs.Common.{◌≡◌, ℕ, zero, suc, Bool, true, false, not, ◌||◌, is_some, ℤ, pos, negsuc, List, [], ◌∷◌, ◌++◌, Option, Some, None, refl, sym, ap, ◌∙◌, if◌then◌else◌}
use Rattle.std.specs.List.{list_all}
use Rattle.cx_grid.specs.Boxes.{points_in}
use Rattle.cx_grid.specs.Grid.{whole}
use Rattle.cx_plan.specs.declared.variable.VarId.{VarId}
use Rattle.cx_plan.specs.declared.item.ItemKind.{ItemKind}
use Rattle.cx_plan.specs.declared.item.ItemKind.TheVariants.{Cell, Scalar, Sum, Least, Greatest, Count}
use Rattle.cx_plan.specs.declared.item.Item.{Item}
use Rattle.cx_plan.specs.declared.tree.Tree.{Tree, Seq', Call, Sync, If', While', Row_of-Tree, end_of-Tree, more_of-Tree}
use Rattle.cx_plan.specs.Setups.{Setup}
use Rattle.cx_plan.specs.Lookups.{bin}
use Rattle.cx_plan.specs.Steering.{item_at}
use Rattle.cx_plan.specs.Regions.{region_of}
use Rattle.cx_rule.specs.Routine.{Rule}
use Rattle.cx_rule.specs.States.{State, scalar_of}
use Rattle.cx_rule.specs.Sweeps.{in_region}
use Rattle.cx_model.specs.Turns.{turn, turn_by, swept_at, values_of}
use Rattle.cx_model.specs.declared.ends.End.{End}
use Rattle.cx_model.specs.declared.ends.End.TheVariants.{WhileLimit}
use Rattle.cx_model.specs.Traces.{Turned, Tested, Wrote, Goes, Trace, stays, ends, does, after, then_go}
use Rattle.cx_model.specs.Trees.{at_zero, test, turn_trace, loop, run_tree, run_row}
use Rattle.cx_model.specs.Stages.{Stage, Bin, Rotate, Save, Write}
use Rattle.cx_model.specs.Runs.{all_written, run_stage, run_stages, text_of}
use Rattle.cx_model.specs.Courses.{state_or, turned_by, turned, Note, note, stop_at, cut, Course, rests, behind, goes_on, turn_note, turn_course, by_zero, limit_note, tested, turning, course_tree, course_row, write_notes, course_stage, course_stages}

-- ---- traces

pub cut_then : (a b : List Note) (before state : State) (next : State → Trace)
    → next before ≡ cut b state → then_go (cut a before) next ≡ cut (a ++ b) state
cut_then [] b before state next e = e
cut_then (n ∷ ns) b before state next e = go (cut_then ns b before state next e) n.met
  where
    go : then_go (cut ns before) next ≡ cut (ns ++ b) state
        → (o : Option End) → then_go (after (n.entry ∷ []) (stop_at o (cut ns before))) next
        ≡ after (n.entry ∷ []) (stop_at o (cut (ns ++ b) state))
    go more None = ap (after (n.entry ∷ [])) more
    go more (Some end) = refl

-- what a trace is that a course gives
abbrev pub IsCut : Trace → Course → Type 0
IsCut t c = t ≡ cut c.notes c.state

pub cut_goes : (t : Trace) (c : Course) (next : State → Trace) (more : State → Course) → IsCut t c
    → ((s : State) → IsCut (next s) (more s)) → IsCut (then_go t next) (goes_on c more)
cut_goes t c next more e h =
    ap (λ u. then_go u next) e
    ∙ cut_then c.notes (more c.state).notes c.state (more c.state).state next (h c.state)

-- ---- turns

if_some : {A : Type 0} (b : Bool) (x s : A) → (if b then Some x else None) ≡ Some s → x ≡ s
if_some true x s e = cc
if_some false x s e = absurd cc

or_some : (o : Option State) (before s : State) → o ≡ Some s → state_or o before ≡ s
or_some None before s e = absurd cc
or_some (Some x) before s e = cc

turn_by_is : (kind : ItemKind) (setup : Setup) (rules : List Rule) (x : Item) (before : State)
    (iteration : ℕ) (s : State)
    → turn_by kind setup rules x before iteration ≡ Some s
    → turned_by kind setup rules x before iteration ≡ s
turn_by_is Cell setup rules x before iteration s e =
    if_some
    (list_all (λ p. not (in_region setup.shape (region_of x.writes) p)
    || is_some (swept_at setup rules x (values_of setup before) iteration p))
    (points_in (whole setup.shape)))
    (turned_by Cell setup rules x before iteration) s e
turn_by_is Scalar setup rules x before iteration s e =
    or_some (turn_by Scalar setup rules x before iteration) before s e
turn_by_is Sum setup rules x before iteration s e =
    or_some (turn_by Sum setup rules x before iteration) before s e
turn_by_is Least setup rules x before iteration s e =
    or_some (turn_by Least setup rules x before iteration) before s e
turn_by_is Greatest setup rules x before iteration s e =
    or_some (turn_by Greatest setup rules x before iteration) before s e
turn_by_is Count setup rules x before iteration s e =
    or_some (turn_by Count setup rules x before iteration) before s e

-- where an item's turn gives a state, it is that of the course
pub turn_is : (setup : Setup) (rules : List Rule) (x : Item) (before : State) (iteration : ℕ)
    (s : State)
    → turn setup rules x before iteration ≡ Some s → turned setup rules x before iteration ≡ s
turn_is setup rules x before iteration s e = turn_by_is x.kind setup rules x before iteration s e

cut_turn : (setup : Setup) (rules : List Rule) (iteration k : ℕ) (before : State)
    → IsCut (turn_trace k (item_at setup k iteration) iteration before
    (turn setup rules (item_at setup k iteration) before iteration))
    (turn_course setup rules iteration k before)
cut_turn setup rules iteration k before =
    go (turn setup rules (item_at setup k iteration) before iteration) refl
  where
    go : (o : Option State) → turn setup rules (item_at setup k iteration) before iteration ≡ o
        → turn_trace k (item_at setup k iteration) iteration before o
        ≡ cut (turn_note k (item_at setup k iteration) iteration before o ∷ [])
        (turned setup rules (item_at setup k iteration) before iteration)
    go None e = refl
    go (Some s) e = ap (does (Turned k iteration before))
        (sym (turn_is setup rules (item_at setup k iteration) before iteration s e))

-- ---- tests

cut_tested : (v : VarId) (path : List ℕ) (b : State → Trace) (next : State → Course) (state : State)
    → IsCut (b state) (next state) → IsCut (test v path stays b state) (tested v path next state)
cut_tested v path b next state e = go (scalar_of state v)
  where
    go : (n : ℤ) → IsCut (after (Tested v path state ∷ []) (at_zero n stays b state))
        (behind (note (Tested v path state) ∷ []) (by_zero n (rests state) (next state)))
    go (pos zero) = refl
    go (pos (suc n)) = ap (after (Tested v path state ∷ [])) e
    go (negsuc n) = ap (after (Tested v path state ∷ [])) e

cut_limit : (v : VarId) (path : List ℕ) (limit : End) (state : State)
    → IsCut (test v path stays (λ _. ends limit) state)
    (record { notes = limit_note v path limit state ∷ []; state = state })
cut_limit v path limit state = go (scalar_of state v)
  where
    go : (n : ℤ) → after (Tested v path state ∷ []) (at_zero n stays (λ _. ends limit) state)
        ≡ after (Tested v path state ∷ []) (stop_at (by_zero n None (Some limit)) (stays state))
    go (pos zero) = refl
    go (pos (suc n)) = refl
    go (negsuc n) = refl

cut_loop : (v : VarId) (path : List ℕ) (limit : End) (body : State → Trace) (more : State → Course)
    (turns : ℕ)
    → ((s : State) → IsCut (body s) (more s)) → (state : State)
    → IsCut (loop v path limit body turns state) (turning v path limit more turns state)
cut_loop v path limit body more zero h state = cut_limit v path limit state
cut_loop v path limit body more (suc turns) h state =
    cut_tested v path (λ s. then_go (body s) (loop v path limit body turns))
    (λ s. goes_on (more s) (turning v path limit more turns)) state
    (cut_goes (body state) (more state) (loop v path limit body turns)
    (turning v path limit more turns) (h state)
    (cut_loop v path limit body more turns h))

-- ---- trees

mutual
  pub cut_tree : (setup : Setup) (rules : List Rule) (iteration : ℕ) (tree : Tree) (state : State)
      → IsCut (run_tree setup rules iteration tree state)
      (course_tree setup rules iteration tree state)
  cut_tree setup rules iteration (Seq' shape all) state = cut_row setup rules iteration all state
  cut_tree setup rules iteration (Call k) state = cut_turn setup rules iteration k state
  cut_tree setup rules iteration (Sync vars path) state = refl
  cut_tree setup rules iteration (If' v path shape one) state =
      cut_tested v path (run_row setup rules iteration one) (course_row setup rules iteration one)
      state (cut_row setup rules iteration one state)
  cut_tree setup rules iteration (While' v path shape one) state =
      cut_loop v path (WhileLimit iteration path) (run_row setup rules iteration one)
      (course_row setup rules iteration one) setup.while_limit
      (cut_row setup rules iteration one) state

  pub cut_row : {m : _} → (setup : Setup) (rules : List Rule) (iteration : ℕ) (row : Row_of-Tree m)
      (state : State)
      → IsCut (run_row setup rules iteration row state) (course_row setup rules iteration row state)
  cut_row setup rules iteration end_of-Tree state = refl
  cut_row setup rules iteration (more_of-Tree tree rest) state =
      cut_goes (run_tree setup rules iteration tree state)
      (course_tree setup rules iteration tree state) (run_row setup rules iteration rest)
      (course_row setup rules iteration rest) (cut_tree setup rules iteration tree state)
      (cut_row setup rules iteration rest)

-- ---- stages

cut_written : (setup : Setup) (iteration : ℕ) (state : State) (vs : List VarId)
    → record { entries = all_written setup iteration state vs; outcome = Goes state }
    ≡ cut (write_notes setup iteration state vs) state
cut_written setup iteration state [] = refl
cut_written setup iteration state (v ∷ vs) =
    ap (after (Wrote v iteration (text_of setup iteration state v) state ∷ []))
    (cut_written setup iteration state vs)

cut_stage : (setup : Setup) (rules : List Rule) (s : Stage) (state : State)
    → IsCut (run_stage setup rules s state) (course_stage setup rules s state)
cut_stage setup rules (Bin b iteration) state = cut_tree setup rules iteration (bin setup b) state
cut_stage setup rules Rotate state = refl
cut_stage setup rules (Save iteration) state = refl
cut_stage setup rules (Write iteration) state = cut_written setup iteration state setup.out_vars

-- the stages' run is their course up to the first end
pub cut_stages : (setup : Setup) (rules : List Rule) (ss : List Stage) (state : State)
    → IsCut (run_stages setup rules ss state) (course_stages setup rules ss state)
cut_stages setup rules [] state = refl
cut_stages setup rules (s ∷ ss) state =
    cut_goes (run_stage setup rules s state) (course_stage setup rules s state)
    (run_stages setup rules ss) (course_stages setup rules ss)
    (cut_stage setup rules s state) (cut_stages setup rules ss)
