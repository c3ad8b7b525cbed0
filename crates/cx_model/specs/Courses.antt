-- A run that never ends: where an end is met, it is noted and the run goes on. So each operation of
-- the run has a state before it, also behind an end that only some part meets.
use Rattle.std.specs.Prelude.{ℕ, ◌≡◌, zero, suc, ℤ, pos, negsuc, List, [], ◌∷◌, ◌++◌, Option, Some, None}
use Rattle.cx_grid.specs.Grid.{whole}
use Rattle.cx_plan.specs.declared.variable.VarId.{VarId}
use Rattle.cx_plan.specs.declared.item.ItemKind.{ItemKind}
use Rattle.cx_plan.specs.declared.item.ItemKind.TheVariants.{Cell, Scalar, Sum, Least, Greatest, Count}
use Rattle.cx_plan.specs.declared.item.Item.{Item}
use Rattle.cx_plan.specs.declared.tree.Tree.{Tree, Seq', Call, Sync, If', While', Row_of-Tree, end_of-Tree, more_of-Tree}
use Rattle.cx_plan.specs.Setups.{Setup}
use Rattle.cx_plan.specs.Lookups.{bin}
use Rattle.cx_plan.specs.Steering.{item_at}
use Rattle.cx_plan.specs.Regions.{region_of}
use Rattle.cx_rule.specs.Routine.{Rule}
use Rattle.cx_rule.specs.States.{State, scalar_of, rotate}
use Rattle.cx_rule.specs.Sweeps.{in_region, levels_after}
use Rattle.cx_model.specs.Turns.{turn, turn_by, swept_at, values_of}
use Rattle.cx_model.specs.declared.ends.End.{End}
use Rattle.cx_model.specs.declared.ends.End.TheVariants.{Overflow, WhileLimit}
use Rattle.cx_model.specs.Traces.{Entry, Turned, Overflowed, Exchanged, Tested, Rotated, Wrote, Saved, Trace, stays, ends, after}
use Rattle.cx_model.specs.Stages.{Stage, Bin, Rotate, Save, Write}
use Rattle.cx_model.specs.Runs.{text_of, run_stages}

-- ---- turns that always give a state

-- a state, or the one before
abbrev pub state_or : Option State → State → State
state_or None before = before
state_or (Some state) before = state

-- where a point has no numbers its old ones stay
abbrev pub turned_by : ItemKind → Setup → List Rule → Item → State → ℕ → State
turned_by Cell setup rules x state iteration =
    levels_after (whole setup.shape) (values_of setup state)
    (in_region setup.shape (region_of x.writes))
    (swept_at setup rules x (values_of setup state) iteration) 0 x.writes state
turned_by Scalar setup rules x state iteration =
    state_or (turn_by Scalar setup rules x state iteration) state
turned_by Sum setup rules x state iteration =
    state_or (turn_by Sum setup rules x state iteration) state
turned_by Least setup rules x state iteration =
    state_or (turn_by Least setup rules x state iteration) state
turned_by Greatest setup rules x state iteration =
    state_or (turn_by Greatest setup rules x state iteration) state
turned_by Count setup rules x state iteration =
    state_or (turn_by Count setup rules x state iteration) state

-- the state behind an item's turn, whether or not it met an Overflow
abbrev pub turned : Setup → List Rule → Item → State → ℕ → State
turned setup rules x state iteration = turned_by x.kind setup rules x state iteration

-- ---- notes

-- an entry, and the end that is met there
pub record Note : Type 0 where
  pub entry : Entry
  pub met : Option End

-- an entry where no end is met
abbrev pub note : Entry → Note
note entry = record { entry = entry; met = None }

-- an entry where this end is met
abbrev pub ending : Entry → End → Note
ending entry end = record { entry = entry; met = Some end }

-- a trace up to the first end that is met
abbrev pub stop_at : Option End → Trace → Trace
stop_at None rest = rest
stop_at (Some end) rest = ends end

-- the entries up to the first end, which then ends the trace
abbrev pub cut : List Note → State → Trace
cut [] state = stays state
cut (n ∷ ns) state = after (n.entry ∷ []) (stop_at n.met (cut ns state))

-- ---- courses

-- what is noted, and the state behind it
pub record Course : Type 0 where
  pub notes : List Note
  pub state : State

-- nothing is noted
abbrev pub rests : State → Course
rests state = record { notes = []; state = state }

-- a course behind what was noted before
abbrev pub behind : List Note → Course → Course
behind notes c = record { notes = notes ++ c.notes; state = c.state }

-- a course, and what follows from its state
abbrev pub goes_on : Course → (State → Course) → Course
goes_on c next = behind c.notes (next c.state)

-- an item's turn, or the Overflow that it met
abbrev pub turn_note : ℕ → Item → ℕ → State → Option State → Note
turn_note k x iteration before None =
    ending (Overflowed k iteration before) (Overflow iteration x.path)
turn_note k x iteration before (Some state) = note (Turned k iteration before)

-- an item's turn as a course
abbrev pub turn_course : Setup → List Rule → ℕ → ℕ → State → Course
turn_course setup rules iteration k state =
    record {
      notes = turn_note k (item_at setup k iteration) iteration state
          (turn setup rules (item_at setup k iteration) state iteration) ∷ [];
      state = turned setup rules (item_at setup k iteration) state iteration;
    }

-- the first where the number is 0, else the second
abbrev pub by_zero : {A : Type 0} → ℤ → A → A → A
by_zero (pos zero) a b = a
by_zero (pos (suc n)) a b = b
by_zero (negsuc n) a b = b

-- a test that finds a scalar not 0 where this end is met
abbrev pub limit_note : VarId → List ℕ → End → State → Note
limit_note v path limit state =
    record { entry = Tested v path state; met = by_zero (scalar_of state v) None (Some limit) }

-- a test, and what follows where the scalar isn't 0
abbrev pub tested : VarId → List ℕ → (State → Course) → State → Course
tested v path next state =
    behind (note (Tested v path state) ∷ [])
    (by_zero (scalar_of state v) (rests state) (next state))

-- at most so many turns of a WHILE
abbrev pub turning : VarId → List ℕ → End → (State → Course) → ℕ → State → Course
turning v path limit body zero state =
    record { notes = limit_note v path limit state ∷ []; state = state }
turning v path limit body (suc turns) state =
    tested v path (λ s. goes_on (body s) (turning v path limit body turns)) state

abbrev mutual
  pub course_tree : Setup → List Rule → ℕ → Tree → State → Course
  course_tree setup rules iteration (Seq' shape all) state =
      course_row setup rules iteration all state
  course_tree setup rules iteration (Call k) state = turn_course setup rules iteration k state
  course_tree setup rules iteration (Sync vars path) state =
      record { notes = note (Exchanged vars path state) ∷ []; state = state }
  course_tree setup rules iteration (If' v path shape one) state =
      tested v path (course_row setup rules iteration one) state
  course_tree setup rules iteration (While' v path shape one) state =
      turning v path (WhileLimit iteration path) (course_row setup rules iteration one)
      setup.while_limit state

  pub course_row : {m : _} → Setup → List Rule → ℕ → Row_of-Tree m → State → Course
  course_row setup rules iteration end_of-Tree state = rests state
  course_row setup rules iteration (more_of-Tree tree rest) state =
      goes_on (course_tree setup rules iteration tree state) (course_row setup rules iteration rest)

-- ---- stages

-- a variable's text as a note
abbrev pub write_note : Setup → ℕ → State → VarId → Note
write_note setup iteration state v =
    note (Wrote v iteration (text_of setup iteration state v) state)

-- the texts of several variables
abbrev pub write_notes : Setup → ℕ → State → List VarId → List Note
write_notes setup iteration state [] = []
write_notes setup iteration state (v ∷ vs) =
    write_note setup iteration state v ∷ write_notes setup iteration state vs

-- the course of one stage
abbrev pub course_stage : Setup → List Rule → Stage → State → Course
course_stage setup rules (Bin b iteration) state =
    course_tree setup rules iteration (bin setup b) state
course_stage setup rules Rotate state =
    record { notes = note (Rotated state) ∷ []; state = rotate state }
course_stage setup rules (Save iteration) state =
    record { notes = note (Saved iteration state) ∷ []; state = state }
course_stage setup rules (Write iteration) state =
    record { notes = write_notes setup iteration state setup.out_vars; state = state }

-- the course of several stages, one after another
abbrev pub course_stages : Setup → List Rule → List Stage → State → Course
course_stages setup rules [] state = rests state
course_stages setup rules (s ∷ ss) state =
    goes_on (course_stage setup rules s state) (course_stages setup rules ss)

-- ---- courses and runs

-- the run of any stages from any state is their course up to the first end that is met
abbrev pub IsCourseCut : Setup → List Rule → Type 0
IsCourseCut setup rules =
    (ss : List Stage) (state : State)
    → run_stages setup rules ss state
    ≡ cut (course_stages setup rules ss state).notes (course_stages setup rules ss state).state
