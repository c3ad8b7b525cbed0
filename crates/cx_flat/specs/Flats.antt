-- The run of a list of operations.
use Rattle.std.specs.Prelude.{◌≡◌, ℕ, zero, suc, ◌+◌, ◌-◌, Bool, true, false, ◌==◌, nat_lt, ℤ, List, [], ◌∷◌, ◌++◌, Option, Some, None, if◌then◌else◌}
use Rattle.cx_plan.specs.declared.variable.VarId.{VarId}
use Rattle.cx_plan.specs.Setups.{Setup}
use Rattle.cx_plan.specs.Dues.{is_due, is_written}
use Rattle.cx_plan.specs.Steering.{item_at}
use Rattle.cx_rule.specs.Routine.{Rule}
use Rattle.cx_model.specs.States.{State, scalar_of, start, rotate}
use Rattle.cx_model.specs.Turns.{turn}
use Rattle.cx_model.specs.declared.ends.End.TheVariants.{WhileLimit}
use Rattle.cx_model.specs.Traces.{Exchanged, Tested, Rotated, Saved}
use Rattle.cx_flat.specs.declared.op.Op.{Op}
use Rattle.cx_flat.specs.declared.op.Op.TheVariants.{Sweep, Apply, Give, Join, Post, Take, Test, Open, Turn, Again, Rotate, Due, Written, Skip, Next, Piece, Save, Halt}
use Rattle.cx_model.specs.Courses.{Note, note, limit_note, by_zero, turned, turn_note, write_note}
use Rattle.cx_flat.specs.Code.{op_at, analysis_place}

-- an open WHILE: the place of its test, and the turns that it has taken
pub record Opened : Type 0 where
  pub place : ℕ
  pub turns : ℕ

-- what decides the way beside the scalars: the place of the next operation, the iteration, and the
-- open WHILEs from the outside in
pub record Control : Type 0 where
  pub pc : ℕ
  pub iteration : ℕ
  pub opened : List Opened

-- ---- the innermost WHILE

abbrev pub last_turns : List Opened → ℕ
last_turns [] = 0
last_turns (o ∷ []) = o.turns
last_turns (o ∷ p ∷ os) = last_turns (p ∷ os)

-- its next turn
abbrev pub turned_on : List Opened → List Opened
turned_on [] = []
turned_on (o ∷ []) = record { place = o.place; turns = suc o.turns } ∷ []
turned_on (o ∷ p ∷ os) = o ∷ turned_on (p ∷ os)

abbrev pub closed : List Opened → List Opened
closed [] = []
closed (o ∷ []) = []
closed (o ∷ p ∷ os) = o ∷ closed (p ∷ os)

-- ---- control

abbrev pub to : Control → ℕ → Control
to c pc = record { pc = pc; iteration = c.iteration; opened = c.opened }

abbrev pub next : Control → Control
next c = to c (suc c.pc)

abbrev pub opens : Control → Control
opens c = record {
  pc = suc c.pc;
  iteration = c.iteration;
  opened = c.opened ++ record { place = suc c.pc; turns = 0 } ∷ [];
}

-- out of the innermost WHILE
abbrev pub leaves_loop : Control → ℕ → Control
leaves_loop c pc = record { pc = pc; iteration = c.iteration; opened = closed c.opened }

abbrev pub turns_back : Control → ℕ → Control
turns_back c pc = record { pc = pc; iteration = c.iteration; opened = turned_on c.opened }

abbrev pub iterates : Setup → Control → ℕ → Control
iterates setup c pc =
    if nat_lt c.iteration setup.itlast
    then record { pc = pc; iteration = suc c.iteration; opened = c.opened } else next c

-- a WHILE's test: out where the scalar is 0, and where it has taken all its turns
abbrev pub turn_control : Setup → Control → ℕ → ℤ → Control
turn_control setup c skip number =
    if last_turns c.opened == setup.while_limit
    then leaves_loop c (c.pc + skip)
    else by_zero number (leaves_loop c (c.pc + skip)) (next c)

-- the control after an operation, by the scalars
abbrev pub control_after : Setup → Op → (VarId → ℤ) → Control → Control
control_after setup (Sweep k) scalars c = next c
control_after setup (Apply k) scalars c = next c
control_after setup (Give k) scalars c = next c
control_after setup (Join k) scalars c = next c
control_after setup (Post d vars) scalars c = next c
control_after setup (Take d vars path) scalars c = next c
control_after setup (Test v path skip) scalars c = by_zero (scalars v) (to c (c.pc + skip)) (next c)
control_after setup Open scalars c = opens c
control_after setup (Turn v path skip) scalars c = turn_control setup c skip (scalars v)
control_after setup (Again back) scalars c = turns_back c (c.pc - back)
control_after setup Rotate scalars c = next c
control_after setup (Due skip) scalars c = if is_due setup c.iteration then next c
    else to c (c.pc + skip)
control_after setup (Written skip) scalars c = if is_written setup c.iteration then next c
    else to c (c.pc + skip)
control_after setup (Skip skip) scalars c = to c (c.pc + skip)
control_after setup (Next back) scalars c = iterates setup c (c.pc - back)
control_after setup (Piece v) scalars c = next c
control_after setup Save scalars c = next c
control_after setup Halt scalars c = c

-- ---- the run

pub record Flat : Type 0 where
  pub control : Control
  pub state : State

-- the state after an operation; a reduction's number goes to its scalar when all parts are joined
abbrev pub state_after : Setup → List Rule → Op → ℕ → State → State
state_after setup rules (Sweep k) iteration state =
    turned setup rules (item_at setup k iteration) state iteration
state_after setup rules (Apply k) iteration state =
    turned setup rules (item_at setup k iteration) state iteration
state_after setup rules (Give k) iteration state = state
state_after setup rules (Join k) iteration state =
    turned setup rules (item_at setup k iteration) state iteration
state_after setup rules (Post d vars) iteration state = state
state_after setup rules (Take d vars path) iteration state = state
state_after setup rules (Test v path skip) iteration state = state
state_after setup rules Open iteration state = state
state_after setup rules (Turn v path skip) iteration state = state
state_after setup rules (Again back) iteration state = state
state_after setup rules Rotate iteration state = rotate state
state_after setup rules (Due skip) iteration state = state
state_after setup rules (Written skip) iteration state = state
state_after setup rules (Skip skip) iteration state = state
state_after setup rules (Next back) iteration state = state
state_after setup rules (Piece v) iteration state = state
state_after setup rules Save iteration state = state
state_after setup rules Halt iteration state = state

-- what an item's turn notes
abbrev pub item_note : Setup → List Rule → ℕ → ℕ → State → Note
item_note setup rules k iteration state =
    turn_note k (item_at setup k iteration) iteration state
    (turn setup rules (item_at setup k iteration) state iteration)

-- a WHILE's test: the limit is met behind its last turn
abbrev pub turn_test : Setup → VarId → List ℕ → Control → State → Note
turn_test setup v path c state =
    if last_turns c.opened == setup.while_limit
    then limit_note v path (WhileLimit c.iteration path) state else note (Tested v path state)

-- what an operation notes; a SYNC is noted with its last direction, a reduction with its result
abbrev pub notes_at : Setup → List Rule → Op → Control → State → List Note
notes_at setup rules (Sweep k) c state = item_note setup rules k c.iteration state ∷ []
notes_at setup rules (Apply k) c state = item_note setup rules k c.iteration state ∷ []
notes_at setup rules (Give k) c state = []
notes_at setup rules (Join k) c state = item_note setup rules k c.iteration state ∷ []
notes_at setup rules (Post d vars) c state = []
notes_at setup rules (Take d vars path) c state = if suc d == setup.shape.dims
    then note (Exchanged vars path state) ∷ [] else []
notes_at setup rules (Test v path skip) c state = note (Tested v path state) ∷ []
notes_at setup rules Open c state = []
notes_at setup rules (Turn v path skip) c state = turn_test setup v path c state ∷ []
notes_at setup rules (Again back) c state = []
notes_at setup rules Rotate c state = note (Rotated state) ∷ []
notes_at setup rules (Due skip) c state = []
notes_at setup rules (Written skip) c state = []
notes_at setup rules (Skip skip) c state = []
notes_at setup rules (Next back) c state = []
notes_at setup rules (Piece v) c state = write_note setup c.iteration state v ∷ []
notes_at setup rules Save c state = note (Saved c.iteration state) ∷ []
notes_at setup rules Halt c state = []

abbrev pub stepped : Setup → List Rule → Op → Flat → Flat
stepped setup rules o g =
    record {
      control = control_after setup o (scalar_of g.state) g.control;
      state = state_after setup rules o g.control.iteration g.state;
    }

-- so many operations from here on
abbrev pub flat_from : Setup → List Rule → List Op → ℕ → Flat → Flat
flat_from setup rules ops zero g = g
flat_from setup rules ops (suc n) g =
    flat_from setup rules ops n (stepped setup rules (op_at ops g.control.pc) g)

-- and what they note
abbrev pub noted_from : Setup → List Rule → List Op → ℕ → Flat → List Note
noted_from setup rules ops zero g = []
noted_from setup rules ops (suc n) g =
    notes_at setup rules (op_at ops g.control.pc) g.control g.state
    ++ noted_from setup rules ops n (stepped setup rules (op_at ops g.control.pc) g)

abbrev pub is_halt : Op → Bool
is_halt Halt = true
is_halt (Sweep k) = false
is_halt (Apply k) = false
is_halt (Give k) = false
is_halt (Join k) = false
is_halt (Post d vars) = false
is_halt (Take d vars path) = false
is_halt (Test v path skip) = false
is_halt Open = false
is_halt (Turn v path skip) = false
is_halt (Again back) = false
is_halt Rotate = false
is_halt (Due skip) = false
is_halt (Written skip) = false
is_halt (Skip skip) = false
is_halt (Next back) = false
is_halt (Piece v) = false
is_halt Save = false

-- none of so many operations is the last one
abbrev pub GoesOn : Setup → List Rule → List Op → ℕ → Flat → Type 0
GoesOn setup rules ops zero g = Unit {0}
GoesOn setup rules ops (suc n) g =
    (is_halt (op_at ops g.control.pc) ≡ false)
    × GoesOn setup rules ops n (stepped setup rules (op_at ops g.control.pc) g)

-- ---- operations that go together

-- what is sent is received next, and behind it comes the next direction; what is given is joined
-- next
pub data Pair : Type 0 where
  Exchange : ℕ → List VarId → Pair
  Onward : ℕ → List VarId → Pair
  Reduction : ℕ → Pair

abbrev pub begins_pair : Setup → Op → Option Pair
begins_pair setup (Sweep k) = None
begins_pair setup (Apply k) = None
begins_pair setup (Give k) = Some (Reduction k)
begins_pair setup (Join k) = None
begins_pair setup (Post d vars) = Some (Exchange d vars)
begins_pair setup (Take d vars path) = if suc d == setup.shape.dims then None
    else Some (Onward (suc d) vars)
begins_pair setup (Test v path skip) = None
begins_pair setup Open = None
begins_pair setup (Turn v path skip) = None
begins_pair setup (Again back) = None
begins_pair setup Rotate = None
begins_pair setup (Due skip) = None
begins_pair setup (Written skip) = None
begins_pair setup (Skip skip) = None
begins_pair setup (Next back) = None
begins_pair setup (Piece v) = None
begins_pair setup Save = None
begins_pair setup Halt = None

-- the first direction begins, each further one comes behind the one before it
abbrev pub onward : ℕ → List VarId → Option Pair
onward zero vars = None
onward (suc d) vars = Some (Onward (suc d) vars)

abbrev pub ends_pair : Op → Option Pair
ends_pair (Sweep k) = None
ends_pair (Apply k) = None
ends_pair (Give k) = None
ends_pair (Join k) = Some (Reduction k)
ends_pair (Post d vars) = onward d vars
ends_pair (Take d vars path) = Some (Exchange d vars)
ends_pair (Test v path skip) = None
ends_pair Open = None
ends_pair (Turn v path skip) = None
ends_pair (Again back) = None
ends_pair Rotate = None
ends_pair (Due skip) = None
ends_pair (Written skip) = None
ends_pair (Skip skip) = None
ends_pair (Next back) = None
ends_pair (Piece v) = None
ends_pair Save = None
ends_pair Halt = None

-- so many operations, from behind this one to behind that one, go together
abbrev pub InPairs : Setup → List Rule → List Op → Option Pair → Option Pair → ℕ → Flat → Type 0
InPairs setup rules ops p q zero g = p ≡ q
InPairs setup rules ops p q (suc n) g =
    (ends_pair (op_at ops g.control.pc) ≡ p)
    × InPairs setup rules ops (begins_pair setup (op_at ops g.control.pc)) q n
    (stepped setup rules (op_at ops g.control.pc) g)

-- a run from its start, and one that is continued from the checkpoint place of an iteration
abbrev pub first_flat : Setup → Flat
first_flat setup = record {
  control = record { pc = 0; iteration = 0; opened = [] };
  state = start setup;
}

abbrev pub flat_after : Setup → ℕ → State → Flat
flat_after setup c state =
    record {
      control = record { pc = analysis_place setup; iteration = c; opened = [] };
      state = state;
    }
