-- An operation that hands in no piece of output writes nothing.
use Rattle.std.proofs.Common.{◌≡◌, ℕ, suc, Bool, true, false, eqb, List, [], ◌∷◌, Option, Some, None, refl, cond}
use Rattle.cx_plan.specs.declared.item.Item.{Item}
use Rattle.cx_plan.specs.Steering.{item_at}
use Rattle.cx_rule.specs.States.{State}
use Rattle.cx_model.specs.Turns.{turn}
use Rattle.cx_model.specs.Traces.{Entry}
use Rattle.cx_model.specs.Runs.{Lengths, lengths_behind}
use Rattle.cx_model.specs.Traces as traces
use Rattle.cx_model.specs.declared.ends.End.TheVariants as ends
use Rattle.cx_model.specs.Courses as courses
use Rattle.cx_model.specs.Courses.{Note, turn_note}
use Rattle.cx_flat.specs.declared.op.Op.{Op}
use Rattle.cx_flat.specs.declared.op.Op.TheVariants as op
use Rattle.cx_flat.specs.Flats.{Control, last_turns, notes_at}
use Rattle.law_parts.specs.Moves.{buffer_of}
use Rattle.law_parts.specs.Runs.{Run}
use Rattle.law_parts.specs.Truths.{entries_of}

-- no output is longer behind these entries
abbrev pub Silent : List Entry → Type 0
Silent entries = (so_far : Lengths) → lengths_behind so_far entries ≡ so_far

-- a turn writes nothing
turn_silent : (k : ℕ) (x : Item) (iteration : ℕ) (before : State) (o : Option State)
    → Silent (entries_of (turn_note k x iteration before o ∷ []))
turn_silent k x iteration before None = λ so_far. refl
turn_silent k x iteration before (Some state) = λ so_far. refl

take_silent : (b : Bool) (n : Note) → Silent (entries_of (n ∷ []))
    → Silent (entries_of (cond b (n ∷ []) []))
take_silent true n e = e
take_silent false n e = λ so_far. refl

if_silent : (b : Bool) (m n : Note) → Silent (entries_of (m ∷ [])) → Silent (entries_of (n ∷ []))
    → Silent (entries_of (cond b m n ∷ []))
if_silent true m n e f = e
if_silent false m n e f = f

-- what hands in no piece of output writes nothing
pub op_silent : (r : Run) (o : Op) (c : Control) (state : State) → buffer_of r o ≡ None
    → Silent (entries_of (notes_at r.setup r.rules o c state))
op_silent r (op.Sweep k) c state e =
    turn_silent k (item_at r.setup k c.iteration) c.iteration state
    (turn r.setup r.rules (item_at r.setup k c.iteration) state c.iteration)
op_silent r (op.Apply k) c state e =
    turn_silent k (item_at r.setup k c.iteration) c.iteration state
    (turn r.setup r.rules (item_at r.setup k c.iteration) state c.iteration)
op_silent r (op.Give k) c state e = λ so_far. refl
op_silent r (op.Join k) c state e =
    turn_silent k (item_at r.setup k c.iteration) c.iteration state
    (turn r.setup r.rules (item_at r.setup k c.iteration) state c.iteration)
op_silent r (op.Post d vars) c state e = λ so_far. refl
op_silent r (op.Take d vars path) c state e =
    take_silent (eqb (suc d) r.setup.shape.dims) (courses.note (traces.Exchanged vars path state))
    (λ so_far. refl)
op_silent r (op.Test v path skip) c state e = λ so_far. refl
op_silent r op.Open c state e = λ so_far. refl
op_silent r (op.Turn v path skip) c state e =
    if_silent (eqb (last_turns c.opened) r.setup.while_limit)
    (courses.limit_note v path (ends.WhileLimit c.iteration path) state)
    (courses.note (traces.Tested v path state)) (λ so_far. refl) (λ so_far. refl)
op_silent r (op.Again back) c state e = λ so_far. refl
op_silent r op.Rotate c state e = λ so_far. refl
op_silent r (op.Due skip) c state e = λ so_far. refl
op_silent r (op.Written skip) c state e = λ so_far. refl
op_silent r (op.Skip skip) c state e = λ so_far. refl
op_silent r (op.Next back) c state e = λ so_far. refl
op_silent r (op.Piece v) c state e = absurd cc
op_silent r op.Save c state e = absurd cc
op_silent r op.Halt c state e = λ so_far. refl
