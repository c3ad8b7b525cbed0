-- What an undivided run does, as a list of entries, and how it ends.
use Rattle.std.specs.Prelude.{ℕ, List, [], ◌∷◌, ◌++◌}
use Rattle.cx_plan.specs.declared.variable.VarId.{VarId}
use Rattle.cx_model.specs.declared.ends.End.{End}
use Rattle.cx_rule.specs.States.{State}

-- each entry has the state before it
pub data Entry : Type 0 where
  -- an item took its turn in an iteration
  Turned : (item iteration : ℕ) → State → Entry
  -- an item began its turn and met Overflow
  Overflowed : (item iteration : ℕ) → State → Entry
  -- a SYNC of these variables, with its path
  Exchanged : List VarId → List ℕ → State → Entry
  -- a test of an IF or a WHILE, with its path
  Tested : VarId → List ℕ → State → Entry
  -- the levels were rotated
  Rotated : State → Entry
  -- a variable's text was written in an iteration
  Wrote : VarId → ℕ → List ℕ → State → Entry
  -- the checkpoint place of a due iteration
  Saved : ℕ → State → Entry

-- a run goes on in a state, or has ended
pub data Outcome : Type 0 where
  Goes : State → Outcome
  Ends : End → Outcome

-- what is done, in order, and whether it goes on
pub record Trace : Type 0 where
  pub entries : List Entry
  pub outcome : Outcome

-- nothing done, and nothing but an end
abbrev pub stays : State → Trace
stays state = record { entries = []; outcome = Goes state }

abbrev pub ends : End → Trace
ends end = record { entries = []; outcome = Ends end }

-- entries, and what follows them
abbrev pub after : List Entry → Trace → Trace
after earlier t = record { entries = earlier ++ t.entries; outcome = t.outcome }

-- one entry, and the state that it leaves
abbrev pub does : Entry → State → Trace
does entry state = record { entries = entry ∷ []; outcome = Goes state }

-- a trace, and what follows where it goes on
abbrev pub follow : Outcome → (State → Trace) → Trace
follow (Goes state) next = next state
follow (Ends end) next = ends end

abbrev pub then_go : Trace → (State → Trace) → Trace
then_go t next = after t.entries (follow t.outcome next)
