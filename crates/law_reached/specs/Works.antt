-- The works of a run, and what a run in parts has handed out of them.
use Rattle.std.specs.Prelude.{ℕ, ◌<◌, ◌≡◌, true, false, ℤ, List, [], ◌∷◌, ◌++◌, length, drop, Some, None}
use Rattle.cx_plan.specs.declared.variable.VarId.{VarId}
use Rattle.cx_plan.specs.Lookups.{is_scalar}
use Rattle.cx_rule.specs.States.{level_of, scalar_of}
use Rattle.cx_model.specs.Runs.{Lengths, lengths_behind}
use Rattle.cx_model.specs.Traces.{Entry, Turned, Overflowed, Exchanged, Tested, Rotated, Wrote, Saved, Trace}
use Rattle.cx_model.specs.Turns.{values_of}
use Rattle.cx_cut.specs.Cuts.{owned}
use Rattle.cx_flat.specs.declared.op.Op.TheVariants.{Piece, Save}
use Rattle.law_network.specs.Machine.{World, Event, Part, Write, Can, After, fronts}
use Rattle.law_parts.specs.Ends.{noted}
use Rattle.law_parts.specs.Holding.{Held, state_in}
use Rattle.law_parts.specs.Laws.{IsReachedState}
use Rattle.law_parts.specs.Moves.{Message, Channel}
use Rattle.law_parts.specs.Nets.{net, within_lead, IsGathered, IsTextOf, only_level, piece_levels}
use Rattle.law_parts.specs.Runs.{Run, Oracle, cut_of, parts_in, undivided, op_of, notes_of, guided}
use Rattle.law_parts.specs.Truths.{entries_of}

-- the texts and the checkpoint places among entries, in order
abbrev pub works_of : List Entry → List Entry
works_of [] = []
works_of (Wrote v iteration text state ∷ es) = Wrote v iteration text state ∷ works_of es
works_of (Saved iteration state ∷ es) = Saved iteration state ∷ works_of es
works_of (Turned k iteration state ∷ es) = works_of es
works_of (Overflowed k iteration state ∷ es) = works_of es
works_of (Exchanged vars path state ∷ es) = works_of es
works_of (Tested v path state ∷ es) = works_of es
works_of (Rotated state ∷ es) = works_of es

-- the works that the undivided run has up to where the writer stands
abbrev pub handed_out : {tells : Type 0} → Run → World Held (Message tells) Channel Lengths
    → List Entry
handed_out r w = works_of (entries_of (noted r w.wrote))

-- What these pieces of all parts make is the undivided run's work at a place: a text of a whole
-- level or of a scalar's number, or a state, each part's piece of it over the points that the part
-- owns.
pub record MakesWork {tells : Type 0} (t : tells) (r : Run) (n : ℕ)
    (pieces : ℕ → List (Message tells)) : Type 0 where
  pub text : (v : VarId) (text : List ℕ) → op_of r n ≡ Piece v
      → IsTextOf (is_scalar r.setup v) t r v (undivided r n).control.iteration pieces text
      → entries_of (notes_of r n)
      ≡ Wrote v (undivided r n).control.iteration text (undivided r n).state ∷ []
  pub level : (v : VarId) (level : List ℤ) → op_of r n ≡ Piece v → is_scalar r.setup v ≡ false
      → IsGathered t r pieces level
      → level ≡ level_of (undivided r n).state v 0
  pub scalar : (v : VarId) → op_of r n ≡ Piece v → is_scalar r.setup v ≡ true
      → only_level t (pieces 0) ≡ scalar_of (undivided r n).state v ∷ []
  pub entry : op_of r n ≡ Save
      → entries_of (notes_of r n)
      ≡ Saved (undivided r n).control.iteration (undivided r n).state ∷ []
  pub state : op_of r n ≡ Save → (k : ℕ) → k < parts_in r
      → piece_levels t (pieces k)
      ≡ state_in r.setup (values_of r.setup (undivided r n).state) (owned (cut_of r) k) 0
      (undivided r n).state

-- the works of a run that are still to come
abbrev pub works_left : {tells : Type 0} → Run → Trace → World Held (Message tells) Channel Lengths
    → List Entry
works_left r trace w = drop (length (handed_out r w)) (works_of trace.entries)

-- the writer's next work has gone on: the entry at its place is handed out, and no longer left
pub record HandsOut {tells : Type 0} (r : Run) (trace : Trace) (n : ℕ)
    (w v : World Held (Message tells) Channel Lengths) : Type 0 where
  pub added : handed_out r v ≡ handed_out r w ++ entries_of (notes_of r n)
  pub left : works_left r trace w ≡ entries_of (notes_of r n) ++ works_left r trace v

-- a checkpoint place: its state and the lengths of the outputs there are those of the run
pub record SavesAt (r : Run) (trace : Trace) (n : ℕ) (there_are : Lengths) : Type 0 where
  pub earlier : List Entry
  pub later : List Entry
  pub there : trace.entries
      ≡ earlier ++ Saved (undivided r n).control.iteration (undivided r n).state ∷ later
  pub lengths : there_are ≡ lengths_behind r.so_far earlier

-- What has been handed out are the first works of the run, and the others are left. A work that
-- goes on adds the entry at its place, which its pieces make; no other event adds any.
pub record KeepsWorks {tells : Type 0} (t : tells) (r : Run) (trace : Trace) (oracle : Oracle)
    (w : World Held (Message tells) Channel Lengths) : Type 0 where
  pub first : works_of trace.entries ≡ handed_out r w ++ works_left r trace w
  pub makes : (n : ℕ) → Can (net tells within_lead r oracle) w (Write n)
      → MakesWork t r n (fronts w)
  pub saves : (n : ℕ) → Can (net tells within_lead r oracle) w (Write n) → op_of r n ≡ Save
      → SavesAt r trace n w.book
  pub work : (n : ℕ) (v : World Held (Message tells) Channel Lengths)
      → Can (net tells within_lead r oracle) w (Write n)
      → After (net tells within_lead r oracle) w (Write n) v → v.over ≡ None
      → HandsOut r trace n w v
  pub over : (n : ℕ) (e : Event) (v : World Held (Message tells) Channel Lengths)
      → Can (net tells within_lead r oracle) w e
      → After (net tells within_lead r oracle) w e v → v.over ≡ Some n
      → handed_out r v ≡ handed_out r w
  pub part : (k : ℕ) (v : World Held (Message tells) Channel Lengths)
      → Can (net tells within_lead r oracle) w (Part k)
      → After (net tells within_lead r oracle) w (Part k) v → handed_out r v ≡ handed_out r w

-- of each state that is reached
abbrev pub WorksInOrder : Type 0 → Run → Trace → Type 0
WorksInOrder tells r trace =
    (t : tells) (oracle : Oracle) (w : World Held (Message tells) Channel Lengths)
    → IsReachedState tells r oracle w
    → KeepsWorks t r trace oracle w

-- the way of all parts is the undivided run
abbrev pub OneWay : Type 0 → Run → Type 0
OneWay tells r =
    tells → (oracle : Oracle) (w : World Held (Message tells) Channel Lengths)
    → IsReachedState tells r oracle w
    → (n : ℕ) → guided r oracle n ≡ undivided r n

-- the writer's book is the lengths of the outputs so far
abbrev pub BookIsLengths : Type 0 → Run → Type 0
BookIsLengths tells r =
    tells → (oracle : Oracle) (w : World Held (Message tells) Channel Lengths)
    → IsReachedState tells r oracle w
    → w.book ≡ lengths_behind r.so_far (handed_out r w)
