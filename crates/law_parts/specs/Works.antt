-- What the parts hand in for the writer's works, whatever the order of events.
use Rattle.std.specs.Prelude.{ℕ, ◌<◌, ◌≡◌, List, [], ◌∷◌}
use Rattle.cx_plan.specs.declared.variable.VarId.{VarId}
use Rattle.cx_plan.specs.Lookups.{is_scalar}
use Rattle.cx_model.specs.Traces.{Wrote, Saved}
use Rattle.cx_model.specs.Turns.{values_of}
use Rattle.cx_cut.specs.Cuts.{owned}
use Rattle.cx_flat.specs.declared.op.Op.TheVariants.{Piece, Save}
use Rattle.cx_model.specs.Runs.{Lengths}
use Rattle.law_network.specs.Machine.{World, Event, Write, Can, fronts, begun}
use Rattle.law_network.specs.Orders.{Order}
use Rattle.law_parts.specs.Holding.{Held, state_in}
use Rattle.law_parts.specs.Moves.{Message, Channel}
use Rattle.law_parts.specs.Nets.{Nearness, net, IsTextOf, piece_levels}
use Rattle.law_parts.specs.Runs.{Run, cut_of, parts_in, undivided, op_of, notes_of}
use Rattle.law_parts.specs.Truths.{truth, entries_of}

-- of these pieces, at a place: the text that they make is that of the entry there, and each piece
-- of a checkpoint is the entry's state over the points that the part owns
pub record IsOneWork (r : Run) (n : ℕ) (pieces : ℕ → List (Message (Unit {0}))) : Type 0 where
  pub text : (v : VarId) (text : List ℕ) → op_of r n ≡ Piece v
      → IsTextOf (is_scalar r.setup v) tt r v (undivided r n).control.iteration pieces text
      → entries_of (notes_of r n)
      ≡ Wrote v (undivided r n).control.iteration text (undivided r n).state ∷ []
  pub entry : op_of r n ≡ Save
      → entries_of (notes_of r n)
      ≡ Saved (undivided r n).control.iteration (undivided r n).state ∷ []
  pub state : op_of r n ≡ Save → (k : ℕ) → k < parts_in r
      → piece_levels tt (pieces k)
      ≡ state_in r.setup (values_of r.setup (undivided r n).state) (owned (cut_of r) k) 0
      (undivided r n).state

-- In every order of events, at each work that the writer can do next.
abbrev pub OneWork : Nearness → Run → Type 0
OneWork Near r =
    (events : List Event) (w : World Held (Message (Unit {0})) Channel Lengths)
    → Order (net (Unit {0}) Near r (truth r)) (λ k n x. Unit {0})
    (begun (net (Unit {0}) Near r (truth r))) events w
    → (n : ℕ) → Can (net (Unit {0}) Near r (truth r)) w (Write n) → IsOneWork r n (fronts w)
