-- What holds of wires that show the queues of a run.
use Rattle.std.specs.Prelude.{ℕ, ◌<◌, ◌≡◌, List}
use Rattle.cx_plan.specs.declared.variable.VarId.{VarId}
use Rattle.cx_model.specs.Runs.{Lengths}
use Rattle.law_network.specs.Machine.{World, CanMove}
use Rattle.cx_wire.specs.Messages.{Sent as SentMail}
use Rattle.cx_ghost.specs.Takes.{needed, BeginsWith}
use Rattle.cx_flat.specs.declared.op.Op.TheVariants.{Take}
use Rattle.law_parts.specs.Holding.{Held}
use Rattle.law_parts.specs.Runs.{Run, Oracle, cut_of, parts_in, next_op}
use Rattle.law_parts.specs.Moves.{Message, Channel}
use Rattle.law_parts.specs.Nets.{net, within_lead}
use Rattle.law_parts.specs.Laws.{IsReachedState}
use Rattle.cx_core_part.specs.Exchanges.{ShowsWire}

-- in each state that is reached: where a part can go on with a Take, each queue to it begins with
-- all that it takes of it
abbrev pub TakesAreThere : (tells : Type 0) → Run → Type 0
TakesAreThere tells r =
    (oracle : Oracle) (w : World Held (Message tells) Channel Lengths) (k d : ℕ) (vars : List VarId)
    (path : List ℕ)
    → IsReachedState tells r oracle w → CanMove (net tells within_lead r oracle) w k
    → next_op r (w.held k).control ≡ Take d vars path
    → (q : ℕ → ℕ → List (SentMail tells)) → ShowsWire r q w.queue
    → (a : ℕ) → a < parts_in r → BeginsWith (cut_of r) a d vars (needed (cut_of r) k d a) (q a k)
