-- What a part waits for: the messages in the queues to it.
use Rattle.std.specs.Prelude.{ℕ, ◌+◌, ◌<◌, ◌≤◌, ◌≡◌, ◌↔◌, List, length, None}
use Rattle.cx_plan.specs.declared.variable.VarId.{VarId}
use Rattle.cx_model.specs.Runs.{Lengths}
use Rattle.law_network.specs.Machine.{World, CanMove}
use Rattle.cx_wire.specs.Messages.{Sent as SentMail}
use Rattle.cx_ghost.specs.Takes.{needed, BeginsWith}
use Rattle.cx_flat.specs.declared.op.Op.TheVariants.{Take}
use Rattle.law_parts.specs.Holding.{Held}
use Rattle.law_parts.specs.Runs.{Run, Oracle, cut_of, parts_in, next_op}
use Rattle.law_parts.specs.Moves.{Message, Channel, sender, receiver}
use Rattle.law_parts.specs.Nets.{net, within_lead}
use Rattle.law_parts.specs.Laws.{IsReachedState}
use Rattle.cx_core_part.specs.Exchanges.{ShowsWire}

-- Part k may do a Take: the run isn't over, the part stands before each end that was met, it isn't
-- too far ahead of any other, and each queue to it begins with the faces that it takes of it.
pub record MayTake {tells : Type 0} (r : Run) (w : World Held (Message tells) Channel Lengths)
    (k d : ℕ) (vars : List VarId) (q : ℕ → ℕ → List (SentMail tells)) : Type 0 where
  pub going : w.over ≡ None
  pub before : w.place k < w.stop
  pub near : (j : ℕ) → j < parts_in r
      → (w.held k).control.iteration ≤ r.lead + (w.held j).control.iteration
  pub there : (a : ℕ) → a < parts_in r
      → BeginsWith (cut_of r) a d vars (needed (cut_of r) k d a) (q a k)

-- in each state that is reached: a part whose next operation is a Take can go on exactly where it
-- may do it, by the queues to it
abbrev pub TakesWaitForMessages : (tells : Type 0) → Run → Type 0
TakesWaitForMessages tells r =
    (oracle : Oracle) (w : World Held (Message tells) Channel Lengths) (k d : ℕ) (vars : List VarId)
    (path : List ℕ)
    → IsReachedState tells r oracle w → k < parts_in r
    → next_op r (w.held k).control ≡ Take d vars path
    → (q : ℕ → ℕ → List (SentMail tells)) → ShowsWire r q w.queue
    → CanMove (net tells within_lead r oracle) w k ↔ MayTake r w k d vars q

-- how many messages the next operation of a part takes of a channel
abbrev pub taken_next : {tells : Type 0} → Run → Oracle
    → World Held (Message tells) Channel Lengths → ℕ → Channel → ℕ
taken_next {tells} r oracle w k c =
    (net tells within_lead r oracle).wants c (w.held k).control

-- in each state that is reached: the messages that a part's next operation takes of a channel are
-- there exactly where the sender, if any are taken, has done all operations before it
abbrev pub QueuesFollowPlaces : (tells : Type 0) → Run → Type 0
QueuesFollowPlaces tells r =
    (oracle : Oracle) (w : World Held (Message tells) Channel Lengths) (k : ℕ) (c : Channel)
    → IsReachedState tells r oracle w → k < parts_in r → receiver c ≡ k
    → (taken_next r oracle w k c ≤ length (w.queue c))
    ↔ (0 < taken_next r oracle w k c → w.place k ≤ w.place (sender c))
