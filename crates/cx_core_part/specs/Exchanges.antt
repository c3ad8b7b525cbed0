-- What the queues of a wire show of those of a run, and what posting and taking do to both.
use Rattle.std.specs.Prelude.{ℕ, ◌≡◌, ◌==◌, ◌<◌, ◌≤◌, ◌%◌, ◌^◌, List, [], ◌++◌, take, drop, if◌then◌else◌}
use Rattle.std.specs.List.{AllZip}
use Rattle.cx_rule.specs.States.{State}
use Rattle.cx_wire.specs.declared.mail.Head.{Head as MailHead}
use Rattle.cx_wire.specs.Messages.{Sent as SentMail}
use Rattle.cx_wire.specs.Received.{counted}
use Rattle.cx_flat.specs.declared.op.Op.{Op}
use Rattle.law_parts.specs.Runs.{Run, parts_in}
use Rattle.law_parts.specs.Moves.{Head, Message, Sent, Given, Handed, Channel, Wire, takes_from, op_posts, faces_by, number_by, held_values}
use Rattle.law_parts.specs.Nets.{values_sum}
use Rattle.law_network.specs.Machine.{sum_below}

-- ---- messages

-- the sender's operations are counted modulo 2^64
pub record ShowsHead (m : MailHead) (h : Head) : Type 0 where
  pub op : m.op ≡ h.op % 2 ^ 64
  pub dir : m.dir ≡ h.dir
  pub side : m.side ≡ h.side
  pub count : m.count ≡ h.count

abbrev pub ShowsMessage : {tells : Type 0} → SentMail tells → Message tells → Type 0
ShowsMessage {tells} m (Sent h values) =
    ShowsHead m.head h × ((told : tells) → m.values told ≡ values told)
ShowsMessage m (Given number) = ⊥
ShowsMessage m (Handed n state) = ⊥

-- one by one
abbrev pub ShowsQueue : {tells : Type 0} → List (SentMail tells) → List (Message tells) → Type 0
ShowsQueue q ms = AllZip ShowsMessage q ms

-- each queue between two parts
abbrev pub ShowsWire : {tells : Type 0} → Run → (ℕ → ℕ → List (SentMail tells))
    → (Channel → List (Message tells)) → Type 0
ShowsWire r q queue = (a b : ℕ) → a < parts_in r → b < parts_in r
    → ShowsQueue (q a b) (queue (Wire a b))

-- ---- posting

-- what part k posts to part b after n operations, by its own numbers
abbrev pub posted_to : {tells : Type 0} → Run → ℕ → Op → ℕ → State → ℕ → List (Message tells)
posted_to r k o n numbers b =
    op_posts r o n (faces_by r k (held_values r k numbers))
    (number_by r k (held_values r k numbers)) (Wire k b)

-- each queue of part k shows at its end what it posts there, and the other queues are as before
abbrev pub Posts : {tells : Type 0} → Run → ℕ → Op → ℕ → State
    → (old new : ℕ → ℕ → List (SentMail tells)) → Type 0
Posts {tells} r k o n numbers old new =
    (a b : ℕ) → (sent : List (SentMail tells)) × (new a b ≡ old a b ++ sent)
    × ShowsQueue sent (if a == k then posted_to r k o n numbers b else [])

-- ---- taking

-- of each queue to part k, what it takes of it in a direction shows these messages
abbrev pub ShowsTaken : {tells : Type 0} → Run → ℕ → ℕ → (ℕ → ℕ → List (SentMail tells))
    → (Channel → List (Message tells)) → Type 0
ShowsTaken r k d q mails = (a : ℕ) → a < parts_in r
    → ShowsQueue (take (takes_from r k d a) (q a k)) (mails (Wire a k))

-- the queues to part k have lost this, and the others are as before
abbrev pub Takes : {M : Type 0} → Run → ℕ → ℕ → (old new : ℕ → ℕ → List M) → Type 0
Takes r k d old new = (a b : ℕ)
    → new a b ≡ (if b == k then drop (takes_from r k d a) (old a b) else old a b)

-- so many values at most were received
pub record ReceivedWithin (values before after : ℕ) : Type 0 where
  pub least : before ≤ after
  pub most : after ≤ counted before values

-- the sum of the values of messages that part k takes of all wires
abbrev pub sum_taken : {tells : Type 0} → tells → Run → ℕ → (Channel → List (Message tells)) → ℕ
sum_taken told r k mails = sum_below (parts_in r) (λ a. values_sum told (mails (Wire a k)))
