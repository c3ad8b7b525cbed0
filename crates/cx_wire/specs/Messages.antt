-- Messages as contracts see them. What a wire doesn't tell is a function from whether it tells: of
-- a wire that tells nothing it says nothing.
use Rattle.std.specs.Prelude.{◌≡◌, ℤ, List, [], ◌∷◌, length, Option, Some, None}
use Rattle.cx_wire.specs.declared.mail.Head.{Head}
use Rattle.cx_wire.specs.declared.mail.Mail.{Mail}

-- a message in a queue: its head, and its values where they are told
pub record Sent (tells : Type 0) : Type 0 where
  pub head : Head
  pub values : tells → List ℤ

-- a mail in a queue
abbrev pub sent : {tells : Type 0} → Mail → Sent tells
sent mail = record { head = mail.head; values = λ _. mail.values }

-- it has as many values as its head says
abbrev pub IsCounted : Mail → Type 0
IsCounted mail = length mail.values ≡ mail.head.count

-- the head of the first mail, and of the message in front
abbrev pub first_head : List Mail → Option Head
first_head [] = None
first_head (mail ∷ mails) = Some mail.head

abbrev pub front_head : {tells : Type 0} → List (Sent tells) → Option Head
front_head [] = None
front_head (m ∷ ms) = Some m.head
