-- A wire in memory: its queues by number, and what it has given out.
use Rattle.std.specs.Prelude.{ℕ, ◌+◌, ◌*◌, ◌%◌, ◌^◌, ◌<◌, ◌≡◌, nat_lt, ◌&&◌, true, false, IsTrue, List, [], length, map, slice_index_or, replicate, if◌then◌else◌}
use Rattle.std.proofs.Common.{arith}
use Rattle.std.proofs.lemmas.Nat.{mod_below}
use Rattle.cx_wire.specs.declared.mail.Mail.{Mail}
use Rattle.cx_wire.specs.Messages.{Sent, sent}

-- the queues, by the part that sends and then the part that receives, and the two received numbers
pub record Carried : Type 0 where
  pub parts : ℕ
  pub queues : List (List Mail)
  pub received : ℕ
  pub sum : ℕ

-- there is a queue for each pair
pub record IsCarried (w : Carried) : Type 0 where
  pub full : length w.queues ≡ w.parts * w.parts
  pub few : w.parts < 2 ^ 32

-- the queue of a pair; none beyond the parts, where a number would name another pair
abbrev pub queue_in : ℕ → List (List Mail) → ℕ → ℕ → List Mail
queue_in parts queues a b =
    if nat_lt a parts && nat_lt b parts then slice_index_or queues (a * parts + b) [] else []

abbrev pub queue_of : Carried → ℕ → ℕ → List Mail
queue_of w = queue_in w.parts w.queues

-- the same as a wire shows it, telling the values or not
abbrev pub sent_queue : {tells : Type 0} → Carried → ℕ → ℕ → List (Sent tells)
sent_queue w a b = map sent (queue_of w a b)

-- the queues of a wire that tells, and of one that doesn't
abbrev pub told_queue : Carried → ℕ → ℕ → List (Sent (IsTrue true))
told_queue w = sent_queue w

abbrev pub bare_queue : Carried → ℕ → ℕ → List (Sent (IsTrue false))
bare_queue w = sent_queue w

-- the sum of what it has given out
abbrev pub carried_sum : Carried → ℕ
carried_sum w = w.sum % 2 ^ 64

pub carried_sum_fits : (w : Carried) → carried_sum w < 2 ^ 64
carried_sum_fits w = mod_below w.sum (2 ^ 64) (omega arith)

-- a wire that has carried nothing
abbrev pub new_wire : ℕ → Carried
new_wire parts = record {
  parts = parts;
  queues = replicate (parts * parts) [];
  received = 0;
  sum = 0;
}
