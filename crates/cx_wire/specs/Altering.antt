-- A wire in memory that alters one value.
use Rattle.std.specs.Prelude.{ℕ, ◌≡◌, ◌==◌, ◌||◌, Bool, true, false, ℤ, pos, List, slice_get, slice_set, Option, Some, None, Result, Ok, Err, if◌then◌else◌}
use Rattle.std.specs.Int.{w64, int_wrapping_add}
use Rattle.cx_grid.specs.declared.shapes.Side.{Side}
use Rattle.cx_grid.specs.declared.shapes.Side.TheVariants.{Low, High}
use Rattle.cx_wire.specs.declared.mail.Mail.{Mail}
use Rattle.cx_wire.specs.Queues.{Gains, SameQueues}
use Rattle.cx_wire.specs.Memory.{Carried, queue_of}

-- the wire, and whether it has altered a value
pub record Altering : Type 0 where
  pub wire : Carried
  pub altered : Bool

-- a wire that has altered nothing
abbrev pub altering_wire : Carried → Altering
altering_wire wire = record { wire = wire; altered = false }

-- the first value of a face at the low side
abbrev pub first_low : Side → List ℤ → Option ℤ
first_low Low values = slice_get values 0
first_low High values = None

-- the value of a mail that is to be altered: while none was, the first one that part 0 sends by its
-- low face
abbrev pub due : Altering → ℕ → Mail → Option ℤ
due w from mail =
    if w.altered then None else (if from == 0 then first_low mail.head.side mail.values else None)

-- the mail with another first value
abbrev pub with_first : Mail → ℤ → Mail
with_first mail first = record mail { values = slice_set mail.values 0 first }

-- the mail with 1 added to the value that is to be altered, modulo 2^64
abbrev pub one_added : Option ℤ → Mail → Mail
one_added None mail = mail
one_added (Some first) mail = with_first mail (int_wrapping_add w64 first (pos 1))

abbrev pub is_due : Option ℤ → Bool
is_due None = false
is_due (Some first) = true

-- A mail goes on with 1 added to the value that is to be altered. After an error nothing has
-- changed.
abbrev pub Alters : {T F : Type 0} → (old new : Altering) → (from to : ℕ) → Mail → Result T F
    → Type 0
Alters old new from to mail (Ok x) =
    Gains (queue_of old.wire) (queue_of new.wire) from to (one_added (due old from mail) mail)
    × (new.altered ≡ (old.altered || is_due (due old from mail)))
Alters old new from to mail (Err e) =
    SameQueues (queue_of old.wire) (queue_of new.wire) × (new.altered ≡ old.altered)
