-- A wire in memory that notes what is sent.
use Rattle.std.specs.Prelude.{ℕ, ◌≡◌, ◌⊎◌, List, [], ◌∷◌, ◌++◌, Result, Ok, Err}
use Rattle.cx_wire.specs.declared.mail.Head.{Head}
use Rattle.cx_wire.specs.declared.mail.Mail.{Mail}
use Rattle.cx_wire.specs.Memory.{Carried}

-- the wire, and each send of it: from, to and the head
pub record Noting : Type 0 where
  pub wire : Carried
  pub notes : List (ℕ × ℕ × Head)

-- the notes, with one send more at their end
abbrev pub noted : Noting → (from to : ℕ) → Mail → List (ℕ × ℕ × Head)
noted w from to mail = w.notes ++ (from, to, mail.head) ∷ []

-- a send is noted; where memory is wanting, it may be
abbrev pub Notes : {T F : Type 0} → (old new : Noting) → (from to : ℕ) → Mail → Result T F → Type 0
Notes old new from to mail (Ok x) = new.notes ≡ noted old from to mail
Notes old new from to mail (Err e) = (new.notes ≡ old.notes) ⊎ (new.notes ≡ noted old from to mail)
