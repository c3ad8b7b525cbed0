-- What an answer says of what is so, where memory may run out. A crate hands in its own fault for
-- want of memory.
use Rattle.std.specs.Prelude.{◌≡◌, ◌⊎◌, Option, Some, None, Result, Ok, Err}

-- A test answers whether there is this fault: Ok for none, else the fault or want of memory.
abbrev pub Tells : {X F : Type 0} → F → Option F → Result X F → Type 0
Tells memory fault (Ok x) = fault ≡ None
Tells memory fault (Err e) = (e ≡ memory) ⊎ (fault ≡ Some e)

-- A call answers what is told, or want of memory.
abbrev pub Answers : {X F : Type 0} → F → Result X F → Result X F → Type 0
Answers memory told (Ok x) = told ≡ Ok x
Answers memory told (Err e) = (e ≡ memory) ⊎ (told ≡ Err e)

-- A stage says what it may come to: a value, or a fault.
abbrev pub Stage : Type 0 → Type 0 → Type 1
Stage A F = Result A F → Type 0

-- one stage, and then another; the first fault counts
abbrev pub Then : {A B F : Type 0} → Stage A F → (A → Stage B F) → Stage B F
Then {A} {B} {F} p q result =
    ((e : F) × p (Err e) × (result ≡ Err e)) ⊎ ((x : A) × p (Ok x) × q x result)
