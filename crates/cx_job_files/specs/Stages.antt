-- What stages come to that have one answer, and a lower layer's faults.
use Rattle.std.specs.Prelude.{◌≡◌, ◌≢◌, ◌⊎◌, Option, Some, None, Result, Ok, Err}
use Rattle.cx_text.specs.Telling.{Stage}

-- what a stage comes to that has one answer
abbrev pub Is : {F A : Type 0} → Result A F → Stage A F
Is told result = result ≡ told

-- a value, unless there is a fault
abbrev pub unless : {F A : Type 0} → Option F → A → Result A F
unless None x = Ok x
unless (Some e) x = Err e

-- ---- a lower layer's faults

-- a value, or a lower layer's fault as one of this layer
abbrev pub or_fault : {A F G : Type 0} → (F → G) → Result A F → Result A G
or_fault raised (Ok x) = Ok x
or_fault raised (Err e) = Err (raised e)

-- what a lower layer's stage comes to, with its faults as those of this layer
abbrev pub Raised : {A F G : Type 0} → (F → G) → Stage A F → Stage A G
Raised raised stage (Ok x) = stage (Ok x)
Raised {F = F} raised stage (Err e) = (fault : F) × (e ≡ raised fault) × stage (Err fault)

-- what a lower layer's fault is to this one: its want of memory is this one's
abbrev pub IsOf : {F G : Type 0} → F → G → (F → G) → F → G → Type 0
IsOf low_memory memory raised fault e =
    ((fault ≡ low_memory) × (e ≡ memory)) ⊎ ((fault ≢ low_memory) × (e ≡ raised fault))
