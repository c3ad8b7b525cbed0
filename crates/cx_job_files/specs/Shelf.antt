-- Files under names.
use Rattle.std.specs.Prelude.{◌≡◌, ℕ, List, [], ◌∷◌, Option, Some, None, Vec, nat_eq, if◌then◌else◌}
use Rattle.std.specs.Cmp.Lexicographic.{pointwise}
use Rattle.std.specs.declared.alloc.Global.{Global}

-- the bytes under each name
abbrev pub Held : Type 0
Held = List ℕ → Option (List ℕ)

-- nothing under any name
abbrev pub nothing_held : Held
nothing_held name = None

-- the bytes of the first file of that name
abbrev pub looked_up : List (List ℕ × List ℕ) → Held
looked_up [] name = None
looked_up (file ∷ files) name = if pointwise nat_eq file.0 name then Some file.1
    else looked_up files name

-- what was found is what is held
abbrev pub Gives : Option (Vec ℕ Global) → Option (List ℕ) → Type 0
Gives None held = held ≡ None
Gives (Some bytes) held = held ≡ Some bytes.items
