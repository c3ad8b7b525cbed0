-- Names in small letters.
use Rattle.std.specs.Prelude.{◌≡◌, ℕ, List, map}
use Rattle.std.specs.Char.{to_ascii_lowercase}
use Rattle.std.specs.List.{list_any}
use Rattle.std.specs.Str.{bytes_eq}
use Rattle.cx_text.specs.Lexemes.{among}
use Rattle.cx_text.specs.Bytes.{folded}

-- Names in small letters are those of a list.
abbrev pub HasNames : List (List ℕ) → List (List ℕ) → Type 0
HasNames keys names = (name : List ℕ) → list_any (bytes_eq (folded name)) keys ≡ among names name
