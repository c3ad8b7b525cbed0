-- The bins that names name.
use Rattle.std.specs.Prelude.{ℕ, nat_le, ◌&&◌, List, length, take, drop, position, codes, Option, if◌then◌else◌}
use Rattle.cx_text.specs.Lexemes.{same_name}
use Rattle.cx_plan.specs.Lookups.{bin_names}

-- a name without the `CCTK_` at its beginning
abbrev pub plain : List ℕ → List ℕ
plain name = if nat_le 5 (length name) && same_name (take 5 name) (codes "CCTK_") then drop 5 name
    else name

-- the number of the bin of a name
abbrev pub bin_of : List ℕ → Option ℕ
bin_of name = position (same_name (plain name)) bin_names
