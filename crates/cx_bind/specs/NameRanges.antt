-- Ranges by names in small letters.
use Rattle.std.specs.Prelude.{◌≡◌, ℕ, List, [], ◌++◌, if◌then◌else◌}
use Rattle.std.specs.Map.{lookup}
use Rattle.std.specs.Option.{unwrap_or}
use Rattle.std.specs.Str.{bytes_eq}
use Rattle.cx_param.specs.declared.ranges.Range.{Range}
use Rattle.cx_bind.specs.declared.parameters.Extension.{Extension}
use Rattle.cx_bind.specs.Parameters.{added}
use Rattle.cx_text.specs.Bytes.{folded}

-- the ranges of a name, if it has any
abbrev pub ranges_of : List ℕ → List (List ℕ × List Range) → List Range
ranges_of name named = unwrap_or (lookup (bytes_eq name) named) []

-- A name gets more ranges behind its own, and each other name keeps what it has.
abbrev pub AddsRanges : List ℕ → List Range → List (List ℕ × List Range)
    → List (List ℕ × List Range) → Type 0
AddsRanges name more old new = (other : List ℕ)
    → ranges_of other new ≡ ranges_of other old ++ (if bytes_eq other name then more else [])

-- Each name's ranges are what extensions add to the parameter of the name.
abbrev pub AreAdded : List Extension → List (List ℕ × List Range) → Type 0
AreAdded es named = (full : List ℕ) → ranges_of (folded full) named ≡ added es full
