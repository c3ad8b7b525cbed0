-- Rules that give one number, and those of them that many thorns share.
use Rattle.std.specs.Prelude.{ℕ, ℤ, pos, List, [], ◌∷◌, Option, Some, None}
use Rattle.cx_grid.specs.declared.boxes.Point.{Point}
use Rattle.cx_plan.specs.declared.item.Region.{Region}
use Rattle.cx_rule.specs.Place.{param_of}
use Rattle.cx_rule.specs.Routine.{Rule}
use Rattle.cx_rule.specs.Seen.{value_of}
use Rattle.cx_rule.specs.declared.spec.Want.{Want}

-- the offset of the point itself
abbrev pub here : Point
here = record { x = pos 0; y = pos 0; z = pos 0 }

-- the one number, if there is one
abbrev pub one_number : Option ℤ → Option (List ℤ)
one_number None = None
one_number (Some number) = Some (number ∷ [])

-- 0
abbrev pub zero_rule : Rule
zero_rule w at = Some (pos 0 ∷ [])

-- the first read's value
abbrev pub read_rule : Rule
read_rule w at = Some (value_of w 0 here ∷ [])

-- the first parameter
abbrev pub param_rule : Rule
param_rule w at = Some (param_of at 0 ∷ [])

-- a variable of this name, read or written in a region
abbrev pub want_of : List ℕ → Region → ℕ → Want
want_of name region reach = record { name = name; region = region; reach = reach }
