-- The line that sums up a run that is made from a seed and a size, and the scalar that it tells of.
use Rattle.std.specs.Prelude.{ℕ, ℤ, ◌*◌, Bool, ◌&&◌, nat_lt, List, [], ◌∷◌, ◌++◌, codes, Option, option_map, position}
use Rattle.std.specs.Fmt.{decimal, signed_decimal}
use Rattle.std.specs.Str.{bytes_eq}
use Rattle.cx_plan.specs.declared.variable.VarId.{VarId}
use Rattle.cx_plan.specs.declared.variable.VarInfo.{VarInfo}
use Rattle.cx_plan.specs.Setups.{Setup}

-- a line of words with blanks between
abbrev pub words_line : List (List ℕ) → List ℕ
words_line [] = 10 ∷ []
words_line (word ∷ []) = word ++ 10 ∷ []
words_line (word ∷ next ∷ more) = word ++ 32 ∷ words_line (next ∷ more)

-- the line: the seed and the size, the numbers of points and of parts, the length of the
-- outputs, and how many cells live at the end
abbrev pub summary : ℕ → ℕ → ℕ → ℤ → List ℕ
summary seed size output live =
    words_line
    (codes "made" ∷ decimal seed ∷ decimal size
    ∷ codes "points" ∷ decimal (size * size)
    ∷ codes "parts" ∷ codes "16"
    ∷ codes "output" ∷ decimal output
    ∷ codes "live" ∷ signed_decimal live
    ∷ [])

-- a variable's number
abbrev pub numbered : ℕ → VarId
numbered k = record { 0 = k }

-- whether a variable is a scalar of this full name that is stored
abbrev pub is_stored_scalar : List ℕ → VarInfo → Bool
is_stored_scalar name v = v.scalar && nat_lt 0 v.levels && bytes_eq v.full name

-- the first stored scalar of this full name
abbrev pub scalar_named : Setup → List ℕ → Option VarId
scalar_named setup name = option_map numbered (position (is_stored_scalar name) setup.vars)

-- the scalar that says how many cells live
abbrev pub live_variable : Setup → Option VarId
live_variable setup = scalar_named setup (codes "life::live")
