-- Worked rows: the first lines that differ, and items of variables.
use Rattle.std.specs.Prelude.{◌≡◌, true, false, pos, negsuc, List, [], ◌∷◌, codes, Some, None}
use Rattle.std.proofs.Common.{refl}
use Rattle.cx_text.specs.declared.ctype.CType.TheVariants.{Byte, Int8}
use Rattle.cx_plan.specs.declared.variable.VarInfo.{VarInfo}
use Rattle.cx_keep.specs.Agreement.{Agree, first_apart, lines, lines_to, steered_at}
use Rattle.cx_keep.specs.Fits.{scalars_fit, levels_fit}

-- the second lines differ, the kept one first
second_lines : first_apart (lines (codes "k\nv 6\nw")) (lines (codes "k\nv 5\nw"))
    ≡ Some (codes "v 6", codes "v 5")
second_lines = refl

-- a text that has ended has an empty line
kept_ended : first_apart (lines (codes "k")) (lines (codes "k\nv 5")) ≡ Some ([], codes "v 5")
kept_ended = refl

own_ended : first_apart (lines (codes "k\nv 5")) (lines (codes "k")) ≡ Some (codes "v 5", [])
own_ended = refl

-- a line that goes on differs as a whole
longer_line : first_apart (lines (codes "k\nv 5")) (lines (codes "k\nv"))
    ≡ Some (codes "v 5", codes "v")
longer_line = refl

-- the line of a steer has its iteration, and no other line has one
steer_line : steered_at (codes "steer 2 wave::factor = \"0\"") ≡ Some 2
steer_line = refl

no_number : steered_at (codes "steer  a") ≡ None
no_number = refl

no_steer : steered_at (codes "parameter a::b = \"x\\nsteer 5 \"") ≡ None
no_steer = refl

-- a line for a later iteration doesn't count, and one for this iteration does
later_line : Agree 1 (codes "k\n") (codes "k\nsteer 2 wave::factor = \"0\"\n")
later_line = refl

line_now : first_apart (lines_to 1 (codes "k\n"))
    (lines_to 1 (codes "k\nsteer 1 wave::factor = \"0\"\n"))
    ≡ Some ([], codes "steer 1 wave::factor = \"0\"")
line_now = refl

-- a scalar, a grid variable with two levels, and a scalar without storage
abbrev variables : List VarInfo
variables =
    record { full = codes "s"; ctype = Int8; scalar = true; levels = 1 }
    ∷ record { full = codes "g"; ctype = Byte; scalar = false; levels = 2 }
    ∷ record { full = codes "t"; ctype = Int8; scalar = true; levels = 0 } ∷ []

one_scalar : scalars_fit variables (negsuc 0 ∷ []) ≡ true
one_scalar = refl

two_scalars : scalars_fit variables (negsuc 0 ∷ pos 0 ∷ []) ≡ false
two_scalars = refl

two_levels : levels_fit 1 variables ((pos 255 ∷ []) ∷ (pos 0 ∷ []) ∷ []) ≡ true
two_levels = refl

one_level : levels_fit 1 variables ((pos 255 ∷ []) ∷ []) ≡ false
one_level = refl

two_points : levels_fit 1 variables ((pos 255 ∷ []) ∷ (pos 0 ∷ pos 0 ∷ []) ∷ []) ≡ false
two_points = refl

too_great : levels_fit 1 variables ((pos 256 ∷ []) ∷ (pos 0 ∷ []) ∷ []) ≡ false
too_great = refl
