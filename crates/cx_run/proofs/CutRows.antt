-- Worked rows: the lines of cuts.
use Rattle.std.specs.Prelude.{◌≡◌, refl, true, false, pos, [], ◌∷◌, ◌++◌, codes}
use Rattle.std.specs.Fmt.{digits}
use Rattle.cx_cut.specs.Cuts.{Parts}
use Rattle.cx_run.specs.CutTexts.{cut_lines, parts_text}

-- ten points of a ring in three parts
abbrev ring : Parts
ring = record {
  shape = record {
    dims = 1;
    n = record { x = pos 10; y = pos 1; z = pos 1 };
    ghost_ = record { x = pos 1; y = pos 0; z = pos 0 };
    periodic = true ∷ false ∷ false ∷ [];
  };
  x = 4 ∷ 3 ∷ 3 ∷ [];
  y = 1 ∷ [];
  z = 1 ∷ [];
}

row_ring : parts_text ring
    ≡ codes "part 0 from 0 size 4 low 2 high 1" ++ 10 ∷ codes "part 1 from 4 size 3 low 0 high 2"
    ++ 10 ∷ codes "part 2 from 7 size 3 low 1 high 0" ++ 10 ∷ []
unfolding digits
row_ring = refl

row_ring_widths : cut_lines ring ≡ codes "cut x 4 3 3" ++ 10 ∷ []
unfolding digits
row_ring_widths = refl

-- an open sheet of 4 by 3 points in two parts
abbrev sheet : Parts
sheet = record {
  shape = record {
    dims = 2;
    n = record { x = pos 4; y = pos 3; z = pos 1 };
    ghost_ = record { x = pos 1; y = pos 1; z = pos 0 };
    periodic = false ∷ false ∷ false ∷ [];
  };
  x = 2 ∷ 2 ∷ [];
  y = 3 ∷ [];
  z = 1 ∷ [];
}

row_sheet : parts_text sheet
    ≡ codes "part 0 from 0 0 size 2 3 low - - high 1 -" ++ 10
    ∷ codes "part 1 from 2 0 size 2 3 low 0 - high - -" ++ 10 ∷ []
unfolding digits
row_sheet = refl

row_sheet_widths : cut_lines sheet ≡ codes "cut x 2 2" ++ 10 ∷ codes "cut y 3" ++ 10 ∷ []
unfolding digits
row_sheet_widths = refl
