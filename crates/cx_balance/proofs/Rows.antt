-- Worked rows.
use Rattle.std.proofs.Common.{◌≡◌, ◌+◌, ◌-◌, ◌*◌, ◌^◌, ℤ, pos, negsuc, true, false, List, [], ◌∷◌, ◌++◌, replicate, refl}
use Rattle.cx_grid.specs.declared.shapes.Shape.{Shape}
use Rattle.cx_plan.specs.declared.job.Cuts.{Cuts}
use Rattle.cx_plan.specs.declared.variable.VarInfo.{VarInfo}
use Rattle.cx_text.specs.declared.ctype.CType.TheVariants.{Int8}
use Rattle.cx_balance.specs.Choosing.{chosen}
use Rattle.cx_balance.specs.Cutting.{chosen_cut}
use Rattle.cx_balance.specs.Weighing.{levels_before, number_weight, weight_at, planes_by}

-- ---- widths

pub row_two : chosen (1 ∷ 1 ∷ 1 ∷ 1 ∷ 8 ∷ 8 ∷ 1 ∷ 1 ∷ []) 2 1 ≡ 5 ∷ 3 ∷ []
row_two = refl

pub row_three : chosen (1 ∷ 1 ∷ 1 ∷ 1 ∷ 8 ∷ 8 ∷ 1 ∷ 1 ∷ []) 3 1 ≡ 5 ∷ 1 ∷ 2 ∷ []
row_three = refl

pub row_equal : chosen (1 ∷ 1 ∷ 1 ∷ 1 ∷ 1 ∷ 1 ∷ 1 ∷ 1 ∷ 1 ∷ 1 ∷ []) 3 1 ≡ 4 ∷ 3 ∷ 3 ∷ []
row_equal = refl

pub row_glider : chosen (8 ∷ 108 ∷ 108 ∷ 308 ∷ 8 ∷ 8 ∷ 8 ∷ 8 ∷ []) 3 1 ≡ 3 ∷ 1 ∷ 4 ∷ []
row_glider = refl

pub row_thin : chosen (9 ∷ 1 ∷ 1 ∷ 1 ∷ []) 2 2 ≡ 2 ∷ 2 ∷ []
row_thin = refl

-- ---- what a number weighs

pub row_below : number_weight 5 (negsuc 1) ≡ 11
row_below = refl

pub row_far : number_weight 3 (pos (2 ^ 20 + 5)) ≡ 1 + 3 * 2 ^ 20
row_far = refl

pub row_farthest : number_weight 1 (negsuc (2 ^ 63 - 1)) ≡ 1 + 2 ^ 20
row_farthest = refl

pub row_no_factor : number_weight 0 (pos 7) ≡ 1
row_no_factor = refl

-- ---- a ring of eight points, and a sheet of eight by eight with a glider

abbrev ring : Shape
ring =
    record {
      dims = 1;
      n = record { x = pos 8; y = pos 1; z = pos 1 };
      ghost_ = record { x = pos 1; y = pos 0; z = pos 0 };
      periodic = true ∷ false ∷ false ∷ [];
    }

abbrev sevens : List ℤ
sevens = replicate 4 (pos 0) ++ pos 7 ∷ pos 7 ∷ replicate 2 (pos 0)

pub row_ring : planes_by ring (weight_at ring 1 sevens) 0 ≡ 1 ∷ 1 ∷ 1 ∷ 1 ∷ 8 ∷ 8 ∷ 1 ∷ 1 ∷ []
row_ring = refl

abbrev sheet : Shape
sheet =
    record {
      dims = 2;
      n = record { x = pos 8; y = pos 8; z = pos 1 };
      ghost_ = record { x = pos 1; y = pos 1; z = pos 0 };
      periodic = true ∷ true ∷ false ∷ [];
    }

-- the cells (2,1), (3,2), (1,3), (2,3) and (3,3)
abbrev glider : List ℤ
glider =
    replicate 10 (pos 0) ++ pos 1 ∷ (replicate 8 (pos 0) ++ pos 1 ∷ (replicate 5 (pos 0)
    ++ pos 1 ∷ pos 1 ∷ pos 1 ∷ replicate 36 (pos 0)))

pub row_sheet_x : planes_by sheet (weight_at sheet 100 glider) 0
    ≡ 8 ∷ 108 ∷ 208 ∷ 208 ∷ 8 ∷ 8 ∷ 8 ∷ 8 ∷ []
row_sheet_x = refl

pub row_sheet_y : planes_by sheet (weight_at sheet 100 glider) 1
    ≡ 8 ∷ 108 ∷ 108 ∷ 308 ∷ 8 ∷ 8 ∷ 8 ∷ 8 ∷ []
row_sheet_y = refl

pub row_sheet_z : planes_by sheet (weight_at sheet 100 glider) 2 ≡ 564 ∷ []
row_sheet_z = refl

abbrev in_rows : Cuts
in_rows = record { x = 8 ∷ []; y = 3 ∷ 3 ∷ 2 ∷ []; z = 1 ∷ [] }

pub row_sheet : chosen_cut sheet in_rows (planes_by sheet (weight_at sheet 100 glider))
    ≡ record { x = 8 ∷ []; y = 3 ∷ 1 ∷ 4 ∷ []; z = 1 ∷ [] }
row_sheet = refl

-- ---- by the number of points

abbrev block : Shape
block =
    record {
      dims = 3;
      n = record { x = pos 2; y = pos 3; z = pos 4 };
      ghost_ = record { x = pos 0; y = pos 0; z = pos 0 };
      periodic = false ∷ false ∷ false ∷ [];
    }

pub row_block_x : planes_by block (λ p. 1) 0 ≡ 12 ∷ 12 ∷ []
row_block_x = refl

pub row_block_y : planes_by block (λ p. 1) 1 ≡ 8 ∷ 8 ∷ 8 ∷ []
row_block_y = refl

pub row_block_z : planes_by block (λ p. 1) 2 ≡ 6 ∷ 6 ∷ 6 ∷ 6 ∷ []
row_block_z = refl

-- ---- where a variable's levels stand

abbrev three_variables : List VarInfo
three_variables =
    record { full = []; ctype = Int8; scalar = false; levels = 2 }
    ∷ record { full = []; ctype = Int8; scalar = true; levels = 1 }
    ∷ record { full = []; ctype = Int8; scalar = false; levels = 3 } ∷ []

pub row_levels : levels_before three_variables (record { 0 = 2 }) ≡ 2
row_levels = refl
