-- The faces of a part, and what filling its ghosts leaves.
use Rattle.std.specs.Prelude.{ℕ, ◌+◌, ◌*◌, ◌<◌, ◌≡◌, ◌≢◌, ◌&&◌, ◌==◌, true, ℤ, pos, List, map, length, slice_index_or, All, AllPairs}
use Rattle.std.specs.List.{flat_map}
use Rattle.cx_grid.specs.declared.boxes.Point.{Point}
use Rattle.cx_grid.specs.declared.boxes.Box3.{Box3}
use Rattle.cx_grid.specs.declared.shapes.Side.{Side}
use Rattle.cx_grid.specs.Boxes.{IsIn, point_count, index_in, numbers_in}
use Rattle.cx_plan.specs.declared.variable.VarId.{VarId}
use Rattle.cx_plan.specs.Lookups.{is_scalar}
use Rattle.cx_plan.specs.Regions.{is_among}
use Rattle.cx_cut.specs.Cuts.{face, halo}
use Rattle.cx_rule.specs.States.{scalar_of}
use Rattle.cx_rule.specs.Patches.{PatchValue, IsGridLevel, setup_in, values_in, with_numbers}

-- the owned layers at a side of a patch, and the ghosts there
abbrev pub face_in : PatchValue → ℕ → Side → Box3
face_in p d side = face p.shape p.owned p.local d side

abbrev pub halo_in : PatchValue → ℕ → Side → Box3
halo_in p d side = halo p.shape p.owned p.local d side

-- different grid variables that are stored
pub record AreGrid (p : PatchValue) (vars : List VarId) : Type 0 where
  pub levels : All (λ v. IsGridLevel p v 0) vars
  pub differ : AllPairs (λ a b. a.0 ≢ b.0) vars

-- the current numbers of these variables at a box's points, one variable after another
abbrev pub box_numbers : PatchValue → Box3 → List VarId → List ℤ
box_numbers p b vars = flat_map (λ v. numbers_in b (values_in p v 0)) vars

abbrev pub variable_at : List VarId → ℕ → VarId
variable_at vars i = slice_index_or vars i (record { 0 = 0 })

-- the current levels of these variables have these values at the local points of a box; a
-- variable's values stand behind those of the ones before it
abbrev pub IsFilled : PatchValue → List VarId → Box3 → List ℤ → Type 0
IsFilled p vars b values =
    (i : ℕ) (y : Point) → i < length vars → IsIn b y → IsIn p.local y
    → values_in p (variable_at vars i) 0 y
    ≡ slice_index_or values (i * point_count b + index_in b y) (pos 0)

-- another variable, level or point than those that are filled
abbrev pub IsKept : List VarId → Box3 → VarId → ℕ → Point → Type 0
IsKept vars b v level y = (is_among v vars && level == 0 ≡ true) → IsIn b y → ⊥

-- the ghosts of a box are filled, and all else is as before
pub record Filled (old new : PatchValue) (vars : List VarId) (b : Box3)
    (values : List ℤ) : Type 0 where
  pub frame : with_numbers new old.numbers ≡ old
  pub sized : map (map length) new.numbers ≡ map (map length) old.numbers
  pub filled : IsFilled new vars b values
  pub kept : (v : VarId) (level : ℕ) (y : Point) → IsIn old.local y → IsKept vars b v level y
      → values_in new v level y ≡ values_in old v level y
  pub scalars : (v : VarId) → is_scalar (setup_in old) v ≡ true
      → scalar_of new.numbers v ≡ scalar_of old.numbers v
