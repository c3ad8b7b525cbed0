-- What filling a box of a part comes to, place by place.
use Rattle.std.specs.Prelude.{ℕ, ◌+◌, ◌*◌, ◌<◌, ◌≤◌, ◌≡◌, ◌≢◌, ◌⊎◌, true, ℤ, pos, List, map, length, slice_index_or}
use Rattle.cx_grid.specs.declared.boxes.Point.{Point}
use Rattle.cx_grid.specs.declared.boxes.Box3.{Box3}
use Rattle.cx_grid.specs.Boxes.{IsIn, point_count, index_in}
use Rattle.cx_plan.specs.declared.variable.VarId.{VarId}
use Rattle.cx_plan.specs.Lookups.{is_scalar}
use Rattle.cx_rule.specs.States.{scalar_of}
use Rattle.cx_rule.specs.Patches.{PatchValue, setup_in, number_at, with_number, with_numbers}
use Rattle.cx_rule.specs.Faces.{variable_at}

-- what a box asks whose points are all local
abbrev pub HoldsBox : PatchValue → Box3 → Type 0
HoldsBox p b = (y : Point) → IsIn b y → IsIn p.local y

-- all but the numbers of grid variables is as before, and each level has as many
pub record IsAlike (old new : PatchValue) : Type 0 where
  pub frame : with_numbers new old.numbers ≡ old
  pub sized : map (map length) new.numbers ≡ map (map length) old.numbers
  pub scalars : (v : VarId) → is_scalar (setup_in old) v ≡ true
      → scalar_of new.numbers v ≡ scalar_of old.numbers v

-- another place than the current level of a variable in a box
abbrev pub IsElsewhere : VarId → Box3 → VarId → ℕ → Point → Type 0
IsElsewhere v b u m y = (u.0 ≢ v.0) ⊎ ((m ≢ 0) ⊎ (IsIn b y → ⊥))

-- a number is set where the point is local
abbrev pub SetsIfLocal : PatchValue → VarId → Point → ℤ → PatchValue → Type 0
SetsIfLocal old v y n new =
    (IsIn old.local y × (new ≡ with_number old v 0 y n)) ⊎ ((IsIn old.local y → ⊥) × (new ≡ old))

-- the current level of a variable has these values at the local points of a box before a place, and
-- all else is as before
pub record FilledTo (old new : PatchValue) (v : VarId) (b : Box3) (values : List ℤ)
    (i : ℕ) : Type 0 where
  pub alike : IsAlike old new
  pub inside : (y : Point) → IsIn b y → IsIn old.local y → index_in b y < i
      → number_at new v 0 y ≡ slice_index_or values (index_in b y) (pos 0)
  pub outside : (u : VarId) (m : ℕ) (y : Point) → IsIn old.local y
      → IsElsewhere v b u m y ⊎ (i ≤ index_in b y)
      → number_at new u m y ≡ number_at old u m y

-- the same of the first so many of several variables
pub record FilledVars (old new : PatchValue) (vars : List VarId) (b : Box3) (values : List ℤ)
    (n : ℕ) : Type 0 where
  pub alike : IsAlike old new
  pub inside : (i : ℕ) → i < n → (y : Point) → IsIn b y → IsIn old.local y
      → number_at new (variable_at vars i) 0 y
      ≡ slice_index_or values (i * point_count b + index_in b y) (pos 0)
  pub outside : (u : VarId) (m : ℕ) (y : Point) → IsIn old.local y
      → ((i : ℕ) → i < n → (variable_at vars i).0 ≢ u.0) ⊎ ((m ≢ 0) ⊎ (IsIn b y → ⊥))
      → number_at new u m y ≡ number_at old u m y
