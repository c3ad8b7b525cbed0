-- What filling buffers and parts comes to, place by place.
use Rattle.std.specs.Prelude.{ℕ, zero, suc, ◌+◌, Bool, true, false, ℤ, pos, List, [], map, slice_index_or, slice_set}
use Rattle.std.specs.List.{range_with_len}
use Rattle.cx_grid.specs.declared.boxes.Point.{Point}
use Rattle.cx_grid.specs.declared.shapes.Shape.{Shape}
use Rattle.cx_grid.specs.Boxes.{numbers_in}
use Rattle.cx_grid.specs.Grid.{at}
use Rattle.cx_plan.specs.declared.variable.VarId.{VarId}
use Rattle.cx_rule.specs.States.{State, scalar_of, with_level, with_scalar}
use Rattle.cx_field.specs.Patches.{PatchValue, IsGridLevel, IsScalar, beside}

-- a scalar, or the current level of a grid variable
abbrev pub IsCurrentOf : PatchValue → VarId → Bool → Type 0
IsCurrentOf p v true = IsScalar p v
IsCurrentOf p v false = IsGridLevel p v 0

-- numbers with a scalar's number at a place, where it has one
abbrev pub scalar_put : PatchValue → VarId → ℕ → ℕ → List ℤ → List ℤ
scalar_put p v at zero scalars = scalars
scalar_put p v at (suc n) scalars = slice_set scalars at (scalar_of p.numbers v)

-- a state with the number at a place as a scalar, where it has one
abbrev pub scalar_filled : VarId → ℕ → ℕ → List ℤ → State → State
scalar_filled v at zero scalars state = state
scalar_filled v at (suc n) scalars state = with_scalar state v (slice_index_or scalars at (pos 0))

-- a level over a part's local points by a whole level
abbrev pub local_level : PatchValue → List ℤ → List ℤ
local_level p level = numbers_in p.local (at p.shape level)

-- the numbers of a whole level at so many points along x
abbrev pub numbers_from : Shape → List ℤ → Point → ℕ → List ℤ
numbers_from s level low n = map (λ i. at s level (beside low i)) (range_with_len 0 n)

-- a state with the whole levels from a place on as a variable's first levels
abbrev pub levels_filled : PatchValue → VarId → ℕ → ℕ → List (List ℤ) → State → State
levels_filled p v from zero all state = state
levels_filled p v from (suc n) all state =
    with_level (levels_filled p v from n all state) v n
    (local_level p (slice_index_or all (from + n) []))
