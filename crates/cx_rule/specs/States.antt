-- The numbers of variables over a box: per variable its stored levels, the current one first, and
-- per level one number for each point. A scalar has one level of one number.
use Rattle.std.specs.Prelude.{ℕ, ◌-◌, ℤ, pos, List, [], ◌∷◌, ◌++◌, map, length, take, drop, slice_index_or, slice_set}
use Rattle.cx_plan.specs.declared.variable.VarId.{VarId}

abbrev pub State : Type 0
State = List (List (List ℤ))

-- the numbers of a level, and a scalar's number
abbrev pub level_of : State → VarId → ℕ → List ℤ
level_of state v level = slice_index_or (slice_index_or state v.0 []) level []

abbrev pub scalar_of : State → VarId → ℤ
scalar_of state v = slice_index_or (level_of state v 0) 0 (pos 0)

-- the state with other numbers in one level
abbrev pub with_level : State → VarId → ℕ → List ℤ → State
with_level state v level numbers =
    slice_set state v.0 (slice_set (slice_index_or state v.0 []) level numbers)

abbrev pub with_scalar : State → VarId → ℤ → State
with_scalar state v number = with_level state v 0 (number ∷ [])

-- each level becomes the next older one, and the oldest the current one
abbrev pub rotated_levels : List (List ℤ) → List (List ℤ)
rotated_levels levels = drop (length levels - 1) levels ++ take (length levels - 1) levels

abbrev pub rotate : State → State
rotate state = map rotated_levels state
