-- The rows of a part, and levels that stand from a place on.
use Rattle.std.specs.Prelude.{ℕ, zero, suc, ◌+◌, ℤ, pos, ◌+ℤ◌, List, [], slice_index_or, slice_set}
use Rattle.cx_grid.specs.declared.boxes.Box3.{Box3}
use Rattle.cx_plan.specs.declared.variable.VarId.{VarId}
use Rattle.cx_rule.specs.States.{level_of}
use Rattle.cx_field.specs.Patches.{PatchValue}
use Rattle.cx_core_buffers.specs.Gathering.{put}

-- the first points of the rows of a box
abbrev pub row_starts : Box3 → Box3
row_starts b = record {
  low = b.low;
  high = record { x = b.low.x +ℤ pos 1; y = b.high.y; z = b.high.z };
}

-- the whole levels from a place on with the numbers of a variable's first levels
abbrev pub levels_put : PatchValue → VarId → ℕ → ℕ → List (List ℤ) → List (List ℤ)
levels_put p v from zero all = all
levels_put p v from (suc n) all =
    slice_set (levels_put p v from n all) (from + n)
    (put p (level_of p.numbers v n) (slice_index_or (levels_put p v from n all) (from + n) []))
