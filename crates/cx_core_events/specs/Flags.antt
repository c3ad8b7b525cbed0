-- Which parts can go, as the code keeps it, and for which parts an operation of one of them may
-- change that.
use Rattle.std.specs.Prelude.{ℕ, ◌≡◌, ◌<◌, ◌≤◌, Bool, false, List, length, map, Option, Some, slice_get, slice_index_or}
use Rattle.std.specs.List.{range_with_len}
use Rattle.cx_grid.specs.declared.shapes.Shape.{Shape}
use Rattle.cx_grid.specs.declared.shapes.Side.{Side}
use Rattle.cx_cut.specs.Cuts.{Parts, IsWhole, part_count}
use Rattle.cx_core_events.specs.declared.flags.Flags.{Flags}
use Rattle.cx_core_events.specs.declared.standing.Standing.{Standing}
use Rattle.cx_core_events.specs.Paces.{Paces, iteration_of, are_in_order}
use Rattle.cx_core_events.specs.Events.{partner_at, can_go, parts_going, writer_going}

-- a whole cut of the grid, with its number of parts
pub record IsStanding (shape : Shape) (cut : Parts) (count : ℕ) : Type 0 where
  pub shape_is : shape ≡ cut.shape
  pub count_is : count ≡ part_count cut
  pub whole : IsWhole cut

pub record HasFlags (p : Paces) (f : Flags) : Type 0 where
  pub few : length p.parts ≤ 512
  pub parts : f.parts.items ≡ map (can_go p) (range_with_len 0 (length p.parts))
  pub going : f.going ≡ length (parts_going p)
  pub going_few : f.going ≤ 512
  pub writer : f.writer ≡ writer_going p

-- only part k stands elsewhere, and neither the hindmost place nor the least end nor the works are
-- others
pub record IsAlone (p q : Paces) (k : ℕ) : Type 0 where
  pub cut : q.cut ≡ p.cut
  pub ops : q.ops ≡ p.ops
  pub lead : q.lead ≡ p.lead
  pub works : q.works ≡ p.works
  pub over : q.over ≡ p.over
  pub stopped : q.stopped ≡ p.stopped
  pub not_stop : p.stopped ≡ Some k → ⊥
  pub count : length q.parts ≡ length p.parts
  pub others : (j : ℕ) → (j ≡ k → ⊥) → slice_get q.parts j ≡ slice_get p.parts j
  pub hind : (s : Option Standing)
      → are_in_order (slice_get q.parts q.hind) s ≡ are_in_order (slice_get p.parts p.hind) s
  pub round : iteration_of q q.hind ≡ iteration_of p p.hind

-- a flag is right
abbrev pub IsRight : Paces → List Bool → ℕ → Type 0
IsRight p flags i = slice_index_or flags i false ≡ can_go p i

-- flags that are right stay so
pub record IsKept (p : Paces) (old new : List Bool) : Type 0 where
  pub count : length new ≡ length old
  pub kept : (i : ℕ) → IsRight p old i → IsRight p new i

-- and those of the parts that exchange faces with a part are right
pub record IsAround (p : Paces) (k : ℕ) (old new : List Bool) : Type 0 where
  pub keeps : IsKept p old new
  pub around : (d : ℕ) (side : Side) (j : ℕ) → partner_at p.cut k d side ≡ Some j → j < length old
      → IsRight p new j
