-- The values around a point.
use Rattle.std.specs.Prelude.{◌≡◌, ℕ, ℤ, pos, ◌+◌, ◌^◌, ◌≤◌, ◌<◌, List, length, sum_by, take, slice_index_or}
use Rattle.cx_grid.specs.declared.boxes.Point.{Point}
use Rattle.cx_grid.specs.Boxes.{IsIn, point_count, index_in}
use Rattle.cx_grid.specs.Windows.{reach_box}

-- what a rule sees: the grid's directions, each read's reach, and all values, read after read,
-- those of a read x fastest
pub record Seen : Type 0 where
  pub dims : ℕ
  pub reaches : List ℕ
  pub values : List ℤ

-- a window: for how many values it has room, and what is seen in it
pub record Shown : Type 0 where
  pub room : ℕ
  pub seen : Seen

abbrev pub shown : (room dims : ℕ) → List ℕ → List ℤ → Shown
shown room dims reaches values =
    record { room = room; seen = record { dims = dims; reaches = reaches; values = values } }

-- how many values a read has, and how many several reads have
abbrev pub volume_of : ℕ → ℕ → ℕ
volume_of dims reach = point_count (reach_box dims reach)

abbrev pub volumes : ℕ → List ℕ → ℕ
volumes dims reaches = sum_by (volume_of dims) reaches

pub record IsWindow (w : Shown) : Type 0 where
  pub reads : length w.seen.reaches ≤ length w.seen.values
  pub values : length w.seen.values ≡ volumes w.seen.dims w.seen.reaches
  pub room : length w.seen.values ≤ w.room
  pub fits : w.room < 2 ^ 32

-- there is room for a read more
abbrev pub HasRoom : Shown → ℕ → Type 0
HasRoom w reach = volumes w.seen.dims w.seen.reaches + volume_of w.seen.dims reach ≤ w.room

-- where a read's offset stands among all values
abbrev pub place_among : ℕ → List ℕ → ℕ → Point → ℕ
place_among dims reaches read o =
    volumes dims (take read reaches) + index_in (reach_box dims (slice_index_or reaches read 0)) o

abbrev pub place_of : Seen → ℕ → Point → ℕ
place_of w read o = place_among w.dims w.reaches read o

-- an offset is one of a read
abbrev pub IsOffset : Seen → ℕ → Point → Type 0
IsOffset w read o = IsIn (reach_box w.dims (slice_index_or w.reaches read 0)) o

-- the value of a read at an offset
abbrev pub value_of : Seen → ℕ → Point → ℤ
value_of w read o = slice_index_or w.values (place_of w read o) (pos 0)
