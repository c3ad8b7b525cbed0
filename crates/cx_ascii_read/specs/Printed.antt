-- What is printed is made of records.
use Rattle.std.specs.Prelude.{ℕ, ◌<◌, ◌^◌, ◌≡◌, IsTrue, ℤ, List, [], ◌∷◌, ◌++◌, length, map, unsigned_abs}
use Rattle.std.specs.List.{range_with_len, AllByRecursion}
use Rattle.std.specs.Int.{w64}
use Rattle.std.specs.Int.RustNames.{FitsSigned}
use Rattle.cx_grid.specs.declared.boxes.Point.{Point}
use Rattle.cx_grid.specs.declared.shapes.Shape.{Shape}
use Rattle.cx_grid.specs.Boxes.{along, point_count}
use Rattle.cx_grid.specs.Grid.{IsShape, whole}
use Rattle.cx_ascii.specs.Output.{section, line}
use Rattle.cx_ascii_read.specs.declared.record.Record.{Record}
use Rattle.cx_ascii_read.specs.Records.{is_name, Spells}

-- the numbers of points of so many directions
abbrev pub sizes_of : ℕ → Point → List ℕ
sizes_of dims n = map (λ d. unsigned_abs (along n d)) (range_with_len 0 dims)

-- the record of a grid variable's level, and that of a scalar's value
abbrev pub level_record : List ℕ → ℕ → Shape → List ℤ → Record
level_record name iteration s level =
    record { full = name; iteration = iteration; size = sizes_of s.dims s.n; values = level }

abbrev pub value_record : List ℕ → ℕ → ℤ → Record
value_record name iteration value =
    record { full = name; iteration = iteration; size = []; values = value ∷ [] }

-- a variable's name and an iteration
pub record IsHead (name : List ℕ) (iteration : ℕ) : Type 0 where
  pub named : IsTrue (is_name name)
  pub small : iteration < 2 ^ 64

-- a section is the text of its level's record
abbrev pub SectionsAreRecords : Type 0
SectionsAreRecords =
    (name : List ℕ) (iteration : ℕ) (s : Shape) (level : List ℤ) → IsHead name iteration → IsShape s
    → length level ≡ point_count (whole s) → AllByRecursion (FitsSigned w64) level
    → Spells (section name iteration s level) (level_record name iteration s level ∷ [])

-- a line is the text of its value's record
abbrev pub LinesAreRecords : Type 0
LinesAreRecords =
    (name : List ℕ) (iteration : ℕ) (value : ℤ) → IsHead name iteration → FitsSigned w64 value
    → Spells (line name iteration value) (value_record name iteration value ∷ [])

-- texts one behind the other are their records one behind the other
abbrev pub TextsJoin : Type 0
TextsJoin =
    (a b : List ℕ) (rs ss : List Record) → Spells a rs → Spells b ss → Spells (a ++ b) (rs ++ ss)
