-- What chunk files are made of: sections of parts, and lines of scalars.
use Rattle.std.specs.Prelude.{ℕ, ◌<◌, ◌≤◌, ◌^◌, ◌≡◌, IsTrue, ℤ, List, [], ◌∷◌, ◌++◌, codes, length}
use Rattle.std.specs.List.{flat_map, AllByRecursion}
use Rattle.std.specs.Fmt.{decimal}
use Rattle.std.specs.Int.{w64}
use Rattle.std.specs.Int.RustNames.{FitsSigned}
use Rattle.cx_grid.specs.Boxes.{point_count}
use Rattle.cx_grid.specs.Grid.{whole}
use Rattle.cx_ascii.specs.Output.{head_text, rows_text}
use Rattle.cx_ascii_read.specs.Spelling.{SpellsAll}
use Rattle.cx_ascii_read.specs.Records.{shape_of, is_name, IsSize, IsRecord, record_text}
use Rattle.cx_chunks.specs.declared.piece.Piece.{Piece}
use Rattle.cx_chunks.specs.declared.piece.Piece.TheVariants.{Line, Box}

-- numbers, a blank before each
abbrev pub numbers_text : List ℕ → List ℕ
numbers_text numbers = flat_map (λ n. 32 ∷ decimal n) numbers

-- where a part is: its number, the number of parts and its first point
abbrev pub place_text : ℕ → ℕ → List ℕ → List ℕ
place_text part parts from =
    codes " part " ++ decimal part ++ codes " of " ++ decimal parts ++ codes " from"
    ++ numbers_text from

-- The section of a part: a head of a variable's name, the iteration, the part's place and its
-- sizes; a line for each row along x, and an empty line.
abbrev pub part_section : List ℕ → ℕ → ℕ → ℕ → List ℕ → List ℕ → List ℤ → List ℕ
part_section name iteration part parts from size values =
    head_text name iteration ++ place_text part parts from ++ codes " size" ++ numbers_text size
    ++ 10 ∷ []
    ++ rows_text (shape_of size) values ++ 10 ∷ []

abbrev pub piece_text : Piece → List ℕ
piece_text (Line r) = record_text r
piece_text (Box name iteration part parts from size values) =
    part_section name iteration part parts from size values

-- a number of 32 bits
abbrev pub IsWord : ℕ → Type 0
IsWord n = n < 2 ^ 32

-- a part's section: one to three sizes, as many coordinates, and as many values as the sizes say
pub record IsPartSection (full : List ℕ) (i k n : ℕ) (first points : List ℕ)
    (level : List ℤ) : Type 0 where
  pub name : IsTrue (is_name full)
  pub iteration : i < 2 ^ 64
  pub part : IsWord k
  pub parts : IsWord n
  pub some : 1 ≤ length points
  pub directions : length points ≤ 3
  pub from : AllByRecursion IsWord first
  pub alike : length first ≡ length points
  pub sizes : AllByRecursion IsSize points
  pub count : length level ≡ point_count (whole (shape_of points))
  pub values : AllByRecursion (FitsSigned w64) level

abbrev pub IsPiece : Piece → Type 0
IsPiece (Line r) = IsRecord r × (r.size ≡ [])
IsPiece (Box name iteration part parts from size values) =
    IsPartSection name iteration part parts from size values

-- bytes are the texts of these pieces, one after another, with nothing between or after
abbrev pub SpellsChunk : List ℕ → List Piece → Type 0
SpellsChunk bytes pieces = SpellsAll piece_text IsPiece bytes pieces
