-- Reading the text of a chunk file from left to right.
use Rattle.std.specs.Prelude.{ℕ, zero, suc, ◌-◌, ◌^◌, ◌==◌, ℤ, List, [], ◌∷◌, ◌++◌, codes, length, Option, Some, None, if◌then◌else◌}
use Rattle.cx_ascii_read.specs.Reading.{◌>>=◌, skip_text, number_at, head_at, line_at, grid_at}
use Rattle.cx_chunks.specs.declared.piece.Piece.{Piece}
use Rattle.cx_chunks.specs.declared.piece.Piece.TheVariants.{Line, Box}
use Rattle.cx_chunks.specs.declared.place.Place.{Place}

-- a number of 32 bits, and a blank
abbrev pub word_at : List ℕ → Option (ℕ × List ℕ)
word_at = number_at (2 ^ 32 - 1)

-- after some coordinates: the word `size`, or at most so many more
abbrev pub or_more : List ℕ → Option (List ℕ) → Option (List ℕ × List ℕ) → Option (List ℕ × List ℕ)
or_more front (Some rest) more = Some (front, rest)
or_more front None more = more

unfoldable pub from_at : ℕ → List ℕ → List ℕ → Option (List ℕ × List ℕ)
from_at zero front bytes = or_more front (skip_text (codes "size ") bytes) None
from_at (suc more) front bytes =
    or_more front (skip_text (codes "size ") bytes)
    (word_at bytes >>= λ n. from_at more (front ++ n.0 ∷ []) n.1)

-- which part it is, of how many, and where it begins
unfoldable pub place_at : List ℕ → Option (Place × List ℕ)
place_at bytes = do
  part ← word_at bytes
  number ← skip_text (codes "of ") part.1
  parts ← word_at number
  start ← skip_text (codes "from ") parts.1
  from ← from_at 3 [] start
  Some (record { part = part.0; parts = parts.0; from = from.0 }, from.1)

-- as many coordinates as sizes
abbrev pub if_alike : {A : Type 0} → Place → List ℕ × List ℤ → A → Option A
if_alike place grid x = if length place.from == length grid.0 then Some x else None

-- a part's section, after the word `part`
unfoldable pub section_at : List ℕ → ℕ → List ℕ → Option (Piece × List ℕ)
section_at name iteration bytes = do
  place ← place_at bytes
  grid ← grid_at place.1
  if_alike place.0 grid.0 (
    Box name iteration place.0.part place.0.parts place.0.from grid.0.0
        grid.0.1,
    grid.1,
  )

-- a scalar's line, from the word `value` on
unfoldable pub value_at : List ℕ → ℕ → List ℕ → Option (Piece × List ℕ)
value_at name iteration bytes = do
  start ← skip_text (codes "value ") bytes
  line ← line_at name iteration start
  Some (Line line.0, line.1)

-- after the iteration: a part's section or a scalar's value
abbrev pub body_at : List ℕ → ℕ → List ℕ → Option (List ℕ) → Option (Piece × List ℕ)
body_at name iteration bytes None = value_at name iteration bytes
body_at name iteration bytes (Some part) = section_at name iteration part

unfoldable pub piece_at : List ℕ → Option (Piece × List ℕ)
piece_at bytes = do
  head ← head_at bytes
  body_at head.0.0 head.0.1 head.1 (skip_text (codes "part ") head.1)
