-- Pieces in the order of a chunk: variable by variable, each by rising iterations.
use Rattle.std.specs.Prelude.{ℕ, nat_lt, Bool, true, not, List, slice_get, Option, Some, None, if◌then◌else◌}
use Rattle.std.specs.List.{list_any}
use Rattle.cx_chunks.specs.declared.piece.Piece.{Piece}
use Rattle.cx_chunks.specs.Combining.{full_of, iteration_of, is_of}

-- A piece comes in turn behind others, of which one is the last: it is of that one's variable and
-- later, or none of the others is of its variable.
abbrev pub in_turn_behind : Option Piece → List Piece → Piece → Bool
in_turn_behind None before p = true
in_turn_behind (Some q) before p =
    if is_of (full_of p) q then nat_lt (iteration_of q) (iteration_of p)
    else not (list_any (is_of (full_of p)) before)

-- the piece at a place, if there is one
abbrev pub piece_at : List Piece → Option ℕ → Option Piece
piece_at pieces None = None
piece_at pieces (Some k) = slice_get pieces k
