-- What the bytes of a file are: one entry after another, and nothing else.
use Rattle.std.specs.Prelude.{ℕ, zero, suc, List, [], ◌∷◌, length, Option, Some, None}
use Rattle.cx_ascii_read.specs.declared.record.Record.{Record}
use Rattle.cx_ascii_read.specs.Reading.{◌>>=◌, record_at}
use Rattle.cx_chunks.specs.declared.piece.Piece.{Piece}
use Rattle.cx_chunks.specs.Reading.{piece_at}

-- the entries that the bytes are, by the reader of one; at most so many
unfoldable pub entries_at : {E : Type 0} → (List ℕ → Option (E × List ℕ)) → ℕ → List ℕ
    → Option (List E)
entries_at read count [] = Some []
entries_at read zero (b ∷ bytes) = None
entries_at read (suc count) (b ∷ bytes) = do
  first ← read (b ∷ bytes)
  others ← entries_at read count first.1
  Some (first.0 ∷ others)

-- the records that an output file is made of, and the pieces of a chunk
abbrev pub records_of : List ℕ → Option (List Record)
records_of bytes = entries_at record_at (length bytes) bytes

abbrev pub pieces_of : List ℕ → Option (List Piece)
pieces_of bytes = entries_at piece_at (length bytes) bytes

-- the entries that were read, and none where there were no such bytes
abbrev pub found : {E : Type 0} → Option (List E) → List E
found None = []
found (Some es) = es
