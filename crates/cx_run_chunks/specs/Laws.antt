-- What the files are, in terms of what they spell.
use Rattle.std.specs.Prelude.{ℕ, ◌≡◌, ◌↔◌, List, Some, None}
use Rattle.cx_plan.specs.declared.job.Job.{Job}
use Rattle.cx_plan.specs.Setups.{setup_of}
use Rattle.cx_disk.specs.Disk.{Files}
use Rattle.cx_ascii_read.specs.declared.record.Record.{Record}
use Rattle.cx_ascii_read.specs.Records.{Spells}
use Rattle.cx_chunks.specs.declared.piece.Piece.{Piece}
use Rattle.cx_chunks.specs.Pieces.{SpellsChunk}
use Rattle.cx_chunks.specs.Cutting.{AreOutputs}
use Rattle.cx_run_chunks.specs.Entries.{records_of, pieces_of}
use Rattle.cx_run_chunks.specs.Commands.{outputs_fault, output_records}

-- the records of bytes are those that they spell, and so are the pieces
abbrev pub RecordsAreSpelled : Type 0
RecordsAreSpelled =
    (bytes : List ℕ) (rs : List Record) → Spells bytes rs ↔ (records_of bytes ≡ Some rs)

abbrev pub PiecesAreSpelled : Type 0
PiecesAreSpelled =
    (bytes : List ℕ) (ps : List Piece) → SpellsChunk bytes ps ↔ (pieces_of bytes ≡ Some ps)

-- files without a fault hold the output of each variable
abbrev pub FilesAreOutputs : Job → Type 0
FilesAreOutputs job =
    (files : Files) → outputs_fault (setup_of job) files ≡ None
    → AreOutputs (setup_of job) job.out_vars (output_records (setup_of job) files)
