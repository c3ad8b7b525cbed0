use Rattle.std.proofs.Common.{length}
use Rattle.cx_ascii_read.specs.Records.{IsRecord, record_text}
use Rattle.cx_ascii_read.specs.Reading.{record_at}
use Rattle.cx_ascii_read.proofs.RecordLaws.{record_field, no_record}
use Rattle.cx_chunks.specs.Pieces.{IsPiece, piece_text}
use Rattle.cx_chunks.specs.Reading.{piece_at}
use Rattle.cx_chunks.proofs.PieceLaws.{piece_field, no_piece}
use Rattle.cx_run_chunks.proofs.EntryLaws.{read_spelled, spelled_read}
use Rattle.cx_run_chunks.proofs.OutputLaws.{files_are_outputs}
use Rattle.cx_run_chunks.proofs.laws.files_are_exact.Goals as goal

pub returns-clause-records : goal.returns-clause-records
returns-clause-records c = λ bytes rs. (
  spelled_read record_text record_at IsRecord record_field no_record bytes rs,
  read_spelled record_text record_at IsRecord record_field no_record (length bytes) bytes rs,
)

pub returns-clause-pieces : goal.returns-clause-pieces
returns-clause-pieces c = λ bytes ps. (
  spelled_read piece_text piece_at IsPiece piece_field no_piece bytes ps,
  read_spelled piece_text piece_at IsPiece piece_field no_piece (length bytes) bytes ps,
)

pub returns-clause-outputs : goal.returns-clause-outputs
returns-clause-outputs c = files_are_outputs c.args.job.now
