use Rattle.cx_ascii_read.proofs.RecordLaws.{record_field, no_record}
use Rattle.cx_ascii_read.proofs.reading.read_output.Goals as goal

pub read_all-requires-clause-field : goal.read_all-requires-clause-field
read_all-requires-clause-field c = record_field

pub read_all-requires-clause-some : goal.read_all-requires-clause-some
read_all-requires-clause-some c = no_record
