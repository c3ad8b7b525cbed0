use Rattle.cx_ascii_read.proofs.PrintedLaws.{sections_are_records, lines_are_records, texts_join}
use Rattle.cx_ascii_read.proofs.laws.printed.Goals as goal

pub returns-clause-sections : goal.returns-clause-sections
returns-clause-sections c = sections_are_records

pub returns-clause-lines : goal.returns-clause-lines
returns-clause-lines c = lines_are_records

pub returns-clause-joined : goal.returns-clause-joined
returns-clause-joined c = texts_join
