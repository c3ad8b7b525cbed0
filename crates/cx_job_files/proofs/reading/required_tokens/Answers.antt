use Rattle.std.proofs.Common.{Some}
use Rattle.cx_job_files.specs.Reading.{Tokens}
use Rattle.cx_job_files.proofs.ReadingLaws as laws
use Rattle.cx_job_files.proofs.reading.required_tokens.Goals as goal

pub returns-in-Some-clause-follows : goal.returns-in-Some-clause-follows
returns-in-Some-clause-follows g c =
    laws.named_passed_from g.H.Shelf c.args.name.now (λ o. Tokens c.args.style c.args.name.now o)
    c.args.shelf.now c.bytes_of.new.shelf
    (Some c.in-Some.bytes) c.text_tokens.result (rw c.in-Some.is at c.in_ok-bytes.ensures)
    c.text_tokens.ensures
