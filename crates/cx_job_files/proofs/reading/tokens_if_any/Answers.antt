use Rattle.std.proofs.Common.{Some, Ok, Err}
use Rattle.std.proofs.lemmas.Result.{err_from_is_err_and}
use Rattle.cx_job_files.specs.Reading.{TokensIfAny}
use Rattle.cx_job_files.proofs.ReadingLaws as laws
use Rattle.cx_job_files.proofs.reading.tokens_if_any.Goals as goal

pub returns-in_err-text_tokens-in-Some : goal.returns-in_err-text_tokens-in-Some
returns-in_err-text_tokens-in-Some g c =
    let p = err_from_is_err_and c.from_residual-in_err-text_tokens-in-Some.result
    c.from_residual-in_err-text_tokens-in-Some.ensures.1 in
    rw (p.1, p.2) (laws.named_passed_from g.H.Shelf c.args.name.now
    (λ o. TokensIfAny c.args.style c.args.name.now o)
    c.args.shelf.now c.bytes_of.new.shelf
    (Some c.in-Some.bytes) (Err c.in_err-text_tokens-in-Some.field-0.0)
    (rw c.in-Some.is at c.in_ok-bytes.ensures)
    (laws.halted_there c.args.style c.args.name.now c.in-Some.bytes
    c.in_err-text_tokens-in-Some.field-0.0 c.in_err-text_tokens-in-Some.ensures))

pub returns-in_ok-text_tokens-in-Some : goal.returns-in_ok-text_tokens-in-Some
returns-in_ok-text_tokens-in-Some g c =
    laws.named_passed_from g.H.Shelf c.args.name.now
    (λ o. TokensIfAny c.args.style c.args.name.now o)
    c.args.shelf.now c.bytes_of.new.shelf
    (Some c.in-Some.bytes) (Ok (Some c.in_ok-text_tokens-in-Some.field-0))
    (rw c.in-Some.is at c.in_ok-bytes.ensures)
    (laws.some_there c.args.style c.args.name.now c.in-Some.bytes
    c.in_ok-text_tokens-in-Some.field-0 c.in_ok-text_tokens-in-Some.ensures)
