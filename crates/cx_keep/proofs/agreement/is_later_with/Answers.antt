use Rattle.std.proofs.Common.{ap}
use Rattle.std.specs.Prelude.{option_copied}
use Rattle.cx_keep.proofs.AgreementLaws.{two_words}
use Rattle.cx_keep.proofs.agreement.is_later_with.Goals as goal

pub returns-in_default-Some : goal.returns-in_default-Some
returns-in_default-Some c =
    two_words c.args.c c.args.word.now c.args.rest.now c.split_first.result.0.now
    c.in_default-Some.field-0-1.now (option_copied c.split_first.result.1) c.are_later.result
    c.split_first.ensures.parts (ap option_copied c.in_default-Some.is-1) c.are_later.ensures
