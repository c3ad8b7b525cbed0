use Rattle.std.proofs.Common.{sym, ◌∙◌}
use Rattle.cx_ascii_read.proofs.WordLaws.{no_end_is}
use Rattle.cx_ascii_read.proofs.words.word_len.Goals as goal

pub returns-in-None-clause-value : goal.returns-in-None-clause-value
returns-in-None-clause-value c =
    sym (no_end_is c.args.bytes.now (sym c.first_end.ensures ∙ c.in-None.is))
