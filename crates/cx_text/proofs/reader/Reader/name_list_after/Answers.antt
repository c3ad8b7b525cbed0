use Rattle.cx_text.proofs.Loops.{begun, turned, fewer, stopped, ended_at}
use Rattle.cx_text.proofs.LexemeLaws.{more_listed_short}
use Rattle.cx_text.proofs.reader.Reader.name_list_after.Goals as goal

pub names-init : goal.names-init
names-init c = begun

pub names-preserved : goal.names-preserved
names-preserved c = turned more_listed_short c.names.invariant c.at_comma_or_word.ensures
    c.names-test.true c.in_ok-more_listed.ensures

pub names-smaller : goal.names-smaller
names-smaller c = fewer more_listed_short c.in_ok-more_listed.ensures

pub returns-in_err-more_listed : goal.returns-in_err-more_listed
returns-in_err-more_listed c =
    stopped _ _ _ _ more_listed_short c.names.invariant c.at_comma_or_word.ensures c.names-test.true
    c.in_err-more_listed.ensures c.from_residual.ensures.1

pub returns : goal.returns
returns c = ended_at more_listed_short c.names.invariant c.at_comma_or_word.ensures
    c.names-test.false
