use Rattle.std.proofs.Common.{◌≡◌, true, false, sym, ◌∙◌}
use Rattle.cx_text.specs.Tokens.{is_line_end}
use Rattle.cx_text.specs.Grammar.{passes, head}
use Rattle.cx_text.specs.Rules.{one_line_end, line_ends}
use Rattle.cx_text.proofs.Loops.{loop_goes_on, loop_ends}
use Rattle.cx_text.proofs.RuleLaws.{line_end_short}
use Rattle.cx_text.proofs.reader.Reader.skip_line_ends.Goals as goal

pub skipped-preserved : goal.skipped-preserved
skipped-preserved c =
    let go : passes is_line_end (head c.skipped.self.rest.now) ≡ true =
    sym c.at_line_end.ensures ∙ c.skipped-test.true in
    let taken = rw (c.take_line_end.ensures.at, go) at c.take_line_end.ensures.taken in
    loop_goes_on is_line_end one_line_end line_end_short tt tt c.skipped.self.rest.now
    c.take_line_end.new.self.rest.now (line_ends.reads c.args.self.now.rest.now)
    go taken c.skipped.invariant

pub returns : goal.returns
returns c =
    let stop : passes is_line_end (head c.skipped.self.rest.now) ≡ false =
    sym c.at_line_end.ensures ∙ c.skipped-test.false in
    loop_ends is_line_end one_line_end line_end_short tt c.skipped.self.rest.now
    (line_ends.reads c.args.self.now.rest.now) stop c.skipped.invariant
