use Rattle.cx_rule.proofs.RowLaws.{span_put}
use Rattle.cx_rule.proofs.levels.Level.put_span.Goals as goal

pub returns : goal.returns
returns c =
    rw (c.put_row.ensures, c.numbers_on.ensures)
    (span_put c.args.within.now c.args.self.now c.args.start c.args.span c.requires.order
    c.requires.room c.requires.same)
