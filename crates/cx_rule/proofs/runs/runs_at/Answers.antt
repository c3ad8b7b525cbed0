use Rattle.cx_rule.proofs.RunLaws.{runs_are}
use Rattle.cx_rule.proofs.runs.runs_at.Goals as goal

pub returns : goal.returns
returns c =
    runs_are c.args.b.now c.args.start c.requires.ordered c.requires.wide c.requires.room
    c.requires.first c.args.zone.now c.point_at-low.result c.span_in.result c.span_in-2.result
    c.between.result c.point_at-low.ensures.value c.span_in.ensures c.span_in-2.ensures
    c.between.ensures
