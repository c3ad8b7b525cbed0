use Rattle.std.proofs.Common.{rules, ◌∙◌, sym, SFits, w32}
use Rattle.std.proofs.lemmas.Int.{to_z-of_z}
use Rattle.cx_rule.proofs.RunLaws.{span_is, span_none}
use Rattle.cx_rule.proofs.runs.span_in.Goals as goal

pub returns-then-has_row : goal.returns-then-has_row
returns-then-has_row c =
    let x : SFits w32 c.args.part.now.low.x = search rules in
    let y : SFits w32 c.args.part.now.high.x = search rules in
    span_is c.args.part.now c.args.b.now c.args.low c.requires.start c.offset-from.result
    c.offset-to.result c.max.result (sym c.has_row.ensures ∙ c.if-has_row.true)
    (rw (to_z-of_z w32 _ x) at c.offset-from.ensures)
    (rw (to_z-of_z w32 _ y) at c.offset-to.ensures) c.max.ensures

pub returns-else-has_row : goal.returns-else-has_row
returns-else-has_row c =
    span_none c.args.part.now c.args.b.now c.args.low c.requires.start
    (sym c.has_row.ensures ∙ c.if-has_row.false)
