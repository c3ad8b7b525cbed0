use Rattle.std.proofs.Common.{◌∙◌, ap, arith, length}
use Rattle.std.specs.Prelude.{max}
use Rattle.cx_balance.proofs.OwnLaws.{few_along, can_choose_by, cut_there, whole_widths}
use Rattle.cx_balance.proofs.cutting.widths.Goals as goal

pub returns-then-parts-eq1 : goal.returns-then-parts-eq1
returns-then-parts-eq1 c =
    whole_widths c.args.job.now c.args.state.now c.args.dir c.own_widths-parts.result.now
    c.along.result c.one_part.result c.own_widths-parts.ensures c.if-parts-eq1.true
    c.along.ensures c.one_part.ensures

pub planes-requires-clause-direction : goal.planes-requires-clause-direction
planes-requires-clause-direction c =
    cut_there c.args.job.now c.args.dir c.own_widths-parts.result.now c.requires.whole
    c.requires.cut c.requires.direction c.own_widths-parts.ensures c.if-parts-eq1.false

pub overflow_cast-parts : goal.overflow_cast-parts
overflow_cast-parts c =
    let job = c.args.job.now in
    let few = few_along job.shape job.cut c.requires.whole.shape c.requires.cut c.args.dir in
    let e = ap length c.own_widths-parts.ensures in
    omega (arith, few, e)

pub choose-requires : goal.choose-requires
choose-requires c =
    can_choose_by c.args.job.now c.args.state.now c.args.dir c.in_ok-weights.weights
    c.own_widths-parts.result.now c.max.result c.requires.whole c.requires.cut
    c.in_ok-weights.ensures.value c.own_widths-parts.ensures
    (c.max.ensures ∙ ap (λ g. max g 1) c.along-2.ensures)
