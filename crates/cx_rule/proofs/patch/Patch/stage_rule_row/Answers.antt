use Rattle.std.proofs.Common.{arith}
use Rattle.cx_rule.proofs.BufferLaws.{buffered, buffer_size}
use Rattle.cx_rule.proofs.FaceLaws.{row_end}
use Rattle.cx_rule.proofs.RowSteps.{bare_row, fits_row, stages_row}
use Rattle.cx_rule.proofs.patch.Patch.stage_rule_row.Goals as goal

pub new-row-requires : goal.new-row-requires
new-row-requires g c = bare_row _ _ _ c.args.item.now c.args.run.now.from c.args.run.now.count
    (rw (← c.self.view_is) at c.requires).row

pub put_rule_row-requires-clause-fits : goal.put_rule_row-requires-clause-fits
put_rule_row-requires-clause-fits g c =
    rw c.new-row.ensures
    (fits_row _ c.args.item.now c.self.inside.part c.args.run.now c.args.iteration
    c.local.ensures.patch c.requires.routine c.requires.writes)

pub put_rule_row-requires-clause-room : goal.put_rule_row-requires-clause-room
put_rule_row-requires-clause-room g c =
    let q = rw (← c.self.view_is) at c.requires in
    let e = rw c.local.ensures.value at c.index_of-at.ensures.value in
    let n = row_end c.self.inside.part.local c.args.run.now.low c.args.run.now.count q.low_in
    q.high_in in
    let m = buffer_size _ _ _ c.self.invariant 0
    (let few = q.buffers in let one = q.writes in omega (arith, few, one)) in
    rw c.new-row.ensures (omega (arith, e, n, m))

pub returns-clause-patch : goal.returns-clause-patch
returns-clause-patch g c =
    rw (← c.self.view_is) (buffered _ _ _ _ c.local.ensures.patch c.self.invariant)

pub returns-clause-staged : goal.returns-clause-staged
returns-clause-staged g c =
    let numbers = rw c.new-row.ensures at c.put_rule_row.ensures.numbers in
    let lacks = rw c.new-row.ensures at c.put_rule_row.ensures.overflow in
    let e = rw c.local.ensures.value at c.index_of-at.ensures.value in
    rw (← c.self.view_is)
    (stages_row c.self.inside.part c.self.inside.staged c.put_rule_row.new.self
    c.self.inside.window.room g.R.PointRule.law c.args.item.now c.args.iteration c.args.run.now
    c.index_of-at.result c.put_rule_row.result e numbers lacks c.put_rule_row.ensures.level
    c.put_rule_row.ensures.room)
