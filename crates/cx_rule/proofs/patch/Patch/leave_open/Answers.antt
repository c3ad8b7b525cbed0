use Rattle.std.proofs.Common.{arith}
use Rattle.cx_rule.proofs.BufferLaws.{buffered, buffer_size}
use Rattle.cx_rule.proofs.FaceLaws.{row_end}
use Rattle.cx_rule.proofs.RowSteps.{leaves_open}
use Rattle.cx_rule.proofs.patch.Patch.leave_open.Goals as goal

pub leave_open-requires-clause-room : goal.leave_open-requires-clause-room
leave_open-requires-clause-room c =
    let q = rw (← c.self.view_is) at c.requires in
    let e = rw c.local.ensures.value at c.index_of-at.ensures.value in
    let n = row_end c.self.inside.part.local c.args.low c.args.count q.low_in q.high_in in
    let m = buffer_size _ _ _ c.self.invariant 0 q.buffers in
    omega (arith, e, n, m)

pub returns-clause-patch : goal.returns-clause-patch
returns-clause-patch c =
    rw (← c.self.view_is) (buffered _ _ _ _ c.local.ensures.patch c.self.invariant)

pub returns-clause-left : goal.returns-clause-left
returns-clause-left c =
    let e = rw c.local.ensures.value at c.index_of-at.ensures.value in
    rw (← c.self.view_is)
    (leaves_open c.self.inside.part c.self.inside.staged c.leave_open.new.self
    c.self.inside.window.room c.args.low c.args.count
    c.index_of-at.result e c.leave_open.ensures.left c.leave_open.ensures.level)
