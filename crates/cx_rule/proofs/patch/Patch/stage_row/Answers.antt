use Rattle.std.proofs.Common.{refl, length, arith}
use Rattle.cx_rule.proofs.BufferLaws.{buffer_size, buffers_kept, row_sizes_kept}
use Rattle.cx_rule.proofs.FaceLaws.{row_end}
use Rattle.cx_rule.proofs.patch.Patch.stage_row.Goals as goal

pub put_row-requires-clause-room : goal.put_row-requires-clause-room
put_row-requires-clause-room c =
    let h = rw (← c.self.view_is) at c.requires.write in
    let low = rw (← c.self.view_is) at c.requires.low in
    let high = rw (← c.self.view_is) at c.requires.high in
    let e = rw c.local.ensures.value at c.index_of-at.ensures.value in
    let n = row_end c.self.inside.part.local c.args.low (length c.args.values.now) low high in
    let m = buffer_size _ _ _ c.self.invariant c.args.k h in
    omega (arith, e, n, m)

pub invariant_of-self : goal.invariant_of-self
invariant_of-self c =
    let h = rw (← c.self.view_is) at c.requires.write in
    let low = rw (← c.self.view_is) at c.requires.low in
    let high = rw (← c.self.view_is) at c.requires.high in
    let e = rw c.local.ensures.value at c.index_of-at.ensures.value in
    let n = row_end c.self.inside.part.local c.args.low (length c.args.values.now) low high in
    let m = buffer_size _ _ _ c.self.invariant c.args.k h in
    rw c.put_row.ensures (buffers_kept _ _ _ c.self.invariant _
    (row_sizes_kept _ c.args.k c.index_of-at.result c.args.values.now (omega (arith, e, n, m))))

pub returns : goal.returns
returns c = rw (
  ← c.self.view_is,
  c.put_row.ensures,
  c.index_of-at.ensures.value,
  c.local.ensures.value,
) refl
