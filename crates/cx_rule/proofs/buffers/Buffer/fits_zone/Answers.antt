use Rattle.std.proofs.Common.{◌∙◌, sym, arith}
use Rattle.cx_rule.proofs.RowLaws.{none_unfit}
use Rattle.cx_rule.proofs.CountedLaws.{counted_length, counted_all, all_counted}
use Rattle.cx_rule.proofs.buffers.Buffer.fits_zone.Goals as goal

pub fits_zone-requires-clause-size : goal.fits_zone-requires-clause-size
fits_zone-requires-clause-size c =
    let size = rw (← c.self.view_is) at c.requires.size in
    rw (c.as_slice.ensures, c.set_zeros.ensures.count)
    (sym (counted_length c.self.inside.end c.self.inside.numbers) ∙ size)

pub returns-clause-value : goal.returns-clause-value
returns-clause-value c =
    let same = all_counted c.self.inside.end c.len-end.result c.self.inside.numbers
    c.set_zeros.new.self c.len-end.ensures c.set_zeros.ensures.count
    c.set_zeros.ensures.value in
    rw (← c.self.view_is) (rw (c.as_slice.ensures, same) at c.fits_zone.ensures)

pub returns-clause-same : goal.returns-clause-same
returns-clause-same c =
    let same = all_counted c.self.inside.end c.len-end.result c.self.inside.numbers
    c.set_zeros.new.self c.len-end.ensures c.set_zeros.ensures.count
    c.set_zeros.ensures.value in
    rw (← c.self.view_is) (counted_all c.len-end.result c.set_zeros.new.self
    (omega (arith, c.len-end.ensures, c.set_zeros.ensures.count)) ∙ same)

pub returns-then-is_empty-clause-value : goal.returns-then-is_empty-clause-value
returns-then-is_empty-clause-value c =
    none_unfit c.args.b.now c.args.zone.now c.args.self.now c.args.info.now.ctype
    (c.is_empty.ensures c.if-is_empty.true)
