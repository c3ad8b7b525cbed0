use Rattle.std.proofs.Common.{◌∙◌, sym}
use Rattle.cx_rule.proofs.RowLaws.{none_put}
use Rattle.cx_rule.proofs.CountedLaws.{counted_length, all_counted}
use Rattle.cx_rule.proofs.buffers.Buffer.give_zone.Goals as goal

pub take_zone-requires-clause-buffer : goal.take_zone-requires-clause-buffer
take_zone-requires-clause-buffer c =
    let size = rw (← c.self.view_is) at c.requires.buffer in
    rw c.set_zeros.ensures.count
    (sym (counted_length c.self.inside.end c.self.inside.numbers) ∙ size)

pub returns-clause-value : goal.returns-clause-value
returns-clause-value c =
    let same = all_counted c.self.inside.end c.len-end.result c.self.inside.numbers
    c.set_zeros.new.self c.len-end.ensures c.set_zeros.ensures.count
    c.set_zeros.ensures.value in
    rw (← c.self.view_is) (rw same at c.take_zone.ensures.value)

pub returns-clause-count : goal.returns-clause-count
returns-clause-count c =
    rw (← c.self.view_is)
    (counted_length c.len-end.result c.take_zone.new.buffer ∙ c.take_zone.ensures.count
    ∙ c.set_zeros.ensures.count ∙ sym (counted_length c.self.inside.end c.self.inside.numbers))

pub returns-then-is_empty-clause-value : goal.returns-then-is_empty-clause-value
returns-then-is_empty-clause-value c =
    none_put c.args.b.now c.args.zone.now c.args.self.now c.args.level.now
    (c.is_empty.ensures c.if-is_empty.true) c.requires.room
