use Rattle.std.proofs.Common.{◌≡◌, ◌∙◌, ◌+◌, max, sym, arith}
use Rattle.cx_rule.proofs.CountedLaws.{counted_length}
use Rattle.cx_rule.proofs.RowSteps.{row_counted}
use Rattle.cx_rule.proofs.buffers.Buffer.put_rule_row.Goals as goal

pub end_of-end-requires : goal.end_of-end-requires
end_of-end-requires g c =
    let h = rw (← c.self.view_is) at c.requires.room in
    let n = counted_length c.self.inside.end c.self.inside.numbers in
    omega (arith, h, n, c.count.ensures)

pub set_zeros-requires : goal.set_zeros-requires
set_zeros-requires g c =
    let h = rw (← c.self.view_is) at c.requires.room in
    let n = counted_length c.self.inside.end c.self.inside.numbers in
    omega (arith, h, n)

pub put_rule_row-requires-clause-room : goal.put_rule_row-requires-clause-room
put_rule_row-requires-clause-room g c =
    let h = rw (← c.self.view_is) at c.requires.room in
    let n = counted_length c.self.inside.end c.self.inside.numbers in
    omega (arith, h, n, c.set_zeros.ensures.count)

pub returns-in_err-put_rule_row-clause-room : goal.returns-in_err-put_rule_row-clause-room
returns-in_err-put_rule_row-clause-room g c =
    rw (← c.self.view_is)
    (counted_length c.self.inside.end c.put_rule_row.new.self ∙ c.put_rule_row.ensures.room
    ∙ c.set_zeros.ensures.count ∙ sym (counted_length c.self.inside.end c.self.inside.numbers))

pub returns-clause-numbers : goal.returns-clause-numbers
returns-clause-numbers g c =
    let h = rw (← c.self.view_is) at c.requires.room in
    let n = counted_length c.self.inside.end c.self.inside.numbers in
    let m : c.max-self-inside.result
    ≡ max (max c.self.inside.end c.args.at) (c.args.at + c.args.row.now.count) =
    omega (arith, c.max-self-inside.ensures, c.end_of-end.ensures, c.count.ensures)
    in
    rw (← c.self.view_is)
    (row_counted g.R.PointRule.law c.args.row.now c.args.at (max c.self.inside.end c.args.at)
    c.max-self-inside.result c.set_zeros.new.self c.put_rule_row.new.self _
    (omega arith) m (omega (arith, h, n, c.set_zeros.ensures.count))
    c.set_zeros.ensures.value c.in_ok-put_rule_row.ensures.numbers)

pub returns-clause-room : goal.returns-clause-room
returns-clause-room g c =
    rw (← c.self.view_is)
    (counted_length c.max-self-inside.result c.put_rule_row.new.self ∙ c.put_rule_row.ensures.room
    ∙ c.set_zeros.ensures.count
    ∙ sym (counted_length c.self.inside.end c.self.inside.numbers))
