use Rattle.std.proofs.Common.{◌≡◌, ◌∙◌, ap, sym, arith}
use Rattle.cx_rule.specs.Buffers.{counted}
use Rattle.cx_rule.proofs.CountedLaws.{counted_length, opened_same, opened_more}
use Rattle.cx_rule.proofs.buffers.Buffer.leave_open.Goals as goal

pub end_of-self-inside-requires : goal.end_of-self-inside-requires
end_of-self-inside-requires c =
    let h = rw (← c.self.view_is) at c.requires in
    let n = counted_length c.self.inside.end c.self.inside.numbers in
    omega (arith, h, n)

pub returns-then-at-self-clause-left : goal.returns-then-at-self-clause-left
returns-then-at-self-clause-left c =
    let view : counted c.args.at c.self.inside.numbers ≡ c.args.self.now =
    ap (λ e. counted e c.self.inside.numbers) c.if-at-self.true ∙ c.self.view_is in
    let h = rw (← view) at c.requires in
    let n = counted_length c.args.at c.self.inside.numbers in
    rw (← view) (opened_more c.args.at c.args.count c.end_of-self-inside.result
    c.self.inside.numbers c.end_of-self-inside.ensures (omega (arith, h, n)))

pub returns-then-at-self-clause-room : goal.returns-then-at-self-clause-room
returns-then-at-self-clause-room c =
    rw (← c.self.view_is) (counted_length c.end_of-self-inside.result c.self.inside.numbers
    ∙ sym (counted_length c.self.inside.end c.self.inside.numbers))

pub returns-else-at-self-clause-left : goal.returns-else-at-self-clause-left
returns-else-at-self-clause-left c = opened_same c.args.at c.args.count _ c.requires
