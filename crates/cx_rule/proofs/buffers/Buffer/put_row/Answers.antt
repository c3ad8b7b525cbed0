use Rattle.std.proofs.Common.{◌≡◌, ◌∙◌, ◌+◌, max, ap, arith, length}
use Rattle.cx_rule.specs.Staging.{put_from}
use Rattle.cx_rule.proofs.CountedLaws.{counted_length, counted_put}
use Rattle.cx_rule.proofs.buffers.Buffer.put_row.Goals as goal

pub end_of-end-requires : goal.end_of-end-requires
end_of-end-requires c =
    let h = rw (← c.self.view_is) at c.requires in
    let n = counted_length c.self.inside.end c.self.inside.numbers in
    omega (arith, h, n)

pub set_zeros-requires : goal.set_zeros-requires
set_zeros-requires c =
    let h = rw (← c.self.view_is) at c.requires in
    let n = counted_length c.self.inside.end c.self.inside.numbers in
    omega (arith, h, n)

pub put_row-requires : goal.put_row-requires
put_row-requires c =
    let h = rw (← c.self.view_is) at c.requires in
    let n = counted_length c.self.inside.end c.self.inside.numbers in
    omega (arith, h, n, c.set_zeros.ensures.count)

pub returns : goal.returns
returns c =
    let h = rw (← c.self.view_is) at c.requires in
    let n = counted_length c.self.inside.end c.self.inside.numbers in
    let at = c.args.at in
    let values = c.args.values.now in
    let d = max c.self.inside.end at in
    let m : c.max-self-inside.result ≡ max d (at + length values) =
    omega (arith, c.max-self-inside.ensures, c.end_of-end.ensures) in
    rw (← c.self.view_is, c.put_row.ensures) (
    counted_put at d c.max-self-inside.result c.set_zeros.new.self values (omega arith) m
    (omega (arith, h, n, c.set_zeros.ensures.count))
    ∙ ap (λ ns. put_from at ns values) c.set_zeros.ensures.value
    )
