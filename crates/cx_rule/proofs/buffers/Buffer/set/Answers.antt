use Rattle.std.proofs.Common.{◌∙◌, ◌<◌, ap, arith, w64}
use Rattle.std.specs.Prelude.{slice_set}
use Rattle.std.proofs.lemmas.Int.{to_z-of_z}
use Rattle.cx_rule.proofs.CountedLaws.{counted_length, counted_set}
use Rattle.cx_rule.proofs.buffers.Buffer.set.Goals as goal

pub end_of-end-requires : goal.end_of-end-requires
end_of-end-requires c =
    let h = rw (← c.self.view_is) at c.requires in
    let n = counted_length c.self.inside.end c.self.inside.numbers in
    omega (arith, h, n)

pub set_zeros-requires : goal.set_zeros-requires
set_zeros-requires c =
    let h = rw (← c.self.view_is) at c.requires in
    let n = counted_length c.self.inside.end c.self.inside.numbers in
    omega (arith, h, n, c.end_of-end.ensures)

pub set-requires : goal.set-requires
set-requires c =
    let h = rw (← c.self.view_is) at c.requires in
    let n = counted_length c.self.inside.end c.self.inside.numbers in
    omega (arith, h, n, c.set_zeros.ensures.count)

pub returns : goal.returns
returns c =
    let at = c.args.at in
    let m : at < c.max-self-inside.result =
    omega (arith, c.max-self-inside.ensures, c.end_of-end.ensures) in
    rw (← c.self.view_is, c.set.ensures, to_z-of_z w64 _ c.ranges.value) (
    counted_set c.max-self-inside.result at c.set_zeros.new.self c.args.value m
    ∙ ap (λ ns. slice_set ns at c.args.value)
    (rw (← c.max-self-inside.ensures) at c.set_zeros.ensures.value)
    )
