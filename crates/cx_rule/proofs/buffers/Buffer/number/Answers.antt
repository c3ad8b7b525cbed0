use Rattle.std.proofs.Common.{rules, ◌∙◌, ◌<◌, sym, arith, length, pos, SFits, w64}
use Rattle.std.specs.Prelude.{slice_index_or}
use Rattle.std.proofs.lemmas.Int.{to_z-of_z}
use Rattle.cx_rule.proofs.CountedLaws.{counted_length, counted_number, counted_zero}
use Rattle.cx_rule.proofs.buffers.Buffer.number.Goals as goal

pub bounds-as_slice-at : goal.bounds-as_slice-at
bounds-as_slice-at c =
    let h = rw (← c.self.view_is) at c.requires in
    let n = counted_length c.self.inside.end c.self.inside.numbers in
    rw c.as_slice.ensures (omega (arith, h, n))

pub offset_bounds-as_slice-at : goal.offset_bounds-as_slice-at
offset_bounds-as_slice-at c =
    let h = rw (← c.self.view_is) at c.requires in
    let n = counted_length c.self.inside.end c.self.inside.numbers in
    let below : c.args.at < length c.as_slice.result.now =
    rw c.as_slice.ensures (omega (arith, h, n)) in
    search rules

pub returns-then-at-self : goal.returns-then-at-self
returns-then-at-self c =
    let r : SFits w64 (slice_index_or c.as_slice.result.now c.args.at (pos 0)) = search rules in
    to_z-of_z w64 _ r
    ∙ (rw (← c.self.view_is, c.as_slice.ensures)
    (sym (counted_number c.self.inside.end c.args.at c.self.inside.numbers c.if-at-self.true)))

pub returns-else-at-self : goal.returns-else-at-self
returns-else-at-self c =
    rw (← c.self.view_is) (sym
    (counted_zero c.self.inside.end c.args.at c.self.inside.numbers c.if-at-self.false))
