use Rattle.std.proofs.Common.{rules, ◌<◌, ◌∙◌, arith, length, SFits, w64, to_z-of_z}
use Rattle.cx_thorn_ca.proofs.SheetLaws.{counted_is_next}
use Rattle.cx_thorn_ca.proofs.sheet_row.next_amid.Goals as goal

pub returns-clause-cells : goal.returns-clause-cells
returns-clause-cells c =
    let survive : SFits w64 c.args.survive = search rules in
    let born : SFits w64 c.args.born = search rules in
    let bits = rw (to_z-of_z survive, to_z-of_z born) at c.put_life_bits.ensures.bits in
    λ i l.
    let near : i < length c.put_blocks-done.new.next_cells =
    omega (arith, l, c.put_blocks-done.ensures.room) in
    c.put_rest.ensures.cells i near ∙ counted_is_next c.args.survive c.args.born _ _ _ _ i bits
