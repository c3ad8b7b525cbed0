use Rattle.std.proofs.Common.{rules, pos, slice_index_or, SFits, w64, to_z-of_z}
use Rattle.cx_thorn_pde.proofs.NearLaws.{one_nearer}
use Rattle.cx_thorn_pde.proofs.near.are_near.Goals as goal

pub numbers-preserved : goal.numbers-preserved
numbers-preserved c =
    let fits : SFits w64 (slice_index_or c.args.numbers.now c.numbers.i (pos 0)) = search rules in
    one_nearer c.args.numbers.now _ _ _ _ c.numbers.invariant
    (rw (to_z-of_z fits) at c.raised-spread.ensures)
