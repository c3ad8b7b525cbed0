use Rattle.std.proofs.Common.{w64, to_z, of_z}
use Rattle.cx_thorn_ca.proofs.ca_step.next_row.Goals as goal

pub put_rest-requires-clause-before : goal.put_rest-requires-clause-before
put_rest-requires-clause-before c =
    c.put_blocks-done.ensures.cells (to_z w64 (of_z w64 c.args.rule)) c.put_pair_bits.ensures.bits
