use Rattle.std.proofs.Common.{◌≡◌, length}
use Rattle.cx_thorn_ca.specs.Rows.{AreBy, pair_bit}
use Rattle.cx_thorn_ca.proofs.pairs.put_pair_bits.Given as goal

abbrev pub invariant-bits : goal.invariant-bits
invariant-bits l = (length l.table ≡ length l.initial.table) × AreBy (pair_bit l.rule) l.table l.k
