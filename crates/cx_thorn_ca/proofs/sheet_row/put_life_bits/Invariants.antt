use Rattle.std.proofs.Common.{◌≡◌, length}
use Rattle.cx_thorn_ca.specs.Rows.{AreBy, life_bit}
use Rattle.cx_thorn_ca.proofs.sheet_row.put_life_bits.Given as goal

abbrev pub invariant-bits : goal.invariant-bits
invariant-bits l = (length l.table ≡ length l.initial.table)
    × AreBy (life_bit l.survive l.born) l.table l.k
