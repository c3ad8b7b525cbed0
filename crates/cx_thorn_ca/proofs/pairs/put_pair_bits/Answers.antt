use Rattle.std.proofs.Common.{rules, arith, ◌<◌, ◌∙◌, length, SFits, w64, to_z, of_z, to_z-of_z}
use Rattle.cx_thorn_ca.specs.Rows.{pair_bit}
use Rattle.cx_thorn_ca.proofs.RowLaws.{one_more}
use Rattle.cx_thorn_ca.proofs.pairs.put_pair_bits.Goals as goal

pub bits-preserved : goal.bits-preserved
bits-preserved c =
    let v : SFits w64 c.pair_bit.result = search rules in
    let h : c.bits.k < length c.bits.table = search rules in (
      search rules,
      one_more (pair_bit (to_z w64 (of_z w64 c.args.rule))) c.bits.table c.bits.k _ h
          (to_z-of_z v ∙ c.pair_bit.ensures) c.bits.invariant.1,
    )

pub returns-clause-bits : goal.returns-clause-bits
returns-clause-bits c =
    let r : SFits w64 c.args.rule = search rules in
    let bits = rw (to_z-of_z r) at c.bits.invariant.1 in
    λ i l. bits i (omega (arith, l, c.bits-test.false, c.bits.invariant.0))
