use Rattle.std.proofs.Common.{rules, ◌<◌, ◌∙◌, length, SFits, w64, to_z, of_z, to_z-of_z}
use Rattle.cx_thorn_ca.specs.Rows.{life_bit}
use Rattle.cx_thorn_ca.proofs.RowLaws.{one_more}
use Rattle.cx_thorn_ca.proofs.sheet_row.put_life_bits.Goals as goal

pub bits-preserved : goal.bits-preserved
bits-preserved c =
    let v : SFits w64 c.life_bit.result = search rules in
    let h : c.bits.k < length c.bits.table = search rules in (
      search rules,
      one_more (life_bit (to_z w64 (of_z w64 c.args.survive)) (to_z w64 (of_z w64 c.args.born)))
          c.bits.table c.bits.k _ h
          (to_z-of_z v ∙ c.life_bit.ensures) c.bits.invariant.1,
    )
