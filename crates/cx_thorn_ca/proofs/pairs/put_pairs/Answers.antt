use Rattle.std.proofs.Common.{rules, ◌<◌, ◌+◌, ◌*◌, ◌∙◌, arith, length, SFits, w64, to_z-of_z}
use Rattle.cx_thorn_ca.specs.Rows.{cell_at, four_at}
use Rattle.cx_thorn_ca.proofs.RowLaws.{two_more}
use Rattle.cx_thorn_ca.proofs.pairs.put_pairs.Goals as goal

pub pairs-preserved : goal.pairs-preserved
pairs-preserved c =
    let first : SFits w64 (cell_at c.args.table.now (2 * four_at c.args.bits c.pairs.k)) =
    search rules in
    let second : SFits w64 (cell_at c.args.table.now (2 * four_at c.args.bits c.pairs.k + 1)) =
    search rules in
    let few : c.pairs.k < 7 = c.pairs-test.true in
    let room : c.args.i + 2 * c.pairs.k + 1 < length c.pairs.next_cells =
    omega (arith, few, c.requires.room, c.pairs.invariant.0) in (
      search rules,
      λ f before is j l.
          two_more f c.pairs.next_cells (c.args.i + 2 * c.pairs.k) _ _ room
          (to_z-of_z first ∙ (is c.pairs.k few).0)
          (to_z-of_z second ∙ (is c.pairs.k few).1) (c.pairs.invariant.1 f before is) j
          (omega (arith, l)),
    )

pub returns-clause-cells : goal.returns-clause-cells
returns-clause-cells c =
    λ f before is j l. c.pairs.invariant.1 f before is j (omega (arith, l, c.pairs-test.false))
