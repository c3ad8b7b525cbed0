use Rattle.std.proofs.Common.{to_z-of_z}
use Rattle.cx_thorn_pde.proofs.NearLaws.{shifted, above, below, over_256_fits}
use Rattle.cx_thorn_pde.proofs.plain.in_256ths.Goals as goal

pub returns-clause-value : goal.returns-clause-value
returns-clause-value c =
    rw (to_z-of_z c.ranges.number, shifted c.args.number)
    (to_z-of_z (over_256_fits c.args.number c.ranges.number))

pub returns-clause-low : goal.returns-clause-low
returns-clause-low c =
    rw (
      to_z-of_z c.ranges.number,
      shifted c.args.number,
      to_z-of_z (over_256_fits c.args.number c.ranges.number),
    )
    (above c.args.number c.ranges.number)

pub returns-clause-high : goal.returns-clause-high
returns-clause-high c =
    rw (
      to_z-of_z c.ranges.number,
      shifted c.args.number,
      to_z-of_z (over_256_fits c.args.number c.ranges.number),
    )
    (below c.args.number c.ranges.number)
