use Rattle.std.proofs.Common.{to_z-of_z, FitsSigned, ◌*ℤ◌, w64}
use Rattle.cx_thorn_pde.proofs.NearLaws.{product_fits}
use Rattle.cx_thorn_pde.proofs.plain.product.Goals as goal

pub overflow_mul-result : goal.overflow_mul-result
overflow_mul-result c =
    rw (to_z-of_z c.ranges.factor, to_z-of_z c.ranges.bend)
    (product_fits _ _ c.requires.factor c.requires.low c.requires.high)

pub returns : goal.returns
returns c =
    let fits : FitsSigned w64 (c.args.factor *ℤ c.args.bend) =
    product_fits _ _ c.requires.factor c.requires.low c.requires.high in
    rw (to_z-of_z c.ranges.factor, to_z-of_z c.ranges.bend) (to_z-of_z fits)
