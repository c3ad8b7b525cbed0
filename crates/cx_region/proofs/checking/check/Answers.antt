use Rattle.std.proofs.lemmas.Result.{err_from_is_err_and}
use Rattle.cx_plan.specs.Setups.{setup_of}
use Rattle.cx_region.proofs.CheckLaws.{has_shapes, checks-shape, checks-paths}
use Rattle.cx_region.proofs.checking.check.Goals as goal

pub returns-in_err-check_shapes : goal.returns-in_err-check_shapes
returns-in_err-check_shapes c =
    let p = err_from_is_err_and c.from_residual.result c.from_residual.ensures.1 in
    rw (p.1, p.2) (checks-shape (setup_of c.args.job.now)
    c.in_err-check_shapes.field-0.0 c.in_err-check_shapes.ensures)

pub returns : goal.returns
returns c =
    checks-paths (setup_of c.args.job.now) c.check_paths.result
    (has_shapes c.args.job.now c.requires c.in_ok-check_shapes.ensures) c.check_paths.ensures
