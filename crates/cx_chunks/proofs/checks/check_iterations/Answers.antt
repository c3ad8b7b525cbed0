use Rattle.std.proofs.lemmas.Result.{err_from_is_err_and}
use Rattle.cx_chunks.specs.declared.fault.ChunkFault.TheVariants.{Memory}
use Rattle.cx_chunks.specs.Combining.{missing_at}
use Rattle.cx_chunks.proofs.StepLaws.{told_each}
use Rattle.cx_chunks.proofs.checks.check_iterations.Goals as goal

pub returns-in_err-check_everywhere : goal.returns-in_err-check_everywhere
returns-in_err-check_everywhere c =
    let p = err_from_is_err_and c.from_residual-in_err-check_everywhere.result
    c.from_residual-in_err-check_everywhere.ensures.1 in
    rw (p.1, p.2) (told_each (missing_at c.args.cut.now c.args.chunks.now c.args.full.now)
    c.args.iterations.now c.iterations.iteration-index Memory c.in_err-check_everywhere.field-0.0
    _ c.iterations-test.true c.iterations.invariant c.in_err-check_everywhere.ensures)
