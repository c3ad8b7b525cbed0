use Rattle.std.proofs.Common.{◌≡◌, length}
use Rattle.cx_plan.specs.Setups.{setup_of}
use Rattle.cx_outputs.specs.Names.{output_count}
use Rattle.cx_chk.specs.declared.checkpoint.Checkpoint.{Checkpoint}
use Rattle.cx_keep.proofs.Starting.{if_ok_more}
use Rattle.cx_keep.proofs.Tested.{all_lengths, answered_has, renewal_has}
use Rattle.cx_keep.proofs.start.go_on_from.Goals as goal

pub go_on_second-requires-clause-many : goal.go_on_second-requires-clause-many
go_on_second-requires-clause-many g c =
    all_lengths c.args.job.now c.args.found c.requires.fits c.if-found-eq2.true
    c.requires.version

pub returns-then-found-eq2-clause-many : goal.returns-then-found-eq2-clause-many
returns-then-found-eq2-clause-many g c =
    answered_has (λ (d : Checkpoint). length d.lengths ≡ output_count (setup_of c.args.job.now))
    c.go_on_second.result c.args.found c.go_on_second.ensures.same
    (all_lengths c.args.job.now c.args.found c.requires.fits c.if-found-eq2.true
    c.requires.version)

pub returns-else-found-eq2-clause-fits : goal.returns-else-found-eq2-clause-fits
returns-else-found-eq2-clause-fits g c =
    if_ok_more c.go_on_first.result
    (λ d new. (renewal_has c.args.job.now c.args.found d c.requires.key c.requires.fits new).1)
    c.go_on_first.ensures.renewed
