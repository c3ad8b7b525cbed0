use Rattle.std.proofs.Common.{subst, sym, ◌∙◌}
use Rattle.std.specs.Prelude.{Result}
use Rattle.cx_plan.specs.declared.job.Recover.TheVariants.{Autoprobe}
use Rattle.cx_chk.specs.declared.checkpoint.Checkpoint.{Checkpoint}
use Rattle.cx_keep.specs.declared.fault.BeginFault.{BeginFault}
use Rattle.cx_keep.specs.Tests.{Answers, SpellsAgreeing}
use Rattle.cx_keep.proofs.Starting.{newest_files, tested_same, quiet_alone, moments_quiet, started_quiet, refused_quiet, if_ok_more}
use Rattle.cx_keep.proofs.start.go_on.Goals as goal

pub returns-in_err-found-clause-moments : goal.returns-in_err-found-clause-moments
returns-in_err-found-clause-moments g c =
    λ tells. quiet_alone c.args.job.now Autoprobe (g.D.Disk.view c.args.disk.now)
    (g.D.Disk.view c.judge.new.disk) (c.judge.ensures.quiet tells)

pub go_on_from-requires-clause-newest : goal.go_on_from-requires-clause-newest
go_on_from-requires-clause-newest g c = λ tells.
    newest_files (g.D.Disk.view c.args.disk.now).seen (g.D.Disk.view c.judge.new.disk).seen
    (c.in_ok-found.ensures.quiet tells).same ∙ c.requires.newest tells

pub go_on_from-requires-clause-spelled : goal.go_on_from-requires-clause-spelled
go_on_from-requires-clause-spelled g c = λ tells.
    subst (λ b. SpellsAgreeing b c.in_ok-found.found)
    (sym ((c.in_ok-found.ensures.quiet tells).same c.args.slot))
    (c.in_ok-found.ensures.spelled tells)

pub returns-clause-tests : goal.returns-clause-tests
returns-clause-tests g c = λ tells.
    subst (λ (s : Result Checkpoint BeginFault).
    Answers (λ (d : Checkpoint). d) c.go_on_from.result s)
    (tested_same c.args.job.now (g.D.Disk.view c.args.disk.now).seen
    (g.D.Disk.view c.judge.new.disk).seen c.args.slot (c.in_ok-found.ensures.quiet tells).same)
    (c.go_on_from.ensures.tests tells)

pub returns-clause-refused : goal.returns-clause-refused
returns-clause-refused g c = λ tells.
    refused_quiet c.go_on_from.result (g.D.Disk.view c.args.disk.now)
    (g.D.Disk.view c.judge.new.disk) (g.D.Disk.view c.go_on_from.new.disk)
    (c.in_ok-found.ensures.quiet tells) (c.go_on_from.ensures.refused tells)

pub returns-clause-started : goal.returns-clause-started
returns-clause-started g c = λ tells.
    if_ok_more c.go_on_from.result
    (λ found s. started_quiet c.args.job.now Autoprobe _ (g.D.Disk.view c.args.disk.now)
    (g.D.Disk.view c.judge.new.disk) (g.D.Disk.view c.go_on_from.new.disk)
    (c.in_ok-found.ensures.quiet tells) s) (c.go_on_from.ensures.started tells)

pub returns-clause-moments : goal.returns-clause-moments
returns-clause-moments g c = λ tells.
    moments_quiet c.args.job.now Autoprobe (g.D.Disk.view c.args.disk.now)
    (g.D.Disk.view c.judge.new.disk) (g.D.Disk.view c.go_on_from.new.disk)
    (c.in_ok-found.ensures.quiet tells) (c.go_on_from.ensures.moments tells)
