use Rattle.std.proofs.Common.{sym, ◌∙◌, subst}
use Rattle.std.specs.Prelude.{Result, Option}
use Rattle.cx_chk.specs.declared.checkpoint.Checkpoint.{Checkpoint}
use Rattle.cx_keep.specs.declared.fault.BeginFault.{BeginFault}
use Rattle.cx_keep.specs.Tests.{Answers}
use Rattle.cx_keep.proofs.Starting.{newest_files, begun_same, quiet_alone, moments_quiet, started_quiet, refused_quiet, if_ok_more}
use Rattle.cx_keep.proofs.start.with_kept.Goals as goal

pub returns-in_err-newest-clause-moments : goal.returns-in_err-newest-clause-moments
returns-in_err-newest-clause-moments g c =
    λ tells. quiet_alone c.args.job.now c.args.job.now.recover (g.D.Disk.view c.args.disk.now)
    (g.D.Disk.view c.newest.new.disk) (c.newest.ensures.quiet tells)

pub with_slot-requires-clause-newest : goal.with_slot-requires-clause-newest
with_slot-requires-clause-newest g c = λ tells.
    newest_files (g.D.Disk.view c.args.disk.now).seen (g.D.Disk.view c.newest.new.disk).seen
    (c.in_ok-newest.ensures.quiet tells).same ∙ sym (c.in_ok-newest.ensures.newest tells)

pub returns-clause-begun : goal.returns-clause-begun
returns-clause-begun g c = λ tells.
    subst (λ (s : Result (Option Checkpoint) BeginFault).
    Answers (λ (d : Option Checkpoint). d) c.with_slot.result s)
    (begun_same c.args.job.now (g.D.Disk.view c.args.disk.now).seen
    (g.D.Disk.view c.newest.new.disk).seen (c.in_ok-newest.ensures.quiet tells).same)
    (c.with_slot.ensures.begun tells)

pub returns-clause-refused : goal.returns-clause-refused
returns-clause-refused g c = λ tells.
    refused_quiet c.with_slot.result (g.D.Disk.view c.args.disk.now)
    (g.D.Disk.view c.newest.new.disk) (g.D.Disk.view c.with_slot.new.disk)
    (c.in_ok-newest.ensures.quiet tells) (c.with_slot.ensures.refused tells)

pub returns-clause-started : goal.returns-clause-started
returns-clause-started g c = λ tells.
    if_ok_more c.with_slot.result
    (λ found s. started_quiet c.args.job.now c.args.job.now.recover found
    (g.D.Disk.view c.args.disk.now)
    (g.D.Disk.view c.newest.new.disk) (g.D.Disk.view c.with_slot.new.disk)
    (c.in_ok-newest.ensures.quiet tells) s) (c.with_slot.ensures.started tells)

pub returns-clause-moments : goal.returns-clause-moments
returns-clause-moments g c = λ tells.
    moments_quiet c.args.job.now c.args.job.now.recover (g.D.Disk.view c.args.disk.now)
    (g.D.Disk.view c.newest.new.disk) (g.D.Disk.view c.with_slot.new.disk)
    (c.in_ok-newest.ensures.quiet tells) (c.with_slot.ensures.moments tells)
