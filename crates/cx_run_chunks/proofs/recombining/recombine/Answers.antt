use Rattle.std.proofs.Common.{◌≡◌, ◌∙◌, ℕ, List, [], ◌∷◌, ap, subst, arith}
use Rattle.std.proofs.lemmas.Result.{err_from_is_err_and}
use Rattle.cx_disk.specs.Disk.{Files}
use Rattle.cx_disk.proofs.Moments.{quiet_more}
use Rattle.cx_run_chunks.specs.Faults.{IsFaultOf}
use Rattle.std.specs.Prelude.{None}
use Rattle.cx_disk.specs.Files.{recombined_file}
use Rattle.cx_run_chunks.specs.Commands.{recombine_fault, recombined_of, whole_output}
use Rattle.cx_run_chunks.specs.Writing.{AreWritten}
use Rattle.cx_run_chunks.proofs.CauseLaws.{disk_cause, stop_cause}
use Rattle.cx_run_chunks.proofs.LoopLaws.{disk_fault, no_refusal, seen_same}
use Rattle.cx_run_chunks.proofs.WriteLaws.{only_quiet, quiet_writes}
use Rattle.cx_run_chunks.proofs.recombining.recombine.Goals as goal

pub returns-in_err-mount-clause-told : goal.returns-in_err-mount-clause-told
returns-in_err-mount-clause-told g c = λ tells.
    let p = err_from_is_err_and c.from_residual-in_err-mount.result
    c.from_residual-in_err-mount.ensures.1 in
    rw (p.1, p.2) (disk_fault _ c.in_err-mount.field-0.0)

pub returns-in_err-write_files-clause-told : goal.returns-in_err-write_files-clause-told
returns-in_err-write_files-clause-told g c = λ tells.
    let p = err_from_is_err_and c.from_residual-in_err-write_files.result
    c.from_residual-in_err-write_files.ensures.1 in
    rw (p.1, p.2) (disk_fault _ c.in_err-write_files.field-0.0)

pub returns-in_err-done-clause-told : goal.returns-in_err-done-clause-told
returns-in_err-done-clause-told g c = λ tells.
    let p = err_from_is_err_and c.from_residual-in_err-done.result
    c.from_residual-in_err-done.ensures.1 in
    rw (p.1, p.2) (subst (λ (files : Files). IsFaultOf (recombine_fault c.args.job.now files)
    c.in_err-done.field-0.0)
    (seen_same (c.mount.ensures.quiet tells)) (c.in_err-done.ensures.told tells))

pub returns-in_err-mount-clause-writes : goal.returns-in_err-mount-clause-writes
returns-in_err-mount-clause-writes g c = λ tells. only_quiet _ _
    (g.D.Disk.view c.args.disk.now) (g.D.Disk.view c.mount.new.disk) (c.mount.ensures.quiet tells)

pub returns-in_err-done-clause-writes : goal.returns-in_err-done-clause-writes
returns-in_err-done-clause-writes g c = λ tells. only_quiet _ _
    (g.D.Disk.view c.args.disk.now) (g.D.Disk.view c.whole_output.new.disk)
    (quiet_more (c.mount.ensures.quiet tells) (c.whole_output.ensures.quiet tells))

pub returns-in_err-done-clause-refused : goal.returns-in_err-done-clause-refused
returns-in_err-done-clause-refused g c = λ tells.
    let p = err_from_is_err_and c.from_residual-in_err-done.result
    c.from_residual-in_err-done.ensures.1 in
    rw (p.1, p.2) (λ refusal.
    quiet_more (c.mount.ensures.quiet tells) (c.whole_output.ensures.quiet tells))

pub returns-in_err-write_files-clause-refused : goal.returns-in_err-write_files-clause-refused
returns-in_err-write_files-clause-refused g c = λ tells.
    let p = err_from_is_err_and c.from_residual-in_err-write_files.result
    c.from_residual-in_err-write_files.ensures.1 in
    rw (p.1, p.2) (λ refusal. absurd (no_refusal c.in_err-write_files.field-0.0 refusal))

pub returns-clause-told : goal.returns-clause-told
returns-clause-told g c = λ tells.
    subst (λ (files : Files). recombine_fault c.args.job.now files ≡ None)
    (seen_same (c.mount.ensures.quiet tells))
    (c.in_ok-done.ensures.told tells)

pub returns-clause-value : goal.returns-clause-value
returns-clause-value g c = λ tells.
    subst (λ (files : Files). c.in_ok-done.done ≡ recombined_of c.args.job.now files)
    (seen_same (c.mount.ensures.quiet tells)) (c.in_ok-done.ensures.value tells)

pub returns-clause-written : goal.returns-clause-written
returns-clause-written g c = λ tells.
    subst (λ (text : List ℕ). AreWritten recombined_file (text ∷ [])
    (g.D.Disk.view c.write_files.new.disk))
    (c.in_ok-done.ensures.text tells ∙ ap (whole_output c.args.job.now)
    (seen_same (c.mount.ensures.quiet tells))) (c.in_ok-write_files.ensures.written tells)

pub returns-clause-writes : goal.returns-clause-writes
returns-clause-writes g c = λ tells.
    quiet_writes recombined_file 1
    (g.D.Disk.view c.args.disk.now) (g.D.Disk.view c.whole_output.new.disk)
    (g.D.Disk.view c.write_files.new.disk)
    (quiet_more (c.mount.ensures.quiet tells) (c.whole_output.ensures.quiet tells))
    (c.write_files.ensures.writes tells)

pub returns-in_err-write_files-clause-writes : goal.returns-in_err-write_files-clause-writes
returns-in_err-write_files-clause-writes g c = λ tells.
    quiet_writes recombined_file 1
    (g.D.Disk.view c.args.disk.now) (g.D.Disk.view c.whole_output.new.disk)
    (g.D.Disk.view c.write_files.new.disk)
    (quiet_more (c.mount.ensures.quiet tells) (c.whole_output.ensures.quiet tells))
    (c.write_files.ensures.writes tells)

pub returns-in_err-mount-clause-cause : goal.returns-in_err-mount-clause-cause
returns-in_err-mount-clause-cause g c =
    let p = err_from_is_err_and c.from_residual-in_err-mount.result
    c.from_residual-in_err-mount.ensures.1 in
    rw (p.1, p.2) (disk_cause (g.D.Disk.faults c.args.disk.now) (g.D.Disk.faults c.args.disk.now)
    (g.D.Disk.faults c.mount.new.disk) c.in_err-mount.field-0.0 (omega arith)
    c.in_err-mount.ensures.cause)

pub returns-in_err-done-clause-cause : goal.returns-in_err-done-clause-cause
returns-in_err-done-clause-cause g c =
    let p = err_from_is_err_and c.from_residual-in_err-done.result
    c.from_residual-in_err-done.ensures.1 in
    rw (p.1, p.2) (stop_cause (g.D.Disk.faults c.args.disk.now)
    (g.D.Disk.faults c.mount.new.disk) (g.D.Disk.faults c.whole_output.new.disk)
    c.in_err-done.field-0.0 c.mount.ensures.cause.later c.in_err-done.ensures.kept.cause)

pub returns-in_err-write_files-clause-cause : goal.returns-in_err-write_files-clause-cause
returns-in_err-write_files-clause-cause g c =
    let p = err_from_is_err_and c.from_residual-in_err-write_files.result
    c.from_residual-in_err-write_files.ensures.1 in
    let first = c.mount.ensures.cause.later in
    let second = c.whole_output.ensures.kept.cause.later in
    rw (p.1, p.2) (disk_cause (g.D.Disk.faults c.args.disk.now)
    (g.D.Disk.faults c.whole_output.new.disk) (g.D.Disk.faults c.write_files.new.disk)
    c.in_err-write_files.field-0.0 (omega arith) c.in_err-write_files.ensures.kept.cause)
