use Rattle.std.proofs.Common.{◌≡◌, ◌≤◌, ◌∙◌, ℕ, List, ap, subst, length, arith}
use Rattle.std.proofs.lemmas.Result.{err_from_is_err_and}
use Rattle.cx_disk.specs.Disk.{Files}
use Rattle.cx_disk.proofs.Moments.{quiet_more}
use Rattle.cx_plan.specs.Setups.{setup_of}
use Rattle.cx_run_chunks.specs.Faults.{IsFaultOf}
use Rattle.std.specs.Prelude.{None}
use Rattle.cx_cut.specs.Cuts.{Parts, part_count}
use Rattle.cx_disk.specs.Files.{chunk_file}
use Rattle.cx_chunks.specs.Cutting.{chunk_texts}
use Rattle.cx_run_chunks.specs.Commands.{output_records, outputs_fault, parts_in}
use Rattle.cx_run_chunks.specs.Next.{total_of}
use Rattle.cx_run_chunks.specs.Writing.{AreWritten, Writes}
use Rattle.cx_run_chunks.proofs.CombineLaws.{chunked_is, texts_are}
use Rattle.cx_run_chunks.proofs.CauseLaws.{disk_cause, stop_cause}
use Rattle.cx_run_chunks.proofs.LoopLaws.{disk_fault, no_refusal, seen_same}
use Rattle.cx_run_chunks.proofs.WriteLaws.{chunks_are_files, only_quiet, quiet_writes}
use Rattle.cx_run_chunks.proofs.chunking.chunk.Goals as goal

pub returns-in_err-mount-clause-told : goal.returns-in_err-mount-clause-told
returns-in_err-mount-clause-told g c = λ tells.
    let p = err_from_is_err_and c.from_residual-in_err-mount.result
    c.from_residual-in_err-mount.ensures.1 in
    rw (p.1, p.2) (disk_fault _ c.in_err-mount.field-0.0)

pub returns-in_err-write_files-clause-told : goal.returns-in_err-write_files-clause-told
returns-in_err-write_files-clause-told g c = λ tells.
    let p = err_from_is_err_and c.from_residual-in_err-write_files.result
    c.from_residual-in_err-write_files.ensures.1 in
    rw (p.1, p.2) (disk_fault _ c.in_err-write_files.field-0.0)

pub returns-in_err-records-clause-told : goal.returns-in_err-records-clause-told
returns-in_err-records-clause-told g c = λ tells.
    let p = err_from_is_err_and c.from_residual-in_err-records.result
    c.from_residual-in_err-records.ensures.1 in
    rw (p.1, p.2) (subst (λ (files : Files).
    IsFaultOf (outputs_fault (setup_of c.args.job.now) files) c.in_err-records.field-0.0)
    (seen_same (c.mount.ensures.quiet tells)) (c.in_err-records.ensures.told tells))

pub returns-in_err-mount-clause-writes : goal.returns-in_err-mount-clause-writes
returns-in_err-mount-clause-writes g c = λ tells. only_quiet _ _
    (g.D.Disk.view c.args.disk.now) (g.D.Disk.view c.mount.new.disk) (c.mount.ensures.quiet tells)

pub returns-in_err-records-clause-writes : goal.returns-in_err-records-clause-writes
returns-in_err-records-clause-writes g c = λ tells. only_quiet _ _
    (g.D.Disk.view c.args.disk.now) (g.D.Disk.view c.cut_outputs.new.disk)
    (quiet_more (c.mount.ensures.quiet tells) (c.cut_outputs.ensures.quiet tells))

pub returns-in_err-records-clause-refused : goal.returns-in_err-records-clause-refused
returns-in_err-records-clause-refused g c = λ tells.
    let p = err_from_is_err_and c.from_residual-in_err-records.result
    c.from_residual-in_err-records.ensures.1 in
    rw (p.1, p.2) (λ refusal.
    quiet_more (c.mount.ensures.quiet tells) (c.cut_outputs.ensures.quiet tells))

pub returns-in_err-write_files-clause-refused : goal.returns-in_err-write_files-clause-refused
returns-in_err-write_files-clause-refused g c = λ tells.
    let p = err_from_is_err_and c.from_residual-in_err-write_files.result
    c.from_residual-in_err-write_files.ensures.1 in
    rw (p.1, p.2) (λ refusal. absurd (no_refusal c.in_err-write_files.field-0.0 refusal))

pub returns-clause-told : goal.returns-clause-told
returns-clause-told g c = λ tells.
    subst (λ (files : Files). outputs_fault (setup_of c.args.job.now) files ≡ None)
    (seen_same (c.mount.ensures.quiet tells))
    (c.in_ok-records.ensures.told tells)

pub returns-clause-value : goal.returns-clause-value
returns-clause-value g c = λ tells.
    let files = (g.D.Disk.view c.args.disk.now).seen in
    let same = seen_same (c.mount.ensures.quiet tells) in
    chunked_is c.args.job.now files c.in_ok-cut.cut c.count.result c.in_ok-records.records
    (subst (λ (now : Files). outputs_fault (setup_of c.args.job.now) now ≡ None) same
    (c.in_ok-records.ensures.told tells))
    c.in_ok-cut.ensures.value c.count.ensures.value
    (subst (λ (now : Files).
    c.in_ok-records.records ≡ total_of (output_records (setup_of c.args.job.now) now)) same
    (c.in_ok-records.ensures.count tells))

pub write_files-requires-clause-files : goal.write_files-requires-clause-files
write_files-requires-clause-files g c =
    chunks_are_files _ (length c.as_slice.result.now) (parts_in c.args.job.now)
    (ap length c.as_slice.ensures ∙ c.in_ok-records.ensures.many
    ∙ ap part_count c.in_ok-cut.ensures.value)
    (subst (λ (k : Parts). part_count k ≤ 512) c.in_ok-cut.ensures.value
    c.in_ok-cut.ensures.cut.whole.few)

pub returns-clause-written : goal.returns-clause-written
returns-clause-written g c = λ tells.
    let files = (g.D.Disk.view c.args.disk.now).seen in
    let texts = c.in_ok-records.texts in
    subst (λ (now : List (List ℕ)). AreWritten (chunk_file 0) now
    (g.D.Disk.view c.write_files.new.disk))
    (c.as_slice.ensures
    ∙ texts_are c.args.job.now files c.in_ok-cut.cut texts c.in_ok-cut.ensures.value
    (subst (λ (now : Files).
    texts ≡ chunk_texts c.in_ok-cut.cut (output_records (setup_of c.args.job.now) now))
    (seen_same (c.mount.ensures.quiet tells)) (c.in_ok-records.ensures.texts tells)))
    (c.in_ok-write_files.ensures.written tells)

pub returns-clause-writes : goal.returns-clause-writes
returns-clause-writes g c = λ tells.
    quiet_writes (chunk_file 0) (part_count (parts_in c.args.job.now))
    (g.D.Disk.view c.args.disk.now) (g.D.Disk.view c.cut_outputs.new.disk)
    (g.D.Disk.view c.write_files.new.disk)
    (quiet_more (c.mount.ensures.quiet tells) (c.cut_outputs.ensures.quiet tells))
    (subst (λ (n : ℕ). Writes (chunk_file 0) n (g.D.Disk.view c.cut_outputs.new.disk)
    (g.D.Disk.view c.write_files.new.disk))
    (ap length c.as_slice.ensures ∙ c.in_ok-records.ensures.many
    ∙ ap part_count c.in_ok-cut.ensures.value)
    (c.write_files.ensures.writes tells))

pub returns-in_err-write_files-clause-writes : goal.returns-in_err-write_files-clause-writes
returns-in_err-write_files-clause-writes g c = λ tells.
    quiet_writes (chunk_file 0) (part_count (parts_in c.args.job.now))
    (g.D.Disk.view c.args.disk.now) (g.D.Disk.view c.cut_outputs.new.disk)
    (g.D.Disk.view c.write_files.new.disk)
    (quiet_more (c.mount.ensures.quiet tells) (c.cut_outputs.ensures.quiet tells))
    (subst (λ (n : ℕ). Writes (chunk_file 0) n (g.D.Disk.view c.cut_outputs.new.disk)
    (g.D.Disk.view c.write_files.new.disk))
    (ap length c.as_slice.ensures ∙ c.in_ok-records.ensures.many
    ∙ ap part_count c.in_ok-cut.ensures.value)
    (c.write_files.ensures.writes tells))

pub returns-in_err-mount-clause-cause : goal.returns-in_err-mount-clause-cause
returns-in_err-mount-clause-cause g c =
    let p = err_from_is_err_and c.from_residual-in_err-mount.result
    c.from_residual-in_err-mount.ensures.1 in
    rw (p.1, p.2) (disk_cause (g.D.Disk.faults c.args.disk.now) (g.D.Disk.faults c.args.disk.now)
    (g.D.Disk.faults c.mount.new.disk) c.in_err-mount.field-0.0 (omega arith)
    c.in_err-mount.ensures.cause)

pub returns-in_err-records-clause-cause : goal.returns-in_err-records-clause-cause
returns-in_err-records-clause-cause g c =
    let p = err_from_is_err_and c.from_residual-in_err-records.result
    c.from_residual-in_err-records.ensures.1 in
    rw (p.1, p.2) (stop_cause (g.D.Disk.faults c.args.disk.now)
    (g.D.Disk.faults c.mount.new.disk) (g.D.Disk.faults c.cut_outputs.new.disk)
    c.in_err-records.field-0.0 c.mount.ensures.cause.later c.in_err-records.ensures.kept.cause)

pub returns-in_err-write_files-clause-cause : goal.returns-in_err-write_files-clause-cause
returns-in_err-write_files-clause-cause g c =
    let p = err_from_is_err_and c.from_residual-in_err-write_files.result
    c.from_residual-in_err-write_files.ensures.1 in
    let first = c.mount.ensures.cause.later in
    let second = c.cut_outputs.ensures.kept.cause.later in
    rw (p.1, p.2) (disk_cause (g.D.Disk.faults c.args.disk.now)
    (g.D.Disk.faults c.cut_outputs.new.disk) (g.D.Disk.faults c.write_files.new.disk)
    c.in_err-write_files.field-0.0 (omega arith) c.in_err-write_files.ensures.kept.cause)
