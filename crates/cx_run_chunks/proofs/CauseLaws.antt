-- Failures of the disk, as those of a command.
use Rattle.std.proofs.Common.{◌≡◌, ℕ, ◌≤◌, Result, Err, refl, ap, arith}
use Rattle.cx_disk.specs.Cause.{HasCause}
use Rattle.cx_disk.specs.declared.disk.DiskFault.{DiskFault}
use Rattle.cx_disk.specs.declared.disk.DiskFault.TheVariants as disk
use Rattle.cx_run_chunks.specs.declared.fault.ChunksFault.{ChunksFault}
use Rattle.cx_run_chunks.specs.declared.fault.ChunksFault.TheVariants as chunks
use Rattle.cx_run_chunks.specs.Faults.{chunks_fault_of}

abbrev err_of : (X : Type 0) → ChunksFault → Result X ChunksFault
err_of X e = Err e

same_stop : (X : Type 0) (x y : ChunksFault) → err_of X x ≡ err_of X y → x ≡ y
same_stop X x y e = cc

-- after calls in which no failure is told
pub stop_cause : {A X : Type 0} (before mid now : ℕ) (e : ChunksFault) → before ≤ mid
    → HasCause {T = A} chunks.Disk mid now (Err e) → HasCause {T = X} chunks.Disk before now (Err e)
stop_cause {A} {X} before mid now e le cause =
    let later : mid ≤ now = cause.later in
    record {
      later = omega arith;
      failed = λ is.
          let rose = cause.failed (ap (err_of A) (same_stop X e chunks.Disk is)) in
          omega arith;
    }

pub disk_cause : {A X : Type 0} (before mid now : ℕ) (d : DiskFault) → before ≤ mid
    → HasCause {T = A} disk.Failed mid now (Err d)
    → HasCause {T = X} chunks.Disk before now (Err (chunks_fault_of d))
disk_cause before mid now disk.Failed le cause =
    let later : mid ≤ now = cause.later in
    let rose = cause.failed refl in
    record { later = omega arith; failed = λ is. omega arith }
disk_cause before mid now disk.Memory le cause =
    let later : mid ≤ now = cause.later in
    record { later = omega arith; failed = λ is. absurd cc }
