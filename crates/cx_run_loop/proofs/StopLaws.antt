-- Why a run stopped, by the counts of its devices.
use Rattle.std.proofs.Common.{◌≡◌, ℕ, ◌+◌, ◌-◌, ◌^◌, ◌≤◌, min, refl, arith}
use Rattle.std.specs.Prelude.{Result, Ok, Err}
use Rattle.cx_disk.specs.Cause.{HasCause, Rose}
use Rattle.cx_disk.specs.declared.disk.DiskFault.{DiskFault}
use Rattle.cx_disk.specs.declared.disk.DiskFault.TheVariants as disk
use Rattle.cx_core.specs.declared.answers.CoreFault.{CoreFault}
use Rattle.cx_core.specs.declared.answers.CoreFault.TheVariants as core
use Rattle.cx_run_loop.specs.declared.fault.DriveFault.{DriveFault}
use Rattle.cx_run_loop.specs.declared.fault.DriveFault.TheVariants as faults
use Rattle.cx_run_loop.specs.Faults.{Stops, Why, of_disk, of_core}
use Rattle.cx_run_loop.specs.Lent.{Count}

abbrev pub count : ℕ → ℕ → Count
count a b = record { old = a; new = b }

rose_by : (most a b c d : ℕ) → b ≤ a → c ≤ d → min (a + 1) most ≤ c → min (b + 1) most ≤ d
rose_by most a b c d less more rose = omega arith

pub rose_wider : (a b c d : ℕ) → b ≤ a → c ≤ d → Rose a c → Rose b d
rose_wider a b c d less more rose = rose_by (2 ^ 64 - 1) a b c d less more rose

-- the same counts, or wider ones
pub why_wider : (A B : Type 0) (d w e v : Count) → e.old ≤ d.old → d.new ≤ e.new → v.old ≤ w.old
    → w.new ≤ v.new → (fault : DriveFault) → Why {A = A} d w (Err fault)
    → Why {A = B} e v (Err fault)
why_wider A B d w e v a b i j (faults.Recovery fault) why = why
why_wider A B d w e v a b i j faults.Disk why = rose_wider d.old e.old d.new e.new a b why
why_wider A B d w e v a b i j faults.Wire why = rose_wider w.old v.old w.new v.new i j why
why_wider A B d w e v a b i j faults.Memory why = tt

-- ---- calls of a disk alone, and of a core alone

pub disk_stops : (A B : Type 0) (a b n : ℕ) (fault : DiskFault)
    → HasCause {T = A} disk.Failed a b (Err fault)
    → Stops {A = B} (count a b) (count n n) (Err (of_disk fault))
disk_stops A B a b n disk.Failed cause =
    record { disk_later = cause.later; wire_later = omega arith; why = cause.failed refl }
disk_stops A B a b n disk.Memory cause =
    record { disk_later = cause.later; wire_later = omega arith; why = tt }

pub core_stops : (A B : Type 0) (a b n : ℕ) (fault : CoreFault)
    → HasCause {T = A} core.Wire a b (Err fault)
    → Stops {A = B} (count n n) (count a b) (Err (of_core fault))
core_stops A B a b n core.Wire cause =
    record { disk_later = omega arith; wire_later = cause.later; why = cause.failed refl }
core_stops A B a b n core.Memory cause =
    record { disk_later = omega arith; wire_later = cause.later; why = tt }

pub goes_on : {A : Type 0} (d w : Count) (x : A) → d.old ≤ d.new → w.old ≤ w.new → Stops d w (Ok x)
goes_on d w x a b = record { disk_later = a; wire_later = b; why = tt }

pub memory_stops : (A : Type 0) (d w : Count) → d.old ≤ d.new → w.old ≤ w.new
    → Stops {A = A} d w (Err faults.Memory)
memory_stops A d w a b = record { disk_later = a; wire_later = b; why = tt }

-- ---- one call after another

-- the first stopped, or the second is what the whole answers
pub stopped_first : (A B : Type 0) (d w e v : Count) (fault : DriveFault) → d.old ≡ e.old
    → d.new ≤ e.new → w.old ≡ v.old → w.new ≤ v.new → Stops {A = A} d w (Err fault)
    → Stops {A = B} e v (Err fault)
stopped_first A B d w e v fault a b i j first =
    let x : d.old ≤ d.new = first.disk_later in
    let y : w.old ≤ w.new = first.wire_later in
    record {
      disk_later = omega arith;
      wire_later = omega arith;
      why = why_wider A B d w e v (omega arith) b (omega arith) j fault first.why;
    }

why_after : (A : Type 0) (d w e v : Count) → e.old ≤ d.old → d.new ≤ e.new → v.old ≤ w.old
    → w.new ≤ v.new → (r : Result A DriveFault) → Why d w r → Why e v r
why_after A d w e v a b i j (Ok x) why = tt
why_after A d w e v a b i j (Err fault) why = why_wider A A d w e v a b i j fault why

pub stopped_after : (A : Type 0) (d w e v : Count) (r : Result A DriveFault) → e.old ≤ d.old
    → d.new ≤ e.new → v.old ≤ w.old → w.new ≤ v.new → Stops d w r → Stops e v r
stopped_after A d w e v r a b i j last =
    let x : d.old ≤ d.new = last.disk_later in
    let y : w.old ≤ w.new = last.wire_later in
    record {
      disk_later = omega arith;
      wire_later = omega arith;
      why = why_after A d w e v a b i j r last.why;
    }
