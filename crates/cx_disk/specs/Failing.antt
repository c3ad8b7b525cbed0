-- A disk in memory that fails at some calls, and goes on.
use Rattle.std.specs.Prelude.{ℕ, ◌≡◌, List, Result}
use Rattle.std.specs.List.{Contains}
use Rattle.cx_disk.specs.Fuse.{next_count}
use Rattle.cx_disk.specs.Memory.{History}
use Rattle.cx_disk.specs.declared.disk.DiskFault.{DiskFault}

-- the disk, the numbers of the calls that fail, the number of the next call, and how often it has
-- failed
pub record Failing : Type 0 where
  pub disk : History
  pub fail : List ℕ
  pub next : ℕ
  pub faults : ℕ

-- a disk of which no call was made
abbrev pub failing_disk : History → List ℕ → Failing
failing_disk disk fail = record { disk = disk; fail = fail; next = 1; faults = 0 }

-- the next call is one of those that fail
abbrev pub FailsNext : Failing → Type 0
FailsNext f = Contains f.fail f.next

-- the same once the next call is counted, and once its failure is too
abbrev pub called : Failing → Failing
called f = record f { next = next_count f.next }

abbrev pub failed : Failing → Failing
failed f = record f { next = next_count f.next; faults = next_count f.faults }

-- A call whose number is among those fails so, and is counted. Any other is done by the disk
-- within.
pub record FailsAt {T : Type 0} (does stop : History → History → Result T DiskFault → Type 0)
    (old new : Failing) (result : Result T DiskFault) : Type 0 where
  pub fails : FailsNext old
      → stop old.disk new.disk result × (new ≡ record (failed old) { disk = new.disk })
  pub passes : (FailsNext old → ⊥)
      → does old.disk new.disk result × (new ≡ record (called old) { disk = new.disk })
