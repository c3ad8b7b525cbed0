-- Disks in memory for tests, which fail at some calls.
use Rattle.std.specs.Prelude.{ℕ, ◌+◌, ◌-◌, ◌^◌, ◌≡◌, ◌<◌, ◌⊎◌, min, Result, Err}
use Rattle.cx_disk.specs.Memory.{History, noted}
use Rattle.cx_disk.specs.declared.disk.DiskFault.{DiskFault}
use Rattle.cx_disk.specs.declared.disk.DiskFault.TheVariants.{Failed, Memory}
use Rattle.cx_disk.specs.declared.note.Note.{Note}

-- a count and one more, up to where it stops
abbrev pub next_count : ℕ → ℕ
next_count n = min (n + 1) (2 ^ 64 - 1)

-- ---- what a call that fails does to the disk within

-- It changes nothing.
abbrev pub Fails : {T : Type 0} → History → History → Result T DiskFault → Type 0
Fails old new result = (result ≡ Err Failed) × (new ≡ old)

-- It is noted as stopped. Where memory is wanting for the note, that is told, and nothing has
-- changed.
abbrev pub Stops : {T : Type 0} → Note → History → History → Result T DiskFault → Type 0
Stops note old new result =
    ((result ≡ Err Failed) × (new ≡ noted old note)) ⊎ ((result ≡ Err Memory) × (new ≡ old))

-- ---- a disk that passes so many calls, and then fails each one

-- the disk, how many calls more it passes, and how often it has failed
pub record Fuse : Type 0 where
  pub disk : History
  pub calls : ℕ
  pub faults : ℕ

-- While calls are left, the disk within does this one, and one fewer is left. Then each fails so,
-- and is counted.
pub record Burns {T : Type 0} (does stop : History → History → Result T DiskFault → Type 0)
    (old new : Fuse) (result : Result T DiskFault) : Type 0 where
  pub passes : 0 < old.calls
      → does old.disk new.disk result
      × (new ≡ record old { disk = new.disk; calls = old.calls - 1 })
  pub fails : old.calls ≡ 0
      → stop old.disk new.disk result
      × (new ≡ record old { disk = new.disk; faults = next_count old.faults })
