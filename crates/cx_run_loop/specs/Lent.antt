-- What a call was lent, before and after it.
use Rattle.std.specs.Prelude.{◌≡◌, ℕ, IsTrue, List}
use Rattle.cx_disk.specs.Cause.{Rose}
use Rattle.cx_disk.specs.Disk.{View}
use Rattle.cx_disk.specs.declared.disk.Disk.{Ghosts as DiskGhosts}
use Rattle.cx_wire.specs.Messages.{Sent}
use Rattle.cx_wire.specs.declared.wire.Wire.{Ghosts as WireGhosts}

-- a count
pub record Count : Type 0 where
  pub old : ℕ
  pub new : ℕ

-- of faults: the device has failed in the call
abbrev pub HasRisen : Count → Type 0
HasRisen c = Rose c.old c.new

-- a disk: whether it tells what it holds, that it is as it was, what contracts see of it, and its
-- count of faults
pub record LentDisk : Type 1 where
  pub tells : Type 0
  pub same : Type 0
  pub old : View
  pub new : View
  pub faults : Count

-- a wire: its queues, how many values it has given out, and their sum
pub record Wired (tells : Type 0) : Type 0 where
  pub queue : ℕ → ℕ → List (Sent tells)
  pub received : ℕ
  pub sum : ℕ

pub record LentWire : Type 1 where
  pub tells : Type 0
  pub same : Type 0
  pub old : Wired tells
  pub new : Wired tells
  pub faults : Count

-- a disk of a type with these ghost members, before and after the call
abbrev pub lent_disk : {D : Type 0} → DiskGhosts D → D → D → LentDisk
lent_disk d old new = record {
  tells = d.tells;
  same = new ≡ old;
  old = d.view old;
  new = d.view new;
  faults = record { old = d.faults old; new = d.faults new };
}

-- a wire
abbrev pub wired : {W : Type 0} → (w : WireGhosts W) → W → Wired (IsTrue w.tells)
wired w wire = record { queue = w.queue wire; received = w.received wire; sum = w.sum wire }

abbrev pub lent_wire : {W : Type 0} → WireGhosts W → W → W → LentWire
lent_wire w old new = record {
  tells = IsTrue w.tells;
  same = new ≡ old;
  old = wired w old;
  new = wired w new;
  faults = record { old = w.faults old; new = w.faults new };
}
