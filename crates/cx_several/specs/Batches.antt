-- A batch: the objects that it was given, and all that it was lent, before and after it.
use Rattle.std.specs.Prelude.{◌≡◌, ℕ, List, [], ◌∷◌, codes, Option}
use Rattle.cx_disk.specs.declared.disk.Disk.{Ghosts as DiskGhosts}
use Rattle.cx_wire.specs.declared.wire.Wire.{Ghosts as WireGhosts}
use Rattle.cx_rule.specs.Routine.{Rule}
use Rattle.cx_rule.specs.declared.spec.Spec.{Spec}
use Rattle.cx_job_files.specs.Shelf.{Held}
use Rattle.cx_run_loop.specs.Lent.{Count}
use Rattle.cx_run.specs.Calls.{Call, Lent, work_on}

-- the disks or the wires, before and after it
pub record Both (A : Type 0) : Type 0 where
  pub old : List A
  pub new : List A

-- With the seed that the source of turns was begun from last, if it was, after it, and that this
-- source is as it was.
pub record Batch (D W : Type 0) : Type 1 where
  pub rules : List Rule
  pub specs : List Spec
  pub shelf : Lent Held
  pub disk : DiskGhosts D
  pub wire : WireGhosts W
  pub disks : Both D
  pub wires : Both W
  pub meter : Count
  pub begun : Option ℕ
  pub same_turns : Type 0

abbrev pub batch_with :
    {D W : Type 0} → List Rule → List Spec → DiskGhosts D → WireGhosts W
    → Lent Held → List D → List D → List W → List W → ℕ → ℕ → Option ℕ → Type 0 → Batch D W
batch_with rules specs d w shelf disks disks_after wires wires_after meter meter_after begun
    same_turns =
    record {
      rules = rules;
      specs = specs;
      shelf = shelf;
      disk = d;
      wire = w;
      disks = record { old = disks; new = disks_after };
      wires = record { old = wires; new = wires_after };
      meter = record { old = meter; new = meter_after };
      begun = begun;
      same_turns = same_turns;
    }

-- a disk and a wire, each before and after a batch
pub record Place (D W : Type 0) : Type 0 where
  pub disk : D
  pub disk_after : D
  pub wire : W
  pub wire_after : W

abbrev pub place : {D W : Type 0} → D → D → W → W → Place D W
place disk disk_after wire wire_after =
    record { disk = disk; disk_after = disk_after; wire = wire; wire_after = wire_after }

-- the call that `run` of a file would be, on one disk and one wire, with a meter of its own
abbrev pub alone : {D W : Type 0} → Batch D W → List ℕ → Place D W → Count → Call
alone c file p meter = record {
  words = codes "run" ∷ file ∷ [];
  shelf = c.shelf;
  work = work_on c.rules c.specs c.disk c.wire p.disk p.disk_after p.wire p.wire_after
      meter.old meter.new;
  begun = c.begun;
}

-- no disk was changed, no wire, and neither the meter nor the source of turns
pub record IsUntouched {D W : Type 0} (c : Batch D W) : Type 0 where
  pub disks : c.disks.new ≡ c.disks.old
  pub wires : c.wires.new ≡ c.wires.old
  pub meter : c.meter.new ≡ c.meter.old
  pub turns : c.same_turns
