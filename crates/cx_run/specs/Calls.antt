-- A call: what it was given, and each thing that it was lent, before and after it.
use Rattle.std.specs.Prelude.{◌≡◌, ℕ, ℤ, pos, List, Option, None, Some, Result, Ok}
use Rattle.cx_disk.specs.Disk.{Folders}
use Rattle.cx_disk.specs.Moments.{IsQuiet}
use Rattle.cx_disk.specs.declared.disk.Disk.{Ghosts as DiskGhosts}
use Rattle.cx_wire.specs.declared.wire.Wire.{Ghosts as WireGhosts}
use Rattle.cx_plan.specs.declared.job.Job.{Job}
use Rattle.cx_rule.specs.Routine.{Rule}
use Rattle.cx_rule.specs.declared.spec.Spec.{Spec}
use Rattle.cx_plan.specs.declared.variable.VarId.{VarId}
use Rattle.cx_job_files.specs.Shelf.{Held, looked_up}
use Rattle.cx_job_files.specs.declared.shelf.Shelf.{Ghosts as ShelfGhosts}
use Rattle.cx_job.specs.Making.{Made}
use Rattle.cx_job.specs.declared.fault.JobFault.{JobFault}
use Rattle.cx_run_loop.specs.Lent.{Count, LentDisk, LentWire, lent_disk, lent_wire}
use Rattle.cx_run_loop.specs.Drives.{Drive}
use Rattle.cx_run.specs.Words.{Request, asked}
use Rattle.cx_run_made.specs.Files.{made_files}
use Rattle.cx_run.specs.declared.sink.Sink.{Ghosts as SinkGhosts}
use Rattle.cx_run.specs.declared.words.Command.{Command}
use Rattle.cx_run.specs.declared.words.Command.TheVariants.{Run, Make, Chunk, Recombine, Check, Schedule, Describe, Parts}

-- a device: whether it tells what it holds, that it is as it was, what contracts see of it, and its
-- count of faults
pub record Lent (A : Type 0) : Type 1 where
  pub tells : Type 0
  pub same : Type 0
  pub old : A
  pub new : A
  pub faults : Count

-- What a command works on: routines of these rules, which say this of themselves, and what it was
-- lent, with the folders that the disk has after it.
pub record Work : Type 1 where
  pub rules : List Rule
  pub specs : List Spec
  pub disk : LentDisk
  pub folders : Folders
  pub wire : LentWire
  pub meter : Count

-- With the seed that the source of turns was begun from last, if it was, after the call.
pub record Call : Type 1 where
  pub words : List (List ℕ)
  pub shelf : Lent Held
  pub work : Work
  pub begun : Option ℕ

-- ---- what was lent, by the ghost members of the devices' types, before and after the call

abbrev pub lent_shelf : {H : Type 0} → ShelfGhosts H → H → H → Lent Held
lent_shelf h old new = record {
  tells = h.tells;
  same = new ≡ old;
  old = h.held old;
  new = h.held new;
  faults = record { old = h.faults old; new = h.faults new };
}

-- what is printed to: the bytes that were written
abbrev pub lent_sink : {O : Type 0} → SinkGhosts O → O → O → Lent (List ℕ)
lent_sink o old new = record {
  tells = o.tells;
  same = new ≡ old;
  old = o.written old;
  new = o.written new;
  faults = record { old = o.faults old; new = o.faults new };
}

-- with routines of these rules, which say this of themselves
abbrev pub work_on :
    {D W : Type 0} → List Rule → List Spec → DiskGhosts D → WireGhosts W
    → D → D → W → W → ℕ → ℕ → Work
work_on rules specs d w disk disk_after wire wire_after meter meter_after = record {
  rules = rules;
  specs = specs;
  disk = lent_disk d disk disk_after;
  folders = d.folders disk_after;
  wire = lent_wire w wire wire_after;
  meter = record { old = meter; new = meter_after };
}

-- with these words, and routines of these rules, which say this of themselves
abbrev pub called_with :
    {H D W : Type 0} → List Rule → List Spec → ShelfGhosts H → DiskGhosts D → WireGhosts W
    → List (List ℕ) → H → H → D → D → W → W → ℕ → ℕ → Option ℕ → Call
called_with rules specs h d w words shelf shelf_after disk disk_after wire wire_after meter
    meter_after begun = record {
      words = words;
      shelf = lent_shelf h shelf shelf_after;
      work = work_on rules specs d w disk disk_after wire wire_after meter meter_after;
      begun = begun;
    }

-- ---- which files are read

-- a shelf in memory with these files
abbrev pub shelf_of : List (List ℕ × List ℕ) → Lent Held
shelf_of files = record {
  tells = Unit {0};
  same = Unit {0};
  old = looked_up files;
  new = looked_up files;
  faults = record { old = 0; new = 0 };
}

-- the shelf that a command reads: `make` one of its own, with the files that it makes, the others
-- the one that was lent
abbrev pub shelf_for : Lent Held → Command → Lent Held
shelf_for lent (Make seed size) = shelf_of (made_files seed size)
shelf_for lent command = lent

-- what it holds
abbrev pub files_for : Held → Command → Held
files_for held (Make seed size) = looked_up (made_files seed size)
files_for held command = held

-- the seed and the size that it makes them from
abbrev pub made_from : Command → Option (ℕ × ℕ)
made_from (Make seed size) = Some (seed, size)
made_from command = None

-- it tells what it holds
abbrev pub TellsFiles : Call → Request → Type 0
TellsFiles c r = (shelf_for c.shelf r.command).tells

-- what the files under a name make, as the shelf held them
abbrev pub Makes : Call → Request → Result Job JobFault → Type 0
Makes c r made = Made r.file c.work.specs (shelf_for c.shelf r.command).old made

-- `make` leaves the shelf alone that was lent
abbrev pub SparesShelf : Lent Held → Command → Type 0
SparesShelf lent (Make seed size) = lent.same
SparesShelf lent command = Unit {0}

-- ---- runs

abbrev pub Runs : Command → Type 0
Runs Run = Unit {0}
Runs (Make seed size) = Unit {0}
Runs Chunk = ⊥
Runs Recombine = ⊥
Runs Check = ⊥
Runs Schedule = ⊥
Runs Describe = ⊥
Runs Parts = ⊥

-- the words ask for the run of a file that makes this job, on a shelf that tells its files
pub record IsRun (c : Call) (job : Job) : Type 0 where
  pub request : Request
  pub asks : asked c.words ≡ Some request
  pub runs : Runs request.command
  pub told : TellsFiles c request
  pub makes : Makes c request (Ok job)

-- a run of a job on what a call was lent
abbrev pub driven : Work → Job → Drive
driven w job = record {
  job = job;
  rules = w.rules;
  specs = w.specs;
  disk = w.disk;
  wire = w.wire;
  meter = w.meter;
}

-- the disk and the wire tell what they hold
abbrev pub AreTold : Call → Type 0
AreTold c = c.work.disk.tells × c.work.wire.tells

-- how many cells live, by the numbers of a run's scalars, where there is a scalar that says it,
-- else 0
abbrev pub live_by : Option VarId → (VarId → ℤ) → ℤ
live_by None number = pos 0
live_by (Some v) number = number v

-- neither the disk nor the wire nor the meter was touched
pub record IsStill (w : Work) : Type 0 where
  pub disk : w.disk.same
  pub quiet : w.disk.tells → IsQuiet w.disk.old w.disk.new
  pub wire : w.wire.same
  pub received : w.wire.new.received ≡ w.wire.old.received
  pub meter : w.meter.new ≡ w.meter.old
