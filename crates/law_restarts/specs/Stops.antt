-- Starts over objects in memory, one after another: each but the last over a disk that stops.
use Rattle.std.specs.Prelude.{◌≡◌, ℕ, true, IsTrue, List, [], ◌∷◌, Option, Some, Ok}
use Rattle.cx_disk.specs.Disk.{Folders}
use Rattle.cx_disk.specs.Fuse.{Fuse}
use Rattle.cx_disk.specs.Image.{IsImageOf, IsChosenOf}
use Rattle.cx_disk.specs.Memory.{History, view_of}
use Rattle.cx_wire.specs.Memory.{Carried, new_wire, sent_queue, carried_sum}
use Rattle.cx_plan.specs.declared.job.Job.{Job}
use Rattle.cx_rule.specs.Routine.{Rule}
use Rattle.cx_rule.specs.declared.spec.Spec.{Spec}
use Rattle.cx_keep.specs.Resuming.{AreTrails}
use Rattle.cx_job_files.specs.Shelf.{Held, looked_up}
use Rattle.cx_job.specs.Making.{Made}
use Rattle.cx_run_loop.specs.Lent.{LentDisk, LentWire, Wired}
use Rattle.law_course.specs.Starts.{course_in, AreAlikeTo}
use Rattle.cx_run.specs.Calls.{Lent, Call, Runs, files_for}
use Rattle.cx_run.specs.Clauses.{Obeys}
use Rattle.cx_run.specs.MemorySink.{Written}
use Rattle.cx_run.specs.Words.{Request, asked}
use Rattle.law_restarts.specs.Restarts.{Ends}
use Rattle.law_restarts.specs.declared.stops.Stop.{Stop}

-- ---- objects in memory, before and after a start

abbrev pub memory_shelf : List (List ℕ × List ℕ) → List (List ℕ × List ℕ) → Lent Held
memory_shelf old new = record {
  tells = Unit {0};
  same = new ≡ old;
  old = looked_up old;
  new = looked_up new;
  faults = record { old = 0; new = 0 };
}

abbrev pub memory_sink : Written → Written → Lent (List ℕ)
memory_sink old new = record {
  tells = Unit {0};
  same = new ≡ old;
  old = old.bytes;
  new = new.bytes;
  faults = record { old = old.faults; new = new.faults };
}

abbrev pub memory_disk : History → History → LentDisk
memory_disk old new = record {
  tells = Unit {0};
  same = new ≡ old;
  old = view_of old;
  new = view_of new;
  faults = record { old = 0; new = 0 };
}

-- a disk that stops
abbrev pub fuse_disk : Fuse → Fuse → LentDisk
fuse_disk old new = record {
  tells = Unit {0};
  same = new ≡ old;
  old = view_of old.disk;
  new = view_of new.disk;
  faults = record { old = old.faults; new = new.faults };
}

-- one that passes so many calls
abbrev pub fused : History → ℕ → Fuse
fused disk calls = record { disk = disk; calls = calls; faults = 0 }

abbrev pub carried : Carried → Wired (IsTrue true)
carried wire = record {
  queue = sent_queue wire;
  received = wire.received;
  sum = carried_sum wire;
}

abbrev pub memory_wire : Carried → Carried → LentWire
memory_wire old new = record {
  tells = IsTrue true;
  same = new ≡ old;
  old = carried old;
  new = carried new;
  faults = record { old = 0; new = 0 };
}

-- ---- starts

-- what passes from start to start: the shelf's files, the disk, the seed that the turns were begun
-- from last, what was printed to, and the meter
pub record Stage : Type 0 where
  pub files : List (List ℕ × List ℕ)
  pub disk : History
  pub begun : Option ℕ
  pub sink : Written
  pub meter : ℕ

abbrev pub stage : List (List ℕ × List ℕ) → History → Option ℕ → Written → ℕ → Stage
stage files disk begun sink meter =
    record { files = files; disk = disk; begun = begun; sink = sink; meter = meter }

-- routines: their rules, and what they say of themselves
pub record Routines : Type 0 where
  pub rules : List Rule
  pub specs : List Spec

abbrev pub routines_of : List Rule → List Spec → Routines
routines_of rules specs = record { rules = rules; specs = specs }

-- a call of the top call, over this disk and this wire
abbrev pub call_over : Routines → List (List ℕ) → Stage → Stage → LentDisk → Folders → LentWire
    → Call
call_over routines words before after disk folders wire = record {
  words = words;
  shelf = memory_shelf before.files after.files;
  work = record {
    rules = routines.rules;
    specs = routines.specs;
    disk = disk;
    folders = folders;
    wire = wire;
    meter = record { old = before.meter; new = after.meter };
  };
  begun = after.begun;
}

-- a start with these words over a disk, with a new wire for 512 parts: the top call
pub record IsStarted (routines : Routines) (words : List (List ℕ)) (before after : Stage)
    (disk : LentDisk) (folders : Folders) (status : ℕ) : Type 0 where
  pub wire : Carried
  pub wire_after : Carried
  pub new : wire ≡ new_wire 512
  pub obeys : Obeys
      (call_over routines words before after disk folders (memory_wire wire wire_after))
      (memory_sink before.sink after.sink) status

-- One that is stopped: its disk fails after so many calls, and the next start finds the image of
-- that choice among those that a crash may then leave.
pub record IsStopped (routines : Routines) (stop : Stop) (before after : Stage) : Type 0 where
  pub fuse : Fuse
  pub fuse_is : fuse ≡ fused before.disk stop.calls
  pub left : Fuse
  pub status : ℕ
  pub started : IsStarted routines stop.words before after (fuse_disk fuse left)
      left.disk.folders status
  pub image : IsImageOf (view_of left.disk) after.disk
  pub chosen : IsChosenOf stop.choice left.disk after.disk

-- one after another
abbrev pub AreStopped : Routines → List Stop → Stage → Stage → Type 0
AreStopped routines [] before after = after ≡ before
AreStopped routines (stop ∷ stops) before after =
    (next : Stage) × IsStopped routines stop before next × AreStopped routines stops next after

-- and then one on what they leave, which isn't stopped
pub record RunsThrough (routines : Routines) (words : List (List ℕ)) (stops : List Stop)
    (before after : Stage) (status : ℕ) : Type 0 where
  pub found : Stage
  pub stopped : AreStopped routines stops before found
  pub last : IsStarted routines words found after (memory_disk found.disk after.disk)
      after.disk.folders status

-- ---- the jobs that they are of

-- words ask for the run of the job that these files make
pub record AsksFor (words : List (List ℕ)) (files : Held) (specs : List Spec) (job : Job)
    : Type 0 where
  pub request : Request
  pub asks : asked words ≡ Some request
  pub runs : Runs request.command
  pub makes : Made request.file specs (files_for files request.command) (Ok job)

-- jobs that differ only in how and where they are run
abbrev pub AreAlike : Job → Job → Type 0
AreAlike a b = (c : ℕ) → AreAlikeTo c a b

-- The words of stopped starts ask for jobs, from the first one to that of the last start, each
-- alike to the next.
abbrev pub AskInTurn : Held → List Spec → List Stop → Job → Job → Type 0
AskInTurn files specs [] first last = first ≡ last
AskInTurn files specs (stop ∷ stops) first last =
    AsksFor stop.words files specs first
    × ((next : Job) × AreAlike first next × AskInTurn files specs stops next last)

-- From trails of the first job, they leave trails of the last one; and where the last start comes
-- to an end, what its undivided run leaves, and its end.
abbrev pub EndsAsOne : Routines → List (List ℕ) → List Stop → List (List ℕ × List ℕ) → History
    → History → ℕ → Type 0
EndsAsOne routines words stops files disk left status = (first last : Job)
    → AskInTurn (looked_up files) routines.specs stops first last
    → AsksFor words (looked_up files) routines.specs last
    → AreTrails (course_in first routines.rules) (view_of disk)
    → AreTrails (course_in last routines.rules) (view_of left)
    × Ends last routines.rules status (view_of left)
