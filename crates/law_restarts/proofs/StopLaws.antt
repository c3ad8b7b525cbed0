-- Starts that are stopped leave trails, and so the one after them ends as the undivided run.
use Rattle.std.proofs.Common.{◌≡◌, refl, sym, ◌∙◌, ap, inl, inr, ℕ, ◌+◌, ◌<◌, ◌≤◌, List, [], ◌∷◌, length, drop, get_or, Ok, subst, arith}
use Rattle.std.proofs.lemmas.List.{drop_more, drop_all, get_or_past}
use Rattle.cx_disk.specs.Disk.{Folders, View, IsView, SameFiles}
use Rattle.cx_disk.specs.Fuse.{Fuse}
use Rattle.cx_disk.specs.Image.{IsImageOf}
use Rattle.cx_disk.specs.Memory.{History, fresh, view_of}
use Rattle.cx_disk.specs.MemoryLaws.{sound_of}
use Rattle.cx_chk.specs.Slots.{header_of}
use Rattle.cx_plan.specs.declared.job.Job.{Job}
use Rattle.cx_rule.specs.Routine.{Rule}
use Rattle.cx_keep.specs.Resuming.{AreTrails}
use Rattle.cx_keep.specs.Trails.{Course, IsTrail}
use Rattle.cx_keep.proofs.Begins.{trail_same}
use Rattle.cx_job_files.specs.Shelf.{Held, looked_up}
use Rattle.cx_job.specs.Making.{Made}
use Rattle.cx_run_loop.specs.Lent.{LentDisk, LentWire}
use Rattle.law_course.specs.Starts.{course_in}
use Rattle.law_course.proofs.StartLaws.{empty_is_trail}
use Rattle.cx_run.specs.Calls.{Lent, Call, IsRun, AreTold, files_for, shelf_for}
use Rattle.cx_run.specs.Causes.{WereTrails}
use Rattle.cx_run.specs.Clauses.{Obeys}
use Rattle.cx_run.specs.declared.words.Command.{Command}
use Rattle.cx_run.specs.declared.words.Command.TheVariants.{Run, Make, Chunk, Recombine, Check, Schedule, Describe, Parts}
use Rattle.law_restarts.specs.Restarts.{Ends}
use Rattle.law_restarts.specs.Stops.{Stage, Routines, IsStarted, IsStopped, AreStopped, RunsThrough, AreAlike, AsksFor, AskInTurn, EndsAsOne, call_over, fuse_disk, memory_disk, memory_shelf, memory_sink, memory_wire}
use Rattle.law_restarts.specs.declared.stops.Stop.{Stop}
use Rattle.law_restarts.proofs.RestartLaws.{trail_of_other}
use Rattle.law_restarts.proofs.StageLaws.{made_rises}

-- ---- a disk without files

pub empty_trails :
    (job : Job) (rules : List Rule) (disk : History) → disk ≡ fresh []
    → AreTrails (course_in job rules) (view_of disk)
empty_trails job rules disk is =
    subst (λ (d : History). AreTrails (course_in job rules) (view_of d)) (sym is)
    (λ image now. empty_is_trail (course_in job rules) image
    (λ slot known. ap header_of (now slot ∙ get_or_past [] slot [] (omega arith))))

-- ---- one start

-- what a crash may leave after it is a trail
left_trails : (c : Call) (sink : Lent (List ℕ)) (status : ℕ) (job : Job) → Obeys c sink status
    → AreTold c → IsRun c job → IsView c.work.disk.old → IsView c.work.disk.new
    → WereTrails c.work job → AreTrails (course_in job c.work.rules) c.work.disk.new
left_trails c sink status job obeys told run old new trails image now =
    let leaves = obeys.trails told job run trails in
    elim (leaves.each c.work.disk.old.moment image (omega arith)
    (new.counts_now c.work.disk.old.moment image leaves.later now))
    as (λ _. IsTrail (course_in job c.work.rules) image)
    [ inl past ↦ trails image (old.only_now image past) | inr then ↦ then.trail ]

-- a disk of an image has that image alone
image_trails : (course : Course) (v : View) (disk : History) → IsImageOf v disk
    → AreTrails course v → AreTrails course (view_of disk)
image_trails course v disk is trails image now =
    let same : SameFiles (view_of disk).seen image =
    subst (λ (d : History). (view_of d).images image → SameFiles (view_of d).seen image)
    (sym is.unmounted) (λ same. same) now in
    trail_same course (view_of disk).seen image same (trails (view_of disk).seen is.left)

-- ---- what it is asked for

told_for : (old new : List (List ℕ × List ℕ)) (command : Command)
    → (shelf_for (memory_shelf old new) command).tells
told_for old new (Make seed size) = tt
told_for old new Run = tt
told_for old new Chunk = tt
told_for old new Recombine = tt
told_for old new Check = tt
told_for old new Schedule = tt
told_for old new Describe = tt
told_for old new Parts = tt

files_are : (old new : List (List ℕ × List ℕ)) (command : Command)
    → files_for (looked_up old) command ≡ (shelf_for (memory_shelf old new) command).old
files_are old new (Make seed size) = refl
files_are old new Run = refl
files_are old new Chunk = refl
files_are old new Recombine = refl
files_are old new Check = refl
files_are old new Schedule = refl
files_are old new Describe = refl
files_are old new Parts = refl

-- words that ask for a job ask a start for its run
run_of :
    (routines : Routines) (words : List (List ℕ)) (before after : Stage) (disk : LentDisk)
    (folders : Folders) (wire : LentWire) (job : Job)
    → AsksFor words (looked_up before.files) routines.specs job
    → IsRun (call_over routines words before after disk folders wire) job
run_of routines words before after disk folders wire job a = record {
  request = a.request;
  asks = a.asks;
  runs = a.runs;
  told = told_for before.files after.files a.request.command;
  makes = subst (λ (files : Held). Made a.request.file routines.specs files (Ok job))
      (files_are before.files after.files a.request.command) a.makes;
}

-- ---- all starts but the last

module _ (routines : Routines) where
  next_trails :
      (stop : Stop) (before after : Stage) (job next : Job) → IsStopped routines stop before after
      → AsksFor stop.words (looked_up before.files) routines.specs job → AreAlike job next
      → AreTrails (course_in job routines.rules) (view_of before.disk)
      → AreTrails (course_in next routines.rules) (view_of after.disk)
  next_trails stop before after job next is asks alike trails image now =
      let disk = fuse_disk is.fuse is.left in
      let wire = memory_wire is.started.wire is.started.wire_after in
      let call = call_over routines stop.words before after disk is.left.disk.folders wire in
      let run = run_of routines stop.words before after disk is.left.disk.folders wire job asks in
      let first : AreTrails (course_in job routines.rules) (view_of is.fuse.disk) =
      subst (λ (d : History). AreTrails (course_in job routines.rules) (view_of d))
      (sym (ap (λ (f : Fuse). f.disk) is.fuse_is)) trails in
      let left = left_trails call (memory_sink before.sink after.sink) is.status job
      is.started.obeys (tt, refl) run (sound_of is.fuse.disk) (sound_of is.left.disk) first in
      trail_of_other job next routines.rules image (made_rises job call run)
      (λ n newest. alike n)
      (image_trails (course_in job routines.rules) (view_of is.left.disk) after.disk is.image
      left image now)

  found_trails :
      (stops : List Stop) (before found : Stage) (first last : Job)
      → AreStopped routines stops before found
      → AskInTurn (looked_up before.files) routines.specs stops first last
      → AreTrails (course_in first routines.rules) (view_of before.disk)
      → (looked_up found.files ≡ looked_up before.files)
      × AreTrails (course_in last routines.rules) (view_of found.disk)
  found_trails [] before found first last is asks trails =
      subst (λ (s : Stage). (looked_up s.files ≡ looked_up before.files)
      × AreTrails (course_in last routines.rules) (view_of s.disk)) (sym is) (
        refl,
        subst (λ (j : Job). AreTrails (course_in j routines.rules) (view_of before.disk)) asks
            trails,
      )
  found_trails (stop ∷ stops) before found first last is asks trails =
      let next = is.0 in
      let stopped = is.1 in
      let held = stopped.started.obeys.kept.held tt in
      let job = asks.1 in
      let later = found_trails stops next found job.0 last is.2
      (subst (λ (files : Held). AskInTurn files routines.specs stops job.0 last) (sym held) job.2)
      (next_trails stop before next first job.0 stopped asks.0 job.1 trails) in
      (later.0 ∙ held, later.1)

  -- one more of them
  pub stopped_more :
      (stops : List Stop) (i : ℕ) (stop : Stop) (before next found : Stage) → i < length stops
      → stop ≡ get_or stops i stop → IsStopped routines stop before next
      → AreStopped routines (drop (i + 1) stops) next found
      → AreStopped routines (drop i stops) before found
  stopped_more stops i stop before next found within at is rest =
      subst (λ (ss : List Stop). AreStopped routines ss before found)
      (sym (drop_more stops i stop within ∙ ap (λ s. s ∷ drop (i + 1) stops) (sym at)))
      (next, is, rest)

  -- and none
  pub stopped_all :
      (stops : List Stop) (i : ℕ) (found : Stage) → length stops ≤ i
      → AreStopped routines (drop i stops) found found
  stopped_all stops i found past =
      subst (λ (ss : List Stop). AreStopped routines ss found found)
      (sym (drop_all i stops past)) refl

  -- ---- the last one

  last_ends :
      (words : List (List ℕ)) (found after : Stage) (status : ℕ) (job : Job)
      → IsStarted routines words found after (memory_disk found.disk after.disk)
      after.disk.folders status
      → AsksFor words (looked_up found.files) routines.specs job
      → AreTrails (course_in job routines.rules) (view_of found.disk)
      → AreTrails (course_in job routines.rules) (view_of after.disk)
      × Ends job routines.rules status (view_of after.disk)
  last_ends words found after status job is asks trails =
      let disk = memory_disk found.disk after.disk in
      let wire = memory_wire is.wire is.wire_after in
      let call = call_over routines words found after disk after.disk.folders wire in
      let run = run_of routines words found after disk after.disk.folders wire job asks in
      let leaves = is.obeys.run (tt, refl) job run (inl trails) in (
        left_trails call (memory_sink found.sink after.sink) status job is.obeys (tt, refl) run
            (sound_of found.disk) (sound_of after.disk) trails,
        record {
          output = leaves.output;
          last_is = leaves.last;
          done = leaves.done;
          ended = leaves.ended;
        },
      )

  pub ends_as_one :
      (words : List (List ℕ)) (stops : List Stop) (before after : Stage) (status : ℕ)
      → RunsThrough routines words stops before after status
      → EndsAsOne routines words stops before.files before.disk after.disk status
  ends_as_one words stops before after status through first last in_turn asks trails =
      let found = found_trails stops before through.found first last through.stopped in_turn
      trails in
      last_ends words through.found after status last through.last
      (subst (λ (files : Held). AsksFor words files routines.specs last) (sym found.0) asks)
      found.1
