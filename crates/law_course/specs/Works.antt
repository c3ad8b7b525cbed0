-- The works of a run as they go to its keeper: texts to the outputs' files, states to its slots.
use Rattle.std.specs.Prelude.{ℕ, ◌^◌, ◌<◌, ◌≤◌, ◌≡◌, ◌≢◌, List, [], ◌∷◌, ◌++◌, length, map, take, slice_index_or, Option, Some, None, IfSome}
use Rattle.cx_plan.specs.declared.variable.VarId.{VarId}
use Rattle.cx_plan.specs.Setups.{Setup}
use Rattle.cx_rule.specs.Routine.{Rule}
use Rattle.cx_rule.specs.States.{State}
use Rattle.cx_model.specs.Traces.{Entry, Turned, Overflowed, Exchanged, Tested, Rotated, Wrote, Saved}
use Rattle.cx_model.specs.Runs.{Lengths, output, output_of}
use Rattle.cx_outputs.specs.Names.{place_in}
use Rattle.cx_disk.specs.Disk.{Files}
use Rattle.cx_chk.specs.declared.checkpoint.Checkpoint.{Checkpoint}
use Rattle.cx_keep.specs.Beginning.{IsLater, length_left, newest_left}
use Rattle.cx_keep.specs.Trails.{Course, Has, IsNextPiece, text_of, length_in, file_of_output}
use Rattle.law_reached.specs.Works.{works_of}
use Rattle.law_course.specs.Courses.{checkpoint_of, checkpoints_in, course_of}
use Rattle.law_course.specs.Beginnings.{IsFound, run_from, lengths_found}

-- ---- where a run stands

-- a run of a setup and a key by these rules, from a checkpoint that its keeper found, or from its
-- start
pub record KeptRun : Type 0 where
  pub setup : Setup
  pub key : List ℕ
  pub rules : List Rule
  pub found : Option Checkpoint

abbrev pub kept_run : Setup → List ℕ → List Rule → Option Checkpoint → KeptRun
kept_run setup key rules found = record { setup = setup; key = key; rules = rules; found = found }

-- its course, its works, and what is there of the output where it begins
abbrev pub course_by : KeptRun → Course
course_by r = course_of r.setup r.key r.rules

abbrev pub works_by : KeptRun → List Entry
works_by r = works_of (run_from r.setup r.rules r.found).entries

abbrev pub output_found : KeptRun → VarId → List ℕ
output_found r v = take (lengths_found r.setup r.found v.0) (output r.setup r.rules v)

-- where some works are done: a variable's output is what was there where the run began, and the
-- texts that are done
abbrev pub text_done : KeptRun → List Entry → VarId → List ℕ
text_done r done v = output_found r v ++ output_of v done

abbrev pub lengths_done : KeptRun → List Entry → Lengths
lengths_done r done v = length (text_done r done (record { 0 = v }))

-- the j-th output
abbrev pub output_done : KeptRun → List Entry → ℕ → List ℕ
output_done r done j = slice_index_or (map (text_done r done) r.setup.out_vars) j []

-- of the works of a run some are done and the others are left
abbrev pub HasDone : KeptRun → List Entry → List Entry → Type 0
HasDone r done left = works_by r ≡ done ++ left

-- the outputs' files are so far
abbrev pub FilesAre : KeptRun → List Entry → Files → Type 0
FilesAre r done files = (j : ℕ) → j < length r.setup.out_vars
    → files (file_of_output j) ≡ output_done r done j

-- the first of some checkpoints, or none
abbrev pub first_of : List Checkpoint → Option Checkpoint
first_of [] = None
first_of (c ∷ cs) = Some c

-- the next checkpoint among the works that are left, behind those that are done
abbrev pub next_of : KeptRun → (done left : List Entry) → Option Checkpoint
next_of r done left = first_of (checkpoints_in r.setup r.key (lengths_done r done) left)

-- the iteration of the last checkpoint place among works that are done, or of that before them
abbrev pub newest_after : Option ℕ → List Entry → Option ℕ
newest_after newest [] = newest
newest_after newest (Saved iteration state ∷ es) = newest_after (Some iteration) es
newest_after newest (Wrote v iteration text state ∷ es) = newest_after newest es
newest_after newest (Turned k iteration state ∷ es) = newest_after newest es
newest_after newest (Overflowed k iteration state ∷ es) = newest_after newest es
newest_after newest (Exchanged vars path state ∷ es) = newest_after newest es
newest_after newest (Tested v path state ∷ es) = newest_after newest es
newest_after newest (Rotated state ∷ es) = newest_after newest es

-- the iteration of the newest checkpoint of a disk, by the one that was found and the works that
-- are done
abbrev pub newest_of : KeptRun → List Entry → Option ℕ
newest_of r done = newest_after (newest_left r.found) done

-- ---- one work

-- a text comes next in the j-th output's file, and the checkpoint that comes next stays the same
pub record PieceIsNext (r : KeptRun) (done left : List Entry) (work : Entry) (j : ℕ)
    (text : List ℕ) : Type 0 where
  pub piece : IsNextPiece (course_by r) (next_of r done (work ∷ left)) j text (output_done r done j)
  pub next : next_of r done (work ∷ left) ≡ next_of r (done ++ work ∷ []) left
  pub newest : newest_of r (done ++ work ∷ []) ≡ newest_of r done
  -- what the outputs are behind it: this one has the text at its end, and no other has changed
  pub this : output_done r (done ++ work ∷ []) j ≡ output_done r done j ++ text
  pub others : (i : ℕ) → i ≢ j → output_done r (done ++ work ∷ []) i ≡ output_done r done i

-- a checkpoint comes next on each disk whose outputs read so: it is what IsNextCheckpoint of
-- cx_keep says, without a view
pub record ComesNext (r : KeptRun) (done : List Entry) (c : Checkpoint) : Type 0 where
  pub of_run : Has (course_by r).checkpoints c
  pub version : c.version ≡ 2
  pub in_range : c.iteration < 2 ^ 64
  pub later : IfSome (newest_of r done) (λ n. n < c.iteration)
  pub lengths : (files : Files) → FilesAre r done files
      → (j : ℕ) → j < length (course_by r).outputs
      → length_in c j ≡ length (files (file_of_output j))

-- a checkpoint comes next, and records no longer outputs than the one behind it
pub record SaveIsNext (r : KeptRun) (done left : List Entry) (work : Entry)
    (c : Checkpoint) : Type 0 where
  pub next : next_of r done (work ∷ left) ≡ Some c
  pub comes : ComesNext r done c
  pub later : IsLater (course_by r) (Some c) (next_of r done left)
  pub newest : newest_of r (done ++ work ∷ []) ≡ Some c.iteration
  pub same : (j : ℕ) → output_done r (done ++ work ∷ []) j ≡ output_done r done j

-- ---- the first work, and behind the last one

-- where a run begins each output is as much as the checkpoint records that was found, and no
-- checkpoint of the run is of a shorter one
pub record IsBegun (r : KeptRun) : Type 0 where
  pub outputs : (j : ℕ) → j < length r.setup.out_vars
      → output_done r [] j ≡ take (length_left r.found j) (text_of (course_by r) j)
  pub lengths : (j : ℕ) → j < length r.setup.out_vars
      → length (output_done r [] j) ≡ length_left r.found j
  pub later : IsLater (course_by r) r.found (next_of r [] (works_by r))

-- a checkpoint of a course with this iteration, and no other one is later
pub record IsLast (course : Course) (iteration : ℕ) : Type 0 where
  pub checkpoint : Checkpoint
  pub of_run : Has course.checkpoints checkpoint
  pub iteration_is : checkpoint.iteration ≡ iteration
  pub greatest : (c : Checkpoint) → Has course.checkpoints c → c.iteration ≤ iteration

abbrev pub LastIs : Course → Option ℕ → Type 0
LastIs course None = course.checkpoints ≡ []
LastIs course (Some iteration) = IsLast course iteration

-- where nothing is left each output is whole, and the newest checkpoint is the last one of the run
pub record IsAllDone (r : KeptRun) (done : List Entry) : Type 0 where
  pub outputs : (j : ℕ) → j < length r.setup.out_vars
      → output_done r done j ≡ text_of (course_by r) j
  pub newest : LastIs (course_by r) (newest_of r done)

-- a newest checkpoint of at least this iteration
pub record IsAtLeast (newest : Option ℕ) (iteration : ℕ) : Type 0 where
  pub found : ℕ
  pub is : newest ≡ Some found
  pub least : iteration ≤ found

-- ---- the works of a run, from a checkpoint of its course or from its start

pub record WorksFollow (r : KeptRun) : Type 0 where
  pub begun : IsBegun r
  pub piece : (done left : List Entry) (v : VarId) (iteration : ℕ) (text : List ℕ) (state : State)
      → HasDone r done (Wrote v iteration text state ∷ left)
      → PieceIsNext r done left (Wrote v iteration text state) (place_in r.setup.out_vars v) text
  pub save : (done left : List Entry) (iteration : ℕ) (state : State)
      → HasDone r done (Saved iteration state ∷ left)
      → SaveIsNext r done left (Saved iteration state)
      (checkpoint_of r.setup r.key iteration state (lengths_done r done))
  pub all_done : (done : List Entry) → HasDone r done [] → IsAllDone r done
  -- no output is ever past the next checkpoint; and of one that isn't, each checkpoint that it is
  -- longer than is done
  pub within : (done left : List Entry) → HasDone r done left
      → IfSome (next_of r done left)
      (λ d. (j : ℕ) → j < length r.setup.out_vars
      → length (output_done r done j) ≤ length_in d j)
  pub pace : (done left : List Entry) (c : Checkpoint) (j count : ℕ) → HasDone r done left
      → j < length r.setup.out_vars
      → IfSome (next_of r done left) (λ d. count ≤ length_in d j)
      → Has (course_by r).checkpoints c → length_in c j < count
      → IsAtLeast (newest_of r done) c.iteration
  -- the newest checkpoint is never older than the one that was found
  pub not_behind : (done left : List Entry) (c : Checkpoint) → HasDone r done left
      → r.found ≡ Some c → IsAtLeast (newest_of r done) c.iteration

abbrev pub EachWorkFollows : Setup → List ℕ → List Rule → Type 0
EachWorkFollows setup key rules =
    (found : Option Checkpoint) → IsFound setup key rules found
    → WorksFollow (kept_run setup key rules found)
