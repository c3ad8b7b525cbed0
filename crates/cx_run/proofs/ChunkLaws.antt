-- The commands on chunks: what comes of them, and what they leave.
use Rattle.std.proofs.Common.{◌≡◌, ◌≢◌, ◌⊎◌, ◌∙◌, ℕ, ◌+◌, ◌<◌, ◌≤◌, Bool, true, false, List, [], ◌∷◌, length, Option, Some, Result, Ok, Err, IfOk, inl, inr, refl, sym, ap, subst, arith}
use Rattle.std.specs.Prelude.{IfErr, OnOk}
use Rattle.cx_plan.specs.Setups.{setup_of}
use Rattle.cx_plan.specs.declared.job.Job.{Job}
use Rattle.cx_cut.specs.Cuts.{part_count}
use Rattle.cx_disk.specs.Cause.{HasCause}
use Rattle.cx_disk.specs.Disk.{Files, IsNamed, LeavesOnly, View}
use Rattle.cx_disk.specs.Files.{chunk_count, chunk_file, old_output_file, output_limit, recombined_file}
use Rattle.cx_disk.specs.Moments.{IsQuiet}
use Rattle.cx_disk.proofs.Moments.{weaker}
use Rattle.cx_outputs.specs.Names.{output_names}
use Rattle.cx_chk.specs.Slots.{header_of, is_second}
use Rattle.cx_chk.specs.declared.checkpoint.Checkpoint.{Checkpoint}
use Rattle.cx_keep.specs.Resuming.{AreTrails}
use Rattle.cx_keep.specs.Trails.{Course, GoesAsFar, IsOfRun, IsTrail, Reaches, file_of_output, former_length, length_in, text_of}
use Rattle.cx_run_loop.specs.Lent.{HasRisen}
use Rattle.cx_chunks.specs.declared.fault.ChunkFault.{ChunkFault}
use Rattle.cx_chunks.specs.declared.fault.ChunkFault.TheVariants as faults
use Rattle.cx_run_chunks.specs.declared.fault.ChunksFault.{ChunksFault}
use Rattle.cx_run_chunks.specs.declared.fault.ChunksFault.TheVariants as stops
use Rattle.cx_run_chunks.specs.declared.summary.Chunked.{Chunked}
use Rattle.cx_run_chunks.specs.declared.summary.Recombined.{Recombined}
use Rattle.cx_run_chunks.specs.Commands.{chunked_of, chunks_to_write, outputs_fault, parts_in, recombine_fault, recombined_of, whole_output}
use Rattle.cx_run_chunks.specs.Faults.{Finds, IsFaultOf, IsRefusal}
use Rattle.cx_run_chunks.specs.Writing.{AreWritten, Writes}
use Rattle.cx_run_chunks.proofs.WriteLaws.{only_quiet, writes_within}
use Rattle.cx_run.specs.Answers.{answer_to_chunk, answer_to_recombine, answer_to_stop}
use Rattle.cx_run.specs.Calls.{IsStill, Runs, Work}
use Rattle.cx_run.specs.Causes.{Comes, ComesTo}
use Rattle.cx_run.specs.Chunks.{HasFileFault, IsApart, OnChunks, files_fault}
use Rattle.cx_run.specs.declared.reply.Answer.{Answer}
use Rattle.cx_run.specs.declared.words.Command.{Command}
use Rattle.cx_run.specs.declared.words.Command.TheVariants as commands

-- ---- which commands

pub not_both : (command : Command) → Runs command → OnChunks command → ⊥
not_both commands.Run runs on = on
not_both (commands.Make seed size) runs on = on
not_both commands.Chunk runs on = runs
not_both commands.Recombine runs on = runs
not_both commands.Check runs on = on
not_both commands.Schedule runs on = on
not_both commands.Describe runs on = on
not_both commands.Parts runs on = on

pub is_chunk : (command : Command) → command ≡ commands.Chunk → OnChunks command
is_chunk command is = subst (λ (k : Command). OnChunks k) (sym is) tt

pub is_recombine : (command : Command) → command ≡ commands.Recombine → OnChunks command
is_recombine command is = subst (λ (k : Command). OnChunks k) (sym is) tt

pub not_chunk : (command : Command) → command ≡ commands.Chunk → Runs command → ⊥
not_chunk command is runs = not_both command runs (is_chunk command is)

pub not_recombine : (command : Command) → command ≡ commands.Recombine → Runs command → ⊥
not_recombine command is runs = not_both command runs (is_recombine command is)

-- ---- what they leave

-- what wasn't touched is as it was
pub still_apart : (w : Work) → IsStill w → IsApart w
still_apart w still = record {
  disk = λ tells. only_quiet (chunk_file 0) (chunk_count + 1) w.disk.old w.disk.new
      (still.quiet tells);
  wire = still.wire;
  meter = still.meter;
}

-- the same files below the chunks
abbrev SameBelow : Files → Files → Type 0
SameBelow before image = (file : ℕ) → file < 1024 → image file ≡ before file

reaches_stays : (course : Course) (before image : Files) → length course.outputs ≤ 256
    → SameBelow before image → (second : Bool) (c : Checkpoint) → Reaches course second c before
    → Reaches course second c image
reaches_stays course before image few same true c reaches = λ j lt.
    subst (λ (bytes : List ℕ). GoesAsFar (length_in c j) (text_of course j) bytes)
    (sym (same (file_of_output j) (omega arith))) (reaches j lt)
reaches_stays course before image few same false c reaches =
    subst (λ (bytes : List ℕ). GoesAsFar (former_length c) course.former bytes)
    (sym (same old_output_file (omega arith))) reaches

-- a trail looks at files below the chunks alone
pub trail_stays : (course : Course) (before image : Files) → length course.outputs ≤ output_limit
    → SameBelow before image → IsTrail course before → IsTrail course image
trail_stays course before image few same trail slot n lt header =
    let here : image slot ≡ before slot = same slot (omega arith) in
    let was = trail slot n lt (sym (ap header_of here) ∙ header) in
    subst (λ (bytes : List ℕ). (s : IsOfRun course bytes)
    × Reaches course (is_second bytes) s.checkpoint image) (sym here) (
      was.0,
      reaches_stays course before image few same (is_second (before slot)) was.0.checkpoint
          was.1,
    )

pub trails_stay : (old new : View) (course : Course) → length course.outputs ≤ output_limit
    → Writes (chunk_file 0) (chunk_count + 1) old new → AreTrails course old
    → LeavesOnly old new (IsTrail course)
trails_stay old new course few writes trails =
    weaker (IsTrail course) writes.moments (λ image from.
    trail_stays course from.0 image few (λ file lt. from.2 file (inl lt)) (trails from.0 from.1))

-- ---- what comes of them

-- what a command on chunks ensures: the fault of the files, what it tells, the files that it writes
-- from this one on, and their texts
pub record Does {X : Type 0} (w : Work) (job : Job) (fault : Files → Option ChunkFault)
    (value : Files → X) (first count : ℕ) (texts : Files → List (List ℕ))
    (came : Result X ChunksFault) : Type 0 where
  pub told : w.disk.tells → Finds (fault w.disk.old.seen) came
  pub value_is : w.disk.tells → IfOk came (λ done. done ≡ value w.disk.old.seen)
  pub written : w.disk.tells
      → OnOk came (AreWritten first (texts w.disk.old.seen) w.disk.new)
  pub writes : w.disk.tells → Writes first count w.disk.old w.disk.new
  pub refused : w.disk.tells
      → IfErr came (λ e. IsRefusal e → IsQuiet w.disk.old w.disk.new)
  pub folders : OnOk came
      (IsNamed job.out_dir (output_names (setup_of job)) job.chk_dir w.folders)
  pub cause : HasCause stops.Disk w.disk.faults.old w.disk.faults.new came
  pub wire : w.wire.same
  pub meter : w.meter.new ≡ w.meter.old

apart_by : (w : Work) (first count : ℕ)
    → (w.disk.tells → Writes first count w.disk.old w.disk.new) → w.wire.same
    → w.meter.new ≡ w.meter.old → 1024 ≤ first → first + count ≤ 1537 → IsApart w
apart_by w first count writes wire meter above within = record {
  disk = λ tells. writes_within first count (chunk_file 0) (chunk_count + 1) w.disk.old w.disk.new
      above within (writes tells);
  wire = wire;
  meter = meter;
}

module _ (w : Work) (command : Command) (job : Job) (on : OnChunks command) where
  file_fault : (fault : ChunkFault) → fault ≢ faults.Memory
      → (w.disk.tells → IsFaultOf (files_fault command job w.disk.old.seen) (stops.Chunks fault))
      → (w.disk.tells → IsRefusal (stops.Chunks fault) → IsQuiet w.disk.old w.disk.new)
      → HasFileFault w command job fault
  file_fault fault other told quiet = record {
    command_is = on;
    fault_is = λ tells. this (told tells);
    quiet = λ tells. quiet tells other;
  }
    where
      this : (fault ≡ faults.Memory)
          ⊎ (files_fault command job w.disk.old.seen ≡ Some fault)
          → files_fault command job w.disk.old.seen ≡ Some fault
      this (inl memory) = absurd (other memory)
      this (inr is) = is

  stop_comes : (stop : ChunksFault)
      → (w.disk.tells → IsFaultOf (files_fault command job w.disk.old.seen) stop)
      → (w.disk.tells → IsRefusal stop → IsQuiet w.disk.old w.disk.new)
      → (stop ≡ stops.Disk → HasRisen w.disk.faults)
      → Comes w command job (answer_to_stop stop)
  stop_comes stops.Disk told quiet rose = (inr on, rose refl)
  stop_comes (stops.Chunks faults.Memory) told quiet rose = λ other. absurd (other (inr on))
  stop_comes (stops.Chunks (faults.NotOutput name)) told quiet rose =
      file_fault (faults.NotOutput name) (λ e. absurd cc) told quiet
  stop_comes (stops.Chunks (faults.TooLong bytes most)) told quiet rose =
      file_fault (faults.TooLong bytes most) (λ e. absurd cc) told quiet
  stop_comes (stops.Chunks (faults.Bad part)) told quiet rose =
      file_fault (faults.Bad part) (λ e. absurd cc) told quiet
  stop_comes (stops.Chunks (faults.Stranger part full iteration)) told quiet rose =
      file_fault (faults.Stranger part full iteration) (λ e. absurd cc) told quiet
  stop_comes (stops.Chunks (faults.Double part full iteration)) told quiet rose =
      file_fault (faults.Double part full iteration) (λ e. absurd cc) told quiet
  stop_comes (stops.Chunks (faults.Missing part full iteration)) told quiet rose =
      file_fault (faults.Missing part full iteration) (λ e. absurd cc) told quiet

abbrev err_of : (X : Type 0) → ChunksFault → Result X ChunksFault
err_of X stop = Err stop

chunk_cause : (w : Work) (command : Command) (job : Job) (came : Result Chunked ChunksFault)
    → command ≡ commands.Chunk
    → Does w job (outputs_fault (setup_of job)) (chunked_of job) (chunk_file 0)
    (part_count (parts_in job)) (chunks_to_write job) came
    → Comes w command job (answer_to_chunk came)
chunk_cause w command job (Ok done) is does = record {
  command_is = is;
  no_fault = does.told;
  done_is = does.value_is;
  written = does.written;
  others = does.writes;
  folders = does.folders;
}
chunk_cause w command job (Err stop) is does =
    stop_comes w command job (is_chunk command is) stop
    (λ tells. subst (λ (k : Command). IsFaultOf (files_fault k job w.disk.old.seen) stop) (sym is)
    (does.told tells)) does.refused (λ e. does.cause.failed (ap (err_of Chunked) e))

recombine_cause : (w : Work) (command : Command) (job : Job)
    (came : Result Recombined ChunksFault) → command ≡ commands.Recombine
    → Does w job (recombine_fault job) (recombined_of job) recombined_file 1
    (λ files. whole_output job files ∷ []) came
    → Comes w command job (answer_to_recombine came)
recombine_cause w command job (Ok done) is does = record {
  command_is = is;
  no_fault = does.told;
  done_is = does.value_is;
  written = does.written;
  others = does.writes;
  folders = does.folders;
}
recombine_cause w command job (Err stop) is does =
    stop_comes w command job (is_recombine command is) stop
    (λ tells. subst (λ (k : Command). IsFaultOf (files_fault k job w.disk.old.seen) stop) (sym is)
    (does.told tells)) does.refused (λ e. does.cause.failed (ap (err_of Recombined) e))

pub chunk_comes : (w : Work) (command : Command) (job : Job)
    (came : Result Chunked ChunksFault) (answer : Answer) → command ≡ commands.Chunk
    → part_count (parts_in job) ≤ 512
    → Does w job (outputs_fault (setup_of job)) (chunked_of job) (chunk_file 0)
    (part_count (parts_in job)) (chunks_to_write job) came
    → answer ≡ answer_to_chunk came → ComesTo w command job answer
chunk_comes w command job came answer is few does same = record {
  cause = subst (λ (x : Answer). Comes w command job x) (sym same)
      (chunk_cause w command job came is does);
  begins = λ run. absurd (not_chunk command is run);
  trails = λ run. absurd (not_chunk command is run);
  within = λ run. absurd (not_chunk command is run);
  apart = λ on. apart_by w (chunk_file 0) (part_count (parts_in job)) does.writes does.wire
      does.meter (omega arith) (omega (arith, few));
}

pub recombine_comes : (w : Work) (command : Command) (job : Job)
    (came : Result Recombined ChunksFault) (answer : Answer) → command ≡ commands.Recombine
    → Does w job (recombine_fault job) (recombined_of job) recombined_file 1
    (λ files. whole_output job files ∷ []) came
    → answer ≡ answer_to_recombine came → ComesTo w command job answer
recombine_comes w command job came answer is does same = record {
  cause = subst (λ (x : Answer). Comes w command job x) (sym same)
      (recombine_cause w command job came is does);
  begins = λ run. absurd (not_recombine command is run);
  trails = λ run. absurd (not_recombine command is run);
  within = λ run. absurd (not_recombine command is run);
  apart = λ on. apart_by w recombined_file 1 does.writes does.wire does.meter (omega arith)
      (omega arith);
}
