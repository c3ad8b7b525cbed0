-- The answers of a call: their statuses and texts, and how they are said.
use Rattle.std.specs.Prelude.{◌≡◌, ◌⊎◌, ℕ, List, Some, None, Result, Ok, Err, IfOk}
use Rattle.cx_text.specs.declared.memory.Memory.{Memory}
use Rattle.cx_model.specs.declared.ends.End.{End}
use Rattle.cx_model.specs.declared.ends.End.TheVariants as ends
use Rattle.cx_job.specs.declared.fault.JobFault.{JobFault}
use Rattle.cx_job.specs.declared.fault.JobFault.TheVariants as faults
use Rattle.cx_core.specs.declared.answers.Outcome.{Outcome}
use Rattle.cx_core.specs.declared.answers.Outcome.TheVariants as outcomes
use Rattle.cx_run_loop.specs.Lent.{HasRisen}
use Rattle.cx_run_loop.specs.declared.fault.DriveFault.{DriveFault}
use Rattle.cx_run_loop.specs.declared.fault.DriveFault.TheVariants as stops
use Rattle.cx_core.specs.Cores.{Cores}
use Rattle.cx_core.specs.Hands.{last_number}
use Rattle.cx_keep.specs.Trails.{total}
use Rattle.cx_plan.specs.Setups.{setup_of}
use Rattle.cx_plan.specs.declared.job.Job.{Job}
use Rattle.cx_run_made.specs.Summaries.{live_variable}
use Rattle.cx_chunks.specs.declared.fault.ChunkFault.{ChunkFault}
use Rattle.cx_chunks.specs.declared.fault.ChunkFault.TheVariants as chunk_faults
use Rattle.cx_run_chunks.specs.declared.fault.ChunksFault.{ChunksFault}
use Rattle.cx_run_chunks.specs.declared.fault.ChunksFault.TheVariants as chunk_stops
use Rattle.cx_run_chunks.specs.declared.summary.Chunked.{Chunked}
use Rattle.cx_run_chunks.specs.declared.summary.Recombined.{Recombined}
use Rattle.cx_run.specs.Calls.{Lent, Runs, live_by}
use Rattle.cx_run.specs.Chunks.{OnChunks, UsesDisk, chunked_text, chunks_text, recombined_text}
use Rattle.cx_run.specs.declared.call.Way.{Way}
use Rattle.cx_run.specs.declared.call.Way.TheVariants as ways
use Rattle.cx_run.specs.declared.words.Command.{Command}
use Rattle.cx_run.specs.declared.words.Command.TheVariants.{Make, Chunk, Recombine}
use Rattle.cx_run.specs.FaultWords.{refused_text}
use Rattle.cx_run.specs.Sink.{Adds, AddsFront}
use Rattle.cx_run.specs.Texts.{command_text, done_text, made_text, ended_text, recovery_text, usage_text, shelf_text, disk_text, wire_text, memory_text}
use Rattle.cx_run.specs.Words.{Request, asked}
use Rattle.cx_run.specs.declared.reply.Answer.{Answer}
use Rattle.cx_run.specs.declared.reply.Answer.TheVariants as a

abbrev pub status_of : Answer → ℕ
status_of (a.Done iteration) = 0
status_of (a.Made iteration seed size output live) = 0
status_of (a.Text text) = 0
status_of a.Usage = 1
status_of (a.Refused fault) = 2
status_of (a.Ended end) = 3
status_of a.Shelf = 4
status_of a.Disk = 4
status_of a.Wire = 4
status_of a.Memory = 5
status_of (a.Recovery fault) = 6
status_of (a.Chunked done) = 0
status_of (a.Recombined done) = 0
status_of (a.Chunks fault) = 7

abbrev pub text_of : Answer → List ℕ
text_of (a.Done iteration) = done_text iteration
text_of (a.Made iteration seed size output live) = made_text iteration seed size output live
text_of (a.Text text) = text
text_of a.Usage = usage_text
text_of (a.Refused fault) = refused_text fault
text_of (a.Ended end) = ended_text end
text_of a.Shelf = shelf_text
text_of a.Disk = disk_text
text_of a.Wire = wire_text
text_of a.Memory = memory_text
text_of (a.Recovery fault) = recovery_text fault
text_of (a.Chunked done) = chunked_text done
text_of (a.Recombined done) = recombined_text done
text_of (a.Chunks fault) = chunks_text fault

-- ---- faults and ends as answers

-- a job's fault
abbrev pub answer_of : JobFault → Answer
answer_of faults.Shelf = a.Shelf
answer_of faults.Memory = a.Memory
answer_of fault = a.Refused fault

-- a text, or want of memory
abbrev pub answer_with : Result (List ℕ) Memory → Answer
answer_with (Ok text) = a.Text text
answer_with (Err e) = a.Memory

-- why a run stopped before its end
abbrev pub answer_for : DriveFault → Answer
answer_for (stops.Recovery fault) = a.Recovery fault
answer_for stops.Disk = a.Disk
answer_for stops.Wire = a.Wire
answer_for stops.Memory = a.Memory

-- the end of a run that is over
abbrev pub end_in : Outcome → End
end_in outcomes.Going = ends.Done
end_in outcomes.Done = ends.Done
end_in (outcomes.Overflow iteration path) = ends.Overflow iteration path
end_in (outcomes.WhileLimit iteration path) = ends.WhileLimit iteration path
end_in (outcomes.OutputLimit iteration) = ends.OutputLimit iteration

abbrev pub answer_at : ℕ → End → Answer
answer_at itlast ends.Done = a.Done itlast
answer_at itlast end = a.Ended end

-- a run that is done: `make` tells the length of its outputs, and how many cells live at the end
abbrev pub done_by : Command → Job → Cores → ℕ → Answer
done_by (Make seed size) job core iteration =
    a.Made iteration seed size (total core.lengths)
    (live_by (live_variable (setup_of job)) (last_number core))
done_by command job core iteration = a.Done iteration

abbrev pub summed : Command → Job → Cores → Answer → Answer
summed command job core (a.Done iteration) = done_by command job core iteration
summed command job core answer = answer

-- what comes of a run, or want of memory
abbrev pub AnswersRun : Command → Job → Result Cores DriveFault → Answer → Type 0
AnswersRun command job (Ok core) answer =
    (answer ≡ a.Memory)
    ⊎ (answer ≡ summed command job core (answer_at job.itlast (end_in core.outcome)))
AnswersRun command job (Err fault) answer = answer ≡ answer_for fault

-- why a command on chunks wasn't done
abbrev pub answer_to_fault : ChunkFault → Answer
answer_to_fault chunk_faults.Memory = a.Memory
answer_to_fault fault = a.Chunks fault

abbrev pub answer_to_stop : ChunksFault → Answer
answer_to_stop chunk_stops.Disk = a.Disk
answer_to_stop (chunk_stops.Chunks fault) = answer_to_fault fault

abbrev pub answer_to_chunk : Result Chunked ChunksFault → Answer
answer_to_chunk (Ok done) = a.Chunked done
answer_to_chunk (Err stop) = answer_to_stop stop

abbrev pub answer_to_recombine : Result Recombined ChunksFault → Answer
answer_to_recombine (Ok done) = a.Recombined done
answer_to_recombine (Err stop) = answer_to_stop stop

-- how a command is done with a job: it has a text, or uses the disk
abbrev pub IsWayOf : Command → Job → Way → Type 0
IsWayOf command job (ways.Told text) =
    (UsesDisk command → ⊥) × IfOk text (λ t. t ≡ command_text command job)
IsWayOf command job ways.Run = Runs command
IsWayOf command job ways.Chunk = command ≡ Chunk
IsWayOf command job ways.Recombine = command ≡ Recombine

-- ---- what is said

-- this status, with the whole of this text, where the sink tells it
pub record Says (sink : Lent (List ℕ)) (status : ℕ) (text : List ℕ) (result : ℕ) : Type 0 where
  pub status_is : result ≡ status
  pub count : sink.faults.new ≡ sink.faults.old
  pub text_is : sink.tells → Adds text sink.old sink.new

-- status 4, since the sink failed in this text, of which a front was written
pub record IsCutOff (sink : Lent (List ℕ)) (text : List ℕ) (result : ℕ) : Type 0 where
  pub status_is : result ≡ 4
  pub rose : HasRisen sink.faults
  pub front : sink.tells → AddsFront text sink.old sink.new

abbrev pub Said : Lent (List ℕ) → Answer → ℕ → Type 0
Said sink answer result =
    Says sink (status_of answer) (text_of answer) result ⊎ IsCutOff sink (text_of answer) result

-- an answer was said, or want of memory in its place
abbrev pub WasSaid : Lent (List ℕ) → Answer → ℕ → Type 0
WasSaid sink answer result = Said sink answer result ⊎ Said sink a.Memory result

-- ---- what a status says of the words

abbrev pub IsStatus : ℕ → Type 0
IsStatus status =
    (status ≡ 0) ⊎ ((status ≡ 1) ⊎ ((status ≡ 2)
    ⊎ ((status ≡ 3) ⊎ ((status ≡ 4) ⊎ ((status ≡ 5) ⊎ ((status ≡ 6) ⊎ (status ≡ 7)))))))

-- that of a command that doesn't use the disk
abbrev pub IsPlainStatus : ℕ → Type 0
IsPlainStatus status = (status ≡ 0) ⊎ ((status ≡ 2) ⊎ ((status ≡ 4) ⊎ (status ≡ 5)))

-- Where they ask for nothing it is 1, unless the sink failed or memory runs out, and only there;
-- 0, 2, 3, 6 and 7 come where they ask for something, 3 and 6 where they ask for a run, and 7 where
-- they ask for a command on chunks.
pub record IsStatusFor (words : List (List ℕ)) (status : ℕ) : Type 0 where
  pub known : IsStatus status
  pub wrong_use : asked words ≡ None → (status ≡ 1) ⊎ ((status ≡ 4) ⊎ (status ≡ 5))
  pub usage : status ≡ 1 → asked words ≡ None
  pub other : (status ≡ 0) ⊎ ((status ≡ 2) ⊎ ((status ≡ 3) ⊎ ((status ≡ 6) ⊎ (status ≡ 7))))
      → (r : Request) × (asked words ≡ Some r)
  pub plain : (r : Request) → asked words ≡ Some r → (UsesDisk r.command → ⊥)
      → IsPlainStatus status
  pub chunks : (r : Request) → asked words ≡ Some r → OnChunks r.command
      → IsPlainStatus status ⊎ (status ≡ 7)
  pub refused : (r : Request) → asked words ≡ Some r → status ≡ 7 → OnChunks r.command
