-- The commands on chunks: what they come to, what they leave, and what is printed.
use Rattle.std.specs.Prelude.{◌≡◌, ◌⊎◌, ℕ, ◌+◌, List, [], ◌∷◌, ◌++◌, codes, Option, None, Some}
use Rattle.std.specs.Fmt.{decimal}
use Rattle.cx_plan.specs.Setups.{setup_of}
use Rattle.cx_plan.specs.declared.job.Job.{Job}
use Rattle.cx_cut.specs.Cuts.{part_count}
use Rattle.cx_disk.specs.Disk.{Files, IsNamed}
use Rattle.cx_disk.specs.Files.{chunk_count, chunk_file, recombined_file}
use Rattle.cx_disk.specs.Moments.{IsQuiet}
use Rattle.cx_outputs.specs.Names.{output_names}
use Rattle.cx_chunks.specs.declared.fault.ChunkFault.{ChunkFault}
use Rattle.cx_chunks.specs.declared.fault.ChunkFault.TheVariants as faults
use Rattle.cx_run_chunks.specs.declared.summary.Chunked.{Chunked}
use Rattle.cx_run_chunks.specs.declared.summary.Recombined.{Recombined}
use Rattle.cx_run_chunks.specs.Commands.{chunked_of, chunks_to_write, outputs_fault, parts_in, recombine_fault, recombined_of, whole_output}
use Rattle.cx_run_chunks.specs.Writing.{AreWritten, Writes}
use Rattle.cx_run_made.specs.Summaries.{words_line}
use Rattle.cx_run.specs.Calls.{Work, Runs}
use Rattle.cx_run.specs.FaultWords.{or_dash, spaced}
use Rattle.cx_run.specs.declared.words.Command.{Command}
use Rattle.cx_run.specs.declared.words.Command.TheVariants.{Run, Make, Chunk, Recombine, Check, Schedule, Describe, Parts}

-- ---- which commands

-- output is cut into chunks, or put together again
abbrev pub OnChunks : Command → Type 0
OnChunks Run = ⊥
OnChunks (Make seed size) = ⊥
OnChunks Chunk = Unit {0}
OnChunks Recombine = Unit {0}
OnChunks Check = ⊥
OnChunks Schedule = ⊥
OnChunks Describe = ⊥
OnChunks Parts = ⊥

-- the commands that use the disk: runs, and these
abbrev pub UsesDisk : Command → Type 0
UsesDisk command = Runs command ⊎ OnChunks command

-- ---- what comes of them

-- the first fault of the files that such a command reads
abbrev pub files_fault : Command → Job → Files → Option ChunkFault
files_fault Chunk job files = outputs_fault (setup_of job) files
files_fault Recombine job files = recombine_fault job files
files_fault command job files = None

-- `chunk` is done: each part's chunk is written and settled, no other file has changed, and this is
-- what it counts
pub record HasChunked (w : Work) (command : Command) (job : Job) (done : Chunked) : Type 0 where
  pub command_is : command ≡ Chunk
  pub no_fault : w.disk.tells → outputs_fault (setup_of job) w.disk.old.seen ≡ None
  pub done_is : w.disk.tells → done ≡ chunked_of job w.disk.old.seen
  pub written : w.disk.tells
      → AreWritten (chunk_file 0) (chunks_to_write job w.disk.old.seen) w.disk.new
  pub others : w.disk.tells
      → Writes (chunk_file 0) (part_count (parts_in job)) w.disk.old w.disk.new
  pub folders : IsNamed job.out_dir (output_names (setup_of job)) job.chk_dir w.folders

-- `recombine` is done: so is the whole output
pub record HasRecombined (w : Work) (command : Command) (job : Job) (done : Recombined) : Type 0
  where
    pub command_is : command ≡ Recombine
    pub no_fault : w.disk.tells → recombine_fault job w.disk.old.seen ≡ None
    pub done_is : w.disk.tells → done ≡ recombined_of job w.disk.old.seen
    pub written : w.disk.tells
        → AreWritten recombined_file (whole_output job w.disk.old.seen ∷ []) w.disk.new
    pub others : w.disk.tells → Writes recombined_file 1 w.disk.old w.disk.new
    pub folders : IsNamed job.out_dir (output_names (setup_of job)) job.chk_dir w.folders

-- the files have this fault, and no byte has changed
pub record HasFileFault (w : Work) (command : Command) (job : Job) (fault : ChunkFault) : Type 0
  where
    pub command_is : OnChunks command
    pub fault_is : w.disk.tells → files_fault command job w.disk.old.seen ≡ Some fault
    pub quiet : w.disk.tells → IsQuiet w.disk.old w.disk.new

-- whatever comes of it: no byte below the chunks has changed at any moment, and neither the wire
-- nor the meter was touched
pub record IsApart (w : Work) : Type 0 where
  pub disk : w.disk.tells → Writes (chunk_file 0) (chunk_count + 1) w.disk.old w.disk.new
  pub wire : w.wire.same
  pub meter : w.meter.new ≡ w.meter.old

-- the status that is due
abbrev pub status_by : Option ChunkFault → ℕ
status_by None = 0
status_by (Some fault) = 7

-- ---- texts

abbrev pub chunked_text : Chunked → List ℕ
chunked_text done = words_line
    (codes "chunked:" ∷ codes "parts" ∷ decimal done.parts
    ∷ codes "records" ∷ decimal done.records
    ∷ [])

abbrev pub recombined_text : Recombined → List ℕ
recombined_text done = words_line
    (codes "recombined:" ∷ codes "records" ∷ decimal done.records
    ∷ codes "bytes" ∷ decimal done.bytes
    ∷ [])

-- a fault's name and what it keeps
abbrev pub piece_words : List ℕ → ℕ → List ℕ → ℕ → List ℕ
piece_words fault part full iteration =
    spaced (fault ∷ decimal part ∷ or_dash full ∷ decimal iteration ∷ [])

abbrev pub chunk_fault_words : ChunkFault → List ℕ
chunk_fault_words (faults.NotOutput name) = spaced (codes "NotOutput" ∷ or_dash name ∷ [])
chunk_fault_words (faults.TooLong bytes most) =
    spaced (codes "TooLong" ∷ decimal bytes ∷ decimal most ∷ [])
chunk_fault_words (faults.Bad part) = spaced (codes "Bad" ∷ decimal part ∷ [])
chunk_fault_words (faults.Stranger part full iteration) =
    piece_words (codes "Stranger") part full iteration
chunk_fault_words (faults.Double part full iteration) =
    piece_words (codes "Double") part full iteration
chunk_fault_words (faults.Missing part full iteration) =
    piece_words (codes "Missing") part full iteration
chunk_fault_words faults.Memory = codes "Memory"

abbrev pub chunks_text : ChunkFault → List ℕ
chunks_text fault = codes "chunks: " ++ chunk_fault_words fault ++ 10 ∷ []
