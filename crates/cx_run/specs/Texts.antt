-- What the top call prints.
use Rattle.std.specs.Prelude.{ℕ, ℤ, List, [], ◌∷◌, ◌++◌, codes}
use Rattle.std.specs.Fmt.{decimal}
use Rattle.cx_plan.specs.declared.job.Job.{Job}
use Rattle.cx_model.specs.declared.ends.End.{End}
use Rattle.cx_model.specs.declared.ends.End.TheVariants as ends
use Rattle.cx_cut.specs.Faults.{parts_of}
use Rattle.cx_keep.specs.declared.fault.BeginFault.{BeginFault}
use Rattle.cx_keep.specs.declared.fault.BeginFault.TheVariants as begins
use Rattle.cx_run_made.specs.Summaries.{summary}
use Rattle.cx_run.specs.CutTexts.{cut_lines, parts_text}
use Rattle.cx_run.specs.FaultWords.{spaced, or_dash}
use Rattle.cx_run.specs.declared.words.Command.{Command}
use Rattle.cx_run.specs.declared.words.Command.TheVariants as commands

abbrev pub done_text : ℕ → List ℕ
done_text iteration = codes "done: iteration " ++ decimal iteration ++ 10 ∷ []

-- and of one that was made, by the length of its outputs and how many cells live at the end
abbrev pub made_text : ℕ → ℕ → ℕ → ℕ → ℤ → List ℕ
made_text iteration seed size output live =
    done_text iteration ++ summary seed size output live

-- the words of an end: its name, its iteration and its path
abbrev pub end_words : End → List ℕ
end_words ends.Done = codes "Done"
end_words (ends.Overflow iteration path) =
    spaced (codes "Overflow" ∷ decimal iteration ∷ or_dash path ∷ [])
end_words (ends.WhileLimit iteration path) =
    spaced (codes "WhileLimit" ∷ decimal iteration ∷ or_dash path ∷ [])
end_words (ends.OutputLimit iteration) = spaced (codes "OutputLimit" ∷ decimal iteration ∷ [])

-- what is printed of a run that came to another end than Done
abbrev pub ended_text : End → List ℕ
ended_text end = codes "ended: " ++ end_words end ++ 10 ∷ []

-- the words of a start that was refused; the two lines in which keys differ stand on lines of their
-- own
abbrev pub begin_words : BeginFault → List ℕ
begin_words begins.Disk = codes "Disk"
begin_words begins.NoCheckpoint = codes "NoCheckpoint"
begin_words (begins.OtherJob kept own) = codes "OtherJob" ++ 10 ∷ kept ++ 10 ∷ own
begin_words (begins.Damaged slot) = spaced (codes "Damaged" ∷ decimal slot ∷ [])
begin_words (begins.OutputShort has recorded) =
    spaced (codes "OutputShort" ∷ decimal has ∷ decimal recorded ∷ [])
begin_words (begins.OldTooLong recorded most) =
    spaced (codes "OldTooLong" ∷ decimal recorded ∷ decimal most ∷ [])
begin_words begins.Memory = codes "Memory"

-- what is printed of it
abbrev pub recovery_text : BeginFault → List ℕ
recovery_text fault = codes "recovery: " ++ begin_words fault ++ 10 ∷ []

abbrev pub accepted_text : List ℕ
accepted_text = codes "accepted" ++ 10 ∷ []

-- what a command without a run prints where the file makes a job: of `schedule` the plan, of
-- `describe` the key, the other parameters and the cut, of `parts` the parts of the grid
abbrev pub command_text : Command → Job → List ℕ
command_text commands.Run job = []
command_text (commands.Make seed size) job = []
command_text commands.Chunk job = []
command_text commands.Recombine job = []
command_text commands.Check job = accepted_text
command_text commands.Schedule job = job.plan_text
command_text commands.Describe job =
    job.key ++ job.starred ++ cut_lines (parts_of job.shape job.cut)
command_text commands.Parts job = parts_text (parts_of job.shape job.cut)

abbrev pub usage_text : List ℕ
usage_text =
    codes "usage: cactus run FILE [--turns SEED]" ++ 10
    ∷ codes "       cactus check FILE" ++ 10
    ∷ codes "       cactus schedule FILE" ++ 10
    ∷ codes "       cactus describe FILE" ++ 10
    ∷ codes "       cactus parts FILE" ++ 10
    ∷ codes "       cactus make SEED SIZE" ++ 10
    ∷ codes "       cactus chunk FILE" ++ 10
    ∷ codes "       cactus recombine FILE" ++ 10
    ∷ codes "       cactus batch FILE FILE [FILE ...]" ++ 10
    ∷ []

abbrev pub shelf_text : List ℕ
shelf_text = codes "device: shelf" ++ 10 ∷ []

abbrev pub disk_text : List ℕ
disk_text = codes "device: disk" ++ 10 ∷ []

abbrev pub wire_text : List ℕ
wire_text = codes "device: wire" ++ 10 ∷ []

abbrev pub memory_text : List ℕ
memory_text = codes "memory" ++ 10 ∷ []
