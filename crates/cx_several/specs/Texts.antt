-- What a batch prints.
use Rattle.std.specs.Prelude.{◌⊎◌, ℕ, nat_eq, List, [], ◌∷◌, ◌++◌, codes, Result, Ok, Err, if◌then◌else◌}
use Rattle.cx_text.specs.declared.memory.Memory.{Memory}
use Rattle.cx_job.specs.declared.fault.JobFault.TheVariants as jobs
use Rattle.cx_run.specs.Answers.{IsCutOff, Says}
use Rattle.cx_run.specs.Calls.{Lent}
use Rattle.cx_run.specs.FaultWords.{fault_words, refused_text}
use Rattle.cx_run.specs.Texts.{memory_text, shelf_text}
use Rattle.cx_several.specs.declared.fault.BatchFault.{BatchFault}
use Rattle.cx_several.specs.declared.fault.BatchFault.TheVariants as faults
use Rattle.cx_several.specs.declared.reply.Reply.{Reply}

-- ---- where the jobs aren't run

abbrev pub fault_status : BatchFault → ℕ
fault_status faults.Shelf = 4
fault_status (faults.Job file fault) = 2
fault_status (faults.SameFolder a b) = 2
fault_status (faults.Limit n) = 2
fault_status faults.Memory = 5

abbrev pub fault_text : BatchFault → List ℕ
fault_text faults.Shelf = shelf_text
fault_text (faults.Job file fault) =
    codes "refused: " ++ file ++ codes " " ++ (fault_words fault ++ 10 ∷ [])
fault_text (faults.SameFolder a b) =
    codes "refused: SameFolder " ++ a ++ codes " " ++ b ++ codes "\n"
fault_text (faults.Limit n) = refused_text (jobs.Limit (codes "batch cells") n)
fault_text faults.Memory = memory_text

-- ---- where they are

-- a file's name and what its run prints
abbrev pub line : List ℕ → List ℕ → List ℕ
line file text = file ++ codes ": " ++ text

abbrev pub lines : List (List ℕ) → List (List ℕ) → List ℕ
lines [] texts = []
lines (file ∷ files) [] = []
lines (file ∷ files) (text ∷ texts) = line file text ++ lines files texts

-- the first status that isn't 0, if there is one
abbrev pub status_in : List ℕ → ℕ
status_in [] = 0
status_in (status ∷ more) = if nat_eq status 0 then status_in more else status

-- ---- what is said

-- this status and the whole of this text, or a part of its front where the sink failed
abbrev pub IsSaid : Lent (List ℕ) → ℕ → List ℕ → ℕ → Type 0
IsSaid sink status text result = Says sink status text result ⊎ IsCutOff sink text result

-- that, or want of memory in its place
abbrev pub IsReplied : Lent (List ℕ) → ℕ → List ℕ → ℕ → Type 0
IsReplied sink status text result =
    IsSaid sink status text result ⊎ IsSaid sink 5 memory_text result

-- a reply was printed, or that memory is wanting
abbrev pub IsPut : Lent (List ℕ) → Result Reply Memory → ℕ → Type 0
IsPut sink (Ok reply) result = IsSaid sink reply.status reply.text result
IsPut sink (Err e) result = IsSaid sink 5 memory_text result
