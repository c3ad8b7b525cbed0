-- What a start comes to, test after test, by how the files read.
use Rattle.std.specs.Prelude.{ℕ, ◌+◌, ◌≡◌, ◌==◌, nat_le, List, [], ◌∷◌, length, map, take, slice_index, Option, Some, None, Result, Ok, Err, if◌then◌else◌}
use Rattle.cx_plan.specs.declared.job.Job.{Job}
use Rattle.cx_plan.specs.declared.job.Recover.{Recover}
use Rattle.cx_plan.specs.declared.job.Recover.TheVariants.{No, Auto, Autoprobe}
use Rattle.cx_plan.specs.Setups.{setup_of}
use Rattle.cx_outputs.specs.Names.{full_names, output_count, output_names}
use Rattle.cx_ascii_read.specs.Splitting.{split_of}
use Rattle.cx_disk.specs.Disk.{Files}
use Rattle.cx_chk.specs.declared.checkpoint.Checkpoint.{Checkpoint}
use Rattle.cx_chk.specs.Encoding.{SpellsSlot}
use Rattle.cx_chk.specs.Reading.{decoded}
use Rattle.cx_disk.specs.Files.{slot_count, old_output_file}
use Rattle.cx_chk.specs.Slots.{newest_below}
use Rattle.cx_keep.specs.declared.fault.BeginFault.{BeginFault}
use Rattle.cx_keep.specs.declared.fault.BeginFault.TheVariants as faults
use Rattle.cx_keep.specs.Fits.{fits_job}
use Rattle.cx_keep.specs.Agreement.{Agree, first_apart, lines_to}
use Rattle.cx_keep.specs.Trails.{file_of_output, with_key}

-- the first output from this one on that is shorter than recorded, as both lengths
abbrev pub short_from : ℕ → List ℕ → Files → Option (ℕ × ℕ)
short_from j [] files = None
short_from j (n ∷ ns) files = if nat_le n (length (files (file_of_output j)))
    then short_from (j + 1) ns files else Some (length (files (file_of_output j)), n)

abbrev pub short_in : Checkpoint → Files → Option (ℕ × ℕ)
short_in c files = short_from 0 c.lengths files

abbrev pub or_short : Checkpoint → Option (ℕ × ℕ) → Result Checkpoint BeginFault
or_short c None = Ok c
or_short c (Some s) = Err (faults.OutputShort s.0 s.1)

-- a slot's bytes spell a checkpoint under a key that agrees with its own up to its iteration
pub record SpellsAgreeing (bytes : List ℕ) (c : Checkpoint) : Type 0 where
  pub key : List ℕ
  pub agrees : Agree c.iteration key c.key
  pub spelled : SpellsSlot bytes (with_key key c)

-- ---- version 1

-- the greatest length of a former output that is split
abbrev pub greatest_former : ℕ
greatest_former = 268435456

-- a checkpoint of version 1 as one of version 2, with the outputs that its former output splits
-- into
abbrev pub renewed : Job → Checkpoint → List (List ℕ) → Checkpoint
renewed job c texts = record c {
  version = 2;
  names = output_names (setup_of job);
  lengths = map (λ (t : List ℕ). length t) texts;
}

-- the former output as far as a checkpoint of version 1 records it, split by the job's names
abbrev pub split_at : Job → ℕ → Files → Option (List (List ℕ))
split_at job count files = split_of (take count (files old_output_file)) (full_names (setup_of job))

-- it is such a one, with a text for each output
abbrev pub IsRenewal : Job → Checkpoint → Checkpoint → Type 0
IsRenewal job c now = (texts : List (List ℕ)) × (now ≡ renewed job c texts)
    × (length texts ≡ output_count (setup_of job))

-- it must be there, must not be too long, and must split
abbrev pub former_read : Files → ℕ → Result (List ℕ) BeginFault
former_read files count =
    if nat_le count (length (files old_output_file))
    then (if nat_le count greatest_former then Ok (take count (files old_output_file))
    else Err (faults.OldTooLong count greatest_former))
    else Err (faults.OutputShort (length (files old_output_file)) count)

abbrev pub or_damaged :
    Job → ℕ → Checkpoint → Option (List (List ℕ)) → Result Checkpoint BeginFault
or_damaged job slot c None = Err (faults.Damaged slot)
or_damaged job slot c (Some texts) = Ok (renewed job c texts)

abbrev pub former_split :
    Job → ℕ → Checkpoint → Result (List ℕ) BeginFault → Result Checkpoint BeginFault
former_split job slot c (Err e) = Err e
former_split job slot c (Ok bytes) =
    or_damaged job slot c (split_of bytes (full_names (setup_of job)))

abbrev pub former_judged : Job → Files → ℕ → Checkpoint → ℕ → Result Checkpoint BeginFault
former_judged job files slot c count = former_split job slot c (former_read files count)

-- the tests of the outputs, by the version
abbrev pub outputs_judged : Job → Files → ℕ → Checkpoint → Result Checkpoint BeginFault
outputs_judged job files slot c =
    if c.version == 2 then or_short c (short_in c files)
    else former_judged job files slot c (slice_index c.lengths 0)

-- the key must agree with the job's up to the checkpoint's iteration, and the job's is taken
abbrev pub under_own_key :
    Job → Checkpoint → Option (List ℕ × List ℕ) → Result Checkpoint BeginFault
under_own_key job c None = Ok (with_key job.key c)
under_own_key job c (Some lines) = Err (faults.OtherJob lines.0 lines.1)

abbrev pub key_judged : Job → Checkpoint → Result Checkpoint BeginFault
key_judged job c = under_own_key job c
    (first_apart (lines_to c.iteration c.key) (lines_to c.iteration job.key))

-- and then it must fit the job
abbrev pub fit_judged :
    Job → Files → ℕ → Result Checkpoint BeginFault → Result Checkpoint BeginFault
fit_judged job files slot (Err e) = Err e
fit_judged job files slot (Ok c) =
    if fits_job job c then outputs_judged job files slot c else Err (faults.Damaged slot)

-- the tests of what a slot spells, in their order
abbrev pub judged : Job → Files → ℕ → Option Checkpoint → Result Checkpoint BeginFault
judged job files slot None = Err (faults.Damaged slot)
judged job files slot (Some c) = fit_judged job files slot (key_judged job c)

abbrev pub tested : Job → Files → ℕ → Result Checkpoint BeginFault
tested job files slot = judged job files slot (decoded (files slot))

abbrev pub resumed : Result Checkpoint BeginFault → Result (Option Checkpoint) BeginFault
resumed (Ok c) = Ok (Some c)
resumed (Err e) = Err e

-- what a start comes to: with no checkpoint, with one, or its fault
abbrev pub begun_from : Job → Files → Recover → Option (ℕ × ℕ)
    → Result (Option Checkpoint) BeginFault
begun_from job files No newest = Ok None
begun_from job files Auto None = Err faults.NoCheckpoint
begun_from job files Autoprobe None = Ok None
begun_from job files Auto (Some found) = resumed (tested job files found.0)
begun_from job files Autoprobe (Some found) = resumed (tested job files found.0)

abbrev pub begun : Job → Files → Result (Option Checkpoint) BeginFault
begun job files = begun_from job files job.recover (newest_below slot_count files)

-- an answer is what a start comes to, but for failures of the disk and want of memory
abbrev pub IsFaultOf : {A : Type 0} → BeginFault → Result A BeginFault → Type 0
IsFaultOf faults.Disk start = Unit {0}
IsFaultOf faults.Memory start = Unit {0}
IsFaultOf faults.NoCheckpoint start = start ≡ Err faults.NoCheckpoint
IsFaultOf (faults.OtherJob a b) start = start ≡ Err (faults.OtherJob a b)
IsFaultOf (faults.Damaged slot) start = start ≡ Err (faults.Damaged slot)
IsFaultOf (faults.OutputShort a b) start = start ≡ Err (faults.OutputShort a b)
IsFaultOf (faults.OldTooLong a b) start = start ≡ Err (faults.OldTooLong a b)

abbrev pub Answers : {A B : Type 0} → (A → B) → Result A BeginFault → Result B BeginFault → Type 0
Answers seen (Ok x) start = start ≡ Ok (seen x)
Answers seen (Err e) start = IsFaultOf e start
