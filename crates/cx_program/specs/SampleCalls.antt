-- A call of the program: of the top call with the routines of the sample thorns.
use Rattle.std.specs.Prelude.{ℕ, List, Option}
use Rattle.cx_job_files.specs.declared.shelf.Shelf.{Ghosts as ShelfGhosts}
use Rattle.cx_disk.specs.declared.disk.Disk.{Ghosts as DiskGhosts}
use Rattle.cx_wire.specs.declared.wire.Wire.{Ghosts as WireGhosts}
use Rattle.cx_run.specs.Calls.{Call, Lent, called_with}
use Rattle.cx_job_files.specs.Shelf.{Held}
use Rattle.cx_several.specs.Batches.{Batch, batch_with}
use Rattle.cx_program.specs.Samples.{sample_rules, sample_specs}

-- with these words, over these devices, each before and after the call, as the meter is, and with
-- the seed that the turns were begun from
abbrev pub sample_call :
    {H D W : Type 0} → ShelfGhosts H → DiskGhosts D → WireGhosts W
    → List (List ℕ) → H → H → D → D → W → W → ℕ → ℕ → Option ℕ → Call
sample_call h d w = called_with sample_rules sample_specs h d w

-- the same of several files
abbrev pub sample_batch :
    {D W : Type 0} → DiskGhosts D → WireGhosts W → Lent Held → List D → List D → List W → List W
    → ℕ → ℕ → Option ℕ → Type 0 → Batch D W
sample_batch d w = batch_with sample_rules sample_specs d w
