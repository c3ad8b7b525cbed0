-- The order of a run, as a whole list of stages.
use Rattle.std.specs.Prelude.{ℕ, zero, suc, ◌+◌, ◌-◌, List, [], ◌∷◌, ◌++◌, map, if◌then◌else◌}
use Rattle.std.specs.List.{flat_map, range_with_len}
use Rattle.cx_plan.specs.Setups.{Setup}
use Rattle.cx_plan.specs.Dues.{is_due, is_written}
use Rattle.cx_plan.specs.Lookups.{CHECKPOINT, ANALYSIS, start_bins, step_bins, end_bins}

-- a stage of a run
pub data Stage : Type 0 where
  -- a bin in an iteration
  Bin : (bin iteration : ℕ) → Stage
  -- the levels are rotated
  Rotate : Stage
  -- the checkpoint place of an iteration
  Save : ℕ → Stage
  -- the output of an iteration
  Write : ℕ → Stage

-- a bin in an iteration, as a stage
abbrev pub in_iteration : ℕ → ℕ → Stage
in_iteration n b = Bin b n

-- several bins in an iteration
abbrev pub bins : List ℕ → ℕ → List Stage
bins bs n = map (in_iteration n) bs

-- where a checkpoint is due, its bin and its place
abbrev pub checkpoint : Setup → ℕ → List Stage
checkpoint setup n = if is_due setup n then Bin CHECKPOINT n ∷ Save n ∷ [] else []

-- an iteration before ANALYSIS, and from it on; iteration 0 is the start
abbrev pub before_analysis : Setup → ℕ → List Stage
before_analysis setup zero = bins start_bins 0
before_analysis setup (suc n) =
    Rotate ∷ bins step_bins (suc n) ++ checkpoint setup (suc n)

abbrev pub from_analysis : Setup → ℕ → List Stage
from_analysis setup n = Bin ANALYSIS n ∷ (if is_written setup n then Write n ∷ [] else [])

-- a whole iteration
abbrev pub iteration : Setup → ℕ → List Stage
iteration setup n = before_analysis setup n ++ from_analysis setup n

-- so many iterations behind this one, and the end of the run
abbrev pub rest_behind : Setup → ℕ → ℕ → List Stage
rest_behind setup c count =
    flat_map (iteration setup) (range_with_len (c + 1) count) ++ bins end_bins setup.itlast

-- the whole run
abbrev pub stages : Setup → List Stage
stages setup = iteration setup 0 ++ rest_behind setup 0 setup.itlast

-- the rest of a run that is continued from the checkpoint place of an iteration
abbrev pub stages_after : Setup → ℕ → List Stage
stages_after setup c = from_analysis setup c ++ rest_behind setup c (setup.itlast - c)
