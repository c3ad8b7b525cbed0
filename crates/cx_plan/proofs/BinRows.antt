-- The bins' names and counts, and the order of a run, as they stand in full.
use Rattle.std.specs.Prelude.{ℕ, ◌≡◌, refl, ◌<◌, [], ◌∷◌, map, length, codes}
use Rattle.std.specs.List.{range_with_len}
use Rattle.std.proofs.Common.{arith}
use Rattle.cx_plan.specs.Lookups.{start_bins, step_bins, end_bins, run_bins, bin_names, bin_name, bin_count, run_bin_count}

names : length bin_names ≡ bin_count
names = refl

runs : run_bins ≡ range_with_len 0 run_bin_count
runs = refl

starts : map bin_name start_bins
    ≡ codes "STARTUP" ∷ codes "WRAGH" ∷ codes "PARAMCHECK" ∷ codes "BASEGRID" ∷ codes "INITIAL"
    ∷ codes "POSTINITIAL" ∷ codes "POSTSTEP" ∷ []
starts = refl

steps : map bin_name step_bins ≡ codes "PRESTEP" ∷ codes "EVOL" ∷ codes "POSTSTEP" ∷ []
steps = refl

ends : map bin_name end_bins ≡ codes "TERMINATE" ∷ codes "SHUTDOWN" ∷ []
ends = refl

-- the last bins are those that are not run
not_run : map bin_name (range_with_len run_bin_count 4)
    ≡ codes "CPINITIAL" ∷ codes "RECOVER_PARAMETERS" ∷ codes "RECOVER_VARIABLES"
    ∷ codes "POST_RECOVER_VARIABLES" ∷ []
not_run = refl

-- the numbers of the bins that are run are among all
pub run_below : (k : ℕ) → k < run_bin_count → k < bin_count
run_below k h = omega (arith, h)
