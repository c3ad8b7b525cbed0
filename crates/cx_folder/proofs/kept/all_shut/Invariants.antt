use Rattle.std.proofs.Common.{ℕ, ◌≡◌, ◌<◌}
use Rattle.std.specs.Prelude.{slice_index_or, length}
use Rattle.cx_folder.specs.declared.kept.Hold.TheVariants.{Shut, Lost}
use Rattle.cx_folder.proofs.kept.all_shut.Given as goal

abbrev pub invariant-files : goal.invariant-files
invariant-files g l = (length l.files.items ≡ l.counter)
    × ((k : ℕ) → k < l.counter → slice_index_or l.files.items k Lost ≡ Shut)
