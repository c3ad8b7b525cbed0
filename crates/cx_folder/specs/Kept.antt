-- What a disk over folders has ready for its calls.
use Rattle.std.specs.Prelude.{ℕ, ◌≡◌, List, length, slice_index_or}
use Rattle.cx_disk.specs.Disk.{Folders, files_in}
use Rattle.cx_folder.specs.Names.{Path, paths_in, place_of, output_folder, checkpoint_folder}
use Rattle.cx_folder.specs.declared.kept.Hold.{Hold}
use Rattle.cx_folder.specs.declared.kept.Hold.TheVariants.{Shut, Lost}

-- The run has the locks of both folders.
pub record AreHeld (holds : Path → Type 0) (folders : Folders) : Type 0 where
  pub output : holds (output_folder folders)
  pub checkpoints : holds (checkpoint_folder folders)

-- Each file has its holding.
abbrev pub AreKept : {T : Type 0} → List (Hold T) → Folders → Type 0
AreKept files folders = length files ≡ length (paths_in folders)

-- Nothing is outstanding of the bytes of this file.
abbrev pub IsShut : {T : Type 0} → List (Hold T) → Folders → ℕ → Type 0
IsShut files folders file = slice_index_or files (place_of (files_in folders) file) Lost ≡ Shut
