-- Where the files of a disk are: the path of each, in the folder of the checkpoints or in that of
-- the outputs.
use Rattle.std.specs.Prelude.{ℕ, zero, suc, ◌+◌, ◌-◌, ◌<◌, ◌≡◌, ◌≢◌, ◌&&◌, not, List, [], ◌∷◌, ◌++◌, map, length, slice_index_or, nat_lt, codes, if◌then◌else◌}
use Rattle.std.specs.Fmt.{decimal}
use Rattle.std.specs.List.{All}
use Rattle.std.specs.Str.{IsUtf8}
use Rattle.cx_disk.specs.Disk.{Folders, files_in}
use Rattle.cx_disk.specs.Files.{slot_count, chunk_count, chunk_file, recombined_file}

-- A path is a text.
abbrev pub Path : Type 0
Path = List ℕ

-- This path is of a file in this folder.
abbrev pub IsIn : Path → Path → Type 0
IsIn folder path = (name : List ℕ) × (path ≡ folder ++ 47 ∷ name)

-- The path of a folder by its name. An empty name means the current folder.
abbrev pub folder_path : List ℕ → Path
folder_path [] = codes "."
folder_path (byte ∷ rest) = byte ∷ rest

abbrev pub output_folder : Folders → Path
output_folder folders = folder_path folders.output

abbrev pub checkpoint_folder : Folders → Path
checkpoint_folder folders = folder_path folders.checkpoints

-- ---- the paths of files in a folder

abbrev pub slot_path : Path → ℕ → Path
slot_path folder slot = folder ++ (codes "/checkpoint.chkpt." ++ decimal slot)

abbrev pub named_path : Path → List ℕ → Path
named_path folder name = folder ++ (codes "/" ++ name)

abbrev pub old_output_path : Path → Path
old_output_path folder = named_path folder (codes "output.asc")

abbrev pub chunk_path : Path → ℕ → Path
chunk_path folder part = folder ++ (codes "/chunk." ++ (decimal part ++ codes ".asc"))

abbrev pub recombined_path : Path → Path
recombined_path folder = named_path folder (codes "recombined.asc")

-- ---- all of them

-- The paths of the numbers below this one.
unfoldable pub below : (ℕ → Path) → ℕ → List Path
below path zero = []
below path (suc n) = below path n ++ path n ∷ []

-- The slots, the output without a name, and the outputs that are named.
abbrev pub low_paths : Folders → List Path
low_paths folders =
    below (slot_path (checkpoint_folder folders)) slot_count
    ++ old_output_path (output_folder folders)
    ∷ map (named_path (output_folder folders)) folders.names

-- The chunks and the file that they are recombined to.
abbrev pub high_paths : Folders → List Path
high_paths folders = below (chunk_path (output_folder folders)) chunk_count
    ++ recombined_path (output_folder folders) ∷ []

abbrev pub paths_in : Folders → List Path
paths_in folders = low_paths folders ++ high_paths folders

-- No two files have one path, and none has the empty one, which is the path of no file.
abbrev pub AreDistinct : List Path → Type 0
AreDistinct paths = (i j : ℕ) → i < length paths → i ≢ j
    → slice_index_or paths i [] ≢ slice_index_or paths j []

-- These folders, with outputs of these names.
abbrev pub folders_named : List ℕ → List (List ℕ) → List ℕ → Folders
folders_named output names checkpoints =
    record { output = output; names = names; checkpoints = checkpoints }

-- A disk can be over them: each name is a text, and no two files have one path.
pub record HavePlaces (folders : Folders) : Type 0 where
  pub output : IsUtf8 folders.output
  pub names : All IsUtf8 folders.names
  pub checkpoints : IsUtf8 folders.checkpoints
  pub distinct : AreDistinct (paths_in folders)

-- One of them isn't empty, and none of those before it.
pub record IsNewAt (paths : List Path) (k : ℕ) : Type 0 where
  pub is_path : slice_index_or paths k [] ≢ []
  pub is_new : (i : ℕ) → i < k → slice_index_or paths i [] ≢ slice_index_or paths k []

-- ---- one of them

-- The place of a file among all paths, where so many files are below the chunks. What is no file
-- has a place after them.
abbrev pub place_of : ℕ → ℕ → ℕ
place_of count file =
    if not (nat_lt file (chunk_file 0)) && not (nat_lt recombined_file file)
    then count + (file - chunk_file 0)
    else if nat_lt file count then file else count + chunk_count + 1

abbrev pub path_at : Folders → ℕ → Path
path_at folders file = slice_index_or (paths_in folders) (place_of (files_in folders) file) []

-- The folder of a file.
abbrev pub folder_at : Folders → ℕ → Path
folder_at folders file = if nat_lt file slot_count then checkpoint_folder folders
    else output_folder folders

-- These are the two folders and all paths, of which no two are one.
pub record AreAt (output checkpoints : Path) (paths : List Path) (folders : Folders) : Type 0 where
  pub at_output : output ≡ output_folder folders
  pub at_checkpoints : checkpoints ≡ checkpoint_folder folders
  pub each : paths ≡ paths_in folders
  pub distinct : AreDistinct paths
