-- Files from one number on that are written anew, and all others, which stay.
use Rattle.std.specs.Prelude.{ℕ, ◌+◌, ◌<◌, ◌≤◌, ◌≡◌, ◌⊎◌, List, [], length, slice_index_or}
use Rattle.cx_disk.specs.Disk.{Files, View, LeavesOnly, IsSettled}
use Rattle.cx_disk.specs.Files.{chunk_file, recombined_file}

-- so many files from this number on are files of a disk with so many below the chunks
abbrev pub AreFiles : ℕ → ℕ → ℕ → Type 0
AreFiles below first count =
    (first + count ≤ recombined_file + 1) × ((first + count ≤ below) ⊎ (chunk_file 0 ≤ first))

-- each other file has the bytes that it had
abbrev pub SameOutside : ℕ → ℕ → Files → Files → Type 0
SameOutside first count old new =
    (file : ℕ) → (file < first) ⊎ (first + count ≤ file) → new file ≡ old file

-- an image of the old moment, but for these files
abbrev pub AfterWriting : ℕ → ℕ → View → Files → Type 0
AfterWriting first count old image =
    (before : Files) × old.images before × SameOutside first count before image

-- Calls that change these files alone: the others read as before, and after the calls and at each
-- of their moments a crash leaves what it might have left before, but for these files.
pub record Writes (first count : ℕ) (old new : View) : Type 0 where
  pub others : SameOutside first count old.seen new.seen
  pub crash : (image : Files) → new.images image → AfterWriting first count old image
  pub moments : LeavesOnly old new (AfterWriting first count old)

-- A file for each text from this number on reads so, and in each image too.
pub record AreWritten (first : ℕ) (texts : List (List ℕ)) (now : View) : Type 0 where
  pub read : (k : ℕ) → k < length texts → now.seen (first + k) ≡ slice_index_or texts k []
  pub settled : (k : ℕ) → k < length texts → IsSettled now (first + k)
