-- Folders of files by path, seen as the disk of numbered files that they keep.
use Rattle.std.specs.Prelude.{ℕ, ◌≡◌, List, Result, OnOk, OnErr}
use Rattle.cx_disk.specs.Disk.{Folders, Files, SameFiles, OthersSame, Changes, View, Passes}
use Rattle.cx_folder.specs.Tree.{Tree, TreeView, bytes_in}
use Rattle.cx_folder.specs.Names.{path_at}

-- The bytes of each file of the disk.
abbrev pub files_of : Folders → Tree → Files
files_of folders tree file = bytes_in tree (path_at folders file)

-- The disk as it reads, and what a crash may leave of it.
abbrev pub pulled : Folders → TreeView → View
pulled folders v = record {
  seen = files_of folders v.seen;
  images = λ image. (tree : Tree) × v.images tree × (files_of folders tree ≡ image);
  moment = v.moment;
  left_since = λ since image. (tree : Tree) × v.left_since since tree
      × (files_of folders tree ≡ image);
}

-- Calls that change no byte of the disk.
pub record Stays (folders : Folders) (old new : TreeView) : Type 0 where
  pub same : SameFiles (pulled folders old).seen (pulled folders new).seen
  pub after : Passes SameFiles (pulled folders old) (pulled folders new)

-- A call that changes one file of the disk: wholly if it answers Ok, else as far as it came. What a
-- crash may leave is changed as far as it came.
pub record Alters {A E : Type 0} (whole step : List ℕ → List ℕ → Type 0) (folders : Folders)
    (file : ℕ) (result : Result A E) (old new : TreeView) : Type 0 where
  pub done : OnOk result (whole (files_of folders old.seen file) (files_of folders new.seen file))
  pub stopped : OnErr result
      (step (files_of folders old.seen file) (files_of folders new.seen file))
  pub others : OthersSame file (pulled folders old).seen (pulled folders new).seen
  pub after : Passes (Changes step file) (pulled folders old) (pulled folders new)
