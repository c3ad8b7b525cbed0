-- Files by path, as a host's folders have them: what calls do to them, and what a crash may leave.
use Rattle.std.specs.Prelude.{ℕ, ◌≤◌, ◌≡◌, ◌≢◌, ◌⊎◌, List, [], Bool, false, if◌then◌else◌}
use Rattle.cx_folder.specs.Names.{Path, IsIn}
use Rattle.cx_folder.specs.declared.care.Care.{Care}

-- What is under a path: whether its folder has an entry there, and the bytes of the entry's
-- file. One that was never made has none.
pub record Entry : Type 0 where
  pub is_there : Bool
  pub bytes : List ℕ

abbrev pub Tree : Type 0
Tree = Path → Entry

-- How the file of a path reads. One that isn't there reads as empty.
abbrev pub bytes_in : Tree → Path → List ℕ
bytes_in tree path = if (tree path).is_there then (tree path).bytes else []

-- ---- steps of a tree

-- All is as it was.
abbrev pub SameTree : Tree → Tree → Type 0
SameTree old new = (path : Path) → new path ≡ old path

-- A file may have been made, empty: each reads as before, and all others are as before.
pub record Makes (path : Path) (old new : Tree) : Type 0 where
  pub reads : (each : Path) → bytes_in new each ≡ bytes_in old each
  pub others : (other : Path) → other ≢ path → new other ≡ old other

-- The bytes of one file are changed by this step, and nothing else is.
pub record ChangesBytes (step : List ℕ → List ℕ → Type 0) (path : Path)
    (old new : Tree) : Type 0 where
  pub this : step (old path).bytes (new path).bytes
  pub there : (each : Path) → (new each).is_there ≡ (old each).is_there
  pub others : (other : Path) → other ≢ path → new other ≡ old other

-- ---- moments

-- Folders as contracts see them: how they read, the images of them that a crash may leave now, the
-- moment, the images that a crash may have left at some moment from an earlier one on, what is
-- outstanding of each file, and of which folders a sync has failed.
pub record TreeView : Type 1 where
  pub seen : Tree
  pub images : Tree → Type 0
  pub moment : ℕ
  pub left_since : ℕ → Tree → Type 0
  pub care : Path → Care
  pub doubted : Path → Bool

-- The view of folders that tell nothing.
abbrev pub untold : TreeView
untold = record {
  seen = λ path. record { is_there = false; bytes = [] };
  images = λ image. ⊥;
  moment = 0;
  left_since = λ moment image. ⊥;
  care = λ path. Care.Whole;
  doubted = λ folder. false;
}

-- The folders as they read are one of the images, and what a crash may leave now is what it may
-- have left since now.
pub record IsTreeView (v : TreeView) : Type 0 where
  pub reads : v.images v.seen
  pub counts_now : (since : ℕ) (image : Tree) → since ≤ v.moment → v.images image
      → v.left_since since image
  pub only_now : (image : Tree) → v.left_since v.moment image → v.images image

-- One call: what a crash may leave after it is an image from before it after this step, and what a
-- crash may have left since an earlier moment grows by the images of the new moment alone.
pub record Passes (step : Tree → Tree → Type 0) (old new : TreeView) : Type 0 where
  pub crash : (image : Tree) → new.images image
      → (before : Tree) × old.images before × step before image
  pub later : old.moment ≤ new.moment
  pub nothing_else : (since : ℕ) (image : Tree) → since ≤ old.moment → new.left_since since image
      → old.left_since since image ⊎ new.images image
  pub keeps : (since : ℕ) (image : Tree) → since ≤ old.moment → old.left_since since image
      → new.left_since since image

-- Nothing is outstanding of any file, and no sync of a folder has failed.
pub record IsFresh (v : TreeView) : Type 0 where
  pub whole : (path : Path) → v.care path ≡ Care.Whole
  pub trusted : (folder : Path) → v.doubted folder ≡ false

-- ---- what calls leave

-- It reads as before, and so does what a crash may leave.
pub record ReadsOn (old new : TreeView) : Type 0 where
  pub same : SameTree old.seen new.seen
  pub after : Passes SameTree old new

-- What is outstanding of each other file is as before, and of which folders a sync has failed.
pub record OthersTended (path : Path) (old new : TreeView) : Type 0 where
  pub files : (other : Path) → other ≢ path → new.care other ≡ old.care other
  pub folders : (folder : Path) → new.doubted folder ≡ old.doubted folder

-- The same of all files.
pub record AllTended (old new : TreeView) : Type 0 where
  pub files : (path : Path) → new.care path ≡ old.care path
  pub folders : (folder : Path) → new.doubted folder ≡ old.doubted folder

-- A file was opened. Nothing is outstanding of it if nothing was.
pub record IsOpened (path : Path) (old new : TreeView) : Type 0 where
  pub whole : old.care path ≡ Care.Whole → new.care path ≡ Care.Whole
  pub others : OthersTended path old new

-- A file was changed. A sync of it is worth trusting if it was.
pub record IsChanged (path : Path) (old new : TreeView) : Type 0 where
  pub trusted : old.care path ≢ Care.Doubtful → new.care path ≢ Care.Doubtful
  pub others : OthersTended path old new

-- A sync of a file answered Ok: if it is worth trusting, a crash leaves the file's bytes as they
-- are, and nothing is outstanding.
pub record IsSettled (path : Path) (v : TreeView) : Type 0 where
  pub bytes : (image : Tree) → v.images image → (image path).bytes ≡ (v.seen path).bytes
  pub whole : v.care path ≡ Care.Whole

-- A crash leaves each entry of this folder, and makes none.
abbrev pub IsEntered : Path → TreeView → Type 0
IsEntered folder v = (image : Tree) → v.images image → (path : Path) → IsIn folder path
    → (image path).is_there ≡ (v.seen path).is_there

-- Of each other folder it is as before whether a sync has failed, and so is what is outstanding of
-- each file.
pub record OthersDoubted (folder : Path) (old new : TreeView) : Type 0 where
  pub files : (path : Path) → new.care path ≡ old.care path
  pub folders : (other : Path) → other ≢ folder → new.doubted other ≡ old.doubted other
