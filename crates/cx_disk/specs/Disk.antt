-- A disk of numbered files: what its calls do to them, and what a crash may leave of all of them at
-- a moment.
use Rattle.std.specs.Prelude.{ℕ, ◌+◌, ◌≤◌, ◌≡◌, ◌≢◌, ◌⊎◌, min, max, List, [], ◌++◌, length, take, drop}
use Rattle.cx_disk.specs.Files.{count_with}

-- The bytes of each file. One that was never written has none.
abbrev pub Files : Type 0
Files = ℕ → List ℕ

abbrev pub empty_files : Files
empty_files file = []

-- Each file has the bytes that it had.
abbrev pub SameFiles : Files → Files → Type 0
SameFiles old new = (file : ℕ) → new file ≡ old file

-- Each other file has the bytes that it had.
abbrev pub OthersSame : ℕ → Files → Files → Type 0
OthersSame file old new = (other : ℕ) → other ≢ file → new other ≡ old other

-- One file is changed by this step of its bytes, and no other file is.
pub record Changes (step : List ℕ → List ℕ → Type 0) (file : ℕ) (old new : Files) : Type 0 where
  pub this : step (old file) (new file)
  pub others : OthersSame file old new

-- ---- steps of one file's bytes

-- A write: these bytes stand at this offset, over what was there and past the end. All else is as
-- before.
abbrev pub Holds : ℕ → List ℕ → List ℕ → List ℕ → Type 0
Holds at bytes old new = new ≡ take at old ++ bytes ++ drop (at + length bytes) old

-- A write of so many bytes that was stopped. A crash may leave any bytes in the range and past the
-- old end, and any length from the old one to that of the whole write. What lies before the range
-- and behind it is as before.
pub record Torn (at count : ℕ) (old new : List ℕ) : Type 0 where
  pub before : take (min at (length old)) new ≡ take at old
  pub behind : drop (at + count) new ≡ drop (at + count) old
  pub no_shorter : length old ≤ length new
  pub no_longer : length new ≤ max (length old) (at + count)

-- A cut: the front of so many bytes is left.
abbrev pub Front : ℕ → List ℕ → List ℕ → Type 0
Front count old new = new ≡ take count old

-- A cut that was stopped. A crash may leave any front of the old bytes that isn't shorter than the
-- whole cut's.
pub record CutShort (count : ℕ) (old new : List ℕ) : Type 0 where
  pub no_shorter : min count (length old) ≤ length new
  pub front : new ≡ take (length new) old

-- A file written anew: it has these bytes and no others.
abbrev pub Anew : List ℕ → List ℕ → List ℕ → Type 0
Anew bytes old new = new ≡ bytes

-- The same where it was stopped: any bytes, of which there are no more than there were or than so
-- many.
abbrev pub NoLonger : ℕ → List ℕ → List ℕ → Type 0
NoLonger count old new = length new ≤ max (length old) count

-- ---- folders

-- What the last mount named: the folder of the outputs, the names of its files, and the folder of
-- the checkpoints.
pub record Folders : Type 0 where
  pub output : List ℕ
  pub names : List (List ℕ)
  pub checkpoints : List ℕ

-- A mount named these.
abbrev pub IsNamed : List ℕ → List (List ℕ) → List ℕ → Folders → Type 0
IsNamed output names checkpoints folders =
    folders ≡ record { output = output; names = names; checkpoints = checkpoints }

-- Before any mount.
abbrev pub no_folders : Folders
no_folders = record { output = []; names = []; checkpoints = [] }

-- How many files a disk has below the chunks.
abbrev pub files_in : Folders → ℕ
files_in folders = count_with (length folders.names)

-- ---- moments

-- A disk as contracts see it: how its files read, the images of them that a crash may leave now,
-- the moment, which is a number that doesn't fall, and the images that a crash may have left at
-- some moment from an earlier one on.
pub record View : Type 1 where
  pub seen : Files
  pub images : Files → Type 0
  pub moment : ℕ
  pub left_since : ℕ → Files → Type 0

-- The view of a disk that tells nothing.
abbrev pub untold : View
untold = record {
  seen = empty_files;
  images = λ image. ⊥;
  moment = 0;
  left_since = λ moment image. ⊥;
}

-- The disk as it reads is one of the images that a crash may leave now, and what a crash may leave
-- now is what it may have left since now.
pub record IsView (v : View) : Type 0 where
  pub reads : v.images v.seen
  pub counts_now : (since : ℕ) (image : Files) → since ≤ v.moment → v.images image
      → v.left_since since image
  pub only_now : (image : Files) → v.left_since v.moment image → v.images image

-- One call. What a crash may leave after it is an image from before it after this step; time goes
-- on; and what a crash may have left since an earlier moment grows by the images of the new moment
-- alone.
pub record Passes (step : Files → Files → Type 0) (old new : View) : Type 0 where
  pub crash : (image : Files) → new.images image
      → (before : Files) × old.images before × step before image
  pub later : old.moment ≤ new.moment
  pub nothing_else : (since : ℕ) (image : Files) → since ≤ old.moment → new.left_since since image
      → old.left_since since image ⊎ new.images image
  pub keeps : (since : ℕ) (image : Files) → since ≤ old.moment → old.left_since since image
      → new.left_since since image

-- Any number of calls: a crash at any moment of theirs leaves files that have P.
pub record LeavesOnly (old new : View) (P : Files → Type 0) : Type 0 where
  pub later : old.moment ≤ new.moment
  pub each : (since : ℕ) (image : Files) → since ≤ old.moment → new.left_since since image
      → old.left_since since image ⊎ P image

-- A crash leaves of this file what a read of it gives.
abbrev pub IsSettled : View → ℕ → Type 0
IsSettled v file = (image : Files) → v.images image → image file ≡ v.seen file
