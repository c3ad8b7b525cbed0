-- What several calls of a disk do together, and what a crash at any moment of theirs may leave.
use Rattle.std.specs.Prelude.{ℕ, List}
use Rattle.cx_disk.specs.Disk.{Files, SameFiles, OthersSame, Changes, View, LeavesOnly, IsSettled}

-- An image of the old moment after a step of one file.
abbrev pub After : (List ℕ → List ℕ → Type 0) → ℕ → View → Files → Type 0
After step file old image = (before : Files) × old.images before × Changes step file before image

-- Calls that change no byte: the files read as before, and a crash leaves at each moment what it
-- might have left before.
pub record IsQuiet (old new : View) : Type 0 where
  pub same : SameFiles old.seen new.seen
  pub crash : (image : Files) → new.images image
      → (before : Files) × old.images before × SameFiles before image
  pub moments : LeavesOnly old new
      (λ image. (before : Files) × old.images before × SameFiles before image)

-- Calls that change one file, whether or not they were stopped: a crash leaves, at each moment and
-- after them, an image of the old moment after a step of that file; and the other files read as
-- before.
pub record Stepped (step : List ℕ → List ℕ → Type 0) (file : ℕ) (old new : View) : Type 0 where
  pub crash : (image : Files) → new.images image → After step file old image
  pub moments : LeavesOnly old new (After step file old)
  pub others : OthersSame file old.seen new.seen

-- Calls that have changed one file and settled it.
pub record IsDone (exact : List ℕ → List ℕ → Type 0) (file : ℕ) (old new : View) : Type 0 where
  pub changed : exact (old.seen file) (new.seen file)
  pub settled : IsSettled new file
