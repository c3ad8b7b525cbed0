-- Folders in memory, as what was done to them, the last first: how they read, and what a crash may
-- leave of them.
use Rattle.std.specs.Prelude.{ℕ, ◌+◌, ◌≤◌, ◌≡◌, ◌⊎◌, ◌&&◌, List, [], ◌∷◌, ◌++◌, Bool, true, false, Result, OnOk, OnErr, IfErr, length, take, drop, if◌then◌else◌}
use Rattle.std.specs.Str.{bytes_eq}
use Rattle.cx_disk.specs.Disk.{Torn, CutShort}
use Rattle.cx_disk.specs.declared.disk.DiskFault.{DiskFault}
use Rattle.cx_disk.specs.declared.disk.DiskFault.TheVariants.{Memory}
use Rattle.cx_folder.specs.Names.{Path, IsIn}
use Rattle.cx_folder.specs.Tree.{Tree, TreeView, SameTree, Makes, ChangesBytes}
use Rattle.cx_folder.specs.declared.care.Care.{Care}
use Rattle.cx_folder.specs.declared.memory_folder.Deed.{Deed}
use Rattle.cx_folder.specs.declared.memory_folder.Deed.TheVariants.{Made, Wrote, Cut, Synced, SyncedFolder}
use Rattle.cx_folder.specs.declared.memory_folder.Event.{Event}

-- Whether something was done to a file, and not to a folder.
abbrev pub is_file : Deed → Bool
is_file Made = true
is_file (Wrote at count) = true
is_file (Cut to) = true
is_file Synced = true
is_file SyncedFolder = false

-- Whether it was done to this file.
abbrev pub is_of : Event → Path → Bool
is_of event path = is_file event.deed && bytes_eq event.path path

-- They read as the last events say.
abbrev pub seen_in : List Event → Tree
seen_in [] path = record { is_there = false; bytes = [] }
seen_in (event ∷ before) path =
    if is_of event path then record { is_there = event.is_there; bytes = event.bytes }
    else seen_in before path

-- What a crash may leave after an event, of what it may have left before.
abbrev pub Leaves : Event → Deed → Tree → Tree → Tree → Type 0
Leaves event Made seen before after = Makes event.path before after
Leaves event (Wrote at count) seen before after =
    ChangesBytes (Torn at count) event.path before after
Leaves event (Cut to) seen before after = ChangesBytes (CutShort to) event.path before after
Leaves event Synced seen before after =
    SameTree before after × ((after event.path).bytes ≡ event.bytes)
Leaves event SyncedFolder seen before after = SameTree before after
    × ((path : Path) → IsIn event.path path → (after path).is_there ≡ (seen path).is_there)

-- The images now: as they read, or what the last event may have left of one before.
abbrev pub images_in : List Event → Tree → Type 0
images_in [] image = seen_in [] ≡ image
images_in (event ∷ before) image = (seen_in (event ∷ before) ≡ image)
    ⊎ ((old : Tree) × images_in before old × Leaves event event.deed (seen_in before) old image)

-- The images of each moment from one on.
abbrev pub left_in : List Event → ℕ → Tree → Type 0
left_in [] since image = images_in [] image
left_in (event ∷ before) since image =
    images_in (event ∷ before) image ⊎ ((since ≤ length before) × left_in before since image)

-- What is outstanding of a file. No sync fails.
abbrev pub care_after : Deed → Care → Care
care_after Made care = care
care_after (Wrote at count) care = Care.Pending
care_after (Cut to) care = Care.Pending
care_after Synced care = Care.Whole
care_after SyncedFolder care = care

abbrev pub care_in : List Event → Path → Care
care_in [] path = Care.Whole
care_in (event ∷ before) path =
    if is_of event path then care_after event.deed (care_in before path) else care_in before path

-- All of it.
abbrev pub view_in : List Event → TreeView
view_in events = record {
  seen = seen_in events;
  images = images_in events;
  moment = length events;
  left_since = left_in events;
  care = care_in events;
  doubted = λ folder. false;
}

-- ---- what calls do

-- A file is made, empty.
abbrev pub made : Path → Event
made path = record { path = path; is_there = true; bytes = []; deed = Made }

-- Bytes are written to a file.
abbrev pub wrote : Path → ℕ → List ℕ → List Event → Event
wrote path at bytes before = record {
  path = path;
  is_there = (seen_in before path).is_there;
  bytes = take at (seen_in before path).bytes ++ bytes
      ++ drop (at + length bytes) (seen_in before path).bytes;
  deed = Wrote at (length bytes);
}

-- A file is cut.
abbrev pub cut : Path → ℕ → List Event → Event
cut path to before = record {
  path = path;
  is_there = (seen_in before path).is_there;
  bytes = take to (seen_in before path).bytes;
  deed = Cut to;
}

-- A file is synced, and a folder.
abbrev pub synced : Path → List Event → Event
synced path before = record {
  path = path;
  is_there = (seen_in before path).is_there;
  bytes = (seen_in before path).bytes;
  deed = Synced;
}

abbrev pub synced_folder : Path → Event
synced_folder folder = record { path = folder; is_there = true; bytes = []; deed = SyncedFolder }

-- The call was noted, if memory wasn't wanting.
pub record IsNoted {A : Type 0} (event : Event) (old new : List Event)
    (result : Result A DiskFault) : Type 0 where
  pub done : OnOk result (new ≡ event ∷ old)
  pub wanting : OnErr result (new ≡ old)
  pub fault : IfErr result (λ fault. fault ≡ Memory)

-- A file was made, if it wasn't there.
pub record IsMade {A : Type 0} (path : Path) (old new : List Event)
    (result : Result A DiskFault) : Type 0 where
  pub once : (seen_in old path).is_there ≡ true → new ≡ old
  pub done : (seen_in old path).is_there ≡ false → OnOk result (new ≡ made path ∷ old)
  pub wanting : OnErr result (new ≡ old)
  pub fault : IfErr result (λ fault. fault ≡ Memory)
