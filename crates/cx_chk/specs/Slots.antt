-- The eight slots: which are open, the newest, and the one that a save takes.
use Rattle.std.specs.Prelude.{ℕ, zero, suc, ◌<◌, ◌≤◌, ◌≡◌, ◌≢◌, ◌⊎◌, Bool, true, false, ◌&&◌, ◌||◌, ◌==◌, not, option_map, nat_le, nat_lt, nat_eq, List, ◌∷◌, length, take, drop, slice_index, Option, Some, None, if◌then◌else◌}
use Rattle.std.specs.Int.{w64, from_be_bytes}
use Rattle.cx_disk.specs.Disk.{Files, View, LeavesOnly}
use Rattle.cx_disk.specs.Files.{slot_count}
use Rattle.cx_disk.specs.Moments.{IsQuiet}
use Rattle.cx_chk.specs.Steps.{Step}
use Rattle.cx_chk.specs.declared.checkpoint.Checkpoint.{Checkpoint}
use Rattle.cx_chk.specs.Encoding.{SpellsSlot}

-- a slot is open where its length is at least 17 and its first byte is 1
abbrev pub is_open : List ℕ → Bool
is_open bytes = nat_le 17 (length bytes) && nat_eq (slice_index bytes 0) 1

-- its iteration is bytes 9 to 16
abbrev pub iteration_of : List ℕ → ℕ
iteration_of bytes = from_be_bytes w64 (take 8 (drop 9 bytes))

-- the iteration of an open slot
abbrev pub header_of : List ℕ → Option ℕ
header_of bytes = if is_open bytes then Some (iteration_of bytes) else None

-- whether a slot's version byte, which is byte 8, is 2
abbrev pub is_second : List ℕ → Bool
is_second bytes = slice_index bytes 8 == 2

-- the iteration of an open slot, and whether its version byte is 2
abbrev pub mark_of : List ℕ → Option (ℕ × Bool)
mark_of bytes = if is_open bytes then Some (iteration_of bytes, is_second bytes) else None

-- Of the slots below a number, the slot is open, and no open one is newer. Where some of the newest
-- have the version byte 2, it has too; and of those that are alike in this it has the least number.
pub record IsNewest (bound : ℕ) (files : Files) (slot : ℕ) (iteration : ℕ) : Type 0 where
  pub known : slot < bound
  pub header : header_of (files slot) ≡ Some iteration
  pub greatest : (other n : ℕ) → other < bound → header_of (files other) ≡ Some n → n ≤ iteration
  pub second_first : (other : ℕ) → other < bound → header_of (files other) ≡ Some iteration
      → is_second (files other) ≡ true → is_second (files slot) ≡ true
  pub least_number : (other : ℕ) → other < slot → header_of (files other) ≡ Some iteration
      → (is_second (files slot) ≡ true) × (is_second (files other) ≡ false)

-- the newest of the slots below a number and its iteration, or none where none is open
abbrev pub NewestBelow : ℕ → Files → Option (ℕ × ℕ) → Type 0
NewestBelow bound files None = (slot : ℕ) → slot < bound → header_of (files slot) ≡ None
NewestBelow bound files (Some found) = IsNewest bound files found.0 found.1

-- a slot goes before an earlier one: a greater iteration, or the same one with the version byte 2,
-- which the earlier one hasn't
abbrev pub goes_before : Bool → Bool → ℕ → ℕ → Bool
goes_before second was_second n best = nat_lt best n || ((best == n) && (second && not was_second))

abbrev pub newer : Option (ℕ × ℕ × Bool) → ℕ → Option (ℕ × Bool) → Option (ℕ × ℕ × Bool)
newer best slot None = best
newer None slot (Some mark) = Some (slot, mark.0, mark.1)
newer (Some found) slot (Some mark) = if goes_before mark.1 found.2 mark.0 found.1
    then Some (slot, mark.0, mark.1) else Some found

-- the newest of the slots below a number, its iteration, and whether its version byte is 2: of
-- those that are alike the first
abbrev pub best_below : ℕ → Files → Option (ℕ × ℕ × Bool)
best_below zero files = None
best_below (suc slot) files = newer (best_below slot files) slot (mark_of (files slot))

abbrev pub place_of : ℕ × ℕ × Bool → ℕ × ℕ
place_of best = (best.0, best.1)

abbrev pub newest_below : ℕ → Files → Option (ℕ × ℕ)
newest_below count files = option_map place_of (best_below count files)

-- what is found is the newest of all slots
abbrev pub IsNewestIn : Files → Option (ℕ × ℕ) → Type 0
IsNewestIn files found = found ≡ newest_below slot_count files

-- the slot that a save among 0 to keep takes: the first that isn't open, else the oldest, the least
-- number at a tie
pub record IsNext (files : Files) (keep slot : ℕ) : Type 0 where
  pub known : slot ≤ keep
  pub closed_first : header_of (files slot) ≡ None → (other : ℕ) → other < slot
      → header_of (files other) ≢ None
  pub oldest : (n : ℕ) → header_of (files slot) ≡ Some n → (other : ℕ) → other ≤ keep
      → (m : ℕ) × (header_of (files other) ≡ Some m) × (n ≤ m)
  pub least_number : (n : ℕ) → header_of (files slot) ≡ Some n → (other m : ℕ) → other < slot
      → header_of (files other) ≡ Some m → n < m

-- the oldest of the slots below a number, all of which are open
pub record IsOldest (bound : ℕ) (files : Files) (slot : ℕ) (iteration : ℕ) : Type 0 where
  pub known : slot < bound
  pub header : header_of (files slot) ≡ Some iteration
  pub all : (other : ℕ) → other < bound
      → (m : ℕ) × (header_of (files other) ≡ Some m) × (iteration ≤ m)
  pub least_number : (other m : ℕ) → other < slot → header_of (files other) ≡ Some m → iteration < m

abbrev pub OldestBelow : ℕ → Files → Option (ℕ × ℕ) → Type 0
OldestBelow bound files None = bound ≡ 0
OldestBelow bound files (Some found) = IsOldest bound files found.0 found.1

abbrev pub older : Option (ℕ × ℕ) → ℕ → ℕ → ℕ × ℕ
older None slot n = (slot, n)
older (Some found) slot n = if nat_lt n found.1 then (slot, n) else found

-- each slot is the same in all images
abbrev pub SlotsSettled : View → Type 0
SlotsSettled v = (slot : ℕ) → slot < slot_count → (c : Files) → v.images c → c slot ≡ v.seen slot

-- a slot is as it was, or it isn't open
abbrev pub IsOrClosed : List ℕ → List ℕ → Type 0
IsOrClosed was bytes = (bytes ≡ was) ⊎ (header_of bytes ≡ None)

-- at each moment of a save: the slot is as before, or isn't open, or spells the checkpoint
abbrev pub IsWithinSave : List ℕ → Checkpoint → List ℕ → Type 0
IsWithinSave was c bytes = (bytes ≡ was) ⊎ (header_of bytes ≡ None) ⊎ SpellsSlot bytes c

-- a slot is as it was, or isn't open, or has these bytes
abbrev pub IsWithinWrite : List ℕ → List ℕ → List ℕ → Type 0
IsWithinWrite was bytes now = (now ≡ was) ⊎ (header_of now ≡ None) ⊎ (now ≡ bytes)

-- a closed slot with its gate byte on the disk
abbrev pub IsShut : List ℕ → Type 0
IsShut bytes = (rest : List ℕ) × (bytes ≡ 0 ∷ rest)

-- the gate of a slot is shut in all images
abbrev pub IsShutIn : ℕ → View → Type 0
IsShutIn slot v = (c : Files) → v.images c → IsShut (c slot)

-- calls that close a slot, which leave it as it was or closed
abbrev pub Closes : ℕ → View → View → Type 0
Closes slot old new = Step slot (IsOrClosed (old.seen slot)) old new

-- calls that leave a slot closed
abbrev pub StaysClosed : ℕ → View → View → Type 0
StaysClosed slot old new = Step slot (λ bytes. header_of bytes ≡ None) old new

-- calls that open a closed slot, which leave it with these bytes or closed
abbrev pub Opens : ℕ → List ℕ → View → View → Type 0
Opens slot bytes old new = Step slot (IsOrClosed bytes) old new

-- calls that put these bytes into a slot, which leave it as it was, or closed, or with these bytes
abbrev pub Replaces : ℕ → List ℕ → View → View → Type 0
Replaces slot bytes old new = Step slot (IsWithinWrite (old.seen slot) bytes) old new

-- a save: nothing but reads yet, or the slot that it takes is within the save
abbrev pub IsSaving : ℕ → Checkpoint → View → View → Type 0
IsSaving keep c old new =
    IsQuiet old new ⊎ ((slot : ℕ) × IsNext old.seen keep slot
    × Step slot (IsWithinSave (old.seen slot) c) old new)

-- a save that is done: the slot that it takes has the checkpoint, in all images
pub record IsSaved (keep : ℕ) (c : Checkpoint) (old new : View) : Type 0 where
  pub slot : ℕ
  pub next : IsNext old.seen keep slot
  pub step : Step slot (IsWithinSave (old.seen slot) c) old new
  pub spells : SpellsSlot (new.seen slot) c
  pub settled : SlotsSettled new

-- while slots are closed: each is as it was or closed, and no other file is another
pub record IsWithinClosing (old : View) (c : Files) : Type 0 where
  pub image : Files
  pub was : old.images image
  pub slots : (slot : ℕ) → slot < slot_count → IsOrClosed (old.seen slot) (c slot)
  pub others : (file : ℕ) → slot_count ≤ file → c file ≡ image file

-- one slot: as it was, or of version 2 and closed
abbrev pub IsOrShut : List ℕ → List ℕ → Type 0
IsOrShut was bytes = (bytes ≡ was) ⊎ ((is_second was ≡ true) × (header_of bytes ≡ None))

abbrev pub ShutsOne : ℕ → View → View → Type 0
ShutsOne slot old new = Step slot (IsOrShut (old.seen slot)) old new

-- if it was of version 2 it is closed, else it is as it was
abbrev pub IsShutSecond : List ℕ → List ℕ → Type 0
IsShutSecond was bytes = (header_of bytes ≡ None) ⊎ ((is_second was ≡ false) × (bytes ≡ was))

-- while open slots of version 2 are closed: each slot is as it was, or one of these and closed, and
-- no other file is another
pub record IsWithinShutting (old : View) (c : Files) : Type 0 where
  pub image : Files
  pub was : old.images image
  pub slots : (slot : ℕ) → slot < slot_count → IsOrShut (old.seen slot) (c slot)
  pub others : (file : ℕ) → slot_count ≤ file → c file ≡ image file

abbrev pub ShutsSecond : View → View → Type 0
ShutsSecond old new = (c : Files) → new.images c → IsWithinShutting old c

abbrev pub LeavesShutting : View → View → Type 0
LeavesShutting old new = LeavesOnly old new (IsWithinShutting old)

-- each slot that is open has another version byte than 2, and is as it was
abbrev pub NoneSecond : Files → Files → Type 0
NoneSecond old new = (slot n : ℕ) → slot < slot_count → header_of (new slot) ≡ Some n
    → (is_second (new slot) ≡ false) × (new slot ≡ old slot)

-- each slot that had another version byte than 2 is as it was
abbrev pub KeepsFirst : Files → Files → Type 0
KeepsFirst old new = (slot : ℕ) → slot < slot_count → is_second (old slot) ≡ false
    → new slot ≡ old slot

-- calls that close slots: what a crash leaves after them, and at each moment
abbrev pub ClosesSlots : View → View → Type 0
ClosesSlots old new = (c : Files) → new.images c → IsWithinClosing old c

abbrev pub LeavesClosing : View → View → Type 0
LeavesClosing old new = LeavesOnly old new (IsWithinClosing old)

-- the files behind the slots have the bytes that they had
abbrev pub OutputsSame : Files → Files → Type 0
OutputsSame old new = (file : ℕ) → slot_count ≤ file → new file ≡ old file

-- no slot is open
abbrev pub NoneOpen : Files → Type 0
NoneOpen files = NewestBelow slot_count files None
