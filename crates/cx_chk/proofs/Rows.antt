-- The bytes of a small checkpoint, which the definitions give and read again.
use Rattle.std.specs.Prelude.{◌≡◌, ◌==◌, ℕ, pos, negsuc, Some, None, List, [], ◌∷◌, length, drop, codes, if◌then◌else◌}
use Rattle.std.proofs.Common.{refl}
use Rattle.cx_chk.specs.Encoding.{slot_bytes}
use Rattle.cx_chk.specs.Reading.{value_at, string_at, some_at, counted_at, named_at, bare_at, all_named_at, fields_at, decoded}
use Rattle.cx_chk.specs.Slots.{header_of, newest_below}
use Rattle.cx_disk.specs.Files.{slot_count}
use Rattle.cx_chk.specs.declared.checkpoint.Checkpoint.{Checkpoint}

-- iteration 20, key k, one output file of 300 bytes, a scalar -1, and a level with 0 and 1
abbrev small : Checkpoint
small = record {
  version = 1;
  iteration = 20;
  key = 107 ∷ [];
  names = [];
  lengths = 300 ∷ [];
  scalars = negsuc 0 ∷ [];
  levels = (pos 0 ∷ pos 1 ∷ []) ∷ [];
}

abbrev small_bytes : List ℕ
small_bytes =
    1 ∷ 67 ∷ 88 ∷ 67 ∷ 72 ∷ 75 ∷ 80 ∷ 84 ∷ 1 ∷ 0 ∷ 0 ∷ 0 ∷ 0 ∷ 0 ∷ 0 ∷ 0 ∷
    20 ∷ 0 ∷ 0 ∷ 0 ∷ 1 ∷ 107 ∷ 0 ∷ 0 ∷ 0 ∷ 1 ∷ 0 ∷ 0 ∷ 0 ∷ 0 ∷ 0 ∷ 0 ∷
    1 ∷ 44 ∷ 0 ∷ 0 ∷ 0 ∷ 1 ∷ 255 ∷ 255 ∷ 255 ∷ 255 ∷ 255 ∷ 255 ∷ 255 ∷ 255 ∷ 0 ∷ 0 ∷
    0 ∷ 1 ∷ 0 ∷ 0 ∷ 0 ∷ 0 ∷ 0 ∷ 0 ∷ 0 ∷ 2 ∷ 0 ∷ 0 ∷ 0 ∷ 0 ∷ 0 ∷ 0 ∷
    0 ∷ 0 ∷ 0 ∷ 0 ∷ 0 ∷ 0 ∷ 0 ∷ 0 ∷ 0 ∷ 1 ∷
    []

gives_bytes : slot_bytes small ≡ small_bytes
gives_bytes = refl

reads_again : decoded small_bytes ≡ Some small
unfolding decoded fields_at bare_at counted_at some_at string_at value_at
reads_again = refl

-- an open slot has its iteration in bytes 9 to 16
has_iteration : header_of small_bytes ≡ Some 20
has_iteration = refl

-- of equally new slots the first is the newest
first_of_equal : newest_below slot_count (λ file. small_bytes) ≡ Some (0, 20)
first_of_equal = refl

-- version 2: iteration 20, key k, p.asc of 149 bytes, no scalars, no levels
abbrev named : Checkpoint
named = record {
  version = 2;
  iteration = 20;
  key = 107 ∷ [];
  names = codes "p.asc" ∷ [];
  lengths = 149 ∷ [];
  scalars = [];
  levels = [];
}

abbrev named_bytes : List ℕ
named_bytes =
    1 ∷ 67 ∷ 88 ∷ 67 ∷ 72 ∷ 75 ∷ 80 ∷ 84 ∷ 2 ∷ 0 ∷ 0 ∷ 0 ∷ 0 ∷ 0 ∷ 0 ∷ 0 ∷
    20 ∷ 0 ∷ 0 ∷ 0 ∷ 1 ∷ 107 ∷ 0 ∷ 0 ∷ 0 ∷ 1 ∷ 0 ∷ 0 ∷ 0 ∷ 5 ∷ 112 ∷ 46 ∷
    97 ∷ 115 ∷ 99 ∷ 0 ∷ 0 ∷ 0 ∷ 0 ∷ 0 ∷ 0 ∷ 0 ∷ 149 ∷ 0 ∷ 0 ∷ 0 ∷ 0 ∷ 0 ∷
    0 ∷ 0 ∷ 0 ∷
    []

gives_named : slot_bytes named ≡ named_bytes
gives_named = refl

named_long : length named_bytes ≡ 51
named_long = refl

reads_named : decoded named_bytes ≡ Some named
unfolding decoded fields_at all_named_at named_at counted_at some_at string_at value_at
reads_named = refl

-- of equally new slots one of version 2 goes before the others
second_of_equal : newest_below 8 (λ file. if file == 5 then named_bytes else small_bytes)
    ≡ Some (5, 20)
second_of_equal = refl

-- a version that isn't known spells nothing
version_3 : decoded (1 ∷ 67 ∷ 88 ∷ 67 ∷ 72 ∷ 75 ∷ 80 ∷ 84 ∷ 3 ∷ drop 9 named_bytes) ≡ None
unfolding decoded
version_3 = refl
