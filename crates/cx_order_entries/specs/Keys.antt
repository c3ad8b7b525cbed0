-- Keys of entries: two entries have one key exactly if they have one name in one bin or group.
use Rattle.std.specs.Prelude.{ℕ, Bool, false, ◌&&◌, List, [], ◌∷◌, ◌++◌, map, Option, Some, None, if◌then◌else◌}
use Rattle.std.specs.List.{list_any}
use Rattle.std.specs.Str.{bytes_eq}
use Rattle.std.specs.Option.{option_to_list}
use Rattle.std.specs.Char.{to_ascii_lowercase}
use Rattle.cx_sched.specs.declared.tree.Spot.{Spot}
use Rattle.cx_sched.specs.declared.tree.Spot.TheVariants.{At, Inside}
use Rattle.cx_order_entries.specs.Bins.{bin_of}
use Rattle.cx_order_entries.specs.Counted.{Entry}
use Rattle.cx_order_entries.specs.declared.fault.EntryFault.{EntryFault}
use Rattle.cx_order_entries.specs.Entries.{entry_name, two_names}
use Rattle.cx_text.specs.Bytes.{folded}

abbrev pub Key : Type 0
Key = List ℕ × List ℕ

abbrev pub bin_key : Option ℕ → Option (List ℕ)
bin_key None = None
bin_key (Some b) = Some (0 ∷ b ∷ [])

-- of a bin that is there, or of a group
abbrev pub place_key : Spot → Option (List ℕ)
place_key (At name) = bin_key (bin_of name)
place_key (Inside name) = Some (1 ∷ folded name)

abbrev pub key_by : List ℕ → Option (List ℕ) → Option Key
key_by name None = None
key_by name (Some place) = Some (place, folded name)

abbrev pub key_of : Entry → Option Key
key_of e = key_by (entry_name e) (place_key e.block.spot)

abbrev pub is_key : Option Key → Key → Bool
is_key None q = false
is_key (Some k) q = bytes_eq k.0 q.0 && bytes_eq k.1 q.1

-- the keys of entries that have one
abbrev pub keys_of : List Entry → List Key
keys_of [] = []
keys_of (e ∷ es) = option_to_list (key_of e) ++ keys_of es

-- whether a key is there
abbrev pub has_key : List Key → Option Key → Bool
has_key keys key = list_any (is_key key) keys

-- what an entry tells, behind those of these keys
abbrev pub name_fault : List Key → List Entry → Entry → Option EntryFault
name_fault keys es e = if has_key keys (key_of e) then Some (two_names es e) else None
