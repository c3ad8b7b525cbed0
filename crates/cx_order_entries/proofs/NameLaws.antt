-- Two entries of one name, among entries that are lent.
use Rattle.std.proofs.Common.{◌≡◌, ◌⊎◌, refl, sym, ◌∙◌, ap, subst, ℕ, ◌+◌, ◌<◌, List, ◌++◌, map, length, get_or, Option, Some, None, if◌then◌else◌}
use Rattle.std.specs.Prelude.{codes}
use Rattle.std.specs.List.{list_any, find}
use Rattle.std.specs.Option.{option_map, option_to_list, unwrap_or}
use Rattle.std.proofs.lemmas.List.{get_or-map, length-map}
use Rattle.cx_order_entries.specs.declared.fault.EntryFault.{EntryFault}
use Rattle.cx_order_entries.specs.declared.fault.EntryFault.TheVariants.{TwoNames}
use Rattle.cx_order_entries.specs.declared.counted.Entry.{Entry as LentEntry}
use Rattle.cx_order_entries.specs.Counted.{Entry}
use Rattle.cx_order_entries.specs.Entries.{entry_name, spot_text, is_group, group_text, names_fault}
use Rattle.cx_order_entries.specs.Keys.{Key, key_of, is_key}
use Rattle.cx_order_entries.specs.Seen.{seen_entry}
use Rattle.cx_order_entries.proofs.KeyLaws.{Sofar, sofar-on, sofar-told, find-mapped}

abbrev pub told : List Entry → Entry → EntryFault
told es e = TwoNames (spot_text es e.block.spot ++ codes "/" ++ entry_name e)

module _ (xs : List LentEntry) (k : ℕ) (item : LentEntry) (keys : List Key) (within : k < length xs)
    (is : item ≡ get_or xs k item)
    (s : Sofar (told (map seen_entry xs)) (names_fault (map seen_entry xs)) (map seen_entry xs)
    k keys) where
  in_all : k < length (map seen_entry xs)
  in_all = subst (λ n. k < n) (sym (length-map xs seen_entry)) within

  at : get_or (map seen_entry xs) k (seen_entry item) ≡ seen_entry item
  at = get_or-map seen_entry xs k item (seen_entry item) within ∙ ap seen_entry (sym is)

  pub lent-on : (new : List Key)
      → (if list_any (is_key (key_of (seen_entry item))) keys
      then Some (told (map seen_entry xs) (seen_entry item)) else None) ≡ None
      → new ≡ keys ++ option_to_list (key_of (seen_entry item))
      → Sofar (told (map seen_entry xs)) (names_fault (map seen_entry xs)) (map seen_entry xs)
      (k + 1) new
  lent-on new none grown =
      sofar-on (told (map seen_entry xs)) (names_fault (map seen_entry xs)) (map seen_entry xs)
      k keys (seen_entry item) in_all at s (list_any (is_key (key_of (seen_entry item))) keys)
      refl new none grown

  pub lent-told : (none fault : EntryFault)
      → (fault ≡ none)
      ⊎ ((if list_any (is_key (key_of (seen_entry item))) keys
      then Some (told (map seen_entry xs) (seen_entry item)) else None) ≡ Some fault)
      → (fault ≡ none) ⊎ (names_fault (map seen_entry xs) ≡ Some fault)
  lent-told none fault h =
      sofar-told (told (map seen_entry xs)) (names_fault (map seen_entry xs)) (map seen_entry xs)
      k keys (seen_entry item) in_all at s (list_any (is_key (key_of (seen_entry item))) keys)
      refl none fault h

-- ---- a group's name

module _ (xs : List LentEntry) (name text : List ℕ) where
  pub group-some : (e : LentEntry) → find (λ e. is_group name (seen_entry e)) xs ≡ Some e
      → text ≡ e.block.now.name → text ≡ group_text (map seen_entry xs) name
  group-some e found is =
      is ∙ sym (ap (λ (o : Option Entry). unwrap_or (option_map (λ e. e.block.name) o) name)
      (find-mapped (is_group name) seen_entry xs ∙ ap (option_map seen_entry) found))

  pub group-none : find (λ e. is_group name (seen_entry e)) xs ≡ None → text ≡ name
      → text ≡ group_text (map seen_entry xs) name
  group-none found is =
      is ∙ sym (ap (λ (o : Option Entry). unwrap_or (option_map (λ e. e.block.name) o) name)
      (find-mapped (is_group name) seen_entry xs ∙ ap (option_map seen_entry) found))
