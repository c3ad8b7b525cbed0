-- What sets of names have.
use Rattle.std.proofs.Common.{◌≡◌, refl, sym, ◌∙◌, ap, ℕ, ◌+◌, ◌<◌, Bool, true, false, not, ◌||◌, List, [], ◌∷◌, ◌++◌, map, find, length, drop, get_or, Option, Some, Result, Ok, Err, if◌then◌else◌}
use Rattle.std.proofs.lemmas.List.{map_push, drop_more}
use Rattle.std.proofs.lemmas.List.Folds.{list_any-append}
use Rattle.std.proofs.lemmas.Slice.Eq.{bytes_eq-Decides}
use Rattle.std.specs.List.{list_any}
use Rattle.std.specs.Option.{option_map}
use Rattle.std.specs.Result.{IfOk}
use Rattle.std.specs.Str.{bytes_eq}
use Rattle.cx_text.specs.Lexemes.{same_name}
use Rattle.cx_plan.specs.Lists.{or_else, first_of_each}
use Rattle.cx_bind.specs.declared.thorns.Thorn.{Thorn}
use Rattle.cx_bind.specs.declared.thorns.BindFault.TheVariants.{MissingCapability}
use Rattle.cx_bind.specs.NameSets.{has, Adds}
use Rattle.cx_bind.specs.Faults.{missing}
use Rattle.cx_bind.proofs.PlaceLaws.{bytes_eq_sym}
use Rattle.cx_text.specs.Bytes.{folded}

pub if_ok : {X E : Type 0} {P Q : X → Type 0} (r : Result X E) → ((x : X) → P x → Q x) → IfOk r P
    → IfOk r Q
if_ok (Ok x) f p = f x p
if_ok (Err e) f p = p

pub or_none : (a : Bool) → (a || false) ≡ a
or_none true = refl
or_none false = refl

-- ---- a name more

there_already : (o n : List ℕ) (ns : List (List ℕ)) (b : Bool) → bytes_eq n o ≡ b
    → list_any (bytes_eq n) ns ≡ true → list_any (bytes_eq o) ns ≡ (list_any (bytes_eq o) ns || b)
there_already o n ns true same h =
    let e : list_any (bytes_eq o) ns ≡ true =
    ap (λ m. list_any (bytes_eq m) ns) (sym ((bytes_eq-Decides n o).0 same)) ∙ h in
    rw e refl
there_already o n ns false same h = sym (or_none (list_any (bytes_eq o) ns))

put : (o n : List ℕ) (ns : List (List ℕ)) (b : Bool) → list_any (bytes_eq n) ns ≡ b
    → list_any (bytes_eq o) (if b then ns else ns ++ n ∷ [])
    ≡ (list_any (bytes_eq o) ns || bytes_eq n o)
put o n ns true h = there_already o n ns (bytes_eq n o) refl h
put o n ns false h =
    list_any-append (bytes_eq o) ns (n ∷ [])
    ∙ ap (λ b. list_any (bytes_eq o) ns || b) (or_none (bytes_eq o n) ∙ bytes_eq_sym o n)

module _ {V : Type 0} (items : V → List ℕ) where
  put_named : (v : V) (keys : List V) (b : Bool)
      → map items (if b then keys else keys ++ v ∷ [])
      ≡ (if b then map items keys else map items keys ++ items v ∷ [])
  put_named v keys true = refl
  put_named v keys false = map_push items keys v

  any_named : (n : List ℕ) (keys : List V)
      → list_any (λ k. bytes_eq n (items k)) keys ≡ list_any (bytes_eq n) (map items keys)
  any_named n [] = refl
  any_named n (k ∷ keys) = ap (λ b. bytes_eq n (items k) || b) (any_named n keys)

  -- a set whose keys are seen as names, where a name was put in
  pub one_put : (v : V) (keys keys2 : List V) (name : List ℕ) (names : List (List ℕ))
      → items v ≡ folded name → map items keys ≡ names
      → keys2 ≡ (if list_any (λ k. bytes_eq (items v) (items k)) keys then keys else keys ++ v ∷ [])
      → Adds names (same_name name) (map items keys2)
  one_put v keys keys2 name names key seen after other =
      ap (λ ks. has (map items ks) other) after
      ∙ ap (λ ns. has ns other)
      (put_named v keys (list_any (λ k. bytes_eq (items v) (items k)) keys))
      ∙ put (folded other) (items v) (map items keys)
      (list_any (λ k. bytes_eq (items v) (items k)) keys) (sym (any_named (items v) keys))
      ∙ ap (λ n. has (map items keys) other || bytes_eq n (folded other)) key
      ∙ ap (λ ns. has ns other || bytes_eq (folded name) (folded other)) seen

-- ---- names, one after another

or_assoc : (x y z : Bool) → ((x || y) || z) ≡ (x || (y || z))
or_assoc true y z = refl
or_assoc false y z = refl

module _ {X : Type 0} (test : List ℕ → X → Bool) (xs : List X) where
  pub one_had : (i : ℕ) (x : X) (set set2 : List (List ℕ)) (w : List ℕ → Bool) → i < length xs
      → x ≡ get_or xs i x → ((o : List ℕ) → (has set o || list_any (test o) (drop i xs)) ≡ w o)
      → ((o : List ℕ) → has set2 o ≡ (has set o || test o x))
      → (o : List ℕ) → (has set2 o || list_any (test o) (drop (i + 1) xs)) ≡ w o
  one_had i x set set2 w within at before after o =
      ap (λ h. h || list_any (test o) (drop (i + 1) xs)) (after o)
      ∙ or_assoc (has set o) (test o x) (list_any (test o) (drop (i + 1) xs))
      ∙ ap (λ part. has set o || list_any (test o) part)
      (sym (drop_more xs i x within ∙ ap (λ u. u ∷ drop (i + 1) xs) (sym at)))
      ∙ before o

-- what none is left of
pub all_had : {X : Type 0} (test : List ℕ → X → Bool) (part : List X) (set : List (List ℕ))
    (w : List ℕ → Bool) → part ≡ [] → ((o : List ℕ) → (has set o || list_any (test o) part) ≡ w o)
    → (o : List ℕ) → has set o ≡ w o
all_had test part set w none h o =
    sym (ap (λ p. has set o || list_any (test o) p) none ∙ or_none (has set o)) ∙ h o

-- ---- names that are missing

one_missing : (x : List ℕ) (a b : Bool) (o p : Option (List ℕ)) → a ≡ b → o ≡ p
    → (if not a then Some x else o) ≡ (if not b then Some x else p)
one_missing x a b o p e f = rw (e, f) refl

pub alike : (test there : List ℕ → Bool) → ((n : List ℕ) → test n ≡ there n)
    → (names : List (List ℕ)) → find (λ n. not (test n)) names ≡ find (λ n. not (there n)) names
alike test there same [] = refl
alike test there same (n ∷ ns) =
    one_missing n (test n) (there n) (find (λ n. not (test n)) ns) (find (λ n. not (there n)) ns)
    (same n) (alike test there same ns)

pub capabilities_alike : (test there : List ℕ → Bool) → ((n : List ℕ) → test n ≡ there n)
    → (ts : List Thorn) → first_of_each
    (λ t. missing (λ c. MissingCapability t.name c) test t.conf.requires_) ts
    ≡ first_of_each (λ t. missing (λ c. MissingCapability t.name c) there t.conf.requires_) ts
capabilities_alike test there same [] = refl
capabilities_alike test there same (t ∷ ts) =
    ap (λ o. or_else (option_map (λ c. MissingCapability t.name c) o)
    (first_of_each (λ t. missing (λ c. MissingCapability t.name c) test t.conf.requires_) ts))
    (alike test there same t.conf.requires_)
    ∙ ap (λ o. or_else (missing (λ c. MissingCapability t.name c) there t.conf.requires_) o)
    (capabilities_alike test there same ts)
