-- A name and its shorter ones: past levels by suffixes.
use Rattle.std.proofs.Common.{◌≡◌, refl, sym, ◌∙◌, ap, subst, ℕ, zero, suc, ◌+◌, ◌-◌, ◌≤◌, ◌<◌, Bool, true, false, ◌&&◌, cond, List, [], ◌∷◌, ◌++◌, map, length, take, drop, Option, Some, None, if◌then◌else◌, arith}
use Rattle.std.specs.Prelude.{nat_le, codes}
use Rattle.std.specs.Char.{to_ascii_lowercase}
use Rattle.std.specs.List.{position_from, range_with_len}
use Rattle.std.specs.Option.{option_map}
use Rattle.std.proofs.lemmas.Bool.{and_parts, and_from, leb-true, le-leb}
use Rattle.std.proofs.lemmas.Bool.Decides.{same_from_decides}
use Rattle.std.proofs.lemmas.List.{take-append-drop, take-map, drop-map, map-append, length-append, length-take-le}
use Rattle.std.proofs.Math.Seq.{drop-append_seam, take-append_seam}
use Rattle.std.proofs.lemmas.Slice.Eq.{bytes_eq-Decides}
use Rattle.cx_text.specs.Lexemes.{same_name}
use Rattle.cx_plan.specs.Lists.{or_else, first_of_each}
use Rattle.cx_sched.specs.declared.tree.Ref.{Ref}
use Rattle.cx_bind.specs.Variables.{past_name}
use Rattle.cx_scope.specs.declared.names.NamedVariable.{NamedVariable}
use Rattle.cx_scope.specs.declared.names.Tier.{Tier}
use Rattle.cx_scope.specs.Sight.{Sight, is_in}
use Rattle.cx_scope.proofs.ReachLaws.{some-injective}
use Rattle.cx_scope.specs.Naming.{fits_owner, is_same_copy, names_level, without_suffix, variable_at, Level, variable_named}

-- ---- what a test finds in a list

position_alike : {X : Type 0} (p q : X → Bool) (k : ℕ) (xs : List X) → ((x : X) → p x ≡ q x)
    → position_from p k xs ≡ position_from q k xs
position_alike p q k [] h = refl
position_alike p q k (x ∷ xs) h =
    ap (λ b. cond b (Some k) (position_from p (k + 1) xs)) (h x)
    ∙ ap (λ o. cond (q x) (Some k) o) (position_alike p q (k + 1) xs h)

position_none : {X : Type 0} (p : X → Bool) (k : ℕ) (xs : List X) → ((x : X) → p x ≡ false)
    → position_from p k xs ≡ None
position_none p k [] h = refl
position_none p k (x ∷ xs) h =
    ap (λ b. cond b (Some k) (position_from p (k + 1) xs)) (h x) ∙ position_none p (k + 1) xs h

first_alike : {X Y : Type 0} (f g : X → Option Y) (xs : List X) → ((x : X) → f x ≡ g x)
    → first_of_each f xs ≡ first_of_each g xs
first_alike f g [] h = refl
first_alike f g (x ∷ xs) h =
    ap (λ o. or_else o (first_of_each f xs)) (h x)
    ∙ ap (λ o. or_else (g x) o) (first_alike f g xs h)

first_none : {X Y : Type 0} (f : X → Option Y) (xs : List X) → ((x : X) → f x ≡ None)
    → first_of_each f xs ≡ None
first_none f [] h = refl
first_none f (x ∷ xs) h = ap (λ o. or_else o (first_of_each f xs)) (h x) ∙ first_none f xs h

-- ---- a name and its last suffix

abbrev low : List ℕ → List ℕ
low name = map to_ascii_lowercase name

as_long : (name : List ℕ) → length (low name) ≡ length name
as_long [] = refl
as_long (b ∷ name) = ap (λ n. suc n) (as_long name)

abbrev end_of : List ℕ → List ℕ
end_of name = drop (length name - 2) name

abbrev pub front : List ℕ → List ℕ
front name = take (length name - 2) name

abbrev pub has_suffix : List ℕ → Bool
has_suffix name = nat_le 2 (length name) && same_name (end_of name) (codes "_p")

module _ (name before : List ℕ) where
  abbrev Whole : Type 0
  Whole = low name ≡ low (before ++ codes "_p")

  joined : (has_suffix name && same_name (front name) before) ≡ true → Whole
  joined h =
      let parts = and_parts (has_suffix name) (same_name (front name) before) h in
      let ends =
      (and_parts (nat_le 2 (length name)) (same_name (end_of name) (codes "_p")) parts.0).1 in
      ap low (sym (take-append-drop (length name - 2) name))
      ∙ map-append to_ascii_lowercase (front name) (end_of name)
      ∙ ap (λ a. a ++ low (end_of name))
      ((bytes_eq-Decides (low (front name)) (low before)).0 parts.1)
      ∙ ap (λ e. low before ++ e) ((bytes_eq-Decides (low (end_of name)) (low (codes "_p"))).0 ends)
      ∙ sym (map-append to_ascii_lowercase before (codes "_p"))

  parted : Whole → (has_suffix name && same_name (front name) before) ≡ true
  parted h =
      let apart : low name ≡ low before ++ low (codes "_p") =
      h ∙ map-append to_ascii_lowercase before (codes "_p") in
      let sizes : length name ≡ length (low before) + 2 =
      sym (as_long name) ∙ ap length apart ∙ length-append (low before) (low (codes "_p")) in
      let long : 2 ≤ length name = omega (arith, sizes) in
      let cut : length name - 2 ≡ length (low before) = omega (arith, sizes) in
      let at_front : low (front name) ≡ low before =
      sym (take-map to_ascii_lowercase (length name - 2) name) ∙ ap (λ n. take n (low name)) cut
      ∙ ap (λ l. take (length (low before)) l) apart
      ∙ take-append_seam (low before) (low (codes "_p")) in
      let at_end : low (end_of name) ≡ low (codes "_p") =
      sym (drop-map to_ascii_lowercase (length name - 2) name) ∙ ap (λ n. drop n (low name)) cut
      ∙ ap (λ l. drop (length (low before)) l) apart
      ∙ drop-append_seam (low before) (low (codes "_p")) in
      and_from (has_suffix name) (same_name (front name) before)
      (and_from (nat_le 2 (length name)) (same_name (end_of name) (codes "_p"))
      (le-leb 2 (length name) long)
      ((bytes_eq-Decides (low (end_of name)) (low (codes "_p"))).1 at_end))
      ((bytes_eq-Decides (low (front name)) (low before)).1 at_front)

  suffixed : same_name name (before ++ codes "_p")
      ≡ (has_suffix name && same_name (front name) before)
  suffixed = same_from_decides (same_name name (before ++ codes "_p"))
      (has_suffix name && same_name (front name) before)
      (bytes_eq-Decides (low name) (low (before ++ codes "_p"))) (joined, parted)

swapped : (f e s c : Bool) → (f && ((e && s) && c)) ≡ (e && (f && (s && c)))
swapped true true s c = refl
swapped true false s c = refl
swapped false true s c = refl
swapped false false s c = refl

none_told : (b : Bool) (x : List ℕ) → (if b then Some x else None) ≡ None → b ≡ false
none_told false x h = refl
none_told true x h = cc h

some_told : (b : Bool) (x y : List ℕ) → (if b then Some x else None) ≡ Some y → (b ≡ true) × (y ≡ x)
some_told false x y h = cc h
some_told true x y h = (refl, cc h)

module _ (sight : Sight) (t : ℕ) (tiers : List Tier) (vs : List NamedVariable) (r : Ref) where
  -- the first variable whose level has a name in place of the one of r
  abbrev pub at : List ℕ → ℕ → Option ℕ
  at base level = variable_at sight t tiers vs (record r { name = base }) level

  one_shorter : (base : List ℕ) (level : ℕ) (v : NamedVariable)
      → names_level (record r { name = base }) (suc level) v
      ≡ (has_suffix base && names_level (record r { name = front base }) level v)
  one_shorter base level v =
      ap (λ b. fits_owner r.owner v.group && (b && is_same_copy r.copy v.copy))
      (suffixed base (past_name v.name level))
      ∙ swapped (fits_owner r.owner v.group) (has_suffix base)
      (same_name (front base) (past_name v.name level)) (is_same_copy r.copy v.copy)

  shorter : (base : List ℕ) → has_suffix base ≡ true → (level : ℕ)
      → at base (suc level) ≡ at (front base) level
  shorter base ends level =
      first_alike (λ tier. position_from
      (λ v. is_in sight t tier v.group && names_level (record r { name = base }) (suc level) v)
      0 vs) (λ tier. position_from
      (λ v. is_in sight t tier v.group && names_level (record r { name = front base }) level v)
      0 vs) tiers
      (λ tier. position_alike
      (λ v. is_in sight t tier v.group && names_level (record r { name = base }) (suc level) v)
      (λ v. is_in sight t tier v.group && names_level (record r { name = front base }) level v)
      0 vs
      (λ v. ap (λ b. is_in sight t tier v.group && b)
      (one_shorter base level v
      ∙ ap (λ b. b && names_level (record r { name = front base }) level v) ends)))

  nothing_and : (b : Bool) → (b && false) ≡ false
  nothing_and true = refl
  nothing_and false = refl

  no_shorter : (base : List ℕ) → has_suffix base ≡ false → (level : ℕ) → at base (suc level) ≡ None
  no_shorter base ends level =
      first_none (λ tier. position_from
      (λ v. is_in sight t tier v.group && names_level (record r { name = base }) (suc level) v)
      0 vs) tiers
      (λ tier. position_none (λ v. is_in sight t tier v.group
      && names_level (record r { name = base }) (suc level) v) 0 vs
      (λ v. ap (λ b. is_in sight t tier v.group && b)
      (one_shorter base level v
      ∙ ap (λ b. b && names_level (record r { name = front base }) level v) ends)
      ∙ nothing_and (is_in sight t tier v.group)))

  abbrev pub found : ℕ → Option Level
  found level = option_map (λ place. (place, level)) (variable_at sight t tiers vs r level)

  -- what is left to seek: from a level on, by what is left of the name
  pub record Left (level : ℕ) (base : List ℕ) : Type 0 where
    pub rest : first_of_each found (range_with_len level (length base + level + 1))
        ≡ variable_named sight t tiers vs r
    pub same : (l : ℕ) → variable_at sight t tiers vs r (level + l) ≡ at base l

  head : (k m : ℕ) → first_of_each found (range_with_len k (m + 1))
      ≡ or_else (found k) (first_of_each found (range_with_len (k + 1) m))
  head k m = (let e : m + 1 ≡ suc m = omega arith in
      ap (λ n. first_of_each found (range_with_len k n)) e)

  found_here : (level : ℕ) (base : List ℕ) → Left level base → (o : Option ℕ) → at base 0 ≡ o
      → found level ≡ option_map (λ place. (place, level)) o
  found_here level base left o is =
      let e : level ≡ level + 0 = omega arith in
      ap (λ o. option_map (λ place. (place, level)) o)
      (ap (λ k. variable_at sight t tiers vs r k) e ∙ left.same 0 ∙ is)

  pub begins : Left 0 r.name
  begins = record {
    rest = (let e : length r.name + 0 + 1 ≡ length r.name + 1 = omega arith in
        ap (λ n. first_of_each found (range_with_len 0 n)) e);
    same = λ l. (let e : 0 + l ≡ l = omega arith in ap (λ k. variable_at sight t tiers vs r k) e);
  }

  pub ends_found : (level : ℕ) (base : List ℕ) → Left level base → (place : ℕ)
      → at base 0 ≡ Some place → variable_named sight t tiers vs r ≡ Some (place, level)
  ends_found level base left place is =
      sym left.rest ∙ head level (length base + level)
      ∙ ap (λ o. or_else o (first_of_each found
      (range_with_len (level + 1) (length base + level))))
      (found_here level base left (Some place) is)

  none_from : (level : ℕ) (base : List ℕ) → Left level base → at base 0 ≡ None
      → has_suffix base ≡ false → (n d : ℕ)
      → first_of_each found (range_with_len (level + d) n) ≡ None
  none_from level base left none ends zero d = refl
  none_from level base left none ends (suc n) d =
      (let e : level + d + 1 ≡ level + (d + 1) = omega arith in
      ap (λ o. or_else o (first_of_each found (range_with_len (level + d + 1) n)))
      (ap (λ o. option_map (λ place. (place, level + d)) o) (left.same d ∙ at_none d))
      ∙ ap (λ k. first_of_each found (range_with_len k n)) e
      ∙ none_from level base left none ends n (d + 1))
    where
      at_none : (d : ℕ) → at base d ≡ None
      at_none zero = none
      at_none (suc d) = no_shorter base ends d

  pub ends_empty : (level : ℕ) (base : List ℕ) → Left level base → at base 0 ≡ None
      → without_suffix base ≡ None → variable_named sight t tiers vs r ≡ None
  ends_empty level base left none told =
      let e : level ≡ level + 0 = omega arith in
      sym left.rest
      ∙ ap (λ k. first_of_each found (range_with_len k (length base + level + 1))) e
      ∙ none_from level base left none (none_told (has_suffix base) (front base) told)
      (length base + level + 1) 0

  next : (level : ℕ) (base : List ℕ) → Left level base → at base 0 ≡ None → has_suffix base ≡ true
      → Left (level + 1) (front base)
  next level base left none ends =
      let long : 2 ≤ length base =
      leb-true 2 (length base)
      (and_parts (nat_le 2 (length base)) (same_name (end_of base) (codes "_p")) ends).0 in
      let size : length (front base) ≡ length base - 2 =
      length-take-le (length base - 2) base (omega arith) in
      record {
        rest = (let e : length (front base) + (level + 1) + 1 ≡ length base + level =
            omega (arith, long, size) in
            ap (λ n. first_of_each found (range_with_len (level + 1) n)) e
            ∙ ap (λ o. or_else o (first_of_each found
            (range_with_len (level + 1) (length base + level))))
            (sym (found_here level base left None none))
            ∙ sym (head level (length base + level))
            ∙ left.rest);
        same = λ l. (let e : level + 1 + l ≡ level + suc l = omega arith in
            ap (λ k. variable_at sight t tiers vs r k) e ∙ left.same (suc l) ∙ shorter base ends l);
      }

  pub goes_on : (level : ℕ) (base base2 : List ℕ) → Left level base → at base 0 ≡ None
      → without_suffix base ≡ Some base2 → Left (level + 1) base2
  goes_on level base base2 left none told =
      let is = some_told (has_suffix base) (front base) base2 told in
      let L : List ℕ → Type 0 = λ b. Left (level + 1) b in
      subst L (sym is.1) (next level base left none is.0)

  pub gets_shorter : (base base2 : List ℕ) → without_suffix base ≡ Some base2
      → length base2 < length base
  gets_shorter base base2 told =
      let is = some_told (has_suffix base) (front base) base2 told in
      let long : 2 ≤ length base =
      leb-true 2 (length base)
      (and_parts (nat_le 2 (length base)) (same_name (end_of base) (codes "_p")) is.0).0 in
      let size : length (front base) ≡ length base - 2 =
      length-take-le (length base - 2) base (omega arith) in
      let same = ap length is.1 in omega (arith, long, size, same)

-- ---- where what is found stands

position_within : {X : Type 0} (p : X → Bool) (k : ℕ) (xs : List X) (n : ℕ)
    → position_from p k xs ≡ Some n → n < k + length xs
position_within p k [] n h = cc h
position_within p k (x ∷ xs) n h = here (p x) h (λ h. position_within p (k + 1) xs n h)
  where
    here : (b : Bool) → cond b (Some k) (position_from p (k + 1) xs) ≡ Some n
        → (position_from p (k + 1) xs ≡ Some n → n < k + 1 + length xs) → n < k + length (x ∷ xs)
    here true h rest = (let same : k ≡ n = some-injective h in omega (arith, same))
    here false h rest = (let later = rest h in omega (arith, later))

first_has : {X Y : Type 0} (f : X → Option Y) (P : Y → Type 0)
    → ((x : X) (y : Y) → f x ≡ Some y → P y) → (xs : List X) (y : Y) → first_of_each f xs ≡ Some y
    → P y
first_has f P all [] y h = cc h
first_has {Y = Y} f P all (x ∷ xs) y h = at (f x) refl h (λ h. first_has f P all xs y h)
  where
    at : (o : Option Y) → f x ≡ o → or_else o (first_of_each f xs) ≡ Some y
        → (first_of_each f xs ≡ Some y → P y) → P y
    at None is h rest = rest h
    at (Some z) is h rest = all x y (is ∙ h)

placed : (o : Option ℕ) (level : ℕ) (y : Level) → option_map (λ place. (place, level)) o ≡ Some y
    → o ≡ Some y.0
placed None level y h = cc h
placed (Some place) level y h = ap (λ l. Some l.0) (some-injective h)

pub place_within : (sight : Sight) (t : ℕ) (tiers : List Tier) (vs : List NamedVariable) (r : Ref)
    (y : Level) → variable_named sight t tiers vs r ≡ Some y → y.0 < length vs
place_within sight t tiers vs r y h =
    first_has (λ level. option_map (λ place. (place, level)) (variable_at sight t tiers vs r level))
    (λ (y : Level). y.0 < length vs)
    (λ level y is. first_has
    (λ tier. position_from (λ v. is_in sight t tier v.group && names_level r level v) 0 vs)
    (λ n. n < length vs)
    (λ tier n found. (let within =
    position_within (λ v. is_in sight t tier v.group && names_level r level v) 0 vs n found in
    omega (arith, within)))
    tiers y.0 (placed (variable_at sight t tiers vs r level) level y is))
    (range_with_len 0 (length r.name + 1)) y h
