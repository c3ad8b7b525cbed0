-- Lists in which each element stands once, and the numbers of elements.
use Rattle.std.proofs.Common.{◌≡◌, refl, sym, ◌∙◌, ap, ℕ, zero, suc, ◌+◌, ◌<◌, Bool, true, false, not, cond, ◌||◌, eqb, eqb-true, eq-eqb, List, [], ◌∷◌, ◌++◌, map, length, get_or, Some, if◌then◌else◌, append-nil, append_assoc, arith}
use Rattle.std.proofs.lemmas.Bool.{false≢true}
use Rattle.std.proofs.lemmas.List.{map-append}
use Rattle.std.proofs.lemmas.List.Folds.{list_any-append}
use Rattle.std.proofs.lemmas.Slice.Eq.{bytes_eq-Decides}
use Rattle.std.proofs.lemmas.Iterator.Adapters.{position_from-zero}
use Rattle.std.specs.List.{list_any, position, position_from}
use Rattle.std.specs.Str.{bytes_eq}
use Rattle.cx_text.specs.Lexemes.{same_name}
use Rattle.cx_plan.specs.Lists.{once_behind}
use Rattle.cx_order_entries.specs.Entries.{is_bin}
use Rattle.cx_order_entries.proofs.KeyLaws.{any_mapped}
use Rattle.cx_text.specs.Bytes.{folded}

-- ---- one after another

module _ {X : Type 0} (same : X → X → Bool) where
  -- what is there, and what comes of more
  abbrev pub come : List X → List X → List X
  come there xs = there ++ once_behind same there xs

  one-more : (there : List X) (x : X) (xs : List X) (b : Bool) → list_any (same x) there ≡ b
      → come (come there (x ∷ [])) xs ≡ come there (x ∷ xs)
  one-more there x xs true e = rw e (ap (λ n. come n xs) (append-nil there))
  one-more there x xs false e =
      rw e (append_assoc there (x ∷ []) (once_behind same (there ++ x ∷ []) xs))

  pub come-one : (there : List X) (x : X) (xs new : List X) → new ≡ come there (x ∷ [])
      → come new xs ≡ come there (x ∷ xs)
  come-one there x xs new is =
      ap (λ n. come n xs) is ∙ one-more there x xs (list_any (same x) there) refl

  pub come-both : (there xs ys : List X) → come (come there xs) ys ≡ come there (xs ++ ys)
  come-both there [] ys = ap (λ n. come n ys) (append-nil there)
  come-both there (x ∷ xs) ys =
      ap (λ n. come n ys) (sym (one-more there x xs (list_any (same x) there) refl))
      ∙ come-both (come there (x ∷ [])) xs ys
      ∙ one-more there x (xs ++ ys) (list_any (same x) there) refl

pub put-one : {V : Type 0} (items : V → List ℕ) (v : V) (keys keys2 : List V) (n : List ℕ)
    (names : List (List ℕ)) → items v ≡ n → map items keys ≡ names
    → keys2 ≡ (if list_any (λ k. bytes_eq (items v) (items k)) keys then keys else keys ++ v ∷ [])
    → map items keys2 ≡ come bytes_eq names (n ∷ [])
put-one items v keys keys2 n names key seen after =
    ap (map items) after
    ∙ by_test (list_any (λ k. bytes_eq (items v) (items k)) keys) refl
    ∙ ap (λ m. come bytes_eq (map items keys) (m ∷ [])) key
    ∙ ap (λ ns. come bytes_eq ns (n ∷ [])) seen
  where
    by_test : (b : Bool) → list_any (λ k. bytes_eq (items v) (items k)) keys ≡ b
        → map items (if list_any (λ k. bytes_eq (items v) (items k)) keys then keys
        else keys ++ v ∷ []) ≡ come bytes_eq (map items keys) (items v ∷ [])
    by_test true e = let f = any_mapped (bytes_eq (items v)) items keys ∙ e in
        rw (e, f) (sym (append-nil (map items keys)))
    by_test false e = let f = any_mapped (bytes_eq (items v)) items keys ∙ e in
        rw (e, f) (map-append items keys (v ∷ []))

-- ---- names that are kept with their small letters

not_not : (t b : Bool) → b ≡ not t → t ≡ not b
not_not true b e = sym (ap not e)
not_not false b e = sym (ap not e)

pub is-there : (n : List ℕ) (numbers ts : List (List ℕ)) (b : Bool) → numbers ≡ map folded ts
    → b ≡ not (list_any (bytes_eq (folded n)) numbers) → list_any (same_name n) ts ≡ not b
is-there n numbers ts b tied is =
    sym (any_mapped (bytes_eq (folded n)) folded ts)
    ∙ ap (list_any (bytes_eq (folded n))) (sym tied)
    ∙ not_not (list_any (bytes_eq (folded n)) numbers) b is

pub added : (n : List ℕ) (ts : List (List ℕ)) (b : Bool) → list_any (same_name n) ts ≡ not b
    → b ≡ true → ts ++ n ∷ [] ≡ come same_name ts (n ∷ [])
added n ts b is new = let e = is ∙ ap not new in rw e refl

pub kept : (n : List ℕ) (ts : List (List ℕ)) (b : Bool) → list_any (same_name n) ts ≡ not b
    → b ≡ false → ts ≡ come same_name ts (n ∷ [])
kept n ts b is old = let e = is ∙ ap not old in rw e (sym (append-nil ts))

-- ---- positions

module _ {X Y : Type 0} (p : Y → Bool) (f : X → Y) where
  mapped-from : (from : ℕ) (xs : List X)
      → position_from p from (map f xs) ≡ position_from (λ x. p (f x)) from xs
  mapped-from from [] = refl
  mapped-from from (x ∷ xs) = ap (λ o. cond (p (f x)) (Some from) o) (mapped-from (from + 1) xs)

  pub position-map : (xs : List X) → position p (map f xs) ≡ position (λ x. p (f x)) xs
  position-map xs = position_from-zero p (map f xs) ∙ mapped-from 0 xs
      ∙ sym (position_from-zero (λ x. p (f x)) xs)

-- ---- elements that are the same as no other

abbrev pub Unique : {X : Type 0} → (X → X → Bool) → List X → Type 0
Unique same [] = Unit {0}
Unique same (x ∷ xs) = (list_any (same x) xs ≡ false) × Unique same xs

pub record IsSame {X : Type 0} (same : X → X → Bool) : Type 0 where
  pub itself : (x : X) → same x x ≡ true
  pub turn : (x y : X) → same x y ≡ same y x
  pub agree : (x y z : X) → same x y ≡ true → same x z ≡ same y z

both_ways : (a b : Bool) → (a ≡ true → b ≡ true) → (b ≡ true → a ≡ true) → a ≡ b
both_ways true b f g = sym (f refl)
both_ways false true f g = g refl
both_ways false false f g = refl

pub bytes_same : IsSame bytes_eq
bytes_same =
    record {
      itself = λ x. (bytes_eq-Decides x x).1 refl;
      turn = λ x y. both_ways (bytes_eq x y) (bytes_eq y x)
          (λ h. (bytes_eq-Decides y x).1 (sym ((bytes_eq-Decides x y).0 h)))
          (λ h. (bytes_eq-Decides x y).1 (sym ((bytes_eq-Decides y x).0 h)));
      agree = λ x y z h. ap (λ n. bytes_eq n z) ((bytes_eq-Decides x y).0 h);
    }

pub name_same : IsSame same_name
name_same =
    record {
      itself = λ x. bytes_same.itself (folded x);
      turn = λ x y. bytes_same.turn (folded x) (folded y);
      agree = λ x y z h. bytes_same.agree (folded x) (folded y) (folded z) h;
    }

pub any-agree : {X : Type 0} (p r : X → Bool) → ((x : X) → p x ≡ r x) → (xs : List X)
    → list_any p xs ≡ list_any r xs
any-agree p r h [] = refl
any-agree p r h (x ∷ xs) =
    ap (λ t. t || list_any p xs) (h x) ∙ ap (λ t. r x || t) (any-agree p r h xs)

or_first : (s t : Bool) → s ≡ true → (s || t) ≡ true
or_first s t e = rw e refl

pub not-eqb : (a b : ℕ) → (a ≡ b → ⊥) → eqb a b ≡ false
not-eqb a b h = by_test (eqb a b) refl
  where
    by_test : (t : Bool) → eqb a b ≡ t → eqb a b ≡ false
    by_test true e = absurd (h (eqb-true a b e))
    by_test false e = e

-- whether the element of a number passes
abbrev pub has_at : {X : Type 0} → (X → Bool) → List X → ℕ → Bool
has_at p [] j = false
has_at p (x ∷ xs) zero = p x
has_at p (x ∷ xs) (suc j) = has_at p xs j

pub has_at-get : {X : Type 0} (p : X → Bool) (xs : List X) (j : ℕ) (d : X) → j < length xs
    → has_at p xs j ≡ p (get_or xs j d)
has_at-get p [] j d h = absurd (let no : ⊥ = omega (arith, h) in no)
has_at-get p (x ∷ xs) zero d h = refl
has_at-get p (x ∷ xs) (suc j) d h = has_at-get p xs j d (omega (arith, h))

none-at : {X : Type 0} (p : X → Bool) (xs : List X) (j : ℕ) → list_any p xs ≡ false
    → has_at p xs j ≡ false
none-at p [] j h = refl
none-at p (x ∷ xs) zero h = by_test (p x) refl
  where
    by_test : (t : Bool) → p x ≡ t → p x ≡ false
    by_test true e = absurd (false≢true (sym h ∙ or_first (p x) (list_any p xs) e))
    by_test false e = e
none-at p (x ∷ xs) (suc j) h = by_test (p x) refl (none-at p xs j)
  where
    by_test : (t : Bool) → p x ≡ t → (list_any p xs ≡ false → has_at p xs j ≡ false)
        → has_at p xs j ≡ false
    by_test true e rest = absurd (false≢true (sym h ∙ or_first (p x) (list_any p xs) e))
    by_test false e rest = rest (sym (ap (λ t. t || list_any p xs) e) ∙ h)

module _ {X : Type 0} (same : X → X → Bool) (s : IsSame same) where
  apart : (there xs : List X) (q : X) → list_any (same q) there ≡ true
      → list_any (same q) (once_behind same there xs) ≡ false
  apart there [] q h = refl
  apart there (x ∷ xs) q h =
      by_test (list_any (same x) there) refl (same q x) refl (apart there xs q h)
      (apart (there ++ x ∷ []) xs q
      (list_any-append (same q) there (x ∷ [])
      ∙ or_first (list_any (same q) there) (list_any (same q) (x ∷ [])) h))
    where
      by_test : (t : Bool) → list_any (same x) there ≡ t → (u : Bool) → same q x ≡ u
          → list_any (same q) (once_behind same there xs) ≡ false
          → list_any (same q) (once_behind same (there ++ x ∷ []) xs) ≡ false
          → list_any (same q) (once_behind same there (x ∷ xs)) ≡ false
      by_test true e u f passed more = rw e passed
      by_test false e true f passed more =
          absurd
          (false≢true (sym e ∙ sym (any-agree (same q) (same x) (λ y. s.agree q x y f) there) ∙ h))
      by_test false e false f passed more = rw (e, f) more

  pub unique : (there xs : List X) → Unique same (once_behind same there xs)
  unique there [] = tt
  unique there (x ∷ xs) = by_test (list_any (same x) there) refl (unique there xs)
      (unique (there ++ x ∷ []) xs)
    where
      itself : list_any (same x) (there ++ x ∷ []) ≡ true
      itself = list_any-append (same x) there (x ∷ [])
          ∙ ap (λ t. list_any (same x) there || (t || false)) (s.itself x)
          ∙ or_last (list_any (same x) there)
        where
          or_last : (t : Bool) → (t || true) ≡ true
          or_last true = refl
          or_last false = refl

      by_test : (t : Bool) → list_any (same x) there ≡ t → Unique same (once_behind same there xs)
          → Unique same (once_behind same (there ++ x ∷ []) xs)
          → Unique same (once_behind same there (x ∷ xs))
      by_test true e passed more = rw e passed
      by_test false e passed more = rw e (apart (there ++ x ∷ []) xs x itself, more)

  below-from : (p : X → Bool) (from n : ℕ) (xs : List X) → n < from
      → is_bin n (position_from p from xs) ≡ false
  below-from p from n [] h = refl
  below-from p from n (x ∷ xs) h =
      by_test (p x) refl (below-from p (from + 1) n xs (omega (arith, h)))
    where
      by_test : (t : Bool) → p x ≡ t → is_bin n (position_from p (from + 1) xs) ≡ false
          → is_bin n (position_from p from (x ∷ xs)) ≡ false
      by_test true e rest = rw e (not-eqb n from (λ same. omega (arith, h, same)))
      by_test false e rest = rw e rest

  at-from : (q : X) (xs : List X) → Unique same xs → (from j : ℕ)
      → is_bin (from + j) (position_from (same q) from xs) ≡ has_at (same q) xs j
  at-from q [] u from j = refl
  at-from q (x ∷ xs) u from zero = by_test (same q x) refl
    where
      by_test : (t : Bool) → same q x ≡ t
          → is_bin (from + 0) (position_from (same q) from (x ∷ xs)) ≡ same q x
      by_test true e = rw e (eq-eqb (from + 0) from (omega arith))
      by_test false e = rw e (below-from (same q) (from + 1) (from + 0) xs (omega arith))
  at-from q (x ∷ xs) u from (suc j) = by_test (same q x) refl (at-from q xs u.1 (from + 1) j)
    where
      by_test : (t : Bool) → same q x ≡ t
          → is_bin (from + 1 + j) (position_from (same q) (from + 1) xs) ≡ has_at (same q) xs j
          → is_bin (from + suc j) (position_from (same q) from (x ∷ xs)) ≡ has_at (same q) xs j
      by_test true e rest = rw e
          (not-eqb (from + suc j) from (λ same. omega (arith, same))
          ∙ sym (none-at (same q) xs j
          (any-agree (same q) (same x) (λ y. s.agree q x y e) xs ∙ u.0)))
      by_test false e rest = let n : from + suc j ≡ from + 1 + j = omega arith in
          rw e (ap (λ m. is_bin m (position_from (same q) (from + 1) xs)) n ∙ rest)

  pub at-position : (q : X) (xs : List X) → Unique same xs → (j : ℕ)
      → is_bin j (position (same q) xs) ≡ has_at (same q) xs j
  at-position q xs u j =
      let n : j ≡ 0 + j = omega arith in
      ap (is_bin j) (position_from-zero (same q) xs)
      ∙ ap (λ m. is_bin m (position_from (same q) 0 xs)) n ∙ at-from q xs u 0 j
