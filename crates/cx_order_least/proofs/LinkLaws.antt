-- Changes of one number's list.
use Rattle.std.proofs.Common.{◌≡◌, ℕ, ◌+◌, ◌-◌, ◌<◌, Bool, true, false, ◌&&◌, ◌||◌, eqb, eqb-true, eq-eqb, List, [], ◌∷◌, ◌++◌, map, length, get_or, set, take, Some, refl, sym, ◌∙◌, ap, subst, arith}
use Rattle.std.specs.Prelude.{slice_get}
use Rattle.std.specs.List.{list_any}
use Rattle.std.proofs.lemmas.Bool.{eqb-false, false≢true}
use Rattle.std.proofs.lemmas.Option.{get_or_from_slice_get}
use Rattle.std.proofs.lemmas.List.{take_all, map-set, get_or-map, length-map, get_or-set_same, get_or-set_other}
use Rattle.std.proofs.lemmas.List.Folds.{list_any-append, list_any_more}
use Rattle.cx_order_least.specs.Links.{row, links, is_left}

change-rows : {A : Type 0} (items : A → List ℕ) (rows : List A) (at : ℕ) (old new : A)
    (change : List ℕ → List ℕ) → at < length (map items rows) → old ≡ get_or rows at old
    → items new ≡ change (items old)
    → map items (set rows at new) ≡ set (map items rows) at (change (get_or (map items rows) at []))
change-rows items rows at old new change h value changed =
    let within : at < length rows = subst (λ n. at < n) (length-map rows items) h in
    map-set items rows at new
    ∙ ap (set (map items rows) at)
    (changed ∙ ap change (ap items value ∙ sym (get_or-map items rows at old [] within)))

pub set-rows : {A : Type 0} (items : A → List ℕ) (rows : List A) (now : List (List ℕ)) (at : ℕ)
    (old new : A) (change : List ℕ → List ℕ) → map items rows ≡ now → at < length now
    → old ≡ get_or rows at old → items new ≡ change (items old)
    → map items (set rows at new) ≡ set now at (change (get_or now at []))
set-rows items rows now at old new change is h value changed =
    let P : List (List ℕ) → Type 0 =
    λ l. map items (set rows at new) ≡ set l at (change (get_or l at [])) in
    subst P is (change-rows items rows at old new change (subst (λ l. at < length l) (sym is) h)
    value changed)

-- ---- what the lists have after a change

or_false : (t : Bool) → (t || false) ≡ t
or_false true = refl
or_false false = refl

or_first : (s t : Bool) → s ≡ true → (s || t) ≡ true
or_first s t e = rw e refl

pub links-push : (rows : List (List ℕ)) (at n a b : ℕ) → at < length rows
    → links (set rows at (row rows at ++ n ∷ [])) a b ≡ (links rows a b || (eqb at a && eqb n b))
links-push rows at n a b h = by_test (eqb at a) refl
  where
    by_test : (t : Bool) → eqb at a ≡ t
        → links (set rows at (row rows at ++ n ∷ [])) a b
        ≡ (links rows a b || (eqb at a && eqb n b))
    by_test true e =
        let P : ℕ → Type 0 = λ m. links (set rows at (row rows at ++ n ∷ [])) m b
        ≡ (links rows m b || eqb n b) in
        rw e (subst P (eqb-true at a e)
        (ap (list_any (λ x. eqb x b)) (get_or-set_same rows at (row rows at ++ n ∷ []) [] h)
        ∙ list_any-append (λ x. eqb x b) (row rows at) (n ∷ [])
        ∙ ap (λ r. links rows at b || r) (or_false (eqb n b))))
    by_test false e =
        rw e (ap (list_any (λ x. eqb x b))
        (get_or-set_other rows at a (row rows at ++ n ∷ []) []
        (λ same. eqb-false at a e (sym same)))
        ∙ sym (or_false (links rows a b)))

last-any_at : (p : ℕ → Bool) (xs : List ℕ) (i l : ℕ) → i + 1 ≡ length xs → slice_get xs i ≡ Some l
    → list_any p xs ≡ (list_any p (take i xs) || p l)
last-any_at p xs i l whole e =
    ap (list_any p) (sym (take_all (i + 1) xs (omega (arith, whole))))
    ∙ list_any_more p xs i l (omega (arith, whole))
    ∙ ap (λ m. list_any p (take i xs) || p m) (get_or_from_slice_get xs i l l e)

last-any : (p : ℕ → Bool) (xs : List ℕ) (l : ℕ) → slice_get xs (length xs - 1) ≡ Some l
    → list_any p xs ≡ (list_any p (take (length xs - 1) xs) || p l)
last-any p [] l e = absurd (cc e)
last-any p (x ∷ xs) l e = last-any_at p (x ∷ xs) (length (x ∷ xs) - 1) l (omega arith) e

or_second : (s t : Bool) → t ≡ true → (s || t) ≡ true
or_second true t e = refl
or_second false t e = e

pub links-last : (rows : List (List ℕ)) (at l : ℕ)
    → slice_get (row rows at) (length (row rows at) - 1) ≡ Some l → links rows at l ≡ true
links-last rows at l is =
    last-any (λ x. eqb x l) (row rows at) l is
    ∙ or_second (list_any (λ x. eqb x l) (take (length (row rows at) - 1) (row rows at)))
    (eqb l l) (eq-eqb l l refl)

-- a number with a mark is another than one without
pub differ : (marks : List Bool) (l a : ℕ) → is_left marks l ≡ false → is_left marks a ≡ true
    → eqb l a ≡ false
differ marks l a marked left = by_test (eqb l a) refl
  where
    by_test : (t : Bool) → eqb l a ≡ t → eqb l a ≡ false
    by_test false e = e
    by_test true e = absurd (false≢true (sym marked ∙ ap (is_left marks) (eqb-true l a e) ∙ left))

module _ (rows : List (List ℕ)) (at l : ℕ) (h : at < length rows)
    (is : slice_get (row rows at) (length (row rows at) - 1) ≡ Some l) where
  abbrev pub shorter : List ℕ
  shorter = take (length (row rows at) - 1) (row rows at)

  here : (b : ℕ) → links (set rows at shorter) at b ≡ list_any (λ x. eqb x b) shorter
  here b = ap (list_any (λ x. eqb x b)) (get_or-set_same rows at shorter [] h)

  elsewhere : (a b : ℕ) → eqb at a ≡ false → links (set rows at shorter) a b ≡ links rows a b
  elsewhere a b e = ap (list_any (λ x. eqb x b))
      (get_or-set_other rows at a shorter [] (λ same. eqb-false at a e (sym same)))

  pub links-pop_fewer : (a b : ℕ) → links (set rows at shorter) a b ≡ true → links rows a b ≡ true
  links-pop_fewer a b was = by_test (eqb at a) refl
    where
      by_test : (t : Bool) → eqb at a ≡ t → links rows a b ≡ true
      by_test false e = sym (elsewhere a b e) ∙ was
      by_test true e =
          let P : ℕ → Type 0 = λ m. links (set rows at shorter) m b ≡ true
          → links rows m b ≡ true in
          subst P (eqb-true at a e)
          (λ t. last-any (λ x. eqb x b) (row rows at) l is
          ∙ or_first (list_any (λ x. eqb x b) shorter) (eqb l b) (sym (here b) ∙ t)) was

  pub links-pop_other : (a b : ℕ) → eqb l b ≡ false
      → links (set rows at shorter) a b ≡ links rows a b
  links-pop_other a b other = by_test (eqb at a) refl
    where
      by_test : (t : Bool) → eqb at a ≡ t → links (set rows at shorter) a b ≡ links rows a b
      by_test false e = elsewhere a b e
      by_test true e =
          let P : ℕ → Type 0 = λ m. links (set rows at shorter) m b ≡ links rows m b in
          subst P (eqb-true at a e)
          (here b ∙ sym (last-any (λ x. eqb x b) (row rows at) l is
          ∙ ap (λ t. list_any (λ x. eqb x b) shorter || t) other
          ∙ or_false (list_any (λ x. eqb x b) shorter)))
