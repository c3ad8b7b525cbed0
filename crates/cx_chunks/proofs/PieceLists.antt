-- The pieces of a chunk: which of them are of a variable and an iteration.
use Rattle.std.proofs.Common.{◌≡◌, ◌≢◌, ℕ, ◌<◌, ◌⊎◌, inl, inr, Bool, true, false, ◌||◌, eqb, arith, refl, ap, ◌∙◌, List, [], ◌∷◌, ◌++◌, map, Some, None}
use Rattle.std.specs.Prelude.{find, if◌then◌else◌}
use Rattle.std.specs.List.{flat_map, list_any, AllByRecursion}
use Rattle.std.specs.Str.{bytes_eq}
use Rattle.std.proofs.lemmas.Bool.{eq-eqb, ne_eqb, cases_Bool, and_left, and_right}
use Rattle.std.proofs.lemmas.List.Concat.{flat_map-cons}
use Rattle.std.proofs.lemmas.List.Folds.{list_any-append}
use Rattle.std.proofs.lemmas.Slice.Eq.{bytes_eq-Decides}
use Rattle.cx_plan.specs.Lists.{first_again_behind}
use Rattle.cx_ascii_read.specs.declared.record.Record.{Record}
use Rattle.cx_ascii_read.proofs.RowLaws.{all-append}
use Rattle.cx_chunks.specs.declared.piece.Piece.{Piece}
use Rattle.cx_chunks.specs.Cutting.{IsRising}
use Rattle.cx_chunks.specs.Combining.{full_of, iteration_of, is_of, is_at, is_twin, iterations_in}
use Rattle.cx_chunks.proofs.RisingLaws.{Pairs, has, eqb_flip}

-- ---- names

pub name_is : (a b : List ℕ) → a ≡ b → bytes_eq a b ≡ true
name_is a b e = (bytes_eq-Decides a b).1 e

pub name_differs : (a b : List ℕ) → a ≢ b → bytes_eq a b ≡ false
name_differs a b differs = go (cases_Bool (bytes_eq a b))
  where
    go : (bytes_eq a b ≡ true) ⊎ (bytes_eq a b ≡ false) → bytes_eq a b ≡ false
    go (inl same) = absurd (differs ((bytes_eq-Decides a b).0 same))
    go (inr other) = other

-- ---- lists

pub any_flat : {X Y : Type 0} (p : Y → Bool) (f : X → List Y) (xs : List X)
    → list_any p (flat_map f xs) ≡ list_any (λ x. list_any p (f x)) xs
any_flat p f [] = refl
any_flat p f (x ∷ xs) =
    ap (list_any p) (flat_map-cons f x xs) ∙ list_any-append p (f x) (flat_map f xs)
    ∙ ap (λ b. list_any p (f x) || b) (any_flat p f xs)

pub any_none : {X : Type 0} (p : X → Bool) (xs : List X) → AllByRecursion (λ x. p x ≡ false) xs
    → list_any p xs ≡ false
any_none p [] none = refl
any_none p (x ∷ xs) none = rw none.0 (any_none p xs none.1)

pub find_none : {X : Type 0} (p : X → Bool) (xs : List X) → AllByRecursion (λ x. p x ≡ false) xs
    → find p xs ≡ None
find_none p [] none = refl
find_none p (x ∷ xs) none = rw none.0 (find_none p xs none.1)

-- what no piece of the one list is, is found in the other
pub find_after : {X : Type 0} (p : X → Bool) (xs ys : List X) → AllByRecursion (λ x. p x ≡ false) xs
    → find p (xs ++ ys) ≡ find p ys
find_after p [] ys none = refl
find_after p (x ∷ xs) ys none = rw none.0 (find_after p xs ys none.1)

pub find_before : {X : Type 0} (p : X → Bool) (xs ys : List X)
    → AllByRecursion (λ x. p x ≡ false) ys
    → find p (xs ++ ys) ≡ find p xs
find_before p [] ys none = find_none p ys none
find_before p (x ∷ xs) ys none = ap (λ o. if p x then Some x else o) (find_before p xs ys none)

pub any_after : {X : Type 0} (p : X → Bool) (xs ys : List X) → AllByRecursion (λ x. p x ≡ false) xs
    → list_any p (xs ++ ys) ≡ list_any p ys
any_after p xs ys none =
    list_any-append p xs ys ∙ ap (λ b. b || list_any p ys) (any_none p xs none)

pub any_before : {X : Type 0} (p : X → Bool) (xs ys : List X) → AllByRecursion (λ x. p x ≡ false) ys
    → list_any p (xs ++ ys) ≡ list_any p xs
any_before p xs ys none =
    list_any-append p xs ys ∙ ap (λ b. list_any p xs || b) (any_none p ys none)
    ∙ or_none (list_any p xs)
  where
    or_none : (b : Bool) → (b || false) ≡ b
    or_none true = refl
    or_none false = refl

-- ---- twins

one_before : {X : Type 0} (same : X → X → Bool) (before : List X) (x : X) (ys : List X)
    → AllByRecursion (λ y. list_any (same y) before ≡ false) ys
    → AllByRecursion (λ y. same y x ≡ false) ys
    → AllByRecursion (λ y. list_any (same y) (before ++ x ∷ []) ≡ false) ys
one_before same before x [] no_before differs = tt
one_before same before x (y ∷ ys) no_before differs = (
  list_any-append (same y) before (x ∷ []) ∙ (rw (no_before.0, differs.0) refl),
  one_before same before x ys no_before.1 differs.1,
)

pub none_again : {X : Type 0} (same : X → X → Bool) (before xs : List X)
    → AllByRecursion (λ x. list_any (same x) before ≡ false) xs → Pairs (λ x y. same y x ≡ false) xs
    → first_again_behind same before xs ≡ None
none_again same before [] none apart = refl
none_again same before (x ∷ xs) none apart =
    rw none.0 (none_again same (before ++ x ∷ []) xs (one_before same before x xs none.1 apart.0)
    apart.1)

pub pairs_append : {X : Type 0} (R : X → X → Type 0) (xs ys : List X) → Pairs R xs → Pairs R ys
    → AllByRecursion (λ x. AllByRecursion (R x) ys) xs → Pairs R (xs ++ ys)
pairs_append R [] ys px py both = py
pairs_append R (x ∷ xs) ys px py both =
    (all-append (R x) xs ys px.0 both.0, pairs_append R xs ys px.1 py both.1)

-- ---- pieces of a variable

pub other_name : (full : List ℕ) (n : ℕ) (p : Piece) → full_of p ≢ full → is_at full n p ≡ false
other_name full n p differs =
    and_left (is_of full p) (eqb (iteration_of p) n) (name_differs (full_of p) full differs)

-- the iterations of a variable are those at which it has a piece
pub has_iteration : (full : List ℕ) (n : ℕ) (ps : List Piece)
    → has n (iterations_in full ps) ≡ list_any (is_at full n) ps
has_iteration full n [] = refl
has_iteration full n (p ∷ ps) = go (has_iteration full n ps) (cases_Bool (is_of full p))
  where
    go : has n (iterations_in full ps) ≡ list_any (is_at full n) ps
        → (is_of full p ≡ true) ⊎ (is_of full p ≡ false)
        → has n (iterations_in full (p ∷ ps)) ≡ list_any (is_at full n) (p ∷ ps)
    go others (inl this) =
        rw this
        (ap (λ b. b || has n (iterations_in full ps)) (eqb_flip n (iteration_of p))
        ∙ ap (λ b. eqb (iteration_of p) n || b) others)
    go others (inr other) = rw other others

-- the pieces of one variable, one for each of its records
module _ (f : Record → Piece) (named : (r : Record) → full_of (f r) ≡ r.full)
    (timed : (r : Record) → iteration_of (f r) ≡ r.iteration) (full : List ℕ) where
  abbrev times : List Record → List ℕ
  times rs = map (λ (r : Record). r.iteration) rs

  this_at : (r : Record) (n : ℕ) → r.full ≡ full → is_at full n (f r) ≡ eqb r.iteration n
  this_at r n is = rw (name_is (full_of (f r)) full (named r ∙ is)) (ap (λ i. eqb i n) (timed r))

  -- all have its name
  pub all_named : (rs : List Record) → AllByRecursion (λ (r : Record). r.full ≡ full) rs
      → AllByRecursion (λ p. full_of p ≡ full) (map f rs)
  all_named [] are = tt
  all_named (r ∷ rs) are = (named r ∙ are.0, all_named rs are.1)

  pub any_at : (n : ℕ) (rs : List Record) → AllByRecursion (λ (r : Record). r.full ≡ full) rs
      → list_any (is_at full n) (map f rs) ≡ has n (times rs)
  any_at n [] are = refl
  any_at n (r ∷ rs) are =
      ap (λ b. b || list_any (is_at full n) (map f rs)) (this_at r n are.0 ∙ eqb_flip r.iteration n)
      ∙ ap (λ b. eqb n r.iteration || b) (any_at n rs are.1)

  -- each is found
  pub found : (rs : List Record) → AllByRecursion (λ (r : Record). r.full ≡ full) rs
      → IsRising (times rs)
      → AllByRecursion (λ (r : Record). find (is_at full r.iteration) (map f rs) ≡ Some (f r)) rs
  found [] are up = tt
  found (r ∷ rs) are up = (
    rw (this_at r r.iteration are.0 ∙ eq-eqb r.iteration r.iteration refl) refl,
    later rs (found rs are.1 up.1) up.0,
  )
    where
      later : (ss : List Record)
          → AllByRecursion (λ (s : Record). find (is_at full s.iteration) (map f rs) ≡ Some (f s))
          ss
          → AllByRecursion (λ j. r.iteration < j) (times ss)
          → AllByRecursion (λ (s : Record). find (is_at full s.iteration) (map f (r ∷ rs))
          ≡ Some (f s)) ss
      later [] are_found above = tt
      later (s ∷ ss) are_found above =
          let more = above.0 in
          let not_this : is_at full s.iteration (f r) ≡ false =
          this_at r s.iteration are.0
          ∙ ne_eqb r.iteration s.iteration (λ e. absurd (omega (arith, more, e))) in
          (rw not_this are_found.0, later ss are_found.1 above.1)

  -- no two are twins
  pub no_twins : (rs : List Record) → IsRising (times rs)
      → Pairs (λ p q. is_twin q p ≡ false) (map f rs)
  no_twins [] up = tt
  no_twins (r ∷ rs) up = (apart rs up.0, no_twins rs up.1)
    where
      apart : (ss : List Record) → AllByRecursion (λ j. r.iteration < j) (times ss)
          → AllByRecursion (λ q. is_twin q (f r) ≡ false) (map f ss)
      apart [] above = tt
      apart (s ∷ ss) above =
          let more = above.0 in (
            and_right (is_of (full_of (f r)) (f s)) (eqb (iteration_of (f s)) (iteration_of (f r)))
                (ap (λ i. eqb i (iteration_of (f r))) (timed s) ∙ ap (eqb s.iteration) (timed r)
                ∙ ne_eqb s.iteration r.iteration (λ e. absurd (omega (arith, more, e)))),
            apart ss above.1,
          )
