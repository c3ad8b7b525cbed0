-- What is found among pieces of which no two are twins.
use Rattle.std.proofs.Common.{◌≡◌, ℕ, zero, suc, ◌+◌, ◌-◌, ◌<◌, ◌≤◌, ◌⊎◌, inl, inr, Bool, true, false, ◌&&◌, ◌||◌, eqb, arith, refl, sym, ap, ◌∙◌, subst, List, [], ◌∷◌, ◌++◌, length, take, drop, Option, Some, None, Bor}
use Rattle.std.specs.Prelude.{find, slice_get, is_some, option_copied, if◌then◌else◌}
use Rattle.std.specs.List.{list_any, position, position_or_len, AllByRecursion}
use Rattle.std.proofs.lemmas.Bool.{cases_Bool, cases_lt, eq-eqb, eqb-true, lt-ltb, le-ltb, true≢false, and_from}
use Rattle.std.proofs.lemmas.Option.{slice_get_past}
use Rattle.std.proofs.lemmas.List.{length-drop, take_all}
use Rattle.std.proofs.lemmas.List.Folds.{find_at, list_any-append}
use Rattle.std.proofs.lemmas.Slice.Eq.{bytes_eq-Decides}
use Rattle.cx_plan.specs.Lists.{or_else, first_again, first_again_behind}
use Rattle.cx_plan.specs.Setups.{Setup}
use Rattle.cx_cut.specs.Cuts.{Parts}
use Rattle.cx_chunks.specs.declared.fault.ChunkFault.{ChunkFault}
use Rattle.cx_chunks.specs.declared.fault.ChunkFault.TheVariants.{Double}
use Rattle.cx_chunks.specs.declared.piece.Piece.{Piece}
use Rattle.cx_chunks.specs.Combining.{full_of, iteration_of, is_of, is_at, is_twin, by_piece, stranger_in, double_in, first_of_chunks, missing, chunk, chunk_fault}
use Rattle.cx_chunks.specs.Turns.{piece_at}
use Rattle.cx_chunks.proofs.RisingLaws.{Pairs}
use Rattle.cx_chunks.proofs.PieceLists.{name_is}

-- ---- Booleans

pub both_hold : (a b : Bool) → (a && b) ≡ true → (a ≡ true) × (b ≡ true)
both_hold true b e = (refl, e)
both_hold false b e = absurd (true≢false (sym e))

pub neither : (a b : Bool) → (a || b) ≡ false → (a ≡ false) × (b ≡ false)
neither true b e = absurd (true≢false e)
neither false b e = (refl, e)

-- ---- places

-- what is found stands at the first place
pub position_finds : {X : Type 0} (p : X → Bool) (xs : List X) (k : ℕ) → position p xs ≡ Some k
    → find p xs ≡ slice_get xs k
position_finds p xs k is = go (cases_lt (position_or_len p xs) (length xs))
  where
    go : (position_or_len p xs < length xs) ⊎ (length xs ≤ position_or_len p xs)
        → find p xs ≡ slice_get xs k
    go (inl l) =
        let e : Some (position_or_len p xs) ≡ Some k =
        ap (λ b. if b then Some (position_or_len p xs) else None)
        (sym (lt-ltb (position_or_len p xs) (length xs) l)) ∙ is in
        let same : position_or_len p xs ≡ k = cc in
        find_at p xs ∙ ap (slice_get xs) same
    go (inr l) =
        let e : None ≡ Some k =
        ap (λ b. if b then Some (position_or_len p xs) else None)
        (sym (le-ltb (position_or_len p xs) (length xs) l)) ∙ is in
        absurd (none_some k e)
      where
        none_some : (n : ℕ) → None ≡ Some n → ⊥
        none_some n e = cc

pub position_lacks : {X : Type 0} (p : X → Bool) (xs : List X) → position p xs ≡ None
    → find p xs ≡ None
position_lacks p xs is = go (cases_lt (position_or_len p xs) (length xs))
  where
    go : (position_or_len p xs < length xs) ⊎ (length xs ≤ position_or_len p xs)
        → find p xs ≡ None
    go (inl l) =
        let e : Some (position_or_len p xs) ≡ None =
        ap (λ b. if b then Some (position_or_len p xs) else None)
        (sym (lt-ltb (position_or_len p xs) (length xs) l)) ∙ is in
        absurd (some_none (position_or_len p xs) e)
      where
        some_none : (n : ℕ) → Some n ≡ None → ⊥
        some_none n e = cc
    go (inr l) = find_at p xs ∙ slice_get_past xs (position_or_len p xs) l

pub position_below : {X : Type 0} (p : X → Bool) (xs : List X) (k : ℕ) → position p xs ≡ Some k
    → k < length xs
position_below p xs k is = go (cases_lt (position_or_len p xs) (length xs))
  where
    go : (position_or_len p xs < length xs) ⊎ (length xs ≤ position_or_len p xs) → k < length xs
    go (inl l) =
        let e : Some (position_or_len p xs) ≡ Some k =
        ap (λ b. if b then Some (position_or_len p xs) else None)
        (sym (lt-ltb (position_or_len p xs) (length xs) l)) ∙ is in
        let same : position_or_len p xs ≡ k = cc in
        omega (arith, l, same)
    go (inr l) =
        let e : None ≡ Some k =
        ap (λ b. if b then Some (position_or_len p xs) else None)
        (sym (le-ltb (position_or_len p xs) (length xs) l)) ∙ is in
        absurd (none_some k e)
      where
        none_some : (n : ℕ) → None ≡ Some n → ⊥
        none_some n e = cc

get_none : {X : Type 0} (xs : List X) (k : ℕ) → slice_get xs k ≡ None → k < length xs → ⊥
get_none [] k e l = omega (arith, l)
get_none {X = X} (x ∷ xs) zero e l = absurd (some_none x e)
  where
    some_none : (y : X) → Some y ≡ None → ⊥
    some_none y e = cc
get_none (x ∷ xs) (suc k) e l = get_none xs k e (omega (arith, l))

get_drop : {X : Type 0} (n : ℕ) (xs : List X) (k : ℕ)
    → slice_get (drop n xs) k ≡ slice_get xs (n + k)
get_drop zero xs k = let e : zero + k ≡ k = omega arith in ap (slice_get xs) (sym e)
get_drop (suc n) [] k = refl
get_drop (suc n) (x ∷ xs) k =
    let e : suc n + k ≡ suc (n + k) = omega arith in
    get_drop n xs k ∙ ap (slice_get (x ∷ xs)) (sym e)

-- one is among them where one is found
any_found : {X : Type 0} (p : X → Bool) (xs : List X) → is_some (find p xs) ≡ list_any p xs
any_found p [] = refl
any_found p (x ∷ xs) = go (p x) (any_found p xs)
  where
    go : (b : Bool) → is_some (find p xs) ≡ list_any p xs
        → is_some (if b then Some x else find p xs) ≡ (b || list_any p xs)
    go true e = refl
    go false e = e

-- whether one was found
pub any_is : {T : Type 0} (p : T → Bool) (xs : List T) (r : Option (Bor T)) (b : Bool)
    → option_copied r ≡ find p xs → b ≡ is_some r → b ≡ list_any p xs
any_is p xs r b found is = is ∙ copied r ∙ ap is_some found ∙ any_found p xs
  where
    copied : {T : Type 0} (o : Option (Bor T)) → is_some o ≡ is_some (option_copied o)
    copied (Some x) = refl
    copied None = refl

-- ---- no two are twins

behind_none : {X : Type 0} (same : X → X → Bool) (before xs : List X)
    → first_again_behind same before xs ≡ None
    → AllByRecursion (λ y. list_any (same y) before ≡ false) xs
behind_none same before [] none = tt
behind_none {X = X} same before (x ∷ xs) none =
    go (behind_none same (before ++ x ∷ []) xs) (cases_Bool (list_any (same x) before))
  where
    some_none : (y : X) → Some y ≡ None → ⊥
    some_none y e = cc

    less : (ys : List X) → AllByRecursion (λ y. list_any (same y) (before ++ x ∷ []) ≡ false) ys
        → AllByRecursion (λ y. list_any (same y) before ≡ false) ys
    less [] all = tt
    less (y ∷ ys) all = (
      (neither (list_any (same y) before) (list_any (same y) (x ∷ []))
          (sym (list_any-append (same y) before (x ∷ [])) ∙ all.0)).0,
      less ys all.1,
    )

    go : (first_again_behind same (before ++ x ∷ []) xs ≡ None
        → AllByRecursion (λ y. list_any (same y) (before ++ x ∷ []) ≡ false) xs)
        → (list_any (same x) before ≡ true) ⊎ (list_any (same x) before ≡ false)
        → AllByRecursion (λ y. list_any (same y) before ≡ false) (x ∷ xs)
    go others (inl again) =
        let e : Some x ≡ None =
        ap (λ b. if b then Some x else first_again_behind same (before ++ x ∷ []) xs) (sym again)
        ∙ none in
        absurd (some_none x e)
    go others (inr new) =
        let e : first_again_behind same (before ++ x ∷ []) xs ≡ None =
        ap (λ b. if b then Some x else first_again_behind same (before ++ x ∷ []) xs) (sym new)
        ∙ none in
        (new, less xs (others e))

pub pairs_apart : {X : Type 0} (same : X → X → Bool) (before xs : List X)
    → first_again_behind same before xs ≡ None → Pairs (λ x y. same y x ≡ false) xs
pairs_apart same before [] none = tt
pairs_apart {X = X} same before (x ∷ xs) none =
    let new = (behind_none same before (x ∷ xs) none).0 in
    let rest : first_again_behind same (before ++ x ∷ []) xs ≡ None =
    ap (λ b. if b then Some x else first_again_behind same (before ++ x ∷ []) xs) (sym new)
    ∙ none in (
      differ xs (behind_none same (before ++ x ∷ []) xs rest),
      pairs_apart same (before ++ x ∷ []) xs rest,
    )
  where
    differ : (ys : List X) → AllByRecursion (λ y. list_any (same y) (before ++ x ∷ []) ≡ false) ys
        → AllByRecursion (λ y. same y x ≡ false) ys
    differ [] all = tt
    differ (y ∷ ys) all = (
      (neither (same y x) false
          (neither (list_any (same y) before) (list_any (same y) (x ∷ []))
          (sym (list_any-append (same y) before (x ∷ [])) ∙ all.0)).1).0,
      differ ys all.1,
    )

all_dropped : {X : Type 0} (P : X → Type 0) (n : ℕ) (xs : List X) → AllByRecursion P xs
    → AllByRecursion P (drop n xs)
all_dropped P zero xs all = all
all_dropped P (suc n) [] all = tt
all_dropped P (suc n) (x ∷ xs) all = all_dropped P n xs all.1

found_is : {X : Type 0} (P : X → Type 0) (p : X → Bool) (xs : List X) (y : X)
    → AllByRecursion P xs → find p xs ≡ Some y → P y × (p y ≡ true)
found_is {X = X} P p [] y all is = absurd (none_some y is)
  where
    none_some : (x : X) → None ≡ Some x → ⊥
    none_some x e = cc
found_is P p (x ∷ xs) y all is = go (found_is P p xs y all.1) (cases_Bool (p x))
  where
    go : (find p xs ≡ Some y → P y × (p y ≡ true)) → (p x ≡ true) ⊎ (p x ≡ false)
        → P y × (p y ≡ true)
    go others (inl this) =
        let e : Some x ≡ Some y = ap (λ b. if b then Some x else find p xs) (sym this) ∙ is in
        let same : x ≡ y = cc in
        (subst P same all.0, subst (λ z. p z ≡ true) same this)
    go others (inr other) =
        others (ap (λ b. if b then Some x else find p xs) (sym other) ∙ is)

-- two pieces of one variable and iteration are twins
twins : (full : List ℕ) (n : ℕ) (p q : Piece) → is_at full n p ≡ true → is_at full n q ≡ true
    → is_twin q p ≡ true
twins full n p q this that =
    let a = both_hold (is_of full p) (eqb (iteration_of p) n) this in
    let b = both_hold (is_of full q) (eqb (iteration_of q) n) that in
    let name : full_of q ≡ full_of p =
    (bytes_eq-Decides (full_of q) full).0 b.0 ∙ sym ((bytes_eq-Decides (full_of p) full).0 a.0) in
    let time : iteration_of q ≡ iteration_of p =
    eqb-true (iteration_of q) n b.1 ∙ sym (eqb-true (iteration_of p) n a.1) in
    and_from (is_of (full_of p) q) (eqb (iteration_of q) (iteration_of p))
    (name_is (full_of q) (full_of p) name) (eq-eqb (iteration_of q) (iteration_of p) time)

module _ (full : List ℕ) (n : ℕ) where
  -- what is found behind a place is found from the front
  pub found_later : (k : ℕ) (ps : List Piece) (q : Piece)
      → Pairs (λ x y. is_twin y x ≡ false) ps
      → find (is_at full n) (drop k ps) ≡ Some q → find (is_at full n) ps ≡ Some q
  found_later zero ps q apart is = is
  found_later (suc k) [] q apart is = is
  found_later (suc k) (p ∷ ps) q apart is =
      go (found_later k ps q apart.1 is) (cases_Bool (is_at full n p))
    where
      go : find (is_at full n) ps ≡ Some q → (is_at full n p ≡ true) ⊎ (is_at full n p ≡ false)
          → find (is_at full n) (p ∷ ps) ≡ Some q
      go others (inl this) =
          let f = found_is (λ y. is_twin y p ≡ false) (is_at full n) (drop k ps) q
          (all_dropped (λ y. is_twin y p ≡ false) k ps apart.0) is in
          absurd (true≢false (sym (twins full n p q this f.1) ∙ f.0))
      go others (inr other) =
          ap (λ b. if b then Some p else find (is_at full n) ps) other ∙ others

  -- the place of what is found from a place on
  found_near : (near ahead : ℕ) (ps : List Piece) → first_again is_twin ps ≡ None
      → position (is_at full n) (drop near ps) ≡ Some ahead
      → piece_at ps (Some (near + ahead)) ≡ find (is_at full n) ps
  found_near near ahead ps single is =
      go (slice_get ps (near + ahead)) refl
    where
      at : find (is_at full n) (drop near ps) ≡ slice_get ps (near + ahead)
      at = position_finds (is_at full n) (drop near ps) ahead is ∙ get_drop near ps ahead

      go : (o : Option Piece) → slice_get ps (near + ahead) ≡ o
          → slice_get ps (near + ahead) ≡ find (is_at full n) ps
      go (Some q) e =
          e ∙ sym (found_later near ps q (pairs_apart is_twin [] ps single) (at ∙ e))
      go None e =
          let below = position_below (is_at full n) (drop near ps) ahead is in
          let less = length-drop near ps in
          absurd (get_none ps (near + ahead) e (omega (arith, below, less)))

  -- the same of all that there is from a place on
  pub found_ahead : (near ahead : ℕ) (ps : List Piece) → first_again is_twin ps ≡ None
      → position (is_at full n) (take (length ps - near) (drop near ps)) ≡ Some ahead
      → piece_at ps (Some (near + ahead)) ≡ find (is_at full n) ps
  found_ahead near ahead ps single is =
      let less = length-drop near ps in
      let all : take (length ps - near) (drop near ps) ≡ drop near ps =
      take_all (length ps - near) (drop near ps) (omega (arith, less)) in
      found_near near ahead ps single (ap (position (is_at full n)) (sym all) ∙ is)

pub found_first : (full : List ℕ) (n : ℕ) (ps : List Piece) (o : Option ℕ)
    → o ≡ position (is_at full n) ps → piece_at ps o ≡ find (is_at full n) ps
found_first full n ps (Some k) is = sym (position_finds (is_at full n) ps k (sym is))
found_first full n ps None is = sym (position_lacks (is_at full n) ps (sym is))

-- ---- no chunk has twins

none_else : {X : Type 0} (a b : Option X) → or_else a b ≡ None → (a ≡ None) × (b ≡ None)
none_else {X = X} (Some x) b e = absurd (some_none x e)
  where
    some_none : (y : X) → Some y ≡ None → ⊥
    some_none y e = cc
none_else None b e = (refl, e)

by_none : (k : ℕ) (o : Option Piece) → by_piece Double k o ≡ None → o ≡ None
by_none k None e = refl
by_none k (Some p) e = absurd (some_none (Double k (full_of p) (iteration_of p)) e)
  where
    some_none : (y : ChunkFault) → Some y ≡ None → ⊥
    some_none y e = cc

pub chunk_single : (chunks : List (List Piece)) (k j : ℕ)
    → first_of_chunks double_in k chunks ≡ None → first_again is_twin (chunk chunks j) ≡ None
chunk_single [] k j none = refl
chunk_single (ps ∷ pss) k zero none =
    by_none k (first_again is_twin ps)
    (none_else (double_in k ps) (first_of_chunks double_in (k + 1) pss) none).0
chunk_single (ps ∷ pss) k (suc j) none =
    chunk_single pss (k + 1) j
    (none_else (double_in k ps) (first_of_chunks double_in (k + 1) pss) none).1

pub no_double : (setup : Setup) (c : Parts) (chunks : List (List Piece))
    → chunk_fault setup c chunks ≡ None → first_of_chunks double_in 0 chunks ≡ None
no_double setup c chunks none =
    (none_else (first_of_chunks double_in 0 chunks) (missing setup c chunks)
    (none_else (first_of_chunks (stranger_in setup c) 0 chunks)
    (or_else (first_of_chunks double_in 0 chunks) (missing setup c chunks)) none).1).0
