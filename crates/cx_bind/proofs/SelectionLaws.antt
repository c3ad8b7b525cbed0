-- One step on in a list of active thorns, and in the list of their places.
use Rattle.std.proofs.Common.{◌≡◌, refl, sym, ◌∙◌, ap, ℕ, ◌+◌, ◌<◌, Bool, true, false, not, ◌&&◌, List, [], ◌∷◌, ◌++◌, map, filter, length, drop, get_or, Result, Ok, Err}
use Rattle.std.proofs.lemmas.List.{append_assoc, drop_more}
use Rattle.std.specs.List.{list_any}
use Rattle.cx_plan.specs.Lists.{once_behind, with_next}

module _ {X : Type 0} (same : X → X → Bool) (test : X → Bool) where
  -- what is there, and what is still to come
  abbrev pub come : List X → List X → List X
  come there xs = there ++ once_behind same there (filter test xs)

  pub come_left_out : (there : List X) (x : X) (xs : List X) → test x ≡ false
      → come there (x ∷ xs) ≡ come there xs
  come_left_out there x xs out = rw out refl

  pub come_again : (there : List X) (x : X) (xs : List X) → test x ≡ true
      → list_any (same x) there ≡ true → come there (x ∷ xs) ≡ come there xs
  come_again there x xs within again = rw (within, again) refl

  pub come_new : (there : List X) (x : X) (xs : List X) → test x ≡ true
      → list_any (same x) there ≡ false → come there (x ∷ xs) ≡ come (there ++ x ∷ []) xs
  come_new there x xs within new =
      rw (within, new)
      (sym (append_assoc there (x ∷ []) (once_behind same (there ++ x ∷ []) (filter test xs))))

  pub not_new : (there : List X) (x : X) (xs : List X) (a b : Bool) → test x ≡ a
      → list_any (same x) there ≡ b → false ≡ (a && not b) → come there (x ∷ xs) ≡ come there xs
  not_new there x xs false b within again e = come_left_out there x xs within
  not_new there x xs true true within again e = come_again there x xs within again
  not_new there x xs true false within again e = absurd cc

  pub is_new : (there : List X) (x : X) (xs : List X) (a b : Bool) → test x ≡ a
      → list_any (same x) there ≡ b → true ≡ (a && not b)
      → come there (x ∷ xs) ≡ come (there ++ x ∷ []) xs
  is_new there x xs false b within again e = absurd cc
  is_new there x xs true true within again e = absurd cc
  is_new there x xs true false within again e = come_new there x xs within again

-- one step on in a list of active names; what is there is seen as a set
module _ {X Y : Type 0} (same : X → X → Bool) (test : X → Bool) (name_of : X → Y)
    (has : X → List Y → Bool)
    (told : (x : X) (xs : List X) → list_any (same x) xs ≡ has x (map name_of xs)) (all : List X)
    (w : List X) where
  step : (i : ℕ) (x : X) → i < length all → x ≡ get_or all i x → drop i all ≡ x ∷ drop (i + 1) all
  step i x within at = drop_more all i x within ∙ ap (λ u. u ∷ drop (i + 1) all) (sym at)

  pub passed_by : (i : ℕ) (x : X) (there : List X) (set : List Y) (new : Bool) → i < length all
      → x ≡ get_or all i x → come same test there (drop i all) ≡ w → set ≡ map name_of there
      → new ≡ (test x && not (has x set)) → new ≡ false
      → come same test there (drop (i + 1) all) ≡ w
  passed_by i x there set new within at before seen is old =
      sym (not_new same test there x (drop (i + 1) all) (test x) (has x set) refl
      (told x there ∙ ap (λ s. has x s) (sym seen)) (sym old ∙ is))
      ∙ ap (λ part. come same test there part) (sym (step i x within at))
      ∙ before

  pub taken_in : (i : ℕ) (x : X) (there : List X) (set : List Y) (new : Bool) → i < length all
      → x ≡ get_or all i x → come same test there (drop i all) ≡ w → set ≡ map name_of there
      → new ≡ (test x && not (has x set)) → new ≡ true
      → come same test (there ++ x ∷ []) (drop (i + 1) all) ≡ w
  taken_in i x there set new within at before seen is yet =
      sym (is_new same test there x (drop (i + 1) all) (test x) (has x set) refl
      (told x there ∙ ap (λ s. has x s) (sym seen)) (sym yet ∙ is))
      ∙ ap (λ part. come same test there part) (sym (step i x within at))
      ∙ before

-- results behind those that are there
abbrev pub behind : {X E : Type 0} → List X → Result (List X) E → Result (List X) E
behind there (Ok xs) = Ok (there ++ xs)
behind there (Err e) = Err e

pub behind_one : {X E : Type 0} (there : List X) (x : X) (others : Result (List X) E)
    → behind there (with_next (Ok x) others) ≡ behind (there ++ x ∷ []) others
behind_one there x (Ok xs) = ap (λ ys. Ok ys) (sym (append_assoc there (x ∷ []) xs))
behind_one there x (Err e) = refl

pub behind_none : {X E : Type 0} (told : Result (List X) E) → behind [] told ≡ told
behind_none (Ok xs) = refl
behind_none (Err e) = refl
