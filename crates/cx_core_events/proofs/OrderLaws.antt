-- The order of places, told by numbers and by keys.
use Rattle.std.specs.Prelude.{slice_get}
use Rattle.std.proofs.Common.{◌≡◌, ℕ, zero, suc, length, get_or, Some, ◌<◌, ◌≤◌, ◌⊎◌, inl, inr, ◌↔◌, Bool, true, false, ltb, eqb, ◌||◌, ◌&&◌, List, [], ◌∷◌, IsTrue, refl, sym, ap, ◌∙◌, arith, eq-eqb}
use Rattle.std.proofs.lemmas.Bool.{cases_lt, cases_eq, ltb-true, lt-ltb, le-ltb, ne_eqb, and_parts}
use Rattle.cx_flat.specs.Ways.{Less}
use Rattle.cx_core_events.specs.Paces.{is_less}

pub less_told : (xs ys : List ℕ) → Less xs ys → is_less xs ys ≡ true
less_told [] ys h = absurd h
less_told (x ∷ xs) [] h = absurd h
less_told (x ∷ xs) (y ∷ ys) (inl l) = ap (λ b. b || (eqb x y && is_less xs ys)) (lt-ltb x y l)
less_told (x ∷ xs) (y ∷ ys) (inr h) =
    second (ltb x y) (eqb x y) (is_less xs ys) (eq-eqb x y h.0) (less_told xs ys h.1)
  where
    second : (a b c : Bool) → b ≡ true → c ≡ true → (a || (b && c)) ≡ true
    second true b c e f = refl
    second false b c e f = ap (λ z. z && c) e ∙ f

pub told_less : (xs ys : List ℕ) → is_less xs ys ≡ true → Less xs ys
told_less [] ys e = absurd cc
told_less (x ∷ xs) [] e = absurd cc
told_less (x ∷ xs) (y ∷ ys) e = go (told_less xs ys) (cases_lt x y)
  where
    rest : (a b : Bool) → a ≡ false → (a || b) ≡ true → b ≡ true
    rest true b f g = absurd cc
    rest false b f g = g

    go : (is_less xs ys ≡ true → Less xs ys) → (x < y) ⊎ (y ≤ x) → Less (x ∷ xs) (y ∷ ys)
    go more (inl l) = inl l
    go more (inr l) =
        let both = and_parts (eqb x y) (is_less xs ys)
        (rest (ltb x y) (eqb x y && is_less xs ys) (le-ltb x y l) e) in
        inr (same (cases_eq x y) both.0, more both.1)
      where
        same : (x ≡ y) ⊎ (x ≡ y → ⊥) → eqb x y ≡ true → x ≡ y
        same (inl h) f = h
        same (inr h) f = absurd (clash (eqb x y) (ne_eqb x y h) f)
          where
            clash : (b : Bool) → b ≡ false → b ≡ true → ⊥
            clash b f g = cc

pub less_is : (b : Bool) (xs ys : List ℕ) → IsTrue b ↔ Less xs ys → b ≡ is_less xs ys
less_is true xs ys h = sym (less_told xs ys (h.0 refl))
less_is false xs ys h = go (is_less xs ys) refl
  where
    go : (c : Bool) → is_less xs ys ≡ c → false ≡ is_less xs ys
    go true e = absurd (clash (h.1 (told_less xs ys e)))
      where
        clash : false ≡ true → ⊥
        clash f = cc
    go false e = sym e

-- what a slice has at a place
pub get_some : {A : Type 0} (xs : List A) (k : ℕ) (x : A) → true ≡ ltb k (length xs)
    → x ≡ get_or xs k x → slice_get xs k ≡ Some x
get_some xs k x e f = inside xs k x (ltb-true k (length xs) (sym e)) f
  where
    inside : {A : Type 0} (xs : List A) (k : ℕ) (x : A) → k < length xs → x ≡ get_or xs k x
        → slice_get xs k ≡ Some x
    inside [] k x l f = absurd (omega (arith, l))
    inside (y ∷ ys) zero x l f = ap Some (sym f)
    inside (y ∷ ys) (suc k) x l f = inside ys k x (omega (arith, l)) f
