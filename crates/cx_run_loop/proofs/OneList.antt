-- Two rising lists of the same elements are one.
use Rattle.std.proofs.Common.{◌≡◌, ◌<◌, ◌⊎◌, inl, inr, ℕ, zero, suc, List, [], ◌∷◌, length, Some, arith, refl, sym, ap, ◌∙◌}
use Rattle.std.proofs.lemmas.List.Elements.{All-contains}
use Rattle.std.specs.Prelude.{All, Contains, slice_get}

pub there_below : {A : Type 0} (xs : List A) (k : ℕ) (x : A) → slice_get xs k ≡ Some x
    → k < length xs
there_below [] k x e = absurd cc
there_below (y ∷ ys) zero x e = omega arith
there_below (y ∷ ys) (suc k) x e =
    let rest : k < length ys = there_below ys k x e in omega (arith, rest)

module _ {A : Type 0} (f : A → ℕ) where
  abbrev pub Rising : List A → Type 0
  Rising [] = Unit {0}
  Rising (x ∷ xs) = All (λ (y : A). f x < f y) xs × Rising xs

  first_or : (x z : A) (xs : List A) → Contains (x ∷ xs) z → (x ≡ z) ⊎ Contains xs z
  first_or x z xs (zero, l, e) = inl e
  first_or x z xs (suc k, l, e) = inr (k, omega (arith, l), e)

  after_first : (x z : A) (xs : List A) → Contains xs z → Contains (x ∷ xs) z
  after_first x z xs (k, l, e) = (suc k, omega (arith, l), e)

  first_there : (x : A) (xs : List A) → Contains (x ∷ xs) x
  first_there x xs = (0, omega arith, refl)

  none_there : (z : A) → Contains [] z → ⊥
  none_there z (k, l, e) = omega (arith, l)

  below : (x z : A) (xs : List A) → All (λ (y : A). f x < f y) xs → Contains xs z → f x < f z
  below x z xs all there = All-contains (λ (y : A). f x < f y) xs z all there

  abbrev pub AreIn : List A → List A → Type 0
  AreIn xs ys = (z : A) → Contains xs z → Contains ys z

  pub one_list : (xs ys : List A) → Rising xs → Rising ys → AreIn xs ys → AreIn ys xs → xs ≡ ys
  one_list [] [] r s i j = refl
  one_list [] (y ∷ ys) r s i j = absurd (none_there y (j y (first_there y ys)))
  one_list (x ∷ xs) [] r s i j = absurd (none_there x (i x (first_there x xs)))
  one_list (x ∷ xs) (y ∷ ys) r s i j =
      ap (λ (z : A). z ∷ xs) same
      ∙ ap (λ (zs : List A). y ∷ zs)
      (one_list xs ys r.1 s.1
      (λ z there. rest x y z ys (sym same) (below x z xs r.0 there)
      (first_or y z ys (i z (after_first x z xs there))))
      (λ z there. rest y x z xs same (below y z ys s.0 there)
      (first_or x z xs (j z (after_first y z ys there)))))
    where
      same : x ≡ y
      same = go (first_or y x ys (i x (first_there x xs)))
          (first_or x y xs (j y (first_there y ys)))
        where
          go : (y ≡ x) ⊎ Contains ys x → (x ≡ y) ⊎ Contains xs y → x ≡ y
          go (inl e) other = sym e
          go (inr there) (inl e) = e
          go (inr there) (inr back) =
              let a : f y < f x = below y x ys s.0 there in
              let b : f x < f y = below x y xs r.0 back in
              absurd (let bad : ⊥ = omega (arith, a, b) in bad)

      rest : (u v z : A) (zs : List A) → v ≡ u → f u < f z → (v ≡ z) ⊎ Contains zs z
          → Contains zs z
      rest u v z zs e l (inl same) =
          let both : f u ≡ f z = ap f (sym e) ∙ ap f same in
          absurd (let bad : ⊥ = omega (arith, l, both) in bad)
      rest u v z zs e l (inr there) = there
