-- Along a list whose elements are numbered.
use Rattle.std.proofs.Common.{◌≡◌, sym, ◌∙◌, ap, ℕ, ◌+◌, ◌<◌, List, [], ◌∷◌, ◌++◌, map, length, take, drop, get_or, arith}
use Rattle.std.proofs.lemmas.List.{append_assoc, append-nil, map_push, take_more, drop_more, length-take-le}
use Rattle.std.proofs.lemmas.List.Concat.{flat_map-append}
use Rattle.std.specs.List.{flat_map, enumerate_from}

module _ {X : Type 0} (xs : List X) (k : ℕ) (x : X) (within : k < length xs)
    (at : x ≡ get_or xs k x) where
  pub taken : take (k + 1) xs ≡ take k xs ++ x ∷ []
  taken = take_more xs k x within ∙ ap (λ u. take k xs ++ u ∷ []) (sym at)

  pub left_over : drop k xs ≡ x ∷ drop (k + 1) xs
  left_over = drop_more xs k x within ∙ ap (λ u. u ∷ drop (k + 1) xs) (sym at)

enumerate_push : {X : Type 0} (n : ℕ) (xs : List X) (x : X)
    → enumerate_from n (xs ++ x ∷ []) ≡ enumerate_from n xs ++ (n + length xs, x) ∷ []
enumerate_push n [] x = ap (λ k. (k, x) ∷ []) (omega arith)
enumerate_push n (y ∷ ys) x =
    let e : (n + 1) + length ys ≡ n + length (y ∷ ys) = omega arith in
    ap (λ zs. (n, y) ∷ zs) (enumerate_push (n + 1) ys x
    ∙ ap (λ k. enumerate_from (n + 1) ys ++ (k, x) ∷ []) e)

module _ {X : Type 0} (xs : List X) (k : ℕ) (x : X) (within : k < length xs)
    (at : x ≡ get_or xs k x) where
  pub one_numbered : enumerate_from 0 (take (k + 1) xs)
      ≡ enumerate_from 0 (take k xs) ++ (k, x) ∷ []
  one_numbered =
      let had : length (take k xs) ≡ k = length-take-le k xs (omega arith) in
      let part : 0 + length (take k xs) ≡ k = omega (arith, had) in
      ap (λ part. enumerate_from 0 part) (taken xs k x within at)
      ∙ enumerate_push 0 (take k xs) x
      ∙ ap (λ n. enumerate_from 0 (take k xs) ++ (n, x) ∷ []) part

  pub flat_numbered : {Y : Type 0} (f : ℕ × X → List Y)
      → flat_map f (enumerate_from 0 (take (k + 1) xs))
      ≡ flat_map f (enumerate_from 0 (take k xs)) ++ f (k, x)
  flat_numbered f =
      ap (λ ns. flat_map f ns) one_numbered
      ∙ flat_map-append f (enumerate_from 0 (take k xs)) ((k, x) ∷ [])
      ∙ ap (λ ys. flat_map f (enumerate_from 0 (take k xs)) ++ ys) (append-nil (f (k, x)))

  pub flat_step : {Y : Type 0} (f : ℕ × X → List Y) (ys : List Y) {ys1 ys2 : List Y}
      → ys1 ≡ ys ++ flat_map f (enumerate_from 0 (take k xs)) → ys2 ≡ ys1 ++ f (k, x)
      → ys2 ≡ ys ++ flat_map f (enumerate_from 0 (take (k + 1) xs))
  flat_step f ys before after =
      after
      ∙ ap (λ zs. zs ++ f (k, x)) before
      ∙ append_assoc ys (flat_map f (enumerate_from 0 (take k xs))) (f (k, x))
      ∙ ap (λ zs. ys ++ zs) (sym (flat_numbered f))

  pub flat_begun : {Y : Type 0} (f : ℕ × X → List Y) {ys1 ys2 : List Y}
      → ys1 ≡ flat_map f (enumerate_from 0 (take k xs)) → ys2 ≡ ys1 ++ f (k, x)
      → ys2 ≡ flat_map f (enumerate_from 0 (take (k + 1) xs))
  flat_begun f before after = after ∙ ap (λ zs. zs ++ f (k, x)) before ∙ sym (flat_numbered f)

  pub map_begun : {Y : Type 0} (f : ℕ × X → Y) {y : Y} {ys1 ys2 : List Y}
      → ys1 ≡ map f (enumerate_from 0 (take k xs)) → y ≡ f (k, x) → ys2 ≡ ys1 ++ y ∷ []
      → ys2 ≡ map f (enumerate_from 0 (take (k + 1) xs))
  map_begun f {ys1 = ys1} before one after =
      after
      ∙ ap (λ y. ys1 ++ y ∷ []) one
      ∙ ap (λ zs. zs ++ f (k, x) ∷ []) before
      ∙ sym (map_push f (enumerate_from 0 (take k xs)) (k, x))
      ∙ ap (λ ns. map f ns) (sym one_numbered)

  pub more_begun : {Y : Type 0} (f : X → List Y) {y : Y} {ys1 ys2 : List Y}
      → ys1 ≡ flat_map f (take k xs) → y ∷ [] ≡ f x → ys2 ≡ ys1 ++ y ∷ []
      → ys2 ≡ flat_map f (take (k + 1) xs)
  more_begun f {ys1 = ys1} before one after =
      after
      ∙ ap (λ zs. ys1 ++ zs) one
      ∙ ap (λ zs. zs ++ f x) before
      ∙ ap (λ zs. flat_map f (take k xs) ++ zs) (sym (append-nil (f x)))
      ∙ sym (flat_map-append f (take k xs) (x ∷ []))
      ∙ ap (λ part. flat_map f part) (sym (taken xs k x within at))
