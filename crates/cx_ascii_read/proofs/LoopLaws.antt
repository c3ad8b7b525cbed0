-- Sizes and rows, as loops read them.
use Rattle.std.proofs.Common.{◌≡◌, ℕ, ℤ, suc, ◌+◌, ◌-◌, ◌≤◌, ◌<◌, true, false, List, [], ◌∷◌, ◌++◌, Option, Some, None, refl, sym, ap, ◌∙◌, append_assoc, arith}
use Rattle.std.proofs.lemmas.List.{append-nil}
use Rattle.cx_ascii_read.specs.declared.words.Stop.{Stop}
use Rattle.cx_ascii_read.specs.declared.words.Stop.TheVariants as stops
use Rattle.cx_ascii_read.specs.Reading.{◌>>=◌, Stops, with_front, size_at, sizes_at, value_at, row_at, rows_at}
use Rattle.cx_ascii_read.proofs.WordLaws.{some_is}

-- one item more in front
one-more : {A : Type 0} (front : List A) (x : A) (read : Option (List A × List ℕ))
    → with_front front (read >>= λ others. Some (x ∷ others.0, others.1))
    ≡ with_front (front ++ x ∷ []) read
one-more {A} front x (Some y) = ap (λ (xs : List A). Some (xs, y.1)) (simp append_assoc)
one-more front x None = refl

-- some items more in front
some-more : (front xs : List ℤ) (read : Option (List ℤ × List ℕ))
    → with_front front (read >>= λ others. Some (xs ++ others.0, others.1))
    ≡ with_front (front ++ xs) read
some-more front xs (Some y) = ap (λ (zs : List ℤ). Some (zs, y.1)) (simp append_assoc)
some-more front xs None = refl

-- ---- sizes

module _ (front : List ℕ) (i : ℕ) (bytes : List ℕ) (total : Option (List ℕ × List ℕ))
    (within : i < 3) (so_far : with_front front (sizes_at (3 - i) bytes) ≡ total) where
  left : 3 - i ≡ suc (3 - (i + 1))
  left = omega arith

  pub size_goes_on : (n : ℕ) (after : List ℕ) → size_at bytes ≡ Some (n, false, after)
      → with_front (front ++ n ∷ []) (sizes_at (3 - (i + 1)) after) ≡ total
  unfolding sizes_at
  size_goes_on n after h =
      let one : with_front front (sizes_at (3 - i) bytes)
      ≡ with_front (front ++ n ∷ []) (sizes_at (3 - (i + 1)) after) =
      rw (left, h) (one-more front n (sizes_at (3 - (i + 1)) after)) in
      sym one ∙ so_far

  pub size_ends : (n : ℕ) (after : List ℕ) → size_at bytes ≡ Some (n, true, after)
      → total ≡ Some (front ++ n ∷ [], after)
  unfolding sizes_at
  size_ends n after h =
      let one : with_front front (sizes_at (3 - i) bytes) ≡ Some (front ++ n ∷ [], after) =
      rw (left, h) refl in
      sym so_far ∙ one

  pub size_fails : (e : Stop) → Stops e (size_at bytes) → Stops e total
  unfolding sizes_at
  size_fails stops.Memory h = tt
  size_fails stops.Other h =
      let one : with_front front (sizes_at (3 - i) bytes) ≡ None = rw (left, h) refl in
      sym so_far ∙ one

pub too_many_sizes : (front : List ℕ) (i : ℕ) (bytes : List ℕ) (total : Option (List ℕ × List ℕ))
    → 3 ≤ i → with_front front (sizes_at (3 - i) bytes) ≡ total → total ≡ None
unfolding sizes_at
too_many_sizes front i bytes total le so_far =
    let none : 3 - i ≡ 0 = omega arith in
    let one : with_front front (sizes_at (3 - i) bytes) ≡ None = rw none refl in
    sym so_far ∙ one

-- ---- a row

module _ (front : List ℤ) (more i : ℕ) (bytes : List ℕ) (total : Option (List ℤ × List ℕ))
    (so_far : with_front front (row_at (more - i) bytes) ≡ total) where
  pub value_goes_on : i < more → (v : ℤ) (after : List ℕ) → value_at 32 bytes ≡ Some (v, after)
      → with_front (front ++ v ∷ []) (row_at (more - (i + 1)) after) ≡ total
  unfolding row_at
  value_goes_on within v after h =
      let next : more - i ≡ suc (more - (i + 1)) = omega arith in
      let one : with_front front (row_at (more - i) bytes)
      ≡ with_front (front ++ v ∷ []) (row_at (more - (i + 1)) after) =
      rw (next, h) (one-more front v (row_at (more - (i + 1)) after)) in
      sym one ∙ so_far

  pub value_fails : i < more → (e : Stop) → Stops e (value_at 32 bytes) → Stops e total
  unfolding row_at
  value_fails within stops.Memory h = tt
  value_fails within stops.Other h =
      let next : more - i ≡ suc (more - (i + 1)) = omega arith in
      let one : with_front front (row_at (more - i) bytes) ≡ None = rw (next, h) refl in
      sym so_far ∙ one

  pub row_ends : more ≤ i → (v : ℤ) (after : List ℕ) → value_at 10 bytes ≡ Some (v, after)
      → total ≡ Some (front ++ v ∷ [], after)
  unfolding row_at
  row_ends le v after h =
      let none : more - i ≡ 0 = omega arith in
      let one : with_front front (row_at (more - i) bytes) ≡ Some (front ++ v ∷ [], after) =
      rw (none, h) refl in
      sym so_far ∙ one

  pub row_end_fails : more ≤ i → (e : Stop) → Stops e (value_at 10 bytes) → Stops e total
  unfolding row_at
  row_end_fails le stops.Memory h = tt
  row_end_fails le stops.Other h =
      let none : more - i ≡ 0 = omega arith in
      let one : with_front front (row_at (more - i) bytes) ≡ None = rw (none, h) refl in
      sym so_far ∙ one

-- ---- rows

module _ (front : List ℤ) (more count i : ℕ) (bytes : List ℕ) (total : Option (List ℤ × List ℕ))
    (so_far : with_front front (rows_at more (count - i) bytes) ≡ total) where
  by_row : (read : Option (List ℤ × List ℕ)) (now : List ℤ) (after : List ℕ)
      → with_front front read ≡ Some (now, after)
      → with_front front (read >>= λ row. rows_at more (count - (i + 1)) row.1
      >>= λ others. Some (row.0 ++ others.0, others.1))
      ≡ with_front now (rows_at more (count - (i + 1)) after)
  by_row None now after h = absurd cc
  by_row (Some row) now after h =
      let pair : (front ++ row.0, row.1) ≡ (now, after) =
      some_is (front ++ row.0, row.1) (now, after) h in
      some-more front row.0 (rows_at more (count - (i + 1)) row.1)
      ∙ ap (λ (p : List ℤ × List ℕ). with_front p.0 (rows_at more (count - (i + 1)) p.1)) pair

  pub row_goes_on : i < count → (now : List ℤ) (after : List ℕ)
      → with_front front (row_at more bytes) ≡ Some (now, after)
      → with_front now (rows_at more (count - (i + 1)) after) ≡ total
  unfolding rows_at
  row_goes_on within now after h =
      let next : count - i ≡ suc (count - (i + 1)) = omega arith in
      let one : with_front front (rows_at more (count - i) bytes)
      ≡ with_front now (rows_at more (count - (i + 1)) after) =
      rw next (by_row (row_at more bytes) now after h) in
      sym one ∙ so_far

  no_row : (read : Option (List ℤ × List ℕ)) → with_front front read ≡ None → read ≡ None
  no_row None h = refl
  no_row (Some row) h = absurd cc

  pub row_fails : i < count → (e : Stop) → Stops e (with_front front (row_at more bytes))
      → Stops e total
  unfolding rows_at
  row_fails within stops.Memory h = tt
  row_fails within stops.Other h =
      let next : count - i ≡ suc (count - (i + 1)) = omega arith in
      let one : with_front front (rows_at more (count - i) bytes) ≡ None =
      rw (next, no_row (row_at more bytes) h) refl in
      sym so_far ∙ one

  pub rows_end : count ≤ i → total ≡ Some (front, bytes)
  unfolding rows_at
  rows_end le =
      let none : count - i ≡ 0 = omega arith in
      let one : with_front front (rows_at more (count - i) bytes) ≡ Some (front, bytes) =
      rw none (ap (λ (xs : List ℤ). Some (xs, bytes)) (append-nil front)) in
      sym so_far ∙ one
