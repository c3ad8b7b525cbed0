-- Points along x, and rows of numbers in a buffer.
use Rattle.std.proofs.Common.{◌≡◌, ℕ, ◌+◌, ◌-◌, ◌<◌, ◌≤◌, ◌⊎◌, inl, inr, Bool, true, false, true≢false, arith, refl, sym, ap, ◌∙◌, subst, ℤ, pos, ◌+ℤ◌, ◌≤ℤ◌, List, ◌++◌, length, take, drop}
use Rattle.std.specs.Prelude.{slice_index_or}
use Rattle.std.specs.Int.{int_gap}
use Rattle.std.proofs.lemmas.Int.{ints}
use Rattle.std.proofs.lemmas.Bool.{cases_lt}
use Rattle.std.proofs.lemmas.List.{get_or-take, get_or-drop, get_or_append_left, get_or-append_right, length-take-le}
use Rattle.cx_grid.specs.declared.boxes.Point.{Point}
use Rattle.cx_grid.specs.declared.boxes.Box3.{Box3}
use Rattle.cx_grid.specs.Boxes.{IsIn, IsOn, has_point, point_count, index_in}
use Rattle.cx_grid.proofs.Places.{gap_up, index_once, same_point}
use Rattle.cx_grid.proofs.Points.{in_is, in_from}
use Rattle.cx_rule.specs.Patches.{beside}
use Rattle.cx_rule.specs.Staging.{put_from}
use Rattle.cx_rule.proofs.FaceLaws.{row_index, row_inside, row_end}

-- ---- numbers from a place on

module _ (at : ℕ) (xs values : List ℤ) (h : at + length values ≤ length xs) where
  front : length (take at xs) ≡ at
  front = length-take-le at xs (omega (arith, h))

  abbrev rest : List ℤ
  rest = values ++ drop (at + length values) xs

  pub put_before : (i : ℕ) → i < at
      → slice_index_or (put_from at xs values) i (pos 0) ≡ slice_index_or xs i (pos 0)
  put_before i l =
      get_or_append_left (take at xs) rest (pos 0) i (omega (arith, front, l))
      ∙ get_or-take at xs i (pos 0) l

  pub put_within : (j : ℕ) → j < length values
      → slice_index_or (put_from at xs values) (at + j) (pos 0) ≡ slice_index_or values j (pos 0)
  put_within j l =
      let e : at + j - at ≡ j = omega arith in
      get_or-append_right (take at xs) rest at (at + j) (pos 0) front (omega arith)
      ∙ ap (λ k. slice_index_or rest k (pos 0)) e
      ∙ get_or_append_left values (drop (at + length values) xs) (pos 0) j l

  pub put_behind : (i : ℕ) → at + length values ≤ i
      → slice_index_or (put_from at xs values) i (pos 0) ≡ slice_index_or xs i (pos 0)
  put_behind i l =
      let e : at + length values + (i - at - length values) ≡ i = omega (arith, l) in
      get_or-append_right (take at xs) rest at i (pos 0) front (omega (arith, l))
      ∙ get_or-append_right values (drop (at + length values) xs) (length values) (i - at) (pos 0)
      refl (omega (arith, l))
      ∙ get_or-drop (at + length values) xs (i - at - length values) (pos 0)
      ∙ ap (λ k. slice_index_or xs k (pos 0)) e

-- ---- one row

-- a point of the row of so many points from a point on
pub record OnRow (low : Point) (n : ℕ) (q : Point) : Type 0 where
  pub x : IsOn low.x (low.x +ℤ pos n) q.x
  pub y : q.y ≡ low.y
  pub z : q.z ≡ low.z

pub row_point : (low : Point) (n : ℕ) (y : Point) → OnRow low n y
    → beside low (int_gap low.x y.x) ≡ y
row_point low n y r = same_point (gap_up low.x y.x r.x.from) (sym r.y) (sym r.z)

pub row_gap : (low : Point) (n : ℕ) (y : Point) → OnRow low n y → int_gap low.x y.x < n
row_gap low n y r = omega (arith, ints, gap_up low.x y.x r.x.from, r.x.below)

pub beside_row : (low : Point) (n j : ℕ) → j < n → OnRow low n (beside low j)
beside_row low n j l = record {
  x =
      record { from = omega (arith, ints); below = omega (arith, ints, l) };
  y = refl;
  z = refl;
}

-- a point lies on a row, or it doesn't
pub on_or_off : (low : Point) (n : ℕ) (y : Point) → OnRow low n y ⊎ (OnRow low n y → ⊥)
on_or_off low n y = go (has_point row y) refl
  where
    row : Box3
    row = record {
      low = low;
      high = record { x = low.x +ℤ pos n; y = low.y +ℤ pos 1; z = low.z +ℤ pos 1 };
    }

    go : (t : Bool) → has_point row y ≡ t → OnRow low n y ⊎ (OnRow low n y → ⊥)
    go true e =
        let h = in_is row y e in
        inl (record {
          x = h.x;
          y = omega (arith, ints, h.y.from, h.y.below);
          z = omega (arith, ints, h.z.from, h.z.below);
        })
    go false e = inr (λ r.
        let h : IsIn row y =
        record {
          x = r.x;
          y = record {
            from = omega (arith, ints, r.y);
            below = omega (arith, ints, r.y);
          };
          z = record { from = omega (arith, ints, r.z); below = omega (arith, ints, r.z) };
        }
        in
        true≢false (sym (in_from row y h) ∙ e))

module _ (b : Box3) (low : Point) (row level : List ℤ) (inside : IsIn b low)
    (high : (low.x +ℤ pos (length row)) ≤ℤ b.high.x)
    (size : length level ≡ point_count b) where
  fits : index_in b low + length row ≤ length level
  fits = let e = row_end b low (length row) inside high in omega (arith, e, size)

  -- a point whose place is in the row lies in it
  placed : (y : Point) → IsIn b y → (j : ℕ) → j < length row → index_in b y ≡ index_in b low + j
      → OnRow low (length row) y
  placed y i j l e =
      let s = row_index b low j inside.x.from in
      let q : beside low j ≡ y =
      index_once b (beside low j) y (row_inside b low (length row) j inside high l) i
      (s ∙ sym e) in
      subst (OnRow low (length row)) q (beside_row low (length row) j l)

  place_in : (y : Point) → OnRow low (length row) y
      → index_in b y ≡ index_in b low + int_gap low.x y.x
  place_in y r = ap (index_in b) (sym (row_point low (length row) y r))
      ∙ row_index b low (int_gap low.x y.x) inside.x.from

  -- a number on the row
  pub put_on : (y : Point) → OnRow low (length row) y
      → slice_index_or (put_from (index_in b low) level row) (index_in b y) (pos 0)
      ≡ slice_index_or row (int_gap low.x y.x) (pos 0)
  put_on y r =
      ap (λ n. slice_index_or (put_from (index_in b low) level row) n (pos 0)) (place_in y r)
      ∙ put_within (index_in b low) level row fits (int_gap low.x y.x)
      (row_gap low (length row) y r)

  -- and off it
  pub put_off : (y : Point) → IsIn b y → (OnRow low (length row) y → ⊥)
      → slice_index_or (put_from (index_in b low) level row) (index_in b y) (pos 0)
      ≡ slice_index_or level (index_in b y) (pos 0)
  put_off y i off = go (cases_lt (index_in b y) (index_in b low))
      (cases_lt (index_in b y) (index_in b low + length row))
    where
      go : (index_in b y < index_in b low) ⊎ (index_in b low ≤ index_in b y)
          → (index_in b y < index_in b low + length row)
          ⊎ (index_in b low + length row ≤ index_in b y)
          → slice_index_or (put_from (index_in b low) level row) (index_in b y) (pos 0)
          ≡ slice_index_or level (index_in b y) (pos 0)
      go (inl l) k = put_before (index_in b low) level row fits (index_in b y) l
      go (inr l) (inl k) =
          absurd
          (off (placed y i (index_in b y - index_in b low) (omega (arith, l, k))
          (omega (arith, l))))
      go (inr l) (inr k) = put_behind (index_in b low) level row fits (index_in b y) k
