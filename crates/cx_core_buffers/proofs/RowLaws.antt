-- The rows of a part's own points, put into a whole level one after another.
use Rattle.std.proofs.Common.{◌≡◌, ℕ, ◌+◌, ◌-◌, ◌<◌, ◌≤◌, ◌⊎◌, inl, inr, Bool, true, false, ◌&&◌, arith, refl, sym, ap, ◌∙◌, subst, ℤ, pos, ◌+ℤ◌, ◌-ℤ◌, ◌≤ℤ◌, List, ◌++◌, length, take, drop}
use Rattle.std.specs.Prelude.{slice_index_or, nat_lt, if◌then◌else◌}
use Rattle.std.specs.Int.{int_gap}
use Rattle.std.proofs.lemmas.Int.{ints}
use Rattle.std.proofs.lemmas.Bool.{cases_eq, cases_lt, lt-ltb, le-ltb}
use Rattle.std.proofs.lemmas.List.{get_or-take, get_or-drop, get_or_append_left, get_or-append_right, length-append, length-drop, length-take-le}
use Rattle.std.proofs.lemmas.List.FromFn.{fill_by_all, length-map-range_with_len, get_or-map-range_with_len}
use Rattle.cx_grid.specs.declared.boxes.Point.{Point}
use Rattle.cx_grid.specs.declared.boxes.Box3.{Box3}
use Rattle.cx_grid.specs.Boxes.{IsIn, IsOn, IsBox, IsSmall, has_point, extent, point_count, index_in, point_in, numbers_in}
use Rattle.cx_grid.specs.Grid.{whole}
use Rattle.cx_grid.proofs.Places.{gap_up, index_below, index_once, index_at_point, point_at_index, point_inside, same_point}
use Rattle.cx_grid.proofs.Points.{in_is, in_from}
use Rattle.cx_plan.specs.declared.variable.VarId.{VarId}
use Rattle.cx_rule.specs.States.{level_of}
use Rattle.cx_field.specs.Patches.{PatchValue, IsPatch, beside, numbers_along}
use Rattle.cx_field.specs.Staging.{put_from}
use Rattle.cx_field.proofs.FaceLaws.{row_index, row_inside, row_end, spans}
use Rattle.cx_field.proofs.PartLaws.{product}
use Rattle.cx_field.proofs.PartPoints.{own_local}
use Rattle.law_parts.specs.Holding.{number_at}
use Rattle.law_parts.proofs.ListLaws.{numbers_length, number_in, numbers_same}
use Rattle.cx_core_buffers.specs.Gathering.{put}
use Rattle.cx_core_buffers.specs.Rows.{row_starts}

-- ---- lists over a box

-- a list is that of its numbers
pub of_list : (b : Box3) (level : List ℤ) → length level ≡ point_count b
    → numbers_in b (number_at b level) ≡ level
of_list b level e =
    sym (fill_by_all (λ i. number_at b level (point_in b i)) level (point_count b) (pos 0) e
    (λ i l. sym (ap (λ k. slice_index_or level k (pos 0)) (index_at_point b i l))))

-- two lists over a box are one where their numbers are
pub by_points : (b : Box3) (f : Point → ℤ) (level : List ℤ) → length level ≡ point_count b
    → ((y : Point) → IsIn b y → number_at b level y ≡ f y) → level ≡ numbers_in b f
by_points b f level e h =
    fill_by_all (λ i. f (point_in b i)) level (point_count b) (pos 0) e
    (λ i l. ap (λ k. slice_index_or level k (pos 0)) (sym (index_at_point b i l))
    ∙ h (point_in b i) (point_inside b i l))

-- ---- numbers from a place on

put_length : (at : ℕ) (xs values : List ℤ) → at + length values ≤ length xs
    → length (put_from at xs values) ≡ length xs
put_length at xs values h =
    let a = length-append (take at xs) (values ++ drop (at + length values) xs) in
    let b = length-append values (drop (at + length values) xs) in
    let c = length-drop (at + length values) xs in
    let d = length-take-le at xs (omega (arith, h)) in
    omega (arith, a, b, c, d, h)

module _ (at : ℕ) (xs values : List ℤ) (h : at + length values ≤ length xs) where
  front : length (take at xs) ≡ at
  front = length-take-le at xs (omega (arith, h))

  abbrev rest : List ℤ
  rest = values ++ drop (at + length values) xs

  put_before : (i : ℕ) → i < at
      → slice_index_or (put_from at xs values) i (pos 0) ≡ slice_index_or xs i (pos 0)
  put_before i l =
      get_or_append_left (take at xs) rest (pos 0) i (omega (arith, front, l))
      ∙ get_or-take at xs i (pos 0) l

  put_within : (j : ℕ) → j < length values
      → slice_index_or (put_from at xs values) (at + j) (pos 0) ≡ slice_index_or values j (pos 0)
  put_within j l =
      let e : at + j - at ≡ j = omega arith in
      get_or-append_right (take at xs) rest at (at + j) (pos 0) front (omega arith)
      ∙ ap (λ k. slice_index_or rest k (pos 0)) e
      ∙ get_or_append_left values (drop (at + length values) xs) (pos 0) j l

  put_behind : (i : ℕ) → at + length values ≤ i
      → slice_index_or (put_from at xs values) i (pos 0) ≡ slice_index_or xs i (pos 0)
  put_behind i l =
      let e : at + length values + (i - at - length values) ≡ i = omega (arith, l) in
      get_or-append_right (take at xs) rest at i (pos 0) front (omega (arith, l))
      ∙ get_or-append_right values (drop (at + length values) xs) (length values) (i - at) (pos 0)
      refl (omega (arith, l))
      ∙ get_or-drop (at + length values) xs (i - at - length values) (pos 0)
      ∙ ap (λ k. slice_index_or xs k (pos 0)) e

-- ---- one row

-- a point of the row of so many points from a point on
pub record OnRow (low : Point) (n : ℕ) (q : Point) : Type 0 where
  pub x : IsOn low.x (low.x +ℤ pos n) q.x
  pub y : q.y ≡ low.y
  pub z : q.z ≡ low.z

row_point : (low : Point) (n : ℕ) (y : Point) → OnRow low n y → beside low (int_gap low.x y.x) ≡ y
row_point low n y r = same_point (gap_up low.x y.x r.x.from) (sym r.y) (sym r.z)

row_gap : (low : Point) (n : ℕ) (y : Point) → OnRow low n y → int_gap low.x y.x < n
row_gap low n y r = omega (arith, ints, gap_up low.x y.x r.x.from, r.x.below)

beside_row : (low : Point) (n j : ℕ) → j < n → OnRow low n (beside low j)
beside_row low n j l = record {
  x =
      record { from = omega (arith, ints); below = omega (arith, ints, l) };
  y = refl;
  z = refl;
}

module _ (b : Box3) (low : Point) (row level : List ℤ) (f : Point → ℤ) (inside : IsIn b low)
    (high : (low.x +ℤ pos (length row)) ≤ℤ b.high.x)
    (size : length level ≡ point_count b)
    (here : (y : Point) → IsIn b y → OnRow low (length row) y
    → f y ≡ slice_index_or row (int_gap low.x y.x) (pos 0))
    (there : (y : Point) → IsIn b y → (OnRow low (length row) y → ⊥) → f y ≡ number_at b level y)
  where
    fits : index_in b low + length row ≤ length level
    fits = let e = row_end b low (length row) inside high in omega (arith, e, size)

    -- a point whose place is in the row lies in it
    placed : (y : Point) → IsIn b y → (j : ℕ) → j < length row → index_in b y ≡ index_in b low + j
        → OnRow low (length row) y
    placed y i j l e =
        let s = row_index b low j inside.x.from in
        let q : beside low j ≡ y =
        index_once b (beside low j) y (row_inside b low (length row) j inside high l) i
        (s ∙ sym e) in
        subst (OnRow low (length row)) q (beside_row low (length row) j l)

    place_in : (y : Point) → OnRow low (length row) y
        → index_in b y ≡ index_in b low + int_gap low.x y.x
    place_in y r = ap (index_in b) (sym (row_point low (length row) y r))
        ∙ row_index b low (int_gap low.x y.x) inside.x.from

    number : (y : Point) → IsIn b y → number_at b (put_from (index_in b low) level row) y ≡ f y
    number y i = go (cases_lt (index_in b y) (index_in b low))
        (cases_lt (index_in b y) (index_in b low + length row))
      where
        go : (index_in b y < index_in b low) ⊎ (index_in b low ≤ index_in b y)
            → (index_in b y < index_in b low + length row)
            ⊎ (index_in b low + length row ≤ index_in b y)
            → number_at b (put_from (index_in b low) level row) y ≡ f y
        go (inl l) k =
            put_before (index_in b low) level row fits (index_in b y) l
            ∙ sym (there y i (λ r. let e = place_in y r in omega (arith, e, l)))
        go (inr l) (inl k) =
            let j = index_in b y - index_in b low in
            let e : index_in b y ≡ index_in b low + j = omega (arith, l) in
            let m : j < length row = omega (arith, l, k) in
            let r = placed y i j m e in
            let g = place_in y r in
            let q : j ≡ int_gap low.x y.x = omega (arith, e, g) in
            ap (λ n. slice_index_or (put_from (index_in b low) level row) n (pos 0)) e
            ∙ put_within (index_in b low) level row fits j m
            ∙ ap (λ n. slice_index_or row n (pos 0)) q
            ∙ sym (here y i r)
        go (inr l) (inr k) =
            put_behind (index_in b low) level row fits (index_in b y) k
            ∙ sym
            (there y i (λ r. let e = place_in y r in let g = row_gap low (length row) y r in
            omega (arith, e, g, k)))

    pub row_put : put_from (index_in b low) level row ≡ numbers_in b f
    row_put = by_points b f (put_from (index_in b low) level row)
        (put_length (index_in b low) level row fits ∙ size) number

-- ---- all rows

-- the first point of a point's row
abbrev pub start_of : Box3 → Point → Point
start_of own y = record { x = own.low.x; y = y.y; z = y.z }

-- an own point in one of the first so many rows
abbrev pub in_rows : Box3 → ℕ → Point → Bool
in_rows own i y = has_point own y && nat_lt (index_in (row_starts own) (start_of own y)) i

-- a whole level with the first so many rows of a part's level
abbrev pub rows_put : PatchValue → List ℤ → ℕ → List ℤ → List ℤ
rows_put p part i level =
    numbers_in (whole p.shape)
    (λ y. if in_rows p.owned i y then number_at p.local part y
    else number_at (whole p.shape) level y)

below : (k n : ℕ) → k < n → nat_lt k n ≡ true
below k n l = lt-ltb k n l

not_below : (k n : ℕ) → n ≤ k → nat_lt k n ≡ false
not_below k n l = le-ltb k n l

-- a number of a list over a box, by its point
pub at_point : (b : Box3) (f : Point → ℤ) (y : Point) → IsIn b y
    → number_at b (numbers_in b f) y ≡ f y
at_point b f y i = number_in b f (index_in b y) (index_below b y i) ∙ ap f (point_at_index b y i)

is_true_or_false : (b : Bool) → (b ≡ true) ⊎ (b ≡ false)
is_true_or_false true = inl refl
is_true_or_false false = inr refl

module _ (own : Box3) where
  starts_in : (y : Point) → IsIn own y → IsIn (row_starts own) (start_of own y)
  starts_in y h = record {
    x = record { from = omega (arith, ints); below = omega (arith, ints) };
    y = h.y;
    z = h.z;
  }

  rows_in : (i : ℕ) (y : Point) → IsIn own y → index_in (row_starts own) (start_of own y) < i
      → in_rows own i y ≡ true
  rows_in i y h l = rw (in_from own y h, below (index_in (row_starts own) (start_of own y)) i l)
      refl

  rows_off : (i : ℕ) (y : Point) → has_point own y ≡ false → in_rows own i y ≡ false
  rows_off i y h = rw h refl

  rows_later : (i : ℕ) (y : Point) → IsIn own y → i ≤ index_in (row_starts own) (start_of own y)
      → in_rows own i y ≡ false
  rows_later i y h l = rw (
    in_from own y h,
    not_below (index_in (row_starts own) (start_of own y)) i l,
  ) refl

  no_rows : (y : Point) → in_rows own 0 y ≡ false
  no_rows y = go (is_true_or_false (has_point own y))
    where
      go : (has_point own y ≡ true) ⊎ (has_point own y ≡ false) → in_rows own 0 y ≡ false
      go (inl e) = rows_later 0 y (in_is own y e) (omega arith)
      go (inr e) = rows_off 0 y e

  all_rows : (i : ℕ) (y : Point) → point_count (row_starts own) ≤ i
      → in_rows own i y ≡ has_point own y
  all_rows i y l = go (is_true_or_false (has_point own y))
    where
      go : (has_point own y ≡ true) ⊎ (has_point own y ≡ false) → in_rows own i y ≡ has_point own y
      go (inl e) =
          let h = in_is own y e in
          let m = index_below (row_starts own) (start_of own y) (starts_in y h) in
          rows_in i y h (omega (arith, m, l)) ∙ sym e
      go (inr e) = rows_off i y e ∙ sym e

  module _ (i : ℕ) (l : i < point_count (row_starts own)) where
    abbrev start : Point
    start = point_in (row_starts own) i

    start_inside : IsIn (row_starts own) start
    start_inside = point_inside (row_starts own) i l

    start_at : start.x ≡ own.low.x
    start_at = omega (arith, ints, start_inside.x.from, start_inside.x.below)

    -- the point's row is this one where it starts there
    same_row : (y : Point) → IsIn own y → index_in (row_starts own) (start_of own y) ≡ i
        → start_of own y ≡ start
    same_row y h e = index_once (row_starts own) (start_of own y) start (starts_in y h) start_inside
        (e ∙ sym (index_at_point (row_starts own) i l))

    row_is : (n : ℕ) (y : Point) → own.low.x ≤ℤ own.high.x → n ≡ extent own 0 → IsIn own y
        → index_in (row_starts own) (start_of own y) ≡ i → OnRow start n y
    row_is n y o e h q =
        let s = same_row y h q in
        let g = gap_up own.low.x own.high.x o in
        record {
          x = record {
            from = omega (arith, ints, start_at, h.x.from);
            below = omega (arith, ints, start_at, h.x.below, g, e);
          };
          y = ap (λ (z : Point). z.y) s;
          z = ap (λ (z : Point). z.z) s;
        }

    own_row : (n : ℕ) (y : Point) → own.low.x ≤ℤ own.high.x → n ≡ extent own 0 → OnRow start n y
        → IsIn own y
    own_row n y o e r =
        let g = gap_up own.low.x own.high.x o in
        record {
          x = record {
            from = omega (arith, ints, start_at, r.x.from);
            below = omega (arith, ints, start_at, r.x.below, g, e);
          };
          y = subst (IsOn own.low.y own.high.y) (sym r.y) start_inside.y;
          z = subst (IsOn own.low.z own.high.z) (sym r.z) start_inside.z;
        }

    row_place : (n : ℕ) (y : Point) → OnRow start n y
        → index_in (row_starts own) (start_of own y) ≡ i
    row_place n y r =
        ap (index_in (row_starts own)) (same_point (sym start_at) r.y r.z)
        ∙ index_at_point (row_starts own) i l

-- ---- of a patch

module _ (p : PatchValue) (s : IsPatch p) where
  abbrev all : Box3
  all = whole p.shape

  order : p.owned.low.x ≤ℤ p.owned.high.x
  order = let o = s.part.x.some in omega (arith, ints, o)

  own_whole : (y : Point) → IsIn p.owned y → IsIn all y
  own_whole y h =
      let x = s.part.x in
      let ys = s.part.y in
      let z = s.part.z in
      record {
        x = record {
          from = omega (arith, ints, x.from, h.x.from);
          below = omega (arith, ints, x.to, h.x.below);
        };
        y = record {
          from = omega (arith, ints, ys.from, h.y.from);
          below = omega (arith, ints, ys.to, h.y.below);
        };
        z = record {
          from = omega (arith, ints, z.from, h.z.from);
          below = omega (arith, ints, z.to, h.z.below);
        };
      }

  -- the starts of its rows
  pub starts_box : IsBox (row_starts p.owned)
  starts_box = record {
    x = omega (arith, ints);
    y = let o = s.part.y.some in omega (arith, ints, o);
    z = let o = s.part.z.some in omega (arith, ints, o);
  }

  starts_own : (y : Point) → IsIn (row_starts p.owned) y → IsIn p.owned y
  starts_own y h = record {
    x = record {
      from = h.x.from;
      below = let o = s.part.x.some in omega (arith, ints, o, h.x.below);
    };
    y = h.y;
    z = h.z;
  }

  pub start_own : (y : Point) → IsIn (row_starts p.owned) y → IsIn p.owned y
  start_own y h = starts_own y h

  pub start_local : (y : Point) → IsIn (row_starts p.owned) y → IsIn p.local y
  start_local y h = own_local p.shape p.owned p.local s.part y (starts_own y h)

  pub start_whole : (y : Point) → IsIn (row_starts p.owned) y → IsIn all y
  start_whole y h = own_whole y (starts_own y h)

module _ (p : PatchValue) (s : IsPatch p) (v : VarId) (number : ℕ) where
  abbrev part : List ℤ
  part = level_of p.numbers v number

  pub rows_none : (level : List ℤ) → length level ≡ point_count (whole p.shape)
      → level ≡ rows_put p part 0 level
  rows_none level e =
      sym (of_list (whole p.shape) level e)
      ∙ numbers_same (whole p.shape) (number_at (whole p.shape) level)
      (λ y. if in_rows p.owned 0 y then number_at p.local part y
      else number_at (whole p.shape) level y)
      (λ y i.
      sym (ap (λ (b : Bool). if b then number_at p.local part y
      else number_at (whole p.shape) level y) (no_rows p.owned y)))

  pub rows_all : (level : List ℤ) (i : ℕ) → point_count (row_starts p.owned) ≤ i
      → rows_put p part i level ≡ put p part level
  rows_all level i l =
      numbers_same (whole p.shape)
      (λ y. if in_rows p.owned i y then number_at p.local part y
      else number_at (whole p.shape) level y)
      (λ y. if has_point p.owned y then number_at p.local part y
      else number_at (whole p.shape) level y)
      (λ y h. ap (λ (b : Bool). if b then number_at p.local part y
      else number_at (whole p.shape) level y) (all_rows p.owned i y l))

  pub rows_length : (level : List ℤ) (i : ℕ)
      → length (rows_put p part i level) ≡ point_count (whole p.shape)
  rows_length level i = numbers_length (whole p.shape)
      (λ y. if in_rows p.owned i y then number_at p.local part y
      else number_at (whole p.shape) level y)

  module _ (level : List ℤ) (i : ℕ) (l : i < point_count (row_starts p.owned)) where
    abbrev low : Point
    low = point_in (row_starts p.owned) i

    abbrev row : List ℤ
    row = numbers_along p v number low (extent p.owned 0)

    row_size : length row ≡ extent p.owned 0
    row_size = length-map-range_with_len (λ j. number_at p.local part (beside low j)) 0
        (extent p.owned 0)

    abbrev next : Point → ℤ
    next y = if in_rows p.owned (i + 1) y then number_at p.local part y
        else number_at (whole p.shape) level y

    abbrev now : Point → ℤ
    now y = if in_rows p.owned i y then number_at p.local part y
        else number_at (whole p.shape) level y

    pub row_high : (low.x +ℤ pos (length row)) ≤ℤ p.owned.high.x
    row_high =
        let a = start_at p.owned i l in
        let g = gap_up p.owned.low.x p.owned.high.x (order p s) in
        omega (arith, ints, a, g, row_size)

    here : (y : Point) → IsIn (whole p.shape) y → OnRow low (length row) y
        → next y ≡ slice_index_or row (int_gap low.x y.x) (pos 0)
    here y h r =
        let own = own_row p.owned i l (length row) y (order p s) row_size r in
        let q = row_place p.owned i l (length row) y r in
        let e = rows_in p.owned (i + 1) y own (omega (arith, q)) in
        let g = row_gap low (length row) y r in
        ap (λ (b : Bool). if b then number_at p.local part y else number_at (whole p.shape) level y)
        e
        ∙ ap (number_at p.local part) (sym (row_point low (length row) y r))
        ∙ sym (get_or-map-range_with_len (λ j. number_at p.local part (beside low j)) 0
        (extent p.owned 0) (int_gap low.x y.x) (int_gap low.x y.x) (pos 0)
        (omega (arith, g, row_size)) (omega arith))

    same_rows : (y : Point) → (OnRow low (length row) y → ⊥)
        → in_rows p.owned (i + 1) y ≡ in_rows p.owned i y
    same_rows y off = go (is_true_or_false (has_point p.owned y))
        (cases_lt (index_in (row_starts p.owned) (start_of p.owned y)) i)
      where
        at : IsIn p.owned y → index_in (row_starts p.owned) (start_of p.owned y) ≡ i → ⊥
        at own e = off (row_is p.owned i l (length row) y (order p s) row_size own e)

        go : (has_point p.owned y ≡ true) ⊎ (has_point p.owned y ≡ false)
            → (index_in (row_starts p.owned) (start_of p.owned y) < i)
            ⊎ (i ≤ index_in (row_starts p.owned) (start_of p.owned y))
            → in_rows p.owned (i + 1) y ≡ in_rows p.owned i y
        go (inr e) k = rows_off p.owned (i + 1) y e ∙ sym (rows_off p.owned i y e)
        go (inl e) (inl k) =
            let own = in_is p.owned y e in
            rows_in p.owned (i + 1) y own (omega (arith, k)) ∙ sym (rows_in p.owned i y own k)
        go (inl e) (inr k) =
            let own = in_is p.owned y e in
            let apart = at own in
            rows_later p.owned (i + 1) y own
            (more (index_in (row_starts p.owned) (start_of p.owned y)) i k apart)
            ∙ sym (rows_later p.owned i y own k)
          where
            more : (a b : ℕ) → b ≤ a → (a ≡ b → ⊥) → b + 1 ≤ a
            more a b h n = elim (cases_eq a b) [
              | inl e ↦ absurd (n e)
              | inr m ↦ omega (arith, h, m)
            ]

    there : (y : Point) → IsIn (whole p.shape) y → (OnRow low (length row) y → ⊥)
        → next y ≡ number_at (whole p.shape) (rows_put p part i level) y
    there y h off =
        ap (λ (b : Bool). if b then number_at p.local part y else number_at (whole p.shape) level y)
        (same_rows y off)
        ∙ sym (at_point (whole p.shape) now y h)

    pub rows_more : put_from (index_in (whole p.shape) low) (rows_put p part i level) row
        ≡ rows_put p part (i + 1) level
    rows_more =
        let inside = start_whole p s low (start_inside p.owned i l) in
        let to = s.part.x.to in
        row_put (whole p.shape) low row (rows_put p part i level) next inside
        (omega (arith, ints, row_high, to))
        (numbers_length (whole p.shape) now) here there

module _ (p : PatchValue) (s : IsPatch p) (low : Point) (h : IsIn (row_starts p.owned) low) where
  -- a whole row lies in the part, and in the grid
  row_to : (low.x +ℤ pos (extent p.owned 0)) ≤ℤ p.owned.high.x
  row_to =
      let g = gap_up p.owned.low.x p.owned.high.x (order p s) in
      omega (arith, ints, h.x.from, h.x.below, g)

  pub row_local : (low.x +ℤ pos (extent p.owned 0)) ≤ℤ p.local.high.x
  row_local = let r = spans p.shape p.owned p.local s.part 0 (omega arith) in let t = row_to in
      omega (arith, ints, t, r.high)

  pub row_room : index_in (whole p.shape) low + extent p.owned 0 ≤ point_count (whole p.shape)
  row_room = let t = row_to in let e = s.part.x.to in
      row_end (whole p.shape) low (extent p.owned 0) (start_whole p s low h)
      (omega (arith, ints, t, e))

pub owned_few : (p : PatchValue) → IsPatch p → p.owned.high.x ≤ℤ pos 16777216
owned_few p s = (spans p.shape p.owned p.local s.part 0 (omega arith)).to

pub starts_small : (p : PatchValue) → IsPatch p → IsSmall (row_starts p.owned)
starts_small p s =
    let x = spans p.shape p.owned p.local s.part 0 (omega arith) in
    let y = spans p.shape p.owned p.local s.part 1 (omega arith) in
    let z = spans p.shape p.owned p.local s.part 2 (omega arith) in
    let some = s.part.x.some in
    let a = gap_within p.owned.low.x (p.owned.low.x +ℤ pos 1) p.local.low.x p.local.high.x
    (omega (arith, ints)) (omega (arith, ints, x.low, x.some, x.high))
    (omega (arith, ints, x.low, some, x.high)) in
    let b = gap_within p.owned.low.y p.owned.high.y p.local.low.y p.local.high.y y.some
    (omega (arith, ints, y.low, y.some, y.high)) (omega (arith, ints, y.low, y.high)) in
    let c = gap_within p.owned.low.z p.owned.high.z p.local.low.z p.local.high.z z.some
    (omega (arith, ints, z.low, z.some, z.high)) (omega (arith, ints, z.low, z.high)) in
    let n = product (int_gap p.owned.low.x (p.owned.low.x +ℤ pos 1))
    (int_gap p.owned.low.y p.owned.high.y) (int_gap p.owned.low.z p.owned.high.z)
    (extent p.local 0) (extent p.local 1) (extent p.local 2) a b c in
    let m = s.small in
    omega (arith, n, m)
  where
    gap_within : (a b c d : ℤ) → a ≤ℤ b → c ≤ℤ d → (b -ℤ a) ≤ℤ (d -ℤ c) → int_gap a b ≤ int_gap c d
    gap_within a b c d h k l = omega (arith, ints, gap_up a b h, gap_up c d k, l)
