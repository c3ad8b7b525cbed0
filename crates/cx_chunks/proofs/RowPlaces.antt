-- Rows of a part's box: their places in the grid, and their values one after another.
use Rattle.std.proofs.Common.{◌≡◌, ℕ, zero, suc, ◌+◌, ◌-◌, ◌*◌, ◌/◌, ◌%◌, ◌<◌, ◌≤◌, ◌⊎◌, inl, inr, arith, refl, sym, ap, ◌∙◌, subst, mul-le-mul_left, ℤ, pos, ◌+ℤ◌, ◌≤ℤ◌, List, [], ◌∷◌, ◌++◌, append_assoc, min, length, take, drop, replicate}
use Rattle.std.specs.Prelude.{slice_index_or}
use Rattle.std.specs.Int.{int_gap}
use Rattle.std.proofs.Math.Nat.{div-lt_iff_lt-mul}
use Rattle.std.proofs.Math.Seq.{take-append_seam}
use Rattle.std.proofs.lemmas.Bool.{cases_lt}
use Rattle.std.proofs.lemmas.Int.{ints}
use Rattle.std.proofs.lemmas.Nat.{div-add-mod', div-mul-add, mod-mul-add}
use Rattle.std.proofs.lemmas.List.{get_or-take, get_or-drop, get_or_append_left, get_or-append_right, get_or-replicate, get_or_past, length-append, length-drop, length-replicate, length-take, length-take-le, take_all, drop_all, drop-drop, append-nil}
use Rattle.std.proofs.lemmas.List.FromFn.{fill_by_all, length-map-range_with_len, get_or-map-range_with_len}
use borrow.Rule.Slice.PartMut.{put_mid}
use Rattle.cx_grid.specs.declared.boxes.Point.{Point}
use Rattle.cx_grid.specs.declared.boxes.Box3.{Box3}
use Rattle.cx_grid.specs.Boxes.{IsIn, extent, point_count, index_in, point_in}
use Rattle.cx_grid.proofs.Places.{gap_up, sides, index_below, index_once, index_at_point, point_at_index, point_inside}
use Rattle.cx_chunks.specs.Rows.{values_from, with_row}
use Rattle.cx_chunks.proofs.JoinLaws.{at_point, IsPut}

-- ---- values from a place on

pub few_taken : (n : ℕ) (xs : List ℤ) → length (take n xs) ≤ n
few_taken n xs = let e = length-take n xs in omega (arith, e)

take_min : (n : ℕ) (xs : List ℤ) → take (min n (length xs)) xs ≡ take n xs
take_min n [] = let none : min n 0 ≡ 0 = omega arith in rw none (sym (take_all n [] (omega arith)))
take_min zero (x ∷ xs) = let none : min 0 (length (x ∷ xs)) ≡ 0 = omega arith in rw none refl
take_min (suc n) (x ∷ xs) =
    let one : min (suc n) (suc (length xs)) ≡ suc (min n (length xs)) = omega arith in
    rw one (ap (λ ys. x ∷ ys) (take_min n xs))

drop_min : (n : ℕ) (xs : List ℤ) → drop (min n (length xs)) xs ≡ drop n xs
drop_min n [] = let none : min n 0 ≡ 0 = omega arith in rw none (sym (drop_all n [] (omega arith)))
drop_min zero (x ∷ xs) = let none : min 0 (length (x ∷ xs)) ≡ 0 = omega arith in rw none refl
drop_min (suc n) (x ∷ xs) =
    let one : min (suc n) (suc (length xs)) ≡ suc (min n (length xs)) = omega arith in
    rw one (drop_min n xs)

-- at most so many of what there is from a place on
pub run_is : (values rest run : List ℤ) (from count : ℕ)
    → rest ≡ drop (min from (length values)) values
    → run ≡ take (min count (length rest)) rest → run ≡ take count (drop from values)
run_is values rest run from count at is =
    is ∙ take_min count rest ∙ ap (take count) (at ∙ drop_min from values)

-- what is there, and zeros
module _ (xs : List ℤ) (from n : ℕ) where
  abbrev there : List ℤ
  there = take n (drop from xs)

  abbrev zeros : List ℤ
  zeros = replicate (n - length there) (pos 0)

  there_count : length there + (n - length there) ≡ n
  there_count = let few = few_taken n (drop from xs) in omega (arith, few)

  number : (k : ℕ) → k < n
      → slice_index_or (there ++ zeros) k (pos 0) ≡ slice_index_or xs (from + k) (pos 0)
  number k l = go (cases_lt k (length there))
    where
      go : (k < length there) ⊎ (length there ≤ k)
          → slice_index_or (there ++ zeros) k (pos 0) ≡ slice_index_or xs (from + k) (pos 0)
      go (inl m) =
          get_or_append_left there zeros (pos 0) k m ∙ get_or-take n (drop from xs) k (pos 0) l
          ∙ get_or-drop from xs k (pos 0)
      go (inr m) =
          let a = length-take n (drop from xs) in
          let b = length-drop from xs in
          let past : length xs ≤ from + k = omega (arith, a, b, m, l) in
          get_or-append_right there zeros (length there) k (pos 0) refl m
          ∙ get_or-replicate (n - length there) (k - length there) (pos 0) (pos 0)
          (omega (arith, l, m))
          ∙ sym (get_or_past xs (from + k) (pos 0) past)

  pub values_are : there ++ zeros ≡ values_from xs from n
  values_are =
      let a = length-append there zeros in
      let b = length-replicate (n - length there) (pos 0) in
      let c = there_count in
      fill_by_all (λ i. slice_index_or xs (from + i) (pos 0)) (there ++ zeros) n (pos 0)
      (omega (arith, a, b, c)) number

pub row_pushed : (xs : List ℤ) (from n : ℕ) (run old mid new : List ℤ)
    → run ≡ take n (drop from xs)
    → mid ≡ old ++ run → new ≡ mid ++ replicate (n - length run) (pos 0)
    → new ≡ old ++ values_from xs from n
row_pushed xs from n run old mid new is pushed now =
    now ∙ ap (λ (l : List ℤ). l ++ replicate (n - length run) (pos 0)) pushed
    ∙ append_assoc old run (replicate (n - length run) (pos 0))
    ∙ ap (λ (l : List ℤ). old ++ (l ++ replicate (n - length l) (pos 0))) is
    ∙ ap (λ (l : List ℤ). old ++ l) (values_are xs from n)

-- a row that is set: what is there in front, and zeros behind
set_again : (xs : List ℤ) (from : ℕ) (row run filled : List ℤ)
    → run ≡ take (length row) (drop from xs) → length run ≤ length row
    → filled ≡ replicate (length (take (length (run ++ drop (length run) row) - length run)
    (drop (length run) (run ++ drop (length run) row)))) (pos 0)
    → put_mid (length run) (length (run ++ drop (length run) row) - length run)
    (run ++ drop (length run) row) filled
    ≡ values_from xs from (length row)
set_again xs from row run filled is few none =
    let all = run ++ drop (length run) row in
    let a = length-append run (drop (length run) row) in
    let b = length-drop (length run) row in
    let c = length-take (length all - length run) (drop (length run) all) in
    let d = length-drop (length run) all in
    let size : length (take (length all - length run) (drop (length run) all))
    ≡ length row - length run = omega (arith, a, b, c, d, few) in
    let none_left : drop (length all - length run) (drop (length run) all) ≡ [] =
    drop_all (length all - length run) (drop (length run) all) (omega (arith, d)) in
    ap (λ (l : List ℤ). l ++ (filled ++ drop (length all - length run) (drop (length run) all)))
    (take-append_seam run (drop (length run) row))
    ∙ ap (λ (l : List ℤ). run ++ (filled ++ l)) none_left
    ∙ ap (λ (l : List ℤ). run ++ l) (append-nil filled)
    ∙ ap (λ (l : List ℤ). run ++ l) (none ∙ ap (λ m. replicate m (pos 0)) size)
    ∙ ap (λ (l : List ℤ). l ++ replicate (length row - length l) (pos 0)) is
    ∙ values_are xs from (length row)

pub row_set : (xs : List ℤ) (from : ℕ) (row run copied filled : List ℤ)
    → run ≡ take (length row) (drop from xs) → length run ≤ length row → copied ≡ run
    → filled ≡ replicate (length (take (length (copied ++ drop (length run) row) - length run)
    (drop (length run) (copied ++ drop (length run) row)))) (pos 0)
    → put_mid (length run) (length (copied ++ drop (length run) row) - length run)
    (copied ++ drop (length run) row) filled
    ≡ values_from xs from (length row)
row_set xs from row run copied filled is few copied_is none =
    ap (λ (l : List ℤ). put_mid (length run) (length (l ++ drop (length run) row) - length run)
    (l ++ drop (length run) row) filled) copied_is
    ∙ set_again xs from row run filled is few (none
    ∙ ap (λ (l : List ℤ). replicate (length (take (length (l ++ drop (length run) row) - length run)
    (drop (length run) (l ++ drop (length run) row)))) (pos 0)) copied_is)

-- a list in which a row is set
pub row_at : (level new values : List ℤ) (at n from : ℕ) → at + n ≤ length level
    → new ≡ values_from values from (length (take (at + n - at) (drop at level)))
    → put_mid at (at + n - at) level new ≡ with_row level at n (values_from values from n)
row_at level new values at n from room is =
    let a = length-take (at + n - at) (drop at level) in
    let b = length-drop at level in
    let size : length (take (at + n - at) (drop at level)) ≡ n = omega (arith, a, b, room) in
    let end : at + (at + n - at) ≡ at + n = omega arith in
    ap (λ (l : List ℤ). take at level ++ (new ++ l))
    (drop-drop (at + n - at) at level ∙ ap (λ k. drop k level) end)
    ∙ ap (λ (l : List ℤ). take at level ++ (l ++ drop (at + n) level))
    (is ∙ ap (values_from values from) size)

pub values_count : (xs : List ℤ) (from n : ℕ) → length (values_from xs from n) ≡ n
values_count xs from n =
    length-map-range_with_len (λ i. slice_index_or xs (from + i) (pos 0)) 0 n

pub value_is : (xs : List ℤ) (from n j : ℕ) → j < n
    → slice_index_or (values_from xs from n) j (pos 0) ≡ slice_index_or xs (from + j) (pos 0)
value_is xs from n j l =
    get_or-map-range_with_len (λ i. slice_index_or xs (from + i) (pos 0)) 0 n j j (pos 0) l
    (omega arith)

-- ---- a list with a row

module _ (level row : List ℤ) (at n : ℕ) (room : at + n ≤ length level) (count : length row ≡ n)
  where
    front : length (take at level) ≡ at
    front = length-take-le at level (omega (arith, room))

    abbrev rest : List ℤ
    rest = row ++ drop (at + n) level

    pub row_length : length (with_row level at n row) ≡ length level
    row_length =
        let a = length-append (take at level) rest in
        let b = length-append row (drop (at + n) level) in
        let c = length-drop (at + n) level in
        let f = front in
        omega (arith, a, b, c, f, count, room)

    pub row_before : (k : ℕ) → k < at
        → slice_index_or (with_row level at n row) k (pos 0) ≡ slice_index_or level k (pos 0)
    row_before k l =
        let f = front in
        get_or_append_left (take at level) rest (pos 0) k (omega (arith, f, l))
        ∙ get_or-take at level k (pos 0) l

    pub row_within : (j : ℕ) → j < n
        → slice_index_or (with_row level at n row) (at + j) (pos 0) ≡ slice_index_or row j (pos 0)
    row_within j l =
        let e : at + j - at ≡ j = omega arith in
        get_or-append_right (take at level) rest at (at + j) (pos 0) front (omega arith)
        ∙ ap (λ k. slice_index_or rest k (pos 0)) e
        ∙ get_or_append_left row (drop (at + n) level) (pos 0) j (omega (arith, count, l))

    pub row_behind : (k : ℕ) → at + n ≤ k
        → slice_index_or (with_row level at n row) k (pos 0) ≡ slice_index_or level k (pos 0)
    row_behind k l =
        let e : at + n + (k - at - n) ≡ k = omega (arith, l) in
        get_or-append_right (take at level) rest at k (pos 0) front (omega (arith, l))
        ∙ get_or-append_right row (drop (at + n) level) n (k - at) (pos 0) count
        (omega (arith, l))
        ∙ get_or-drop (at + n) level (k - at - n) (pos 0)
        ∙ ap (λ i. slice_index_or level i (pos 0)) e

-- the same of a Vec, of which a part is lent
pub vec_row : (level lent new values : List ℤ) (len at n from : ℕ) → lent ≡ level
    → len ≡ length level → at + n ≤ length level
    → new ≡ values_from values from (length (take (at + n - at) (drop at lent)))
    → take len (put_mid at (at + n - at) lent new
    ++ drop (length (put_mid at (at + n - at) lent new)) level)
    ≡ with_row level at n (values_from values from n)
vec_row level lent new values len at n from lent_is len_is room is =
    let all = put_mid at (at + n - at) lent new in
    let row = values_from values from n in
    let same : all ≡ with_row level at n row =
    ap (λ (l : List ℤ). put_mid at (at + n - at) l new) lent_is
    ∙ row_at level new values at n from room
    (is ∙ ap (λ (l : List ℤ). values_from values from (length (take (at + n - at) (drop at l))))
    lent_is) in
    let size : length all ≡ length level =
    ap length same ∙ row_length level row at n room (values_count values from n) in
    let none : drop (length all) level ≡ [] =
    drop_all (length all) level (omega (arith, size)) in
    ap (λ (l : List ℤ). take len (all ++ l)) none ∙ ap (take len) (append-nil all)
    ∙ take_all len all (omega (arith, size, len_is)) ∙ same

-- ---- where rows are

-- a row begins at a place
pub record IsStart (own : Box3) (i : ℕ) : Type 0 where
  pub first : i % extent own 0 ≡ 0
  pub within : i ≤ point_count own

pub starts : (own : Box3) → IsStart own 0
starts own = record { first = omega arith; within = omega arith }

pub record IsRow (i w : ℕ) (own : Box3) : Type 0 where
  pub some : 0 < w
  pub next : IsStart own (i + w)

next_first : (i w : ℕ) → i % w ≡ 0 → 0 < w → (i + w) % w ≡ 0
next_first i w first some =
    let whole = div-add-mod' i w in
    let e : i + w ≡ (i / w + 1) * w + 0 = grind (arith, whole, first) in
    ap (λ n. n % w) e ∙ mod-mul-add (i / w + 1) w 0 some

next_within : (i a b c : ℕ) → i % a ≡ 0 → 0 < a → i < a * b * c → i + a ≤ a * b * c
next_within i a b c first some below =
    let e : a * b * c ≡ c * b * a = grind arith in
    let swapped : i < c * b * a = omega (arith, below, e) in
    let rows : i / a < c * b = (div-lt_iff_lt-mul some).1 swapped in
    let next : i / a + 1 ≤ c * b = omega (arith, rows) in
    let less : a * (i / a + 1) ≤ a * (c * b) = mul-le-mul_left a next in
    let whole = div-add-mod' i a in
    let f : a * (i / a + 1) ≡ i + a = grind (arith, whole, first) in
    let g : a * (c * b) ≡ a * b * c = grind arith in
    omega (arith, less, f, g)

pub row_is : (own : Box3) (i : ℕ) → IsStart own i → i < point_count own
    → IsRow i (extent own 0) own
row_is own i start below =
    let s = sides i (extent own 0) (extent own 1) (extent own 2) below in
    record {
      some = s.a_some;
      next = record {
        first = next_first i (extent own 0) start.first s.a_some;
        within =
            next_within i (extent own 0) (extent own 1) (extent own 2) start.first s.a_some below;
      };
    }

gap_on : (a b : ℤ) (j : ℕ) → a ≤ℤ (b +ℤ pos 0)
    → int_gap a (b +ℤ pos j) ≡ int_gap a (b +ℤ pos 0) + j
gap_on a b j up =
    let over : a ≤ℤ (b +ℤ pos j) = omega (arith, ints, up) in
    let g = gap_up a (b +ℤ pos 0) up in
    let h = gap_up a (b +ℤ pos j) over in
    omega (arith, ints, g, h)

shifted : (x x' r j : ℕ) → x ≡ x' + j → x + r ≡ x' + r + j
shifted x x' r j e = omega (arith, e)

-- the values of a row stand side by side in the grid
pub row_place : (all own : Box3) (i j : ℕ) → i % extent own 0 ≡ 0 → j < extent own 0
    → IsIn all (point_in own i)
    → index_in all (point_in own (i + j)) ≡ index_in all (point_in own i) + j
row_place all own i j first less inside =
    let w = extent own 0 in
    let whole = div-add-mod' i w in
    let e : i + j ≡ i / w * w + j = omega (arith, whole, first) in
    let x : (i + j) % w ≡ j = ap (λ n. n % w) e ∙ mod-mul-add (i / w) w j less in
    let row : (i + j) / w ≡ i / w = ap (λ n. n / w) e ∙ div-mul-add (i / w) w j less in
    let at : i % w ≡ 0 = first in
    let up = inside.x.from in
    let low : all.low.x ≤ℤ (own.low.x +ℤ pos 0) = rw at at up in
    rw (x, row, at)
    (shifted (int_gap all.low.x (own.low.x +ℤ pos j)) (int_gap all.low.x (own.low.x +ℤ pos 0))
    (extent all 0 * (int_gap all.low.y (own.low.y +ℤ pos (i / w % extent own 1))
    + extent all 1 * int_gap all.low.z (own.low.z +ℤ pos (i / w / extent own 1)))) j
    (gap_on all.low.x own.low.x j low))

-- ---- one row put

module _ (all own : Box3) (values old level : List ℤ)
    (inside : (p : Point) → IsIn own p → IsIn all p) (i : ℕ) (start : IsStart own i)
    (below : i < point_count own) where
  abbrev w : ℕ
  w = extent own 0

  abbrev at : ℕ
  at = index_in all (point_in own i)

  end : i + w ≤ point_count own
  end = (row_is own i start below).next.within

  own_point : (j : ℕ) → j < w → IsIn own (point_in own (i + j))
  own_point j l = let e = end in point_inside own (i + j) (omega (arith, e, l))

  own_place : (j : ℕ) → j < w → index_in all (point_in own (i + j)) ≡ at + j
  own_place j l =
      row_place all own i j start.first l (inside (point_in own i) (point_inside own i below))

  pub row_room : at + w ≤ point_count all
  row_room =
      let r = row_is own i start below in
      let some = r.some in
      let l : w - 1 < w = omega (arith, some) in
      let e = own_place (w - 1) l in
      let b = index_below all (point_in own (i + (w - 1)))
      (inside (point_in own (i + (w - 1))) (own_point (w - 1) l)) in
      omega (arith, e, b, some)

  -- a point of the grid whose place is in the row is the part's own
  in_row : (p : Point) (j : ℕ) → IsIn all p → j < w → index_in all p ≡ at + j
      → p ≡ point_in own (i + j)
  in_row p j here l e =
      index_once all p (point_in own (i + j)) here
      (inside (point_in own (i + j)) (own_point j l)) (e ∙ sym (own_place j l))

  own_index : (j : ℕ) → j < w → index_in own (point_in own (i + j)) ≡ i + j
  own_index j l = let e = end in index_at_point own (i + j) (omega (arith, e, l))

  module _ (put : IsPut all own values old i level) where
    abbrev row : List ℤ
    row = values_from values i w

    abbrev next : List ℤ
    next = with_row level at w row

    room : at + w ≤ length level
    room = let r = row_room in let n = put.count in omega (arith, r, n)

    -- beside the row nothing changes
    beside : (p : Point) → IsIn all p
        → ((j : ℕ) → j < w → index_in all p ≡ at + j → ⊥)
        → at_point all next p ≡ at_point all level p
    beside p here off = go (cases_lt (index_in all p) at) (cases_lt (index_in all p) (at + w))
      where
        go : (index_in all p < at) ⊎ (at ≤ index_in all p)
            → (index_in all p < at + w) ⊎ (at + w ≤ index_in all p)
            → at_point all next p ≡ at_point all level p
        go (inl l) m =
            row_before level row at w room (values_count values i w) (index_in all p) l
        go (inr l) (inl m) =
            let j = index_in all p - at in
            absurd (off j (omega (arith, l, m)) (omega (arith, l)))
        go (inr l) (inr m) =
            row_behind level row at w room (values_count values i w) (index_in all p) m

    mine : (p : Point) → IsIn own p → index_in own p < i + w
        → (index_in own p < i) ⊎ (i ≤ index_in own p)
        → at_point all next p ≡ at_point own values p
    mine p here less (inl before) =
        beside p (inside p here) (λ j l e.
        let same = ap (index_in own) (in_row p j (inside p here) l e) ∙ own_index j l in
        absurd (omega (arith, same, before)))
        ∙ put.mine p here before
    mine p here less (inr past) =
        let j = index_in own p - i in
        let l : j < w = omega (arith, less, past) in
        let e : i + j ≡ index_in own p = omega (arith, past) in
        let q : point_in own (i + j) ≡ p = ap (point_in own) e ∙ point_at_index own p here in
        let f : index_in all p ≡ at + j = ap (index_in all) (sym q) ∙ own_place j l in
        ap (λ k. slice_index_or next k (pos 0)) f
        ∙ row_within level row at w room (values_count values i w) j l
        ∙ value_is values i w j l ∙ ap (λ k. slice_index_or values k (pos 0)) e

    pub row_put : IsPut all own values old (i + w) next
    row_put = record {
      count = row_length level row at w room (values_count values i w) ∙ put.count;
      mine = λ p here less. mine p here less (cases_lt (index_in own p) i);
      others = λ p here past.
          beside p here (λ j l e.
          let q = in_row p j here l e in
          let own_p : IsIn own p = subst (IsIn own) (sym q) (own_point j l) in
          let far = past own_p in
          let same = ap (index_in own) q ∙ own_index j l in
          absurd (omega (arith, far, same, l)))
          ∙ put.others p here (λ own_p. let far = past own_p in omega (arith, far));
    }

-- ---- one row more, as the loops have it

pub row_start : (own : Box3) (i w : ℕ) → w ≡ extent own 0 → IsStart own i → i < point_count own
    → IsStart own (i + w)
row_start own i w is start below =
    subst (λ n. IsStart own (i + n)) (sym is) (row_is own i start below).next

pub put_more : (all own : Box3) (values old level next : List ℤ)
    → ((p : Point) → IsIn own p → IsIn all p) → (i w spot : ℕ) → IsStart own i → i < point_count own
    → IsPut all own values old i level → w ≡ extent own 0 → spot ≡ index_in all (point_in own i)
    → next ≡ with_row level spot w (values_from values i w)
    → IsPut all own values old (i + w) next
put_more all own values old level next inside i w spot start below put width place is =
    let e : next ≡ with_row level (index_in all (point_in own i)) (extent own 0)
    (values_from values i (extent own 0)) =
    is ∙ ap (λ n. with_row level n w (values_from values i w)) place
    ∙ ap (λ n. with_row level (index_in all (point_in own i)) n (values_from values i n)) width in
    subst (λ n. IsPut all own values old (i + n) next) (sym width)
    (subst (λ (l : List ℤ). IsPut all own values old (i + extent own 0) l) (sym e)
    (row_put all own values old level inside i start below put))
