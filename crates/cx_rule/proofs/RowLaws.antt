-- Numbers put and tested row by row.
use Rattle.std.proofs.Common.{◌≡◌, ℕ, zero, suc, ◌+◌, ◌-◌, ◌*◌, ◌<◌, ◌≤◌, ◌⊎◌, inl, inr, Bool, true, false, true≢false, not, ◌&&◌, ◌||◌, if◌then◌else◌, arith, refl, sym, ap, ◌∙◌, ℤ, pos, List, [], ◌∷◌, ◌++◌, length, length-append, take, drop, map, get_or}
use Rattle.std.proofs.Math.Path.{fun_ext}
use Rattle.std.specs.Prelude.{slice_index_or, slice_set}
use Rattle.std.proofs.Math.Seq.{map-set_same}
use Rattle.std.specs.List.{range_with_len, list_all}
use Rattle.std.proofs.lemmas.Bool.{and_parts, and_from, cases_lt}
use Rattle.std.proofs.lemmas.List.{length-map, get_or-set_other, get_or-take, get_or-drop, get_or_append_left, get_or-append_right, length-drop, length-take-le}
use Rattle.std.proofs.lemmas.List.FromFn.{fill_by_all, get_or-map-range_with_len, length-map-range_with_len}
use Rattle.cx_grid.specs.declared.boxes.Point.{Point}
use Rattle.cx_grid.specs.declared.boxes.Box3.{Box3}
use Rattle.cx_grid.specs.Boxes.{extent, point_count, point_in, points_in, index_in, numbers_in}
use Rattle.cx_grid.proofs.Places.{index_at_point}
use Rattle.cx_text.specs.declared.ctype.CType.{CType}
use Rattle.cx_plan.specs.declared.item.Touch.{Touch}
use Rattle.cx_plan.specs.Setups.{Setup}
use Rattle.cx_plan.specs.Lookups.{variable}
use Rattle.cx_plan.specs.Types.{least, greatest}
use Rattle.cx_rule.specs.Runs.{fits_zone, levels_fit, InSpan, InRuns, IsRuns, numbers_on, is_within, are_within, fits_at, row_points, SetsRow, KeepsRow, SetsSpan, SpendsOne}
use Rattle.cx_rule.specs.Staging.{put_from, mixed_at, does_fit, no_numbers, cleared}
use Rattle.cx_rule.specs.Zones.{in_zone}
use Rattle.cx_rule.specs.declared.runs.Span.{Span}
use Rattle.cx_rule.specs.declared.runs.Runs.{Runs}
use Rattle.cx_rule.specs.declared.zone.Zone.{Zone}
use Rattle.cx_rule.proofs.CommitLaws.{ZoneTo, rest_of_points}
use Rattle.cx_rule.proofs.RunLaws.{row_next}

-- ---- a span of a row

pub span_length : (values : List ℤ) (start : ℕ) (s : Span) → s.from ≤ s.to
    → start + s.to ≤ length values → length (numbers_on values start s) ≡ s.to - s.from
span_length values start s h l =
    let d = length-drop (start + s.from) values in
    length-take-le (s.to - s.from) (drop (start + s.from) values) (omega (arith, d, h, l))

pub span_number : (values : List ℤ) (start : ℕ) (s : Span) (i : ℕ) → InSpan s i
    → slice_index_or (numbers_on values start s) (i - s.from) (pos 0)
    ≡ slice_index_or values (start + i) (pos 0)
span_number values start s i h =
    let e : start + s.from + (i - s.from) ≡ start + i = omega (arith, h.0) in
    get_or-take (s.to - s.from) (drop (start + s.from) values) (i - s.from) (pos 0)
    (omega (arith, h.0, h.1))
    ∙ get_or-drop (start + s.from) values (i - s.from) (pos 0)
    ∙ ap (λ k. slice_index_or values k (pos 0)) e

-- ---- numbers put from a place on

module _ (at : ℕ) (xs values : List ℤ) (h : at + length values ≤ length xs) where
  front : length (take at xs) ≡ at
  front = length-take-le at xs (omega (arith, h))

  abbrev rest : List ℤ
  rest = values ++ drop (at + length values) xs

  pub put_length : length (put_from at xs values) ≡ length xs
  put_length =
      let a = length-append (take at xs) (values ++ drop (at + length values) xs) in
      let b = length-append values (drop (at + length values) xs) in
      let c = length-drop (at + length values) xs in
      omega (arith, a, b, c, front, h)

  pub put_before : (i : ℕ) → i < at
      → slice_index_or (put_from at xs values) i (pos 0) ≡ slice_index_or xs i (pos 0)
  put_before i l =
      get_or_append_left (take at xs) rest (pos 0) i (omega (arith, front, l))
      ∙ get_or-take at xs i (pos 0) l

  pub put_within : (j : ℕ) → j < length values
      → slice_index_or (put_from at xs values) (at + j) (pos 0) ≡ slice_index_or values j (pos 0)
  put_within j l =
      let e : at + j - at ≡ j = omega arith in
      get_or-append_right (take at xs) rest at (at + j) (pos 0) front (omega arith)
      ∙ ap (λ k. slice_index_or rest k (pos 0)) e
      ∙ get_or_append_left values (drop (at + length values) xs) (pos 0) j l

  pub put_behind : (i : ℕ) → at + length values ≤ i
      → slice_index_or (put_from at xs values) i (pos 0) ≡ slice_index_or xs i (pos 0)
  put_behind i l =
      let e : at + length values + (i - at - length values) ≡ i = omega (arith, l) in
      get_or-append_right (take at xs) rest at i (pos 0) front (omega (arith, l))
      ∙ get_or-append_right values (drop (at + length values) xs) (length values) (i - at) (pos 0)
      refl (omega (arith, l))
      ∙ get_or-drop (at + length values) xs (i - at - length values) (pos 0)
      ∙ ap (λ k. slice_index_or xs k (pos 0)) e

pub span_put : (within old : List ℤ) (start : ℕ) (s : Span) → s.from ≤ s.to
    → start + s.to ≤ length within → length old ≡ length within
    → SetsSpan within start s old (put_from (start + s.from) old (numbers_on within start s))
span_put within old start s h l e =
    let n = span_length within start s h l in
    let room : start + s.from + length (numbers_on within start s) ≤ length old =
    omega (arith, n, h, l, e) in
    record {
      count = put_length (start + s.from) old (numbers_on within start s) room;
      here = λ i k.
          let z : start + s.from + (i - s.from) ≡ start + i = omega (arith, k.0) in
          ap (λ m. slice_index_or (put_from (start + s.from) old (numbers_on within start s)) m
          (pos 0)) (sym z)
          ∙ put_within (start + s.from) old (numbers_on within start s) room (i - s.from)
          (omega (arith, n, k.0, k.1))
          ∙ span_number within start s i k;
      below = λ j k. put_before (start + s.from) old (numbers_on within start s) room j k;
      above = λ j k. put_behind (start + s.from) old (numbers_on within start s) room j
          (omega (arith, n, h, k));
    }

-- ---- a row of a zone

module _ (b : Box3) (zone : Zone) (within old mid new : List ℤ) (row : ℕ) (r : Runs)
    (size : length old ≡ point_count b)
    (room : row * extent b 0 + extent b 0 ≤ point_count b)
    (runs : IsRuns zone b (row * extent b 0) r)
    (first : SetsSpan within (row * extent b 0) r.before old mid)
    (second : SetsSpan within (row * extent b 0) r.behind mid new) where
  abbrev start : ℕ
  start = row * extent b 0

  place : (i : ℕ) → i < extent b 0 → index_in b (point_in b (start + i)) ≡ start + i
  place i l = index_at_point b (start + i) (omega (arith, room, l))

  put_in : (i : ℕ) → InRuns r i
      → slice_index_or new (start + i) (pos 0) ≡ slice_index_or within (start + i) (pos 0)
  put_in i (inl k) = let m = runs.middle in
      second.below (start + i) (omega (arith, k.1, m)) ∙ first.here i k
  put_in i (inr k) = second.here i k

  put_off : (i : ℕ) → (InRuns r i → ⊥)
      → slice_index_or new (start + i) (pos 0) ≡ slice_index_or old (start + i) (pos 0)
  put_off i k = go (cases_lt i r.before.from) (cases_lt i r.before.to) (cases_lt i r.behind.from)
      (cases_lt i r.behind.to)
    where
      go : (i < r.before.from) ⊎ (r.before.from ≤ i) → (i < r.before.to) ⊎ (r.before.to ≤ i)
          → (i < r.behind.from) ⊎ (r.behind.from ≤ i)
          → (i < r.behind.to) ⊎ (r.behind.to ≤ i)
          → slice_index_or new (start + i) (pos 0) ≡ slice_index_or old (start + i) (pos 0)
      go (inl a) x y z =
          let m = runs.before in let n = runs.middle in
          second.below (start + i) (omega (arith, a, m, n))
          ∙ first.below (start + i) (omega (arith, a))
      go (inr a) (inl c) y z = absurd (k (inl (a, c)))
      go (inr a) (inr c) (inl d) z =
          second.below (start + i) (omega (arith, d)) ∙ first.above (start + i) (omega (arith, c))
      go (inr a) (inr c) (inr d) (inl f) = absurd (k (inr (d, f)))
      go (inr a) (inr c) (inr d) (inr f) =
          second.above (start + i) (omega (arith, f)) ∙ first.above (start + i) (omega (arith, c))

  pub row_set : SetsRow b zone within row old new
  row_set = record {
    count = second.count ∙ first.count;
    here = λ i l. by_zone i l (in_zone zone (point_in b (start + i))) refl;
    there = there;
  }
    where
      by_zone : (i : ℕ) → i < extent b 0 → (t : Bool) → in_zone zone (point_in b (start + i)) ≡ t
          → slice_index_or new (start + i) (pos 0)
          ≡ mixed_at b zone within old (point_in b (start + i))
      by_zone i l true e = rw (e, place i l) (put_in i (runs.to i l e))
      by_zone i l false e = rw (e, place i l)
          (put_off i (λ k. true≢false (sym (runs.from i k) ∙ e)))

      there : (j : ℕ) → (j < start) ⊎ (start + extent b 0 ≤ j)
          → slice_index_or new j (pos 0) ≡ slice_index_or old j (pos 0)
      there j (inl l) = second.below j (omega (arith, l)) ∙ first.below j (omega (arith, l))
      there j (inr l) =
          let m = runs.most in let n = runs.middle in let o = runs.behind in
          second.above j (omega (arith, l, m)) ∙ first.above j (omega (arith, l, m, n, o))

-- ---- rows set one after another

pub zone_row : (b : Box3) (zone : Zone) (within old now new : List ℤ) (row next : ℕ)
    → next ≡ row * extent b 0 + extent b 0 → next ≤ point_count b
    → ZoneTo b zone within old now (row * extent b 0) → SetsRow b zone within row now new
    → ZoneTo b zone within old new next
zone_row b zone within old now new row next e room f s = record {
  count = s.count ∙ f.count;
  done = λ j l m. by_place j l m (cases_lt j (row * extent b 0));
  rest = λ j l. s.there j (inr (omega (arith, e, l))) ∙ f.rest j (omega (arith, e, l));
}
  where
    same : (j : ℕ) → j < point_count b → slice_index_or now j (pos 0) ≡ slice_index_or old j (pos 0)
        → mixed_at b zone within now (point_in b j) ≡ mixed_at b zone within old (point_in b j)
    same j m h =
        ap (λ k. if in_zone zone (point_in b j)
        then slice_index_or within (index_in b (point_in b j)) (pos 0) else k)
        (ap (λ k. slice_index_or now k (pos 0)) (index_at_point b j m) ∙ h
        ∙ sym (ap (λ k. slice_index_or old k (pos 0)) (index_at_point b j m)))

    by_place : (j : ℕ) → j < next → j < point_count b
        → (j < row * extent b 0) ⊎ (row * extent b 0 ≤ j)
        → slice_index_or new j (pos 0) ≡ mixed_at b zone within old (point_in b j)
    by_place j l m (inl k) = s.there j (inl k) ∙ f.done j k m
    by_place j l m (inr k) =
        let z : row * extent b 0 + (j - row * extent b 0) ≡ j = omega (arith, k) in
        ap (λ n. slice_index_or new n (pos 0)) (sym z)
        ∙ s.here (j - row * extent b 0) (omega (arith, e, l, k))
        ∙ ap (λ n. mixed_at b zone within now (point_in b n)) z
        ∙ same j m (f.rest j k)

-- ---- rows outside of a zone kept

module _ (b : Box3) (zone : Zone) (level old one two new : List ℤ) (row : ℕ) (r : Runs)
    (s t u : Span)
    (room : row * extent b 0 + extent b 0 ≤ point_count b)
    (runs : IsRuns zone b (row * extent b 0) r)
    (sf : s.from ≡ 0) (st : s.to ≡ r.before.from) (tf : t.from ≡ r.before.to)
    (tt : t.to ≡ r.behind.from) (uf : u.from ≡ r.behind.to) (ut : u.to ≡ extent b 0)
    (first : SetsSpan level (row * extent b 0) s old one)
    (second : SetsSpan level (row * extent b 0) t one two)
    (third : SetsSpan level (row * extent b 0) u two new) where
  abbrev outset : ℕ
  outset = row * extent b 0

  spot : (i : ℕ) → i < extent b 0 → index_in b (point_in b (outset + i)) ≡ outset + i
  spot i l = index_at_point b (outset + i) (omega (arith, room, l))

  kept_in : (i : ℕ) → InRuns r i
      → slice_index_or new (outset + i) (pos 0) ≡ slice_index_or old (outset + i) (pos 0)
  kept_in i (inl k) =
      let m = runs.middle in let n = runs.behind in
      third.below (outset + i) (omega (arith, k.1, m, n, uf))
      ∙ second.below (outset + i) (omega (arith, k.1, tf))
      ∙ first.above (outset + i) (omega (arith, k.0, st))
  kept_in i (inr k) =
      let m = runs.middle in let n = runs.before in
      third.below (outset + i) (omega (arith, k.1, uf))
      ∙ second.above (outset + i) (omega (arith, k.0, tt))
      ∙ first.above (outset + i) (omega (arith, k.0, m, n, st))

  kept_off : (i : ℕ) → i < extent b 0 → (InRuns r i → ⊥)
      → slice_index_or new (outset + i) (pos 0) ≡ slice_index_or level (outset + i) (pos 0)
  kept_off i l k = go (cases_lt i r.before.from) (cases_lt i r.before.to) (cases_lt i r.behind.from)
      (cases_lt i r.behind.to)
    where
      go : (i < r.before.from) ⊎ (r.before.from ≤ i) → (i < r.before.to) ⊎ (r.before.to ≤ i)
          → (i < r.behind.from) ⊎ (r.behind.from ≤ i)
          → (i < r.behind.to) ⊎ (r.behind.to ≤ i)
          → slice_index_or new (outset + i) (pos 0) ≡ slice_index_or level (outset + i) (pos 0)
      go (inl a) x y z =
          let m = runs.before in let n = runs.middle in let o = runs.behind in
          third.below (outset + i) (omega (arith, a, m, n, o, uf))
          ∙ second.below (outset + i) (omega (arith, a, m, tf))
          ∙ first.here i (omega (arith, sf), omega (arith, a, st))
      go (inr a) (inl c) y z = absurd (k (inl (a, c)))
      go (inr a) (inr c) (inl d) z =
          let o = runs.behind in
          third.below (outset + i) (omega (arith, d, o, uf))
          ∙ second.here i (omega (arith, c, tf), omega (arith, d, tt))
      go (inr a) (inr c) (inr d) (inl f) = absurd (k (inr (d, f)))
      go (inr a) (inr c) (inr d) (inr f) = third.here i (omega (arith, f, uf), omega (arith, l, ut))

  pub row_kept : KeepsRow b zone level row old new
  row_kept = record {
    count = third.count ∙ second.count ∙ first.count;
    here = λ i l. by_zone i l (in_zone zone (point_in b (outset + i))) refl;
    there = there;
  }
    where
      by_zone : (i : ℕ) → i < extent b 0 → (q : Bool) → in_zone zone (point_in b (outset + i)) ≡ q
          → slice_index_or new (outset + i) (pos 0)
          ≡ mixed_at b zone old level (point_in b (outset + i))
      by_zone i l true e = rw (e, spot i l) (kept_in i (runs.to i l e))
      by_zone i l false e = rw (e, spot i l)
          (kept_off i l (λ k. true≢false (sym (runs.from i k) ∙ e)))

      there : (j : ℕ) → (j < outset) ⊎ (outset + extent b 0 ≤ j)
          → slice_index_or new j (pos 0) ≡ slice_index_or old j (pos 0)
      there j (inl l) = third.below j (omega (arith, l)) ∙ second.below j (omega (arith, l))
          ∙ first.below j (omega (arith, l))
      there j (inr l) =
          let m = runs.before in let n = runs.middle in let o = runs.behind in let q = runs.most in
          third.above j (omega (arith, l, ut)) ∙ second.above j (omega (arith, l, tt, o, q))
          ∙ first.above j (omega (arith, l, st, m, n, o, q))

pub record KeptTo (b : Box3) (zone : Zone) (level old now : List ℤ) (i : ℕ) : Type 0 where
  pub count : length now ≡ length old
  pub done : (j : ℕ) → j < i → j < point_count b
      → slice_index_or now j (pos 0) ≡ mixed_at b zone old level (point_in b j)
  pub rest : (j : ℕ) → i ≤ j → slice_index_or now j (pos 0) ≡ slice_index_or old j (pos 0)

pub kept_none : (b : Box3) (zone : Zone) (level old : List ℤ) (i : ℕ) → i ≡ 0
    → KeptTo b zone level old old i
kept_none b zone level old i e =
    record { count = refl; done = λ j l. absurd (omega (arith, l, e)); rest = λ j l. refl }

pub kept_row : (b : Box3) (zone : Zone) (level old now new : List ℤ) (row next : ℕ)
    → next ≡ row * extent b 0 + extent b 0
    → KeptTo b zone level old now (row * extent b 0) → KeepsRow b zone level row now new
    → KeptTo b zone level old new next
kept_row b zone level old now new row next e f s = record {
  count = s.count ∙ f.count;
  done = λ j l m. by_place j l m (cases_lt j (row * extent b 0));
  rest = λ j l. s.there j (inr (omega (arith, e, l))) ∙ f.rest j (omega (arith, e, l));
}
  where
    same : (j : ℕ) → j < point_count b → slice_index_or now j (pos 0) ≡ slice_index_or old j (pos 0)
        → mixed_at b zone now level (point_in b j) ≡ mixed_at b zone old level (point_in b j)
    same j m h =
        ap (λ k. if in_zone zone (point_in b j) then k
        else slice_index_or level (index_in b (point_in b j)) (pos 0))
        (ap (λ k. slice_index_or now k (pos 0)) (index_at_point b j m) ∙ h
        ∙ sym (ap (λ k. slice_index_or old k (pos 0)) (index_at_point b j m)))

    by_place : (j : ℕ) → j < next → j < point_count b
        → (j < row * extent b 0) ⊎ (row * extent b 0 ≤ j)
        → slice_index_or new j (pos 0) ≡ mixed_at b zone old level (point_in b j)
    by_place j l m (inl k) = s.there j (inl k) ∙ f.done j k m
    by_place j l m (inr k) =
        let z : row * extent b 0 + (j - row * extent b 0) ≡ j = omega (arith, k) in
        ap (λ n. slice_index_or new n (pos 0)) (sym z)
        ∙ s.here (j - row * extent b 0) (omega (arith, e, l, k))
        ∙ ap (λ n. mixed_at b zone now level (point_in b n)) z
        ∙ same j m (f.rest j k)

pub kept_all : (b : Box3) (zone : Zone) (level old now : List ℤ) (n : ℕ) → n ≡ point_count b
    → length old ≡ point_count b → KeptTo b zone level old now n
    → now ≡ numbers_in b (mixed_at b zone old level)
kept_all b zone level old now n e room f =
    fill_by_all (λ j. mixed_at b zone old level (point_in b j)) now (point_count b) (pos 0)
    (f.count ∙ room) (λ j l. f.done j (rw e l) l)

-- ---- a row tested

-- a test that all pass, and one that some fail
all_from : {X : Type 0} (test : X → Bool) (xs : List X) (d : X)
    → ((i : ℕ) → i < length xs → test (get_or xs i d) ≡ true) → list_all test xs ≡ true
all_from test [] d h = refl
all_from test (x ∷ xs) d h =
    and_from (test x) (list_all test xs) (h 0 (omega arith))
    (all_from test xs d (λ i l. h (suc i) (omega (arith, l))))

all_at : {X : Type 0} (test : X → Bool) (xs : List X) (i : ℕ) (d : X) → i < length xs
    → list_all test xs ≡ true → test (get_or xs i d) ≡ true
all_at test [] i d l e = absurd (omega (arith, l))
all_at test (x ∷ xs) zero d l e = (and_parts (test x) (list_all test xs) e).0
all_at test (x ∷ xs) (suc i) d l e =
    all_at test xs i d (omega (arith, l)) (and_parts (test x) (list_all test xs) e).1

same_truth : (a b : Bool) → (a ≡ true → b ≡ true) → (b ≡ true → a ≡ true) → a ≡ b
same_truth true b f g = sym (f refl)
same_truth false true f g = g refl
same_truth false false f g = refl

or_right : (a b : Bool) → b ≡ true → (a || b) ≡ true
or_right true b e = refl
or_right false b e = e

or_held : (a b : Bool) → a ≡ true → (not a || b) ≡ true → b ≡ true
or_held true b e f = f
or_held false b e f = absurd cc

or_free : (a b : Bool) → a ≡ false → (not a || b) ≡ true
or_free true b e = absurd cc
or_free false b e = refl

module _ (b : Box3) (zone : Zone) (values : List ℤ) (low high : ℤ) (row : ℕ) (r : Runs)
    (size : length values ≡ point_count b)
    (room : row * extent b 0 + extent b 0 ≤ point_count b)
    (runs : IsRuns zone b (row * extent b 0) r) where
  abbrev begin : ℕ
  begin = row * extent b 0

  abbrev both : Bool
  both = are_within low high (numbers_on values begin r.before)
      && are_within low high (numbers_on values begin r.behind)

  point_there : (i : ℕ) (d : Point) → i < extent b 0
      → get_or (row_points b row) i d ≡ point_in b (begin + i)
  point_there i d l = get_or-map-range_with_len (point_in b) begin (extent b 0) i (begin + i)
      d l refl

  number_there : (i : ℕ) → i < extent b 0
      → slice_index_or values (index_in b (point_in b (begin + i))) (pos 0)
      ≡ slice_index_or values (begin + i) (pos 0)
  number_there i l = ap (λ k. slice_index_or values k (pos 0))
      (index_at_point b (begin + i) (omega (arith, room, l)))

  span_fits : (s : Span) → s.from ≤ s.to → s.to ≤ extent b 0
      → are_within low high (numbers_on values begin s) ≡ true → (i : ℕ) → InSpan s i
      → is_within low high (slice_index_or values (begin + i) (pos 0)) ≡ true
  span_fits s h m e i k =
      let n = span_length values begin s h (omega (arith, size, room, m)) in
      ap (is_within low high) (sym (span_number values begin s i k))
      ∙ all_at (is_within low high) (numbers_on values begin s) (i - s.from) (pos 0)
      (omega (arith, n, k.0, k.1)) e

  span_from : (s : Span) → s.from ≤ s.to → s.to ≤ extent b 0
      → ((i : ℕ) → InSpan s i
      → is_within low high (slice_index_or values (begin + i) (pos 0)) ≡ true)
      → are_within low high (numbers_on values begin s) ≡ true
  span_from s h m f =
      let n = span_length values begin s h (omega (arith, size, room, m)) in
      all_from (is_within low high) (numbers_on values begin s) (pos 0)
      (λ j l.
      let k : InSpan s (s.from + j) = (omega arith, omega (arith, n, l)) in
      let z : s.from + j - s.from ≡ j = omega arith in
      ap (λ i. is_within low high (slice_index_or (numbers_on values begin s) i (pos 0))) (sym z)
      ∙ ap (is_within low high) (span_number values begin s (s.from + j) k) ∙ f (s.from + j) k)

  before_most : r.before.to ≤ extent b 0
  before_most = let m = runs.middle in let n = runs.behind in let o = runs.most in
      omega (arith, m, n, o)

  pub row_fits : both ≡ list_all (fits_at b zone values low high) (row_points b row)
  row_fits = same_truth both (list_all (fits_at b zone values low high) (row_points b row)) to from
    where
      at : (i : ℕ) → i < extent b 0 → both ≡ true → (t : Bool)
          → in_zone zone (point_in b (begin + i)) ≡ t
          → fits_at b zone values low high (point_in b (begin + i)) ≡ true
      at i l e true z =
          let p = and_parts (are_within low high (numbers_on values begin r.before))
          (are_within low high (numbers_on values begin r.behind)) e in
          or_right (not (in_zone zone (point_in b (begin + i)))) _
          (ap (is_within low high) (number_there i l) ∙ in_either (runs.to i l z))
        where
          in_either : InRuns r i
              → is_within low high (slice_index_or values (begin + i) (pos 0)) ≡ true
          in_either (inl k) =
              span_fits r.before runs.before before_most
              (and_parts (are_within low high (numbers_on values begin r.before))
              (are_within low high (numbers_on values begin r.behind)) e).0 i k
          in_either (inr k) =
              span_fits r.behind runs.behind runs.most
              (and_parts (are_within low high (numbers_on values begin r.before))
              (are_within low high (numbers_on values begin r.behind)) e).1 i k
      at i l e false z = or_free (in_zone zone (point_in b (begin + i))) _ z

      to : both ≡ true → list_all (fits_at b zone values low high) (row_points b row) ≡ true
      to e =
          all_from (fits_at b zone values low high) (row_points b row) b.low
          (λ i l.
          let n = length-map-range_with_len (point_in b) begin (extent b 0) in
          let m : i < extent b 0 = omega (arith, n, l) in
          ap (fits_at b zone values low high) (point_there i b.low m)
          ∙ at i m e (in_zone zone (point_in b (begin + i))) refl)

      one : list_all (fits_at b zone values low high) (row_points b row) ≡ true → (i : ℕ)
          → i < extent b 0 → InRuns r i
          → is_within low high (slice_index_or values (begin + i) (pos 0)) ≡ true
      one e i l k =
          let n = length-map-range_with_len (point_in b) begin (extent b 0) in
          let t = all_at (fits_at b zone values low high) (row_points b row) i b.low
          (omega (arith, n, l)) e in
          let u : fits_at b zone values low high (point_in b (begin + i)) ≡ true =
          ap (fits_at b zone values low high) (sym (point_there i b.low l)) ∙ t in
          ap (is_within low high) (sym (number_there i l))
          ∙ or_held (in_zone zone (point_in b (begin + i))) _ (runs.from i k) u

      from : list_all (fits_at b zone values low high) (row_points b row) ≡ true → both ≡ true
      from e =
          let o = runs.most in
          and_from (are_within low high (numbers_on values begin r.before))
          (are_within low high (numbers_on values begin r.behind))
          (span_from r.before runs.before before_most
          (λ i k. let m = before_most in one e i (omega (arith, k.1, m)) (inl k)))
          (span_from r.behind runs.behind runs.most
          (λ i k. one e i (omega (arith, k.1, o)) (inr k)))

-- ---- rows tested one after another

tested_apart : (test : Point → Bool) (f : ℕ → Point) (s n m all next : ℕ) → all ≡ n + m
    → next ≡ s + n
    → list_all test (map f (range_with_len s all))
    ≡ (list_all test (map f (range_with_len s n))
    && list_all test (map f (range_with_len next m)))
tested_apart test f s zero m all next e h =
    let a : all ≡ m = omega (arith, e) in
    let b : next ≡ s = omega (arith, h) in
    rw (a, b) refl
tested_apart test f s (suc n) m zero next e h = absurd (omega (arith, e))
tested_apart test f s (suc n) m (suc all) next e h =
    ap (λ t. test (f s) && t)
    (tested_apart test f (s + 1) n m all next (omega (arith, e)) (omega (arith, h)))
    ∙ and_moved (test (f s)) (list_all test (map f (range_with_len (s + 1) n)))
    (list_all test (map f (range_with_len next m)))
  where
    and_moved : (a b c : Bool) → (a && (b && c)) ≡ ((a && b) && c)
    and_moved true b c = refl
    and_moved false b c = refl

pub row_tested : (b : Box3) (test : Point → Bool) (row : ℕ)
    → row * extent b 0 + extent b 0 ≤ point_count b
    → list_all test (rest_of_points b (row * extent b 0))
    ≡ (list_all test (row_points b row)
    && list_all test (rest_of_points b ((row + 1) * extent b 0)))
row_tested b test row room =
    let next = row_next row (extent b 0) in
    tested_apart test (point_in b) (row * extent b 0) (extent b 0)
    (point_count b - (row + 1) * extent b 0) (point_count b - row * extent b 0)
    ((row + 1) * extent b 0)
    (omega (arith, next, room)) next

-- ---- write by write, and point by point

all_both : (f g : Point → Bool) (ps : List Point)
    → (list_all f ps && list_all g ps) ≡ list_all (λ p. f p && g p) ps
all_both f g [] = refl
all_both f g (p ∷ ps) = swapped (f p) (list_all f ps) (g p) (list_all g ps)
    ∙ ap (λ t. (f p && g p) && t) (all_both f g ps)
  where
    swapped : (a b c d : Bool) → ((a && b) && (c && d)) ≡ ((a && c) && (b && d))
    swapped true true c d = refl
    swapped true false true d = refl
    swapped true false false d = refl
    swapped false b c d = refl

all_pass : (f : Point → Bool) (ps : List Point) → ((p : Point) → f p ≡ true) → list_all f ps ≡ true
all_pass f [] h = refl
all_pass f (p ∷ ps) h = and_from (f p) (list_all f ps) (h p) (all_pass f ps h)

pub levels_tested : (setup : Setup) (b : Box3) (zone : Zone) (ws : List Touch)
    (buffers : List (List ℤ)) → length ws ≤ length buffers
    → levels_fit setup b zone ws buffers ≡ list_all (does_fit setup b zone ws buffers) (points_in b)
levels_tested setup b zone [] buffers h =
    sym (all_pass (does_fit setup b zone [] buffers) (points_in b)
    (λ y. or_right (not (in_zone zone y)) true refl))
levels_tested setup b zone (w ∷ ws) [] h = absurd (omega (arith, h))
levels_tested setup b zone (w ∷ ws) (buffer ∷ buffers) h =
    let t = (variable setup w.var).ctype in
    ap (λ r. fits_zone b zone buffer t && r)
    (levels_tested setup b zone ws buffers (omega (arith, h)))
    ∙ all_both (fits_at b zone buffer (least t) (greatest t)) (does_fit setup b zone ws buffers)
    (points_in b)
    ∙ ap (λ (f : Point → Bool). list_all f (points_in b))
    (fun_ext (λ y. both_or (not (in_zone zone y)) _ _))
  where
    both_or : (a b c : Bool) → ((a || b) && (a || c)) ≡ (a || (b && c))
    both_or true b c = refl
    both_or false b c = refl

-- ---- a buffer taken

pub spends_one : (buffers : List (List ℤ)) (k : ℕ) (new : List ℤ)
    → length new ≡ length (slice_index_or buffers k [])
    → SpendsOne k buffers (slice_set buffers k new)
spends_one buffers k new e = record {
  sizes = map-set_same length buffers k new [] e;
  others = λ j h. get_or-set_other buffers k j new [] h;
}

-- from the k-th on they are as before
pub record SpentTo (k : ℕ) (old now : List (List ℤ)) : Type 0 where
  pub sizes : map length now ≡ map length old
  pub later : (j : ℕ) → k ≤ j → slice_index_or now j [] ≡ slice_index_or old j []

pub spent_none : (buffers : List (List ℤ)) → SpentTo 0 buffers buffers
spent_none buffers = record { sizes = refl; later = λ j h. refl }

pub spent_more : (k : ℕ) (old now new : List (List ℤ)) → SpentTo k old now → SpendsOne k now new
    → SpentTo (k + 1) old new
spent_more k old now new f s = record {
  sizes = s.sizes ∙ f.sizes;
  later = λ j h. s.others j (λ e. omega (arith, h, e)) ∙ f.later j (omega (arith, h));
}

pub spent_count : (k : ℕ) (old now : List (List ℤ)) → SpentTo k old now → length now ≡ length old
spent_count k old now f = sym (length-map now length) ∙ ap length f.sizes ∙ length-map old length

pub cleared_same : (old new : List (List ℤ)) → map length new ≡ map length old
    → cleared new ≡ cleared old
cleared_same [] [] e = refl
cleared_same [] (y ∷ ys) e = absurd cc
cleared_same (x ∷ xs) [] e = absurd cc
cleared_same (x ∷ xs) (y ∷ ys) e =
    let a : length y ≡ length x = cc in
    let b : map length ys ≡ map length xs = cc in
    ap (λ ns. ns ∷ cleared ys) (zeros_same x y a)
    ∙ ap (λ zs. no_numbers x ∷ zs) (cleared_same xs ys b)
  where
    zeros_same : (a b : List ℤ) → length b ≡ length a → no_numbers b ≡ no_numbers a
    zeros_same [] [] h = refl
    zeros_same [] (m ∷ ms) h = absurd (omega (arith, h))
    zeros_same (n ∷ ns) [] h = absurd (omega (arith, h))
    zeros_same (n ∷ ns) (m ∷ ms) h = ap (λ zs. pos 0 ∷ zs) (zeros_same ns ms (omega (arith, h)))

-- ---- zones without points

pub none_unfit : (b : Box3) (zone : Zone) (values : List ℤ) (t : CType)
    → ((p : Point) → in_zone zone p ≡ false) → true ≡ fits_zone b zone values t
none_unfit b zone values t none =
    sym (all_pass (fits_at b zone values (least t) (greatest t)) (points_in b)
    (λ p. ap (λ z. not z || is_within (least t) (greatest t)
    (slice_index_or values (index_in b p) (pos 0))) (none p)))

pub none_put : (b : Box3) (zone : Zone) (within level : List ℤ)
    → ((p : Point) → in_zone zone p ≡ false) → length level ≡ point_count b
    → level ≡ numbers_in b (mixed_at b zone within level)
none_put b zone within level none count =
    fill_by_all (λ j. mixed_at b zone within level (point_in b j)) level (point_count b) (pos 0)
    count
    (λ j l.
    sym (ap (λ z. if z then slice_index_or within (index_in b (point_in b j)) (pos 0)
    else slice_index_or level (index_in b (point_in b j)) (pos 0)) (none (point_in b j))
    ∙ ap (λ i. slice_index_or level i (pos 0)) (index_at_point b j l)))
