-- What a rule sees of a row of points stands in levels one after another.
use Rattle.std.proofs.Common.{◌≡◌, ℕ, zero, suc, ◌+◌, ◌-◌, ◌*◌, ◌<◌, ◌≤◌, ◌^◌, true, arith, refl, sym, ap, ◌∙◌, subst, ℤ, pos, neg_ℤ, ◌+ℤ◌, ◌-ℤ◌, ◌≤ℤ◌, List, [], ◌∷◌, ◌++◌, length, map, take, cond}
use Rattle.std.specs.Prelude.{slice_index_or, get_or, nat_lt}
use Rattle.std.specs.List.{flat_map}
use Rattle.std.proofs.lemmas.Int.{ints}
use Rattle.std.proofs.lemmas.Bool.{lt-ltb}
use Rattle.std.proofs.lemmas.List.{length-map, get_or-map, get_or_append_left, get_or-append_right}
use Rattle.std.proofs.lemmas.List.FromFn.{get_or-map-range_with_len, length-map-range_with_len}
use Rattle.std.proofs.lemmas.List.Sums.{sum_by-cons}
use Rattle.cx_grid.specs.declared.boxes.Point.{Point}
use Rattle.cx_grid.specs.declared.boxes.Box3.{Box3}
use Rattle.cx_grid.specs.Boxes.{IsIn, IsOn, point_count, index_in, point_in, numbers_in, shifted}
use Rattle.cx_grid.specs.Windows.{reach_box}
use Rattle.cx_grid.proofs.Places.{index_below, point_at_index, same_point}
use Rattle.cx_plan.specs.declared.item.Touch.{Touch}
use Rattle.cx_plan.specs.declared.item.Item.{Item}
use Rattle.cx_plan.specs.declared.item.Region.TheVariants.{Interior}
use Rattle.cx_plan.specs.Setups.{Setup}
use Rattle.cx_rule.specs.Seen.{volume_of, place_among, value_of}
use Rattle.cx_rule.specs.Sweeps.{Values, values_around, reach_of, seen_at}
use Rattle.cx_rule.specs.Patches.{PatchValue, IsPatch, IsGridLevel, IsNearPoint, beside, number_at, numbers_along, setup_in, values_in}
use Rattle.cx_rule.specs.States.{scalar_of}
use Rattle.cx_rule.specs.Rows.{row_of, reach_at, offset_from, middle, ShowsAlong, CanSeeRow}
use Rattle.cx_rule.proofs.WindowLaws.{around_count}
use Rattle.cx_rule.proofs.FaceLaws.{local_is_near}

abbrev pub no_touch : Touch
no_touch = record { var = record { 0 = 0 }; level = 0; region = Interior; reach = 0 }

-- ---- values by points

-- a function's number at a point of a box, where other numbers stand behind
in_front : (b : Box3) (f : Point → ℤ) (o : Point) (rest : List ℤ) → IsIn b o
    → slice_index_or (numbers_in b f ++ rest) (0 + index_in b o) (pos 0) ≡ f o
in_front b f o rest h =
    let z : 0 + index_in b o ≡ index_in b o = omega arith in
    let n = length-map-range_with_len (λ i. f (point_in b i)) 0 (point_count b) in
    let l = index_below b o h in
    ap (λ i. slice_index_or (numbers_in b f ++ rest) i (pos 0)) z
    ∙ get_or_append_left (numbers_in b f) rest (pos 0) (index_in b o) (omega (arith, n, l))
    ∙ get_or-map-range_with_len (λ i. f (point_in b i)) 0 (point_count b) (index_in b o)
    (index_in b o) (pos 0) l z
    ∙ ap f (point_at_index b o h)

-- a read shows, at an offset within its reach, the value at the point moved by it
module _ (setup : Setup) (values : Values) (p : Point) where
  abbrev all : List Touch → List ℤ
  all reads = flat_map (values_around setup values p) reads

  abbrev place : List Touch → ℕ → Point → ℕ
  place reads k o = place_among setup.shape.dims (map reach_of reads) k o

  pub value_at : (reads : List Touch) (k : ℕ) (d : Touch) (o : Point) → k < length reads
      → IsIn (reach_box setup.shape.dims (get_or reads k d).reach) o
      → slice_index_or (all reads) (place reads k o) (pos 0)
      ≡ values (get_or reads k d).var (get_or reads k d).level (shifted p o)
  value_at [] k d o l h = absurd (omega (arith, l))
  value_at (r ∷ rs) zero d o l h =
      in_front (reach_box setup.shape.dims r.reach) (λ q. values r.var r.level (shifted p q)) o
      (all rs) h
  value_at (r ∷ rs) (suc k) d o l h =
      let n = volume_of setup.shape.dims r.reach in
      let first : length (values_around setup values p r) ≡ n = around_count setup values p r in
      let more = sum_by-cons (volume_of setup.shape.dims) r.reach (take k (map reach_of rs)) in
      let e : place (r ∷ rs) (suc k) o ≡ n + place rs k o = omega (arith, more) in
      let m : place (r ∷ rs) (suc k) o - n ≡ place rs k o = omega (arith, e) in
      get_or-append_right (values_around setup values p r) (all rs) n (place (r ∷ rs) (suc k) o)
      (pos 0) first (omega (arith, e))
      ∙ ap (λ i. slice_index_or (all rs) i (pos 0)) m
      ∙ value_at rs k d o (omega (arith, l)) h

-- ---- a row

module _ (p : PatchValue) (s : IsPatch p) (x : Item) (from low : Point) (n iteration : ℕ)
    (h : CanSeeRow p x from n)
    (k : ℕ) (d : Touch) (kl : k < length x.reads) (y z : ℤ)
    (on : IsIn (reach_box p.shape.dims (reach_at (row_of p x from low n iteration) k)) (middle y z))
  where
    abbrev read : Touch
    read = get_or x.reads k d

    pub reach_is : reach_at (row_of p x from low n iteration) k ≡ read.reach
    reach_is = get_or-map reach_of x.reads k d 0 kl

    on_reach : IsIn (reach_box p.shape.dims read.reach) (middle y z)
    on_reach = subst (λ m. IsIn (reach_box p.shape.dims m) (middle y z)) reach_is on

    one : nat_lt 0 p.shape.dims ≡ true
    one = lt-ltb 0 p.shape.dims (let e = s.part.shape.some in omega (arith, e))

    spread : (j : ℕ) → j ≤ 2 * read.reach
        → IsOn (neg_ℤ (pos read.reach)) (pos (read.reach + 1)) (pos j -ℤ pos read.reach)
    spread j l = record { from = omega (arith, ints); below = omega (arith, ints, l) }

    offset_on : (j : ℕ) → j ≤ 2 * read.reach
        → IsIn (reach_box p.shape.dims read.reach) (offset_from read.reach y z j)
    offset_on j l = record {
      x = subst (λ b. IsOn (cond b (neg_ℤ (pos read.reach)) (pos 0))
          (cond b (pos (read.reach + 1)) (pos 1)) (pos j -ℤ pos read.reach)) (sym one) (spread j l);
      y = on_reach.y;
      z = on_reach.z;
    }

    seen_local : (i j : ℕ) → i < n → j ≤ 2 * read.reach
        → IsIn p.local (shifted (beside from i) (offset_from read.reach y z j))
    seen_local i j l m = (h.sees i l k d kl).near (h.grid k d kl) (offset_from read.reach y z j)
        (offset_on j m)

    abbrev start : Point
    start = shifted from (offset_from read.reach y z 0)

    pub start_local : IsIn p.local start
    start_local =
        let q = seen_local 0 0 h.some (omega arith) in
        record {
          x = record {
            from = omega (arith, ints, q.x.from);
            below = omega (arith, ints, q.x.below);
          };
          y = q.y;
          z = q.z;
        }

    pub start_near : IsNearPoint start
    start_near = local_is_near p.shape p.owned p.local s.part start start_local

    last_local : IsIn p.local
        (shifted (beside from (n - 1)) (offset_from read.reach y z (2 * read.reach)))
    last_local = seen_local (n - 1) (2 * read.reach) (let o = h.some in omega (arith, o))
        (omega arith)

    pub end_local : (start.x +ℤ pos (n + 2 * read.reach)) ≤ℤ p.local.high.x
    end_local = let q = last_local in let o = h.some in omega (arith, ints, q.x.below, o)

    pub few : n + 2 * read.reach < 2 ^ 32
    few =
        let a = start_near.x in
        let b = (local_is_near p.shape p.owned p.local s.part _ last_local).x in
        let o = h.some in
        omega (arith, ints, a.0, b.1, o)

    pub grid_level : IsGridLevel p read.var read.level
    grid_level =
        let t = (h.sees 0 h.some k d kl).stored in
        record { var = t.var; stored = t.stored; grid = h.grid k d kl }

    same_place : (i j : ℕ) → beside start (i + j)
        ≡ shifted (beside from i) (offset_from read.reach y z j)
    same_place i j = same_point (omega (arith, ints)) refl refl

    shows_each : (i j : ℕ) → i < n → j ≤ 2 * read.reach
        → slice_index_or (numbers_along p read.var read.level start (n + 2 * read.reach)) (i + j)
        (pos 0)
        ≡ value_of (seen_at (setup_in p) x (values_in p) (beside from i)) k
        (offset_from read.reach y z j)
    shows_each i j l m =
        let q = shifted (beside from i) (offset_from read.reach y z j) in
        get_or-map-range_with_len (λ a. number_at p read.var read.level (beside start a)) 0
        (n + 2 * read.reach) (i + j) (i + j) (pos 0) (omega (arith, l, m)) (omega arith)
        ∙ ap (number_at p read.var read.level) (same_place i j)
        ∙ sym (ap (λ b. cond b (scalar_of p.numbers read.var) (number_at p read.var read.level q))
        (h.grid k d kl))
        ∙ sym (value_at (setup_in p) (values_in p) (beside from i) x.reads k d
        (offset_from read.reach y z j) kl (offset_on j m))

    pub shows : (ns : List ℤ) → ns ≡ numbers_along p read.var read.level start (n + 2 * read.reach)
        → ShowsAlong (row_of p x from low n iteration) k y z ns
    shows ns e = record {
      count = ap length e ∙ length-map-range_with_len
          (λ a. number_at p read.var read.level (beside start a)) 0 (n + 2 * read.reach)
          ∙ ap (λ m. n + 2 * m) (sym reach_is);
      each = subst (λ m. (i j : ℕ) → i < n → j ≤ 2 * m
          → slice_index_or ns (i + j) (pos 0)
          ≡ value_of (seen_at (setup_in p) x (values_in p) (beside from i)) k
          (offset_from m y z j))
          (sym reach_is) (λ i j l m. ap (λ ms. slice_index_or ms (i + j) (pos 0)) e
          ∙ shows_each i j l m);
    }

-- the same from what the code found
module _ (p : PatchValue) (s : IsPatch p) (x : Item) (from low : Point) (n iteration : ℕ)
    (h : CanSeeRow p x from n)
    (k : ℕ) (d : Touch) (kl : k < length (map reach_of x.reads)) (y z : ℤ)
    (on : IsIn (reach_box p.shape.dims (reach_at (row_of p x from low n iteration) k)) (middle y z))
  where
    pub below : k < length x.reads
    below = let e = length-map x.reads reach_of in omega (arith, e, kl)
