-- A zone that is staged run by run.
use Rattle.std.proofs.Common.{◌≡◌, ℕ, zero, suc, max, ◌+◌, ◌-◌, ◌<◌, ◌≤◌, ◌⊎◌, inl, inr, true, false, not, refl, sym, ap, ◌∙◌, subst, arith, cond, Bool, ℤ, pos, ◌+ℤ◌, ◌≤ℤ◌, List, [], ◌∷◌, length, map, take, filter, get_or, length-set, Some, Result, Ok, Err}
use Rattle.std.specs.Prelude.{All, OnOk, OnErr, slice_index_or, slice_set}
use Rattle.std.specs.Int.{int_gap}
use Rattle.std.proofs.lemmas.Int.{ints}
use Rattle.std.proofs.lemmas.Bool.{and_parts, cases_lt}
use Rattle.std.proofs.lemmas.List.{get_or-take, length-take-le}
use Rattle.std.proofs.lemmas.List.Filters.{length-filter_more}
use Rattle.std.proofs.lemmas.List.FromFn.{length-map-range_with_len}
use Rattle.cx_grid.specs.declared.boxes.Point.{Point}
use Rattle.cx_grid.specs.declared.boxes.Box3.{Box3}
use Rattle.cx_grid.specs.declared.shapes.Shape.{Shape}
use Rattle.cx_grid.specs.Boxes.{IsIn, has_point, point_count, index_in, point_in, points_in}
use Rattle.cx_grid.proofs.Places.{index_at_point, point_at_index, same_point}
use Rattle.cx_grid.proofs.Points.{in_is}
use Rattle.cx_plan.specs.declared.item.Touch.{Touch}
use Rattle.cx_plan.specs.declared.item.Item.{Item}
use Rattle.cx_plan.specs.declared.item.Region.{Region}
use Rattle.cx_plan.specs.Lookups.{is_scalar}
use Rattle.cx_plan.specs.Regions.{region_of}
use Rattle.cx_rule.specs.Jobs.{IsRoutineOf}
use Rattle.cx_rule.specs.Meter.{raised, raised_twice}
use Rattle.cx_rule.specs.Routine.{Rule}
use Rattle.cx_rule.specs.Sweeps.{seen_at, place_at}
use Rattle.cx_rule.specs.declared.routine.Overflow.{Overflow}
use Rattle.cx_rule.specs.declared.run.Run.{Run}
use Rattle.cx_rule.specs.declared.spec.Spec.{Spec}
use Rattle.cx_rule.specs.Patches.{PatchValue, IsPatch, beside, setup_in, values_in, with_buffers}
use Rattle.cx_rule.specs.Staging.{put_from, with_row_staged, staged_numbers}
use Rattle.cx_rule.specs.Zones.{in_zone}
use Rattle.cx_rule.specs.Buffers.{counted}
use Rattle.cx_rule.specs.Swept.{swept_zone, rule_numbers, IsSamePatch, CanSweep, IsStaged, StagesZone}
use Rattle.cx_rule.specs.Rows.{IsOpened, LeavesOpen, RowValue, CanSeeRow, FitsRow, IsRowPut, LacksOne, seen_row, run_row, CanStageRow, StagesRow, IsRowItem, IsRun}
use Rattle.cx_rule.specs.declared.zone.Zone.{Zone}
use Rattle.cx_rule.proofs.BufferLaws.{buffer_length}
use Rattle.cx_rule.proofs.CountedLaws.{counted_put}
use Rattle.cx_rule.proofs.FaceLaws.{row_index, row_end}
use Rattle.cx_rule.proofs.PointLaws.{bare_sees, count_kept}
use Rattle.cx_rule.proofs.StageLaws.{touch_reaches, want_reaches, touch_count, want_count}
use Rattle.cx_rule.proofs.RowSweeps.{OnRow, row_point, row_gap, beside_row, put_on, put_off, on_or_off}
use Rattle.cx_rule.proofs.SweepLaws.{point_there}
use Rattle.cx_rule.proofs.SweptLaws.{with_buffers_of, can_stage, local_point, filter_few}

-- ---- the first buffer

first_set : (buffers : List (List ℤ)) (row : List ℤ) (at : ℕ) → 0 < length buffers
    → map (λ buffer. slice_index_or buffer at (pos 0)) (take 1 (slice_set buffers 0 row))
    ≡ slice_index_or row at (pos 0) ∷ []
first_set [] row at h = absurd (omega (arith, h))
first_set (b ∷ []) row at h = refl
first_set (b ∷ (c ∷ cs)) row at h = refl

first_was : (buffers : List (List ℤ)) (at : ℕ) → 0 < length buffers
    → map (λ buffer. slice_index_or buffer at (pos 0)) (take 1 buffers)
    ≡ slice_index_or (slice_index_or buffers 0 []) at (pos 0) ∷ []
first_was [] at h = absurd (omega (arith, h))
first_was (b ∷ []) at h = refl
first_was (b ∷ (c ∷ cs)) at h = refl

-- ---- one row

pub bare_row : (p : PatchValue) (staged : List (List ℤ)) (room : ℕ) (x : Item) (from : Point)
    (n : ℕ) → CanSeeRow (with_buffers p staged room) x from n → CanSeeRow p x from n
bare_row p staged room x from n r =
    record {
      some = r.some;
      grid = r.grid;
      sees = λ i l. bare_sees p staged room x (beside from i) (r.sees i l);
    }

pub fits_row : (s : Spec) (x : Item) (p : PatchValue) (run : Run) (iteration : ℕ) → IsPatch p
    → IsRoutineOf s x → length x.writes ≡ 1
    → FitsRow s (run_row p x iteration run)
fits_row s x p run iteration patch its one = record {
  some = let e = patch.part.shape.some in omega (arith, e);
  most = let e = patch.part.shape.most in omega (arith, e);
  reads = sym (touch_reaches x.reads)
      ∙ ap (λ (ts : List (Region × ℕ)). map (λ (t : Region × ℕ). t.1) ts) its.reads
      ∙ want_reaches s.reads;
  dims = λ i. refl;
  shape = λ i. refl;
  params = λ i. its.params;
  writes = sym (want_count s.writes) ∙ sym (ap (λ (ts : List (Region × ℕ)). length ts) its.writes)
      ∙ touch_count x.writes ∙ one;
}

pub stages_row : (p : PatchValue) (staged new : List (List ℤ)) (room : ℕ) (rule : Rule) (x : Item)
    (iteration : ℕ) (run : Run) (at : ℕ) (result : Result (Unit {0}) Overflow)
    → at ≡ index_in p.local run.low
    → OnOk result (IsRowPut rule (run_row p x iteration run) at (slice_index_or staged 0 [])
    (slice_index_or new 0 []))
    → OnErr result (LacksOne rule (run_row p x iteration run))
    → new ≡ slice_set staged 0 (slice_index_or new 0 []) → map length new ≡ map length staged
    → StagesRow (with_buffers p staged room) rule x iteration run (with_buffers p new room) result
stages_row p staged new room rule x iteration run at (Ok u) place put lacks level sizes = (
  put.0,
  put.1,
  put.2,
  ap (λ (bs : List (List ℤ)). with_buffers p bs room)
      (level ∙ ap (slice_set staged 0)
      (put.3 ∙ ap (λ a. put_from a (slice_index_or staged 0 []) put.0) place)),
)
stages_row p staged new room rule x iteration run at (Err e) place put lacks level sizes =
    (lacks, record { numbers = refl; buffers = count_kept new staged sizes })

pub leaves_open : (p : PatchValue) (staged new : List (List ℤ)) (room : ℕ) (low : Point)
    (count at : ℕ) → at ≡ index_in p.local low
    → IsOpened at count (slice_index_or staged 0 []) (slice_index_or new 0 [])
    → new ≡ slice_set staged 0 (slice_index_or new 0 [])
    → LeavesOpen (with_buffers p staged room) low count (with_buffers p new room)
leaves_open p staged new room low count at place left level = (
  left.0,
  left.1,
  ap (λ (bs : List (List ℤ)). with_buffers p bs room)
      (level ∙ ap (slice_set staged 0)
      (left.2 ∙ ap (λ a. put_from a (slice_index_or staged 0 []) left.0) place)),
)

-- ---- what is staged of one write, once a row is put

module _ (x : Item) (one : length x.writes ≡ 1) (p : PatchValue) (patch : IsPatch p)
    (some : 0 < length p.staged) (low : Point) (ns : List ℤ)
    (inside : IsIn p.local low) (high : (low.x +ℤ pos (length ns)) ≤ℤ p.local.high.x) where
  abbrev buffer : List ℤ
  buffer = slice_index_or p.staged 0 []

  buffer_count : length buffer ≡ point_count p.local
  buffer_count = buffer_length p.local p.staged patch.buffers 0 some

  abbrev stand : Point → ℕ
  stand y = index_in p.local y

  abbrev put : PatchValue
  put = with_row_staged p 0 low ns

  staged_set : (y : Point)
      → staged_numbers put (length x.writes) y
      ≡ slice_index_or (put_from (stand low) buffer ns) (stand y) (pos 0) ∷ []
  staged_set y = ap (λ m. staged_numbers put m y) one
      ∙ first_set p.staged (put_from (stand low) buffer ns) (stand y) some

  -- on the row
  pub staged_on : (y : Point) → OnRow low (length ns) y
      → staged_numbers put (length x.writes) y ≡ slice_index_or ns (int_gap low.x y.x) (pos 0) ∷ []
  staged_on y r = staged_set y
      ∙ ap (λ (m : ℤ). m ∷ []) (put_on p.local low ns buffer inside high buffer_count y r)

  -- and off it
  pub staged_off : (y : Point) → IsIn p.local y → (OnRow low (length ns) y → ⊥)
      → staged_numbers put (length x.writes) y ≡ staged_numbers p (length x.writes) y
  staged_off y here off =
      staged_set y ∙ ap (λ (m : ℤ). m ∷ [])
      (put_off p.local low ns buffer inside high buffer_count y here off)
      ∙ sym (ap (λ m. staged_numbers p m y) one ∙ first_was p.staged (stand y) some)

-- ---- a run of an item's zone

pub here_run : (shape s : Shape) (region t : Region) (zone z : Zone) (run : Run) → shape ≡ s
    → region ≡ t → zone ≡ z → IsRun shape region zone run → IsRun s t z run
here_run shape s region t zone z run a b c h =
    subst (λ q. IsRun s t q run) c
    (subst (λ q. IsRun s q zone run) b (subst (λ q. IsRun q region zone run) a h))

pub shape_same : (p old : PatchValue) → IsSamePatch p old → p.shape ≡ old.shape
shape_same p old same = ap (λ (q : PatchValue). q.shape) same.numbers

module _ (s : Spec) (x : Item) (old : PatchValue) (can : CanSweep s x old) (its : IsPatch old)
    (item : IsRowItem old x)
    (run : Run) (is : IsRun old.shape (region_of x.writes) (swept_zone old x) run) where
  abbrev zone : Point → Bool
  zone = in_zone (swept_zone old x)

  abbrev b : Box3
  b = (swept_zone old x).all

  abbrev low : Point
  low = run.low

  abbrev n : ℕ
  n = run.count

  abbrev pts : List Point
  pts = points_in b

  local_same : (p : PatchValue) → IsSamePatch p old → old.local ≡ p.local
  local_same p same = sym (ap (λ (q : PatchValue). q.local) same.numbers)

  near : (p : PatchValue) (y : Point) → IsSamePatch p old → zone y ≡ true → IsIn p.local y
  near p y same h = subst (λ (c : Box3). IsIn c y) (local_same p same)
      (local_point s x old can its item.kind y h)

  all_in : (y : Point) → zone y ≡ true → IsIn b y
  all_in y e = in_is b y (and_parts (has_point b y) (not (has_point (swept_zone old x).hole y)) e).0

  first : beside low 0 ≡ low
  first = same_point (omega (arith, ints)) refl refl

  low_zone : zone low ≡ true
  low_zone = ap zone (sym first) ∙ is.zone 0 is.some

  -- its points stand one behind another in the zone's box
  pub end_in : (low.x +ℤ pos n) ≤ℤ b.high.x
  end_in =
      let l = is.some in
      let q = all_in (beside low (n - 1)) (is.zone (n - 1) (omega (arith, l))) in
      omega (arith, ints, q.x.below, l)

  run_within : index_in b low + n ≤ point_count b
  run_within = row_end b low n (all_in low low_zone) end_in

  pub can_stage_row : (p : PatchValue) → IsSamePatch p old → CanStageRow s x p run
  can_stage_row p same = record {
    routine = can.routine;
    row = record {
      some = is.some;
      grid =
          subst (λ (q : PatchValue).
          All (λ (r : Touch). is_scalar (setup_in q) r.var ≡ false) x.reads)
          (with_buffers_of p old same) item.grid;
      sees =
          λ i l. (can_stage s x old can its item.kind p (beside run.from i) (beside low i) same
          (sym (is.from i l)) (is.zone i l)).reads;
    };
    writes = item.writes;
    buffers = let few = can.buffers in let count = same.buffers in omega (arith, few, count);
    low_in = near p low same low_zone;
    high_in =
        let l = is.some in
        let q = near p (beside low (n - 1)) same (is.zone (n - 1) (omega (arith, l))) in
        omega (arith, ints, q.x.below, l);
  }

  rule_here : (rule : Rule) (iteration : ℕ) (p : PatchValue) (i : ℕ) → IsSamePatch p old → i < n
      → rule (seen_at (setup_in p) x (values_in p) (beside run.from i))
      (place_at (setup_in p) x iteration (beside low i))
      ≡ rule_numbers old rule x iteration (beside low i)
  rule_here rule iteration p i same l =
      ap (λ (q : PatchValue).
      rule (seen_at (setup_in q) x (values_in q) (beside run.from i))
      (place_at (setup_in q) x iteration (beside low i))) same.numbers
      ∙ ap (λ q. rule (seen_at (setup_in old) x (values_in old) q)
      (place_at (setup_in old) x iteration (beside low i))) (sym (is.from i l))

  -- from a place of the zone's box on
  module _ (at : ℕ) (below : at < point_count b) (place : low ≡ point_in b at) where
    low_at : index_in b low ≡ at
    low_at = ap (index_in b) place ∙ index_at_point b at below

    length_is : length pts ≡ point_count b
    length_is = length-map-range_with_len (point_in b) 0 (point_count b)

    pub run_fits : at + n ≤ point_count b
    run_fits = let e = run_within in let a = low_at in omega (arith, e, a)

    fit_in : at + n ≤ length pts
    fit_in = let e = run_fits in let m = length_is in omega (arith, e, m)

    point_is : (i : ℕ) (d : Point) → i < length pts → get_or pts i d ≡ point_in b i
    point_is i d l = point_there b i d (let m = length_is in omega (arith, l, m))

    next_in : (i : ℕ) → i < n → index_in b (beside low i) ≡ at + i
    next_in i l = let a = low_at in let e = row_index b low i (all_in low low_zone).x.from in
        omega (arith, a, e)

    next_is : (i : ℕ) (d : Point) → i < n → get_or pts (at + i) d ≡ beside low i
    next_is i d l =
        let h = all_in (beside low i) (is.zone i l) in
        let f = fit_in in
        point_is (at + i) d (omega (arith, l, f)) ∙ ap (point_in b) (sym (next_in i l))
        ∙ point_at_index b (beside low i) h

    -- each of them counts
    counts : (k : ℕ) → k ≤ n
        → length (filter zone (take (at + k) pts)) ≡ length (filter zone (take at pts)) + k
    counts zero l = let e : at + 0 ≡ at = omega arith in
        ap (λ m. length (filter zone (take m pts))) e ∙ omega arith
    counts (suc k) l =
        let e : at + suc k ≡ at + k + 1 = omega arith in
        let f = fit_in in
        let more = length-filter_more zone pts (at + k) low (omega (arith, l, f)) in
        let inside : zone (get_or pts (at + k) low) ≡ true =
        ap zone (next_is k low (omega (arith, l))) ∙ is.zone k (omega (arith, l)) in
        ap (λ m. length (filter zone (take m pts))) e ∙ more
        ∙ ap (λ t. length (filter zone (take (at + k) pts)) + cond t 1 0) inside
        ∙ ap (λ m. m + 1) (counts k (omega (arith, l))) ∙ omega arith

    module _ (rule : Rule) (iteration : ℕ) (p : PatchValue) (before between : ℕ)
        (f : IsStaged old rule x iteration (take at pts) p before between) (patch : IsPatch p) where
      staged_some : 0 < length p.staged
      staged_some = let few = can.buffers in let count = f.same.buffers in let one = item.writes in
          omega (arith, few, count, one)

      -- the numbers of the run are staged
      module _ (ns : List ℤ) (count : length ns ≡ n)
          (gives : (i : ℕ) → i < n
          → rule (seen_at (setup_in p) x (values_in p) (beside run.from i))
          (place_at (setup_in p) x iteration (beside low i))
          ≡ Some (slice_index_or ns i (pos 0) ∷ [])) where
        high : (low.x +ℤ pos (length ns)) ≤ℤ p.local.high.x
        high = let h = (can_stage_row p f.same).high_in in omega (arith, ints, h, count)

        number : (y : Point) → OnRow low n y
            → rule_numbers old rule x iteration y
            ≡ Some (slice_index_or ns (int_gap low.x y.x) (pos 0) ∷ [])
        number y r =
            let l = row_gap low n y r in
            subst (λ q. rule_numbers old rule x iteration q
            ≡ Some (slice_index_or ns (int_gap low.x y.x) (pos 0) ∷ [])) (row_point low n y r)
            (sym (rule_here rule iteration p (int_gap low.x y.x) f.same l)
            ∙ gives (int_gap low.x y.x) l)

        numbers_on : (y : Point) → OnRow low n y
            → rule_numbers old rule x iteration y
            ≡ Some (staged_numbers (with_row_staged p 0 low ns) (length x.writes) y)
        numbers_on y r =
            number y r
            ∙ ap Some
            (sym (staged_on x item.writes p patch staged_some low ns
            (near p low f.same low_zone) high y (subst (λ m. OnRow low m y) (sym count) r)))

        numbers_off : (y : Point) → zone y ≡ true → (OnRow low n y → ⊥)
            → rule_numbers old rule x iteration y ≡ Some (staged_numbers p (length x.writes) y)
            → rule_numbers old rule x iteration y
            ≡ Some (staged_numbers (with_row_staged p 0 low ns) (length x.writes) y)
        numbers_off y zy off was =
            was
            ∙ ap Some
            (sym (staged_off x item.writes p patch staged_some low ns (near p low f.same low_zone)
            high y (near p y f.same zy) (λ r. off (subst (λ m. OnRow low m y) count r))))

        -- at each place before the run's end
        numbers_at : (i : ℕ) (y : Point) → i < at + n → y ≡ get_or pts i y → zone y ≡ true
            → rule_numbers old rule x iteration y
            ≡ Some (staged_numbers (with_row_staged p 0 low ns) (length x.writes) y)
        numbers_at i y l e zy = go (on_or_off low n y) (cases_lt i at)
          where
            go : OnRow low n y ⊎ (OnRow low n y → ⊥) → (i < at) ⊎ (at ≤ i)
                → rule_numbers old rule x iteration y
                ≡ Some (staged_numbers (with_row_staged p 0 low ns) (length x.writes) y)
            go (inl r) k = numbers_on y r
            go (inr off) (inl k) =
                let room = fit_in in
                let short : length (take at pts) ≡ at =
                length-take-le at pts (omega (arith, room)) in
                let same : get_or (take at pts) i y ≡ y = get_or-take at pts i y k ∙ sym e in
                numbers_off y zy off
                (subst (λ q. zone q ≡ true
                → rule_numbers old rule x iteration q
                ≡ Some (staged_numbers p (length x.writes) q)) same
                (f.numbers i y (omega (arith, k, short))) zy)
            go (inr off) (inr k) =
                let j : i - at < n = omega (arith, k, l) in
                let here : at + (i - at) ≡ i = omega (arith, k) in
                let same : beside low (i - at) ≡ y =
                sym (next_is (i - at) y j) ∙ ap (λ m. get_or pts m y) here ∙ sym e in
                absurd (off (subst (OnRow low n) same (beside_row low n (i - at) j)))

        numbers_next : All (λ y. zone y ≡ true
            → rule_numbers old rule x iteration y
            ≡ Some (staged_numbers (with_row_staged p 0 low ns) (length x.writes) y))
            (take (at + n) pts)
        numbers_next i d l zy =
            let k : i < at + n = let m = length-take-le (at + n) pts fit_in in
            omega (arith, l, m) in
            let e : get_or (take (at + n) pts) i d ≡ get_or pts i d =
            get_or-take (at + n) pts i d k in
            let room = fit_in in
            let m : i < length pts = omega (arith, k, room) in
            let again : get_or pts i d ≡ get_or pts i (get_or pts i d) =
            point_is i d m ∙ sym (point_is i (get_or pts i d) m) in
            subst (λ q. rule_numbers old rule x iteration q
            ≡ Some (staged_numbers (with_row_staged p 0 low ns) (length x.writes) q)) (sym e)
            (numbers_at i (get_or pts i d) k again (ap zone (sym e) ∙ zy))

        row_same : IsSamePatch (with_row_staged p 0 low ns) old
        row_same = record {
          numbers = f.same.numbers;
          buffers = length-set p.staged 0 _ ∙ f.same.buffers;
        }

      pub run_more : (new : PatchValue) (after : ℕ) (done : Unit {0})
          → StagesRow p rule x iteration run new (Ok done) → after ≡ raised between n
          → IsStaged old rule x iteration (take (at + n) pts) new before after
      run_more new after done t meter =
          subst (λ (q : PatchValue).
          IsStaged old rule x iteration (take (at + n) pts) q before after) (sym t.3) (record {
            same = row_same t.0 t.1 t.2;
            numbers = numbers_next t.0 t.1 t.2;
            meter = meter ∙ ap (λ m. raised m n) f.meter
                ∙ raised_twice before (length (filter zone (take at pts))) n
                ∙ ap (raised before) (sym (counts n (omega arith)));
          })

      -- the rule gives no numbers at a point of the run
      pub run_fails : (new : PatchValue) (e : Overflow)
          → StagesRow p rule x iteration run new (Err e)
          → StagesZone old rule x iteration new before between (Err e)
      run_fails new e t =
          let i = t.0.0 in
          let l = t.0.1 in
          let few = filter_few zone pts at in (
            beside low i,
            record {
              zone = is.zone i l;
              none = sym (rule_here rule iteration p i f.same l) ∙ t.0.2;
            },
            record {
              numbers = t.1.numbers ∙ f.same.numbers;
              buffers = t.1.buffers ∙ f.same.buffers;
            },
            record { least = omega (arith, f.meter); most = omega (arith, f.meter, few) },
          )

-- ---- numbers that count up to a place

-- a rule's numbers put into those of a buffer, of which some count
pub row_counted : (rule : Rule) (row : RowValue) (at d m : ℕ) (zeroed new old : List ℤ) → at ≤ d
    → m ≡ max d (at + row.count) → at + row.count ≤ length zeroed
    → counted d zeroed ≡ old → IsRowPut rule (seen_row row) at zeroed new
    → IsRowPut rule (seen_row row) at old (counted m new)
row_counted rule row at d m zeroed new old le is room same put =
    let count : length put.0 ≡ row.count = put.1 in
    let end : m ≡ max d (at + length put.0) = is ∙ ap (λ n. max d (at + n)) (sym count) in
    let fits : at + length put.0 ≤ length zeroed = omega (arith, count, room) in (
      put.0,
      put.1,
      put.2,
      ap (counted m) put.3 ∙ counted_put at d m zeroed put.0 le end fits
          ∙ ap (λ ns. put_from at ns put.0) same,
    )
