-- A zone that is staged point by point and then committed is swept.
use Rattle.std.proofs.Common.{◌≡◌, ◌≢◌, ℕ, zero, suc, ◌+◌, ◌<◌, ◌≤◌, Bool, true, false, not, ◌&&◌, refl, sym, ap, ◌∙◌, subst, arith, cond, ℤ, pos, List, [], ◌∷◌, ◌++◌, map, filter, length, get_or, take, drop, replicate, Some, None, Result, Ok, Err, ◌⊎◌, inl, inr, length-append, if◌then◌else◌}
use Rattle.std.specs.Prelude.{All, is_some}
use Rattle.std.specs.List.{list_all}
use Rattle.std.proofs.lemmas.Bool.{and_parts, cases_eq}
use Rattle.std.proofs.lemmas.List.{get_or-set_same, get_or-set_other, take-append-drop}
use Rattle.std.proofs.lemmas.List.Elements.{filter-append, All-append}
use Rattle.std.proofs.lemmas.List.Filters.{length-filter_more}
use Rattle.cx_grid.specs.declared.boxes.Point.{Point}
use Rattle.cx_grid.specs.declared.boxes.Box3.{Box3}
use Rattle.cx_grid.specs.Boxes.{IsIn, has_point, point_count, index_in, points_in}
use Rattle.cx_grid.proofs.Places.{index_below, index_once}
use Rattle.cx_grid.proofs.Points.{in_is}
use Rattle.cx_plan.specs.declared.item.Touch.{Touch}
use Rattle.cx_plan.specs.declared.item.Item.{Item}
use Rattle.cx_plan.specs.declared.item.ItemKind.TheVariants.{Cell, Scalar}
use Rattle.cx_grid.specs.declared.shapes.Shape.{Shape}
use Rattle.cx_plan.specs.declared.item.Region.{Region}
use Rattle.cx_plan.specs.declared.flag.Flag.TheVariants.{S}
use Rattle.cx_plan.specs.Setups.{Setup}
use Rattle.cx_plan.specs.Lookups.{is_scalar}
use Rattle.cx_plan.specs.Regions.{region_of, has_shape, kinds_agree, same_region, is_some_list, are_distinct, read_needs, grid_needs, cell_needs}
use Rattle.cx_rule.specs.Meter.{raised, raised_none, raised_twice}
use Rattle.cx_rule.specs.Routine.{Rule}
use Rattle.cx_rule.specs.States.{State, scalar_of}
use Rattle.cx_rule.specs.Sweeps.{Values, seen_at, place_at, numbers_by, window_point, if_fit, sweep}
use Rattle.cx_rule.specs.declared.routine.Overflow.{Overflow}
use Rattle.cx_rule.specs.declared.spec.Spec.{Spec}
use Rattle.cx_rule.specs.Patches.{PatchValue, IsPatch, setup_in, values_in, number_at, with_numbers}
use Rattle.cx_rule.specs.Staging.{CanSee, CanStage, Stages, CanWrite, HasZone, CanCommit, Commits, staged_at, with_staged, staged_numbers, fitting_at, given_at, placed_at, committed, committed_by, cleared}
use Rattle.cx_rule.specs.Zones.{in_zone, item_zone, zone_of}
use Rattle.cx_rule.specs.Swept.{swept_zone, window_from, rule_numbers, swept_numbers, swept_by, swept, IsSamePatch, Sweeps, CanSweep, IsStaged, IsWithout, StagesZone}
use Rattle.cx_rule.specs.declared.zone.Zone.{Zone}
use Rattle.cx_rule.proofs.PartPoints.{each_passes}
use Rattle.cx_rule.proofs.ZoneLaws.{in_part, zone_same, zone_local, cell_near}
use Rattle.cx_rule.proofs.SweepLaws.{each_point, sweep_same, sweep_none, sweep_in}

-- ---- buffers

-- the number that each buffer has at a place
abbrev at_place : ℕ → List ℤ → ℤ
at_place at buffer = get_or buffer at (pos 0)

abbrev HaveRoom : ℕ → List (List ℤ) → Type 0
HaveRoom m buffers = map length buffers ≡ replicate (length buffers) m

staged_here : (at m : ℕ) (buffers : List (List ℤ)) (ns : List ℤ) → HaveRoom m buffers → at < m
    → length ns ≤ length buffers
    → map (at_place at) (take (length ns) (staged_at at buffers ns)) ≡ ns
staged_here at m [] [] room h few = refl
staged_here at m [] (n ∷ ns) room h few = absurd (omega arith)
staged_here at m (b ∷ bs) [] room h few = refl
staged_here at m (b ∷ bs) (n ∷ ns) room h few =
    let first : length b ≡ m = ap (λ (l : List ℕ). get_or l 0 0) room in
    let rest : HaveRoom m bs = ap (λ (l : List ℕ). drop 1 l) room in
    ap (λ (z : ℤ). z ∷ map (at_place at) (take (length ns) (staged_at at bs ns)))
    (get_or-set_same b at n (pos 0) (omega (arith, first)))
    ∙ ap (λ (l : List ℤ). n ∷ l) (staged_here at m bs ns rest h (omega arith))

staged_there : (at other : ℕ) (count : ℕ) (buffers : List (List ℤ)) (ns : List ℤ) → other ≢ at
    → map (at_place other) (take count (staged_at at buffers ns))
    ≡ map (at_place other) (take count buffers)
staged_there at other count [] ns h = refl
staged_there at other count (b ∷ bs) [] h = refl
staged_there at other zero (b ∷ bs) (n ∷ ns) h = refl
staged_there at other (suc count) (b ∷ bs) (n ∷ ns) h =
    ap (λ (z : ℤ). z ∷ map (at_place other) (take count (staged_at at bs ns)))
    (get_or-set_other b at other n (pos 0) h)
    ∙ ap (λ (l : List ℤ). at_place other b ∷ l) (staged_there at other count bs ns h)

staged_count : (at : ℕ) (buffers : List (List ℤ)) (ns : List ℤ)
    → length (staged_at at buffers ns) ≡ length buffers
staged_count at [] ns = refl
staged_count at (b ∷ bs) [] = refl
staged_count at (b ∷ bs) (n ∷ ns) = ap suc (staged_count at bs ns)

-- what was just staged at a local point
pub numbers_just_staged : (p : PatchValue) (count : ℕ) (y : Point) (ns : List ℤ) → IsPatch p
    → IsIn p.local y → length ns ≡ count → count ≤ length p.staged
    → staged_numbers (with_staged p y ns) count y ≡ ns
numbers_just_staged p count y ns patch near same few =
    ap (λ n. map (at_place (index_in p.local y))
    (take n (staged_at (index_in p.local y) p.staged ns))) (sym same)
    ∙ staged_here (index_in p.local y) (point_count p.local) p.staged ns patch.buffers
    (index_below p.local y near) (omega (arith, same, few))

pub cleared_count : (buffers : List (List ℤ)) → length (cleared buffers) ≡ length buffers
cleared_count [] = refl
cleared_count (b ∷ bs) = ap suc (cleared_count bs)

-- ---- patches that differ in what is staged

-- the patch with other buffers
pub with_buffers_of : (new old : PatchValue) → IsSamePatch new old
    → (record old { staged = new.staged }) ≡ new
with_buffers_of new old e =
    ap (λ (p : PatchValue). record p { staged = new.staged }) (sym e.numbers)

pub same_patch : (p : PatchValue) → IsSamePatch p p
same_patch p = record { numbers = refl; buffers = refl }

-- one point more is staged
pub same_staged : (old p : PatchValue) (y : Point) (ns : List ℤ) → IsSamePatch p old
    → IsSamePatch (with_staged p y ns) old
same_staged old p y ns e =
    record {
      numbers = e.numbers;
      buffers = staged_count (index_in p.local y) p.staged ns ∙ e.buffers;
    }

pub filter_few : {A : Type 0} (test : A → Bool) (xs : List A) (i : ℕ)
    → length (filter test (take i xs)) ≤ length (filter test xs)
filter_few test xs i =
    let all : length (filter test (take i xs)) + length (filter test (drop i xs))
    ≡ length (filter test xs) =
    sym (length-append (filter test (take i xs)) (filter test (drop i xs)))
    ∙ ap length (sym (filter-append test (take i xs) (drop i xs)))
    ∙ ap (λ l. length (filter test l)) (take-append-drop i xs)
    in
    omega (arith, all)

pub just_staged : (old p : PatchValue) (y : Point) (ns : List ℤ) → p ≡ with_staged old y ns
    → IsSamePatch p old
just_staged old p y ns e =
    subst (λ q. IsSamePatch q old) (sym e) (same_staged old old y ns (same_patch old))

-- ---- an item's declaration

none_some : true ≡ false → ⊥
none_some e = absurd cc

not_true : (b : Bool) → not b ≡ true → b ≡ false
not_true true e = absurd cc
not_true false e = refl

pub record Declared (setup : Setup) (x : Item) : Type 0 where
  pub distinct : are_distinct x.writes ≡ true
  pub kinds : kinds_agree setup x x.kind ≡ true
  pub reads : list_all (λ r. is_some (read_needs setup x r)) x.reads ≡ true

pub declared : (setup : Setup) (x : Item) → has_shape setup x ≡ true → Declared setup x
declared setup x h =
    let a = and_parts (is_some_list x.writes && are_distinct x.writes && kinds_agree setup x x.kind)
    (list_all (λ r. is_some (read_needs setup x r)) x.reads) h in
    let b = and_parts (is_some_list x.writes && are_distinct x.writes) (kinds_agree setup x x.kind)
    a.0 in
    record {
      distinct = (and_parts (is_some_list x.writes) (are_distinct x.writes) b.0).1;
      kinds = b.1;
      reads = a.1;
    }

module _ (setup : Setup) (x : Item) (d : Declared setup x) where
  pub grid_writes : x.kind ≡ Cell → (i : ℕ) (w : Touch) → i < length x.writes
      → is_scalar setup (get_or x.writes i w).var ≡ false
  grid_writes kind i w l =
      let all : kinds_agree setup x Cell ≡ true =
      subst (λ k. kinds_agree setup x k ≡ true) kind d.kinds in
      let one = each_passes (λ (t : Touch). not (is_scalar setup t.var)
      && same_region t.region (region_of x.writes)) x.writes all i w l in
      not_true (is_scalar setup (get_or x.writes i w).var)
      (and_parts (not (is_scalar setup (get_or x.writes i w).var))
      (same_region (get_or x.writes i w).region (region_of x.writes)) one).0

  pub scalar_writes : x.kind ≡ Scalar → (i : ℕ) (w : Touch) → i < length x.writes
      → is_scalar setup (get_or x.writes i w).var ≡ true
  scalar_writes kind i w l =
      let all : kinds_agree setup x Scalar ≡ true =
      subst (λ k. kinds_agree setup x k ≡ true) kind d.kinds in
      each_passes (λ (t : Touch). is_scalar setup t.var) x.writes
      (and_parts (list_all (λ (t : Touch). is_scalar setup t.var) x.writes)
      (list_all (λ (t : Touch). is_scalar setup t.var) x.reads) all).0 i w l

  pub scalar_reads : x.kind ≡ Scalar
      → list_all (λ (t : Touch). is_scalar setup t.var) x.reads ≡ true
  scalar_reads kind =
      let all : kinds_agree setup x Scalar ≡ true =
      subst (λ k. kinds_agree setup x k ≡ true) kind d.kinds in
      (and_parts (list_all (λ (t : Touch). is_scalar setup t.var) x.writes)
      (list_all (λ (t : Touch). is_scalar setup t.var) x.reads) all).1

  -- what a cell needs of a read of a grid variable stands in the table
  pub cell_reads : x.kind ≡ Cell → (i : ℕ) (r : Touch) → i < length x.reads
      → is_scalar setup (get_or x.reads i r).var ≡ false
      → is_some (cell_needs setup.shape (region_of x.writes) (get_or x.reads i r).region
      (get_or x.reads i r).reach) ≡ true
  cell_reads kind i r l grid =
      let t = get_or x.reads i r in
      let one : is_some (read_needs setup x t) ≡ true =
      each_passes (λ (q : Touch). is_some (read_needs setup x q)) x.reads d.reads i r l in
      let row : read_needs setup x t
      ≡ cell_needs setup.shape (region_of x.writes) t.region t.reach =
      ap (λ b. cond b (Some (S ∷ [])) (grid_needs setup.shape x.kind (region_of x.writes) t)) grid
      ∙ ap (λ k. grid_needs setup.shape k (region_of x.writes) t) kind
      in
      sym (ap is_some row) ∙ one

-- ---- steps of the walk

-- where the window is taken, by the patch as it stands
pub from_is : (old p : PatchValue) (x : Item) (shape : Shape) (region : Region) (from y : Point)
    → IsSamePatch p old → shape ≡ p.shape → region ≡ region_of x.writes
    → from ≡ window_point shape region y → from ≡ window_from old x y
from_is old p x shape region from y same is its e =
    e ∙ ap (λ s. window_point s region y) (is ∙ ap (λ (q : PatchValue). q.shape) same.numbers)
    ∙ ap (λ r. window_point old.shape r y) its

-- ---- staging one point

module _ (s : Spec) (x : Item) (old : PatchValue) (can : CanSweep s x old) (its : IsPatch old)
    (cell : x.kind ≡ Cell) where
  abbrev zone : Zone
  zone = zone_of old.shape old.owned old.local (region_of x.writes)

  pub zone_is : swept_zone old x ≡ zone
  zone_is = ap (λ k. item_zone k old.shape old.owned old.local (region_of x.writes)) cell

  pub local_point : (y : Point) → in_zone (swept_zone old x) y ≡ true → IsIn old.local y
  local_point y e = zone_local old.shape old.owned old.local (region_of x.writes) y its.part
      (subst (λ z. in_zone z y ≡ true) zone_is e)

  cell_near_at : (y : Point) → in_zone (swept_zone old x) y ≡ true → (staged : List (List ℤ))
      → CanSee (record old { staged = staged }) x (window_from old x y)
  cell_near_at y e staged i r l =
      let stored = can.reads i r l in
      record {
        stored = record { var = stored.var; stored = stored.stored };
        near = λ grid o on.
            cell_near old.shape old.owned old.local (region_of x.writes) (get_or x.reads i r).region
            (get_or x.reads i r).reach y o its.part
            (cell_reads (setup_in old) x (declared (setup_in old) x can.declared) cell i r l grid)
            (subst (λ z. in_zone z y ≡ true) zone_is e) on;
      }

  -- a point of the zone can be staged
  pub can_stage : (p : PatchValue) (from y : Point) → IsSamePatch p old → from ≡ window_from old x y
      → in_zone (swept_zone old x) y ≡ true → CanStage s x p from y
  can_stage p from y same is e =
      subst (λ q. CanStage s x p q y) (sym is) (
      subst (λ q. CanStage s x q (window_from old x y) y) (with_buffers_of p old same) (record {
        routine = can.routine;
        reads = cell_near_at y e p.staged;
        values = can.values;
        params = can.params;
        writes = let few = can.buffers in let count = same.buffers in omega (arith, few, count);
        point = local_point y e;
      }))

  -- a zone that is staged can be committed
  pub can_commit : (p : PatchValue) → IsSamePatch p old → CanCommit p x (swept_zone old x)
  can_commit p same =
      subst (λ q. CanCommit q x (swept_zone old x)) (with_buffers_of p old same) (record {
        points = subst (λ k. HasZone k (record old { staged = p.staged }) (swept_zone old x))
            (sym cell) local_point;
        levels = subst (λ k. All (CanWrite k (record old { staged = p.staged })) x.writes)
            (sym cell) (λ i w l.
            let stored = can.writes i w l in
            record {
              var = stored.var;
              stored = stored.stored;
              grid = grid_writes (setup_in old) x (declared (setup_in old) x can.declared)
                  cell i w l;
            });
        distinct = (declared (setup_in old) x can.declared).distinct;
        writes = let few = can.buffers in let count = same.buffers in omega (arith, few, count);
      })

  -- what staging gives is what the rule gives before the sweep
  given_is : (rule : Rule) (iteration : ℕ) (p : PatchValue) (y : Point) → IsSamePatch p old
      → given_at p rule x iteration (window_from old x y) y ≡ rule_numbers old rule x iteration y
  given_is rule iteration p y same =
      ap (λ (q : PatchValue). given_at q rule x iteration (window_from old x y) y) same.numbers
      ∙ ap (λ k. rule (seen_at (setup_in old) x (values_in old) (window_from old x y))
      (place_at (setup_in old) x iteration (placed_at k y))) cell

  one_more : (points : List Point) (y : Point) → in_zone (swept_zone old x) y ≡ true
      → length (filter (in_zone (swept_zone old x)) (points ++ y ∷ []))
      ≡ length (filter (in_zone (swept_zone old x)) points) + 1
  one_more points y e =
      ap length (filter-append (in_zone (swept_zone old x)) points (y ∷ []))
      ∙ length-append (filter (in_zone (swept_zone old x)) points)
      (filter (in_zone (swept_zone old x)) (y ∷ []))
      ∙ ap (λ b. length (filter (in_zone (swept_zone old x)) points) + length (cond b (y ∷ []) []))
      e

  none_more : (points : List Point) (y : Point) → in_zone (swept_zone old x) y ≡ false
      → length (filter (in_zone (swept_zone old x)) (points ++ y ∷ []))
      ≡ length (filter (in_zone (swept_zone old x)) points)
  none_more points y e =
      ap length (filter-append (in_zone (swept_zone old x)) points (y ∷ []))
      ∙ length-append (filter (in_zone (swept_zone old x)) points)
      (filter (in_zone (swept_zone old x)) (y ∷ []))
      ∙ ap (λ b. length (filter (in_zone (swept_zone old x)) points) + length (cond b (y ∷ []) []))
      e ∙ omega arith

  -- a point outside of the zone
  pub staged_skip : (rule : Rule) (iteration : ℕ) (points : List Point) (p : PatchValue)
      (before between : ℕ) → IsStaged old rule x iteration points p before between → (y : Point)
      → in_zone (swept_zone old x) y ≡ false
      → IsStaged old rule x iteration (points ++ y ∷ []) p before between
  staged_skip rule iteration points p before between f y e = record {
    same = f.same;
    numbers = All-append (λ q. in_zone (swept_zone old x) q ≡ true
        → rule_numbers old rule x iteration q ≡ Some (staged_numbers p (length x.writes) q)) points
        (y ∷ [])
        f.numbers (λ i d l zq. out i d l zq);
    meter = f.meter ∙ ap (raised before) (sym (none_more points y e));
  }
    where
      out : (i : ℕ) (d : Point) → i < length (y ∷ [])
          → in_zone (swept_zone old x) (get_or (y ∷ []) i d) ≡ true
          → rule_numbers old rule x iteration (get_or (y ∷ []) i d)
          ≡ Some (staged_numbers p (length x.writes) (get_or (y ∷ []) i d))
      out zero d l zq = absurd (none_some (sym zq ∙ e))
      out (suc i) d l zq = absurd (omega arith)

  -- the numbers staged at points before stay, those of the new point are the rule's
  module _ (rule : Rule) (iteration : ℕ) (points : List Point) (p : PatchValue) (before between : ℕ)
      (f : IsStaged old rule x iteration points p before between) (patch : IsPatch p) where
    local_is : old.local ≡ p.local
    local_is = sym (ap (λ (r : PatchValue). r.local) f.same.numbers)

    near : (r : Point) → in_zone (swept_zone old x) r ≡ true → IsIn p.local r
    near r z = subst (λ (b : Box3). IsIn b r) local_is (local_point r z)

    numbers_here : (y : Point) (ns : List ℤ) → in_zone (swept_zone old x) y ≡ true
        → length ns ≡ length x.writes
        → staged_numbers (with_staged p y ns) (length x.writes) y ≡ ns
    numbers_here y ns zy count =
        numbers_just_staged p (length x.writes) y ns patch (near y zy) count
        (let few = can.buffers in let same = f.same.buffers in omega (arith, few, same))

    numbers_kept : (y q : Point) (ns : List ℤ) → in_zone (swept_zone old x) y ≡ true
        → in_zone (swept_zone old x) q ≡ true
        → rule_numbers old rule x iteration y ≡ Some ns → length ns ≡ length x.writes
        → rule_numbers old rule x iteration q ≡ Some (staged_numbers p (length x.writes) q)
        → rule_numbers old rule x iteration q
        ≡ Some (staged_numbers (with_staged p y ns) (length x.writes) q)
    numbers_kept y q ns zy zq given count was =
        go (cases_eq (index_in p.local q) (index_in p.local y))
      where
        go : (index_in p.local q ≡ index_in p.local y)
            ⊎ (index_in p.local q ≡ index_in p.local y → ⊥)
            → rule_numbers old rule x iteration q
            ≡ Some (staged_numbers (with_staged p y ns) (length x.writes) q)
        go (inl e) =
            let same : q ≡ y = index_once p.local q y (near q zq) (near y zy) e in
            subst (λ r. rule_numbers old rule x iteration r
            ≡ Some (staged_numbers (with_staged p y ns) (length x.writes) r)) (sym same)
            (given ∙ ap Some (sym (numbers_here y ns zy count)))
        go (inr e) = was ∙ ap Some
            (sym (staged_there (index_in p.local y) (index_in p.local q) (length x.writes)
            p.staged ns e))

    numbers_next : (y : Point) (ns : List ℤ) → in_zone (swept_zone old x) y ≡ true
        → rule_numbers old rule x iteration y ≡ Some ns → length ns ≡ length x.writes
        → All (λ q. in_zone (swept_zone old x) q ≡ true
        → rule_numbers old rule x iteration q
        ≡ Some (staged_numbers (with_staged p y ns) (length x.writes) q)) (points ++ y ∷ [])
    numbers_next y ns zy given count =
        All-append (λ q. in_zone (swept_zone old x) q ≡ true
        → rule_numbers old rule x iteration q
        ≡ Some (staged_numbers (with_staged p y ns) (length x.writes) q)) points (y ∷ [])
        (λ i d l zq. numbers_kept y (get_or points i d) ns zy zq given count (f.numbers i d l zq))
        (λ i d l zq. last i d l)
      where
        last : (i : ℕ) (d : Point) → i < length (y ∷ [])
            → rule_numbers old rule x iteration (get_or (y ∷ []) i d)
            ≡ Some (staged_numbers (with_staged p y ns) (length x.writes) (get_or (y ∷ []) i d))
        last zero d l = given ∙ ap Some (sym (numbers_here y ns zy count))
        last (suc i) d l = absurd (omega arith)

    -- one point of the zone more
    pub staged_more : (from y : Point) (new : PatchValue) (after : ℕ) (done : Unit {0})
        → from ≡ window_from old x y → in_zone (swept_zone old x) y ≡ true
        → Stages p rule x iteration from y new (Ok done) → after ≡ raised between 1
        → IsStaged old rule x iteration (points ++ y ∷ []) new before after
    staged_more from y new after done is zy s meter =
        let given = sym (ap (λ q. given_at p rule x iteration q y) is
        ∙ given_is rule iteration p y f.same) ∙ s.1 in
        subst (λ q. IsStaged old rule x iteration (points ++ y ∷ []) q before after) (sym s.3)
        (record {
          same = same_staged old p y s.0 f.same;
          numbers = numbers_next y s.0 zy given s.2;
          meter = meter ∙ ap (λ n. raised n 1) f.meter
              ∙ raised_twice before (length (filter (in_zone (swept_zone old x)) points)) 1
              ∙ ap (raised before) (sym (one_more points y zy));
        })

    -- the rule gives no numbers at the next point of the zone
    pub staged_fails : (pts : List Point) (i : ℕ) (from y : Point) (new : PatchValue) (after : ℕ)
        (e : Overflow) → points ≡ take i pts → pts ≡ points_in (swept_zone old x).all
        → (i < length pts) × (y ≡ get_or pts i y) → from ≡ window_from old x y
        → in_zone (swept_zone old x) y ≡ true
        → Stages p rule x iteration from y new (Err e) → after ≡ raised between 1
        → StagesZone old rule x iteration new before after (Err e)
    staged_fails pts i from y new after e are all t is zy s meter =
        let zone = in_zone (swept_zone old x) in
        let none : rule_numbers old rule x iteration y ≡ None =
        sym (ap (λ q. given_at p rule x iteration q y) is ∙ given_is rule iteration p y f.same)
        ∙ s.0 in
        let next : length (filter zone (take (i + 1) pts)) ≡ length (filter zone (take i pts)) + 1 =
        length-filter_more zone pts i y t.0
        ∙ ap (λ b. length (filter zone (take i pts)) + cond b 1 0) (ap zone (sym t.1) ∙ zy)
        in
        let few : length (filter zone (take (i + 1) pts)) ≤ length (filter zone pts) =
        filter_few zone pts (i + 1) in
        let count : after ≡ raised before (length (filter zone (take (i + 1) pts))) =
        meter ∙ ap (λ n. raised n 1) f.meter ∙ raised_twice before (length (filter zone points)) 1
        ∙ ap (raised before) (ap (λ l. length (filter zone l) + 1) are ∙ sym next)
        in
        let most : after ≤ raised before (length (filter zone pts)) = omega (arith, count, few) in (
          y,
          record { zone = zy; none = none },
          subst (λ q. IsSamePatch q old) (sym s.1) f.same,
          record {
            least = omega (arith, count);
            most = subst (λ l. after ≤ raised before (length (filter zone l))) all most;
          },
        )

  -- nothing is staged yet
  pub staged_none : (rule : Rule) (iteration before : ℕ)
      → IsStaged old rule x iteration [] old before before
  staged_none rule iteration before =
      record {
        same = same_patch old;
        numbers = λ i d l. absurd (omega arith);
        meter = raised_none before;
      }

  -- ---- the whole zone

  swept_is : (rule : Rule) (iteration : ℕ)
      → swept old rule x iteration ≡ swept_by Cell old rule x iteration
  swept_is rule iteration = ap (λ k. swept_by k old rule x iteration) cell

  -- a point of the zone without numbers
  pub swept_stops : (rule : Rule) (iteration : ℕ) (y : Point) → IsWithout old rule x iteration y
      → swept old rule x iteration ≡ None
  swept_stops rule iteration y w =
      swept_is rule iteration
      ∙ sweep_none old.local (values_in old) (in_zone (swept_zone old x))
      (swept_numbers old rule x iteration) x.writes old.numbers y
      (local_point y w.zone) w.zone (ap (if_fit (setup_in old) x.writes) w.none)

  pub zone_fails : (rule : Rule) (iteration : ℕ) (new : PatchValue) (before after : ℕ)
      (e : Overflow)
      → StagesZone old rule x iteration new before after (Err e)
      → Sweeps old rule x iteration new before after (Err e)
  zone_fails rule iteration new before after e z = (swept_stops rule iteration z.0 z.1, z.2, z.3)

  module _ (rule : Rule) (iteration : ℕ) (p : PatchValue) (before after : ℕ)
      (f : IsStaged old rule x iteration (points_in (swept_zone old x).all) p before after) where
    fitting_is : (y : Point) → IsIn old.local y → in_zone (swept_zone old x) y ≡ true
        → fitting_at p x y ≡ swept_numbers old rule x iteration y
    fitting_is y h z =
        let inside : IsIn (swept_zone old x).all y =
        in_is (swept_zone old x).all y
        (and_parts (has_point (swept_zone old x).all y)
        (not (has_point (swept_zone old x).hole y)) z).0 in
        let given = each_point (swept_zone old x).all
        (λ q. in_zone (swept_zone old x) q ≡ true
        → rule_numbers old rule x iteration q ≡ Some (staged_numbers p (length x.writes) q))
        f.numbers y inside z
        in
        ap (λ (q : PatchValue).
        if_fit (setup_in q) x.writes (Some (staged_numbers p (length x.writes) y)))
        f.same.numbers
        ∙ ap (if_fit (setup_in old) x.writes) (sym given)

    committed_is : committed p x (swept_zone old x) ≡ swept old rule x iteration
    committed_is =
        ap (λ k. committed_by k p x (swept_zone old x)) cell
        ∙ ap (λ (q : PatchValue).
        sweep q.local (values_in q) (in_zone (swept_zone old x)) (fitting_at p x)
        x.writes q.numbers) f.same.numbers
        ∙ sweep_same old.local (values_in old) (in_zone (swept_zone old x)) (fitting_at p x)
        (swept_numbers old rule x iteration) fitting_is x.writes old.numbers
        ∙ sym (swept_is rule iteration)

    -- a zone that is staged and then committed is swept
    pub zone_swept : (new : PatchValue) (r : Result (Unit {0}) Overflow)
        → Commits p x (swept_zone old x) new r → Sweeps old rule x iteration new before after r
    zone_swept new (Ok done) c = (
      c.0,
      sym committed_is ∙ c.1,
      subst (λ q. IsSamePatch q (with_numbers old c.0)) (sym c.2) (record {
        numbers = ap (λ (q : PatchValue). with_numbers q c.0) f.same.numbers;
        buffers = cleared_count p.staged ∙ f.same.buffers;
      }),
      f.meter,
    )
    zone_swept new (Err e) c = (
      sym committed_is ∙ c.0,
      subst (λ q. IsSamePatch q old) (sym c.1) f.same,
      let m = f.meter in record { least = omega (arith, m); most = omega (arith, m) },
    )

-- ---- for those who sweep parts

-- a Cell item's sweep is the sweep of the local points of its region, of the interior those that
-- the part owns
pub cell_swept : (p : PatchValue) (rule : Rule) (x : Item) (iteration : ℕ) → x.kind ≡ Cell
    → swept p rule x iteration
    ≡ sweep p.local (values_in p) (in_part p.shape p.owned (region_of x.writes))
    (swept_numbers p rule x iteration) x.writes p.numbers
cell_swept p rule x iteration cell =
    ap (λ k. swept_by k p rule x iteration) cell
    ∙ ap (λ k. sweep p.local (values_in p)
    (in_zone (item_zone k p.shape p.owned p.local (region_of x.writes)))
    (swept_numbers p rule x iteration) x.writes p.numbers) cell
    ∙ sweep_in p.local (values_in p)
    (in_zone (zone_of p.shape p.owned p.local (region_of x.writes)))
    (in_part p.shape p.owned (region_of x.writes)) (swept_numbers p rule x iteration)
    (λ y h. zone_same p.shape p.owned p.local (region_of x.writes) y h) x.writes p.numbers

-- what can be swept can be swept again, whatever numbers there are
pub still_can : (s : Spec) (x : Item) (old new : PatchValue) (numbers : State)
    → IsSamePatch new (with_numbers old numbers) → CanSweep s x old → CanSweep s x new
still_can s x old new numbers same can =
    subst (CanSweep s x) (with_buffers_of new (with_numbers old numbers) same) (record {
      routine = can.routine;
      kind = can.kind;
      declared = can.declared;
      reads = λ i r l. let t = can.reads i r l in record { var = t.var; stored = t.stored };
      writes = λ i w l. let t = can.writes i w l in record { var = t.var; stored = t.stored };
      buffers = let few = can.buffers in let count = same.buffers in omega (arith, few, count);
      values = can.values;
      params = can.params;
      cap = can.cap;
    })

-- the numbers that a part's rule sees, by a job's setup
abbrev pub part_values : Setup → PatchValue → Values
part_values setup p v level y = if is_scalar setup v then scalar_of p.numbers v
    else number_at p v level y

-- the same in the words of a job, of which a patch knows the grid and the variables
pub cell_swept_of : (setup : Setup) (p : PatchValue) (rule : Rule) (x : Item) (iteration : ℕ)
    → p.shape ≡ setup.shape → p.vars ≡ setup.vars → x.kind ≡ Cell
    → swept p rule x iteration
    ≡ sweep p.local (part_values setup p) (in_part setup.shape p.owned (region_of x.writes))
    (λ y. numbers_by setup rule x (part_values setup p) iteration
    (window_point setup.shape (region_of x.writes) y) y) x.writes p.numbers
cell_swept_of setup p rule x iteration shape vars cell =
    let same : (record p { shape = setup.shape; vars = setup.vars }) ≡ p =
    ap (λ s. record p { shape = s; vars = setup.vars }) (sym shape)
    ∙ ap (λ v. record p { vars = v }) (sym vars)
    in
    subst
    (λ q. swept q rule x iteration
    ≡ sweep p.local (part_values setup p) (in_part setup.shape p.owned (region_of x.writes))
    (λ y. numbers_by setup rule x (part_values setup p) iteration
    (window_point setup.shape (region_of x.writes) y) y) x.writes p.numbers)
    same (cell_swept (record p { shape = setup.shape; vars = setup.vars }) rule x iteration cell)
