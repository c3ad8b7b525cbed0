-- A part's turn of an item: what sweeping its patch does is what the run says.
use Rattle.std.proofs.Common.{◌≡◌, ℕ, zero, suc, ◌+◌, arith, Bool, true, false, not, ◌&&◌, cond, refl, sym, ap, ◌∙◌, subst, ℤ, List, [], ◌∷◌, ◌++◌, length, map, filter, length-append, Some, Result, Ok, Err}
use Rattle.std.specs.List.{range_with_len, list_all, flat_map}
use Rattle.std.proofs.lemmas.Bool.{and_parts}
use Rattle.std.proofs.lemmas.List.FromFn.{map-range_with_len_more}
use Rattle.std.proofs.lemmas.List.Elements.{filter-append}
use Rattle.cx_grid.specs.declared.boxes.Point.{Point}
use Rattle.cx_grid.specs.declared.boxes.Box3.{Box3}
use Rattle.cx_grid.specs.declared.shapes.Shape.{Shape}
use Rattle.cx_grid.specs.Boxes.{IsIn, point_count, point_in, points_in, has_point, shifted, numbers_in}
use Rattle.cx_grid.specs.Grid.{is_boundary}
use Rattle.cx_grid.specs.Windows.{reach_box}
use Rattle.cx_grid.proofs.Places.{point_inside, gap_at}
use Rattle.cx_grid.proofs.Points.{in_is, in_from}
use Rattle.cx_plan.specs.declared.item.Region.{Region}
use Rattle.cx_plan.specs.declared.item.Region.TheVariants.{Interior, Boundary, Everywhere}
use Rattle.cx_plan.specs.declared.item.ItemKind.TheVariants.{Cell, Scalar}
use Rattle.cx_plan.specs.declared.item.Item.{Item}
use Rattle.cx_plan.specs.declared.item.Touch.{Touch}
use Rattle.cx_plan.specs.declared.job.Job.{Job}
use Rattle.cx_plan.specs.Setups.{Setup, setup_of}
use Rattle.cx_plan.specs.Steering.{item_at}
use Rattle.cx_plan.specs.Lookups.{item, is_scalar}
use Rattle.cx_plan.specs.Regions.{region_of, has_shape}
use Rattle.cx_rule.specs.Meter.{raised}
use Rattle.cx_rule.specs.Routine.{Rule, rule_at}
use Rattle.cx_rule.specs.States.{State, level_of, scalar_of}
use Rattle.cx_rule.specs.Sweeps.{sweep, values_around, if_fit, scalar_turn, place_at, first_point, reach_of}
use Rattle.cx_rule.specs.declared.routine.Overflow.{Overflow}
use Rattle.cx_model.specs.Turns.{swept_at}
use Rattle.cx_cut.specs.Cuts.{Parts, owned, local}
use Rattle.cx_field.specs.Patches.{PatchValue, IsPart, with_numbers}
use Rattle.cx_field.specs.Zones.{inner, nothing, first_of, in_zone, item_zone, zone_of, zone_points}
use Rattle.cx_rule.specs.declared.zone.Zone.{Zone}
use Rattle.cx_field.specs.Sweeps.{RoseWithin, Sweeps, swept, swept_by, swept_zone}
use Rattle.cx_field.proofs.PartPoints.{own_local}
use Rattle.cx_field.proofs.SweptLaws.{cell_swept_of, declared, scalar_reads}
use Rattle.cx_field.proofs.ZoneLaws.{in_part, zone_same, inner_is, nothing_is}
use Rattle.law_parts.specs.Holding.{local_values, number_at as number_in_box, first_box, part_sweep, part_rule}
use Rattle.law_parts.specs.Holding as holding
use Rattle.cx_flat.specs.declared.op.Op.{Op}
use Rattle.cx_flat.specs.declared.op.Op.TheVariants.{Sweep, Apply}
use Rattle.law_parts.specs.Runs.{Run, cut_of}
use Rattle.law_parts.specs.Nets.{points_of}
use Rattle.law_parts.proofs.CountLaws.{sum_same}
use Rattle.law_parts.proofs.PointTotals.{within_box}
use Rattle.cx_core_part.specs.Jobs.{IsRunOf}
use Rattle.cx_core_part.specs.Frames.{IsPatchOf, KeepsFrame}
use Rattle.cx_core_part.specs.Items.{computed, Computes}
use Rattle.cx_core_part.proofs.FrameLaws.{same_patch}
use Rattle.law_network.specs.Machine.{sum_below}

-- ---- the points that a part computes

-- the zone of a region, in the words of a run
zone_is : (setup : Setup) (own : Box3) (region : Region)
    → in_part setup.shape own region ≡ holding.in_zone setup own region
zone_is setup own Interior = refl
zone_is setup own Boundary = refl
zone_is setup own Everywhere = refl

map_last : {A : Type 0} (g : ℕ → A) (n : ℕ)
    → map g (range_with_len 0 (suc n)) ≡ map g (range_with_len 0 n) ++ g n ∷ []
map_last g n =
    let more : suc n ≡ n + 1 = omega arith in
    ap (λ j. map g (range_with_len 0 j)) more ∙ map-range_with_len_more g 0 n n (omega arith)

one_counted : {A : Type 0} (test : A → Bool) (x : A)
    → length (filter test (x ∷ [])) ≡ cond (test x) 1 0
one_counted test x = go (test x)
  where
    go : (b : Bool) → length (cond b (x ∷ []) []) ≡ cond b 1 0
    go true = refl
    go false = refl

counted : {A : Type 0} (test : A → Bool) (g : ℕ → A) (n : ℕ)
    → length (filter test (map g (range_with_len 0 n))) ≡ sum_below n (λ i. cond (test (g i)) 1 0)
counted test g zero = refl
counted test g (suc n) =
    ap (λ ls. length (filter test ls)) (map_last g n)
    ∙ ap length (filter-append test (map g (range_with_len 0 n)) (g n ∷ []))
    ∙ length-append (filter test (map g (range_with_len 0 n))) (filter test (g n ∷ []))
    ∙ (rw (counted test g n, one_counted test (g n)) refl)

-- two tests that agree in a box count the same points of it
count_same : (b : Box3) (f g : Point → Bool) → ((p : Point) → IsIn b p → f p ≡ g p)
    → length (filter f (points_in b)) ≡ length (filter g (points_in b))
count_same b f g h =
    counted f (point_in b) (point_count b)
    ∙ sum_same (point_count b) (λ i. cond (f (point_in b i)) 1 0) (λ i. cond (g (point_in b i)) 1 0)
    (λ i l. ap (λ t. cond t 1 0) (h (point_in b i) (point_inside b i l)))
    ∙ sym (counted g (point_in b) (point_count b))

-- a zone of local points has as many points as its outer box shows
zone_count : (z : Zone) (b : Box3) → ((p : Point) → IsIn z.all p → IsIn b p)
    → zone_points z ≡ length (filter (in_zone z) (points_in b))
zone_count z b inside =
    within_box z.all z.all (λ p. not (has_point z.hole p)) (λ p h. h)
    ∙ sym (within_box z.all b (λ p. not (has_point z.hole p)) inside)

outer_local : (s : Shape) (own near : Box3) (region : Region) → IsPart s own near → (p : Point)
    → IsIn (zone_of s own near region).all p → IsIn near p
outer_local s own near Interior part p h =
    own_local s own near part p
    (in_is own p (and_parts (has_point own p) (not (is_boundary s p))
    (sym (inner_is s own p) ∙ in_from (inner s own) p h)).0)
outer_local s own near Boundary part p h = h
outer_local s own near Everywhere part p h = h

zone_points_are : (setup : Setup) (own near : Box3) (region : Region) → IsPart setup.shape own near
    → zone_points (zone_of setup.shape own near region)
    ≡ length (filter (holding.in_zone setup own region) (points_in near))
zone_points_are setup own near region part =
    zone_count (zone_of setup.shape own near region) near
    (outer_local setup.shape own near region part)
    ∙ count_same near (in_zone (zone_of setup.shape own near region))
    (in_part setup.shape own region) (λ p h. zone_same setup.shape own near region p h)
    ∙ ap (λ f. length (filter f (points_in near))) (zone_is setup own region)

-- ---- a Cell item

module _ (setup : Setup) (rules : List Rule) (cut : Parts) (k : ℕ) (x : Item) (iteration : ℕ)
    (p : PatchValue) (patch : IsPatchOf setup cut k p) where
  abbrev rule : Rule
  rule = rule_at rules x.routine

  abbrev region : Region
  region = region_of x.writes

  -- its numbers behind the sweep
  pub cell_is : x.kind ≡ Cell
      → swept p rule x iteration ≡ part_sweep setup rules cut k x p.numbers iteration
  cell_is kind =
      cell_swept_of setup p rule x iteration patch.patch.shape patch.patch.vars kind
      ∙ ap (λ (b : Box3). sweep b (local_values setup b p.numbers)
      (in_part setup.shape p.owned region)
      (swept_at setup rules x (local_values setup b p.numbers) iteration) x.writes p.numbers)
      patch.local_is
      ∙ ap (λ (o : Box3). sweep (local cut k) (local_values setup (local cut k) p.numbers)
      (in_part setup.shape o region)
      (swept_at setup rules x (local_values setup (local cut k) p.numbers) iteration)
      x.writes p.numbers) patch.owned_is
      ∙ ap (λ z. sweep (local cut k) (local_values setup (local cut k) p.numbers) z
      (swept_at setup rules x (local_values setup (local cut k) p.numbers) iteration)
      x.writes p.numbers) (zone_is setup (owned cut k) region)

  -- and how many points it computes
  pub cell_points : x.kind ≡ Cell → IsPart p.shape p.owned p.local
      → zone_points (swept_zone p x)
      ≡ length (filter (holding.in_zone setup (owned cut k) region) (points_in (local cut k)))
  cell_points kind part =
      ap (λ c. zone_points (item_zone c p.shape p.owned p.local region)) kind
      ∙ ap (λ s. zone_points (zone_of s p.owned p.local region)) patch.patch.shape
      ∙ zone_points_are setup p.owned p.local region
      (subst (λ s. IsPart s p.owned p.local) patch.patch.shape part)
      ∙ ap (λ (o : Box3). length (filter (holding.in_zone setup o region) (points_in p.local)))
      patch.owned_is
      ∙ ap (λ (b : Box3). length
      (filter (holding.in_zone setup (owned cut k) region) (points_in b))) patch.local_is

-- ---- a Scalar item

-- what it reads are scalars, whose numbers are the same at all points
seen_same : (setup : Setup) (state : State) (a b : Box3) (at : Point) (reads : List Touch)
    → list_all (λ (t : Touch). is_scalar setup t.var) reads ≡ true
    → flat_map (values_around setup (local_values setup a state) at) reads
    ≡ flat_map (values_around setup (local_values setup b state) at) reads
seen_same setup state a b at [] h = refl
seen_same setup state a b at (r ∷ rs) h =
    let both = and_parts (is_scalar setup r.var)
    (list_all (λ (t : Touch). is_scalar setup t.var) rs) h in
    let one : values_around setup (local_values setup a state) at r
    ≡ values_around setup (local_values setup b state) at r =
    ap (λ c. numbers_in (reach_box setup.shape.dims r.reach)
    (λ o. cond c (scalar_of state r.var)
    (number_in_box a (level_of state r.var r.level) (shifted at o)))) both.0
    ∙ ap (λ c. numbers_in (reach_box setup.shape.dims r.reach)
    (λ o. cond c (scalar_of state r.var)
    (number_in_box b (level_of state r.var r.level) (shifted at o)))) (sym both.0)
    in
    ap (λ l. l ++ flat_map (values_around setup (local_values setup a state) at) rs) one
    ∙ ap (λ l. values_around setup (local_values setup b state) at r ++ l)
    (seen_same setup state a b at rs both.1)

first_zone_points : (b other : Box3)
    → zone_points (record { all = first_of b; hole = nothing other }) ≡ 1
first_zone_points b other =
    let z : Zone = record { all = first_of b; hole = nothing other } in
    let one : point_count (first_of b) ≡ 1 =
    rw (gap_at b.low.x 1, gap_at b.low.y 1, gap_at b.low.z 1) refl in
    let inside : IsIn (first_of b) (point_in (first_of b) 0) =
    point_inside (first_of b) 0 (omega (arith, one)) in
    let there : in_zone z (point_in (first_of b) 0) ≡ true =
    ap (λ t. t && not (has_point (nothing other) (point_in (first_of b) 0)))
    (in_from (first_of b) (point_in (first_of b) 0) inside)
    ∙ ap not (nothing_is other (point_in (first_of b) 0))
    in
    ap (λ n. length (filter (in_zone z) (map (point_in (first_of b)) (range_with_len 0 n)))) one
    ∙ ap (λ t. length (cond t (point_in (first_of b) 0 ∷ []) [])) there

pub scalar_points : (p : PatchValue) (x : Item) → x.kind ≡ Scalar → zone_points (swept_zone p x) ≡ 1
scalar_points p x kind =
    ap (λ k. zone_points (item_zone k p.shape p.owned p.local (region_of x.writes))) kind
    ∙ first_zone_points p.owned p.owned

-- its numbers behind its rule
pub scalar_is : (setup : Setup) (rules : List Rule) (x : Item) (iteration : ℕ) (p : PatchValue)
    → p.shape ≡ setup.shape → p.vars ≡ setup.vars
    → has_shape setup x ≡ true → x.kind ≡ Scalar
    → swept p (rule_at rules x.routine) x iteration
    ≡ part_rule setup rules x p.numbers iteration
scalar_is setup rules x iteration p shape vars shaped kind =
    ap (λ c. swept_by c p rule x iteration) kind
    ∙ subst (λ q. swept_by Scalar q rule x iteration ≡ part_rule setup rules x p.numbers iteration)
    (same_patch setup p shape vars)
    (ap
    (λ (values : List ℤ). scalar_turn x p.numbers
    (if_fit setup x.writes
    (rule (record { dims = setup.shape.dims; reaches = map reach_of x.reads; values = values })
    (place_at setup x iteration first_point))))
    (seen_same setup p.numbers p.local first_box first_point x.reads
    (scalar_reads setup x (declared setup x shaped) kind)))
  where
    rule : Rule
    rule = rule_at rules x.routine

-- ---- what a turn does

-- it keeps the frame
pub turn_keeps : (old new : PatchValue) (rule : Rule) (x : Item) (iteration before after : ℕ)
    (result : Result (Unit {0}) Overflow)
    → Sweeps old rule x iteration new before after result → KeepsFrame old new
turn_keeps old new its x iteration before after (Ok done) h =
    record { numbers = ap (λ q. with_numbers q old.numbers) h.2.numbers; buffers = h.2.buffers }
turn_keeps old new its x iteration before after (Err e) h =
    record { numbers = ap (λ q. with_numbers q old.numbers) h.1.numbers; buffers = h.1.buffers }

-- in the words of a run
turn_computes : (r : Run) (k : ℕ) (o : Op) (x : Item) (rule : Rule) (iteration : ℕ)
    (old new : PatchValue) (before after : ℕ) (result : Result (Unit {0}) Overflow)
    → swept old rule x iteration ≡ computed r k o old.numbers iteration
    → zone_points (swept_zone old x) ≡ points_of r k o
    → Sweeps old rule x iteration new before after result
    → Computes r k o iteration old.numbers new.numbers before after result
turn_computes r k o x its iteration old new before after (Ok done) numbers points h = (
  sym numbers ∙ h.1 ∙ ap Some (sym (ap (λ (p : PatchValue). p.numbers) h.2.numbers)),
  h.3 ∙ ap (raised before) points,
)
turn_computes r k o x its iteration old new before after (Err e) numbers points h = (
  sym numbers ∙ h.0,
  ap (λ (p : PatchValue). p.numbers) h.1.numbers,
  subst (λ n. RoseWithin n before after) points h.2,
)

module _ (job : Job) (rules : List Rule) (i iteration : ℕ) (old new : PatchValue)
    (before after : ℕ) (result : Result (Unit {0}) Overflow)
    (h : Sweeps old (rule_at rules (item (setup_of job) i).routine)
    (item_at (setup_of job) i iteration) iteration new before after result)
    (r : Run) (k : ℕ) (run : IsRunOf job r) (by : r.rules ≡ rules)
    (patch : IsPatchOf r.setup (cut_of r) k old) where
  here : Sweeps old (rule_at r.rules (item r.setup i).routine)
      (item_at r.setup i iteration) iteration new before after result
  here =
      subst (λ s. Sweeps old (rule_at r.rules (item s i).routine)
      (item_at s i iteration) iteration new before after result) (sym run.setup)
      (subst (λ rs. Sweeps old (rule_at rs (item (setup_of job) i).routine)
      (item_at (setup_of job) i iteration) iteration new before after result) (sym by) h)

  pub sweep_computes : IsPart old.shape old.owned old.local → (item (setup_of job) i).kind ≡ Cell
      → Computes r k (Sweep i) iteration old.numbers new.numbers before after result
  sweep_computes part kind =
      let cell : (item r.setup i).kind ≡ Cell = ap (λ s. (item s i).kind) run.setup ∙ kind in
      turn_computes r k (Sweep i) (item_at r.setup i iteration)
      (rule_at r.rules (item r.setup i).routine) iteration old new before after result
      (cell_is r.setup r.rules (cut_of r) k (item_at r.setup i iteration) iteration old patch cell)
      (cell_points r.setup r.rules (cut_of r) k (item_at r.setup i iteration) iteration old patch
      cell part) here

  pub apply_computes : has_shape (setup_of job) (item (setup_of job) i) ≡ true
      → (item (setup_of job) i).kind ≡ Scalar
      → Computes r k (Apply i) iteration old.numbers new.numbers before after result
  apply_computes shaped kind =
      let scalar : (item r.setup i).kind ≡ Scalar = ap (λ s. (item s i).kind) run.setup ∙ kind in
      turn_computes r k (Apply i) (item_at r.setup i iteration)
      (rule_at r.rules (item r.setup i).routine) iteration old new before after result
      (scalar_is r.setup r.rules (item_at r.setup i iteration) iteration old
      patch.patch.shape patch.patch.vars
      (subst (λ s. has_shape s (item s i) ≡ true) (sym run.setup) shaped) scalar)
      (scalar_points old (item_at r.setup i iteration) scalar) here

-- ---- the meter

raised_within : (n before after : ℕ) → after ≡ raised before n → RoseWithin n before after
raised_within n before after e = record {
  least = omega (arith, e);
  most = omega (arith, e);
}

-- whatever a turn comes to, the meter rose by its points at most
pub rose_within : (r : Run) (k : ℕ) (o : Op) (iteration : ℕ) (old new : State) (before after : ℕ)
    (result : Result (Unit {0}) Overflow)
    → Computes r k o iteration old new before after result
    → RoseWithin (points_of r k o) before after
rose_within r k o iteration old new before after (Ok u) h =
    raised_within (points_of r k o) before after h.1
rose_within r k o iteration old new before after (Err e) h = h.2
