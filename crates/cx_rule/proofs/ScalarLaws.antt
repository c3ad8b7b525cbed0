-- A Scalar item is staged at a part's first point, and committed.
use Rattle.std.proofs.Common.{◌≡◌, ℕ, true, not, ◌&&◌, refl, sym, ap, ◌∙◌, subst, arith, cond, ℤ, List, [], ◌∷◌, ◌++◌, map, filter, length, Some, Result, Ok, Err}
use Rattle.std.specs.Prelude.{All}
use Rattle.std.specs.List.{list_all, flat_map, range_with_len}
use Rattle.std.proofs.lemmas.Int.{ints}
use Rattle.std.proofs.lemmas.Bool.{and_parts, false≢true}
use Rattle.cx_grid.specs.declared.boxes.Point.{Point}
use Rattle.cx_grid.specs.declared.boxes.Box3.{Box3}
use Rattle.cx_grid.specs.Boxes.{IsIn, has_point, point_count, point_in, numbers_in, shifted}
use Rattle.cx_grid.specs.Windows.{reach_box}
use Rattle.cx_grid.proofs.Places.{gap_at, point_inside}
use Rattle.cx_grid.proofs.Points.{in_from}
use Rattle.cx_plan.specs.declared.item.Touch.{Touch}
use Rattle.cx_plan.specs.declared.item.Item.{Item}
use Rattle.cx_plan.specs.declared.item.ItemKind.TheVariants.{Scalar}
use Rattle.cx_plan.specs.Lookups.{is_scalar}
use Rattle.cx_plan.specs.Regions.{region_of}
use Rattle.cx_rule.specs.Meter.{raised}
use Rattle.cx_rule.specs.Routine.{Rule}
use Rattle.cx_rule.specs.States.{scalar_of}
use Rattle.cx_rule.specs.Sweeps.{values_around, seen_at, place_at, if_fit, numbers_by, first_point, scalar_turn}
use Rattle.cx_rule.specs.declared.routine.Overflow.{Overflow}
use Rattle.cx_rule.specs.declared.spec.Spec.{Spec}
use Rattle.cx_rule.specs.Patches.{PatchValue, IsPatch, setup_in, values_in, number_at, with_numbers}
use Rattle.cx_rule.specs.Staging.{CanStage, Stages, CanWrite, HasZone, CanCommit, Commits, fitting_at, given_at, placed_at, committed, committed_by}
use Rattle.cx_rule.specs.Zones.{in_zone, item_zone, zone_points, first_of, nothing}
use Rattle.cx_rule.specs.Swept.{swept_zone, swept_by, swept, IsSamePatch, Sweeps, CanSweep}
use Rattle.cx_rule.specs.declared.zone.Zone.{Zone}
use Rattle.cx_rule.proofs.PartPoints.{each_passes, own_local}
use Rattle.cx_rule.proofs.ZoneLaws.{nothing_is}
use Rattle.cx_rule.proofs.SweptLaws.{declared, scalar_writes, scalar_reads, same_patch, just_staged, cleared_count, with_buffers_of, numbers_just_staged}

-- ---- what a rule sees of scalars is the same at each point

same_around : (p : PatchValue) (here there : Point) (r : Touch)
    → is_scalar (setup_in p) r.var ≡ true
    → values_around (setup_in p) (values_in p) here r
    ≡ values_around (setup_in p) (values_in p) there r
same_around p here there r e =
    ap (λ b. numbers_in (reach_box p.shape.dims r.reach)
    (λ o. cond b (scalar_of p.numbers r.var) (number_at p r.var r.level (shifted here o)))) e
    ∙ sym
    (ap (λ b. numbers_in (reach_box p.shape.dims r.reach)
    (λ o. cond b (scalar_of p.numbers r.var) (number_at p r.var r.level (shifted there o)))) e)

same_seen : (p : PatchValue) (here there : Point) (rs : List Touch)
    → list_all (λ (r : Touch). is_scalar (setup_in p) r.var) rs ≡ true
    → flat_map (values_around (setup_in p) (values_in p) here) rs
    ≡ flat_map (values_around (setup_in p) (values_in p) there) rs
same_seen p here there [] all = refl
same_seen p here there (r ∷ rs) all =
    let t = and_parts (is_scalar (setup_in p) r.var)
    (list_all (λ (q : Touch). is_scalar (setup_in p) q.var) rs) all in
    ap (λ (l : List ℤ). l ++ flat_map (values_around (setup_in p) (values_in p) here) rs)
    (same_around p here there r t.0)
    ∙ ap (λ (l : List ℤ). values_around (setup_in p) (values_in p) there r ++ l)
    (same_seen p here there rs t.1)

-- ---- the first point

-- a Scalar item's zone begins at the first owned point
pub scalar_low : (x : Item) (p : PatchValue) → x.kind ≡ Scalar → (zone : Zone)
    → zone ≡ swept_zone p x → zone.all.low ≡ p.owned.low
scalar_low x p scalar zone is =
    ap (λ (z : Zone). z.all.low) is
    ∙ ap (λ k. (item_zone k p.shape p.owned p.local (region_of x.writes)).all.low) scalar

first_zone_points : (b other : Box3)
    → zone_points (record { all = first_of b; hole = nothing other }) ≡ 1
first_zone_points b other =
    let z : Zone = record { all = first_of b; hole = nothing other } in
    let one : point_count (first_of b) ≡ 1 =
    rw (gap_at b.low.x 1, gap_at b.low.y 1, gap_at b.low.z 1) refl in
    let inside : IsIn (first_of b) (point_in (first_of b) 0) =
    point_inside (first_of b) 0 (omega (arith, one)) in
    let there : in_zone z (point_in (first_of b) 0) ≡ true =
    ap (λ t. t && not (has_point (nothing other) (point_in (first_of b) 0)))
    (in_from (first_of b) (point_in (first_of b) 0) inside)
    ∙ ap not (nothing_is other (point_in (first_of b) 0))
    in
    ap (λ n. length (filter (in_zone z) (map (point_in (first_of b)) (range_with_len 0 n)))) one
    ∙ ap (λ t. length (cond t (point_in (first_of b) 0 ∷ []) [])) there

module _ (s : Spec) (x : Item) (old : PatchValue) (can : CanSweep s x old) (its : IsPatch old)
    (scalar : x.kind ≡ Scalar) where
  abbrev first : Point
  first = old.owned.low

  first_local : IsIn old.local first
  first_local = own_local old.shape old.owned old.local its.part first (record {
    x = let m = its.part.x.some in record { from = omega (arith, ints); below = m };
    y = let m = its.part.y.some in record { from = omega (arith, ints); below = m };
    z = let m = its.part.z.some in record { from = omega (arith, ints); below = m };
  })

  points_one : zone_points (swept_zone old x) ≡ 1
  points_one =
      ap (λ k. zone_points (item_zone k old.shape old.owned old.local (region_of x.writes))) scalar
      ∙ first_zone_points old.owned old.owned

  pub scalar_can_stage : (from : Point) → from ≡ first → CanStage s x old from from
  scalar_can_stage from is =
      subst (λ q. CanStage s x old q q) (sym is) (record {
        routine = can.routine;
        reads = λ i r l.
            let stored = can.reads i r l in
            let all = scalar_reads (setup_in old) x (declared (setup_in old) x can.declared)
            scalar in
            let one = each_passes (λ (t : Touch). is_scalar (setup_in old) t.var)
            x.reads all i r l in
            record { stored = stored; near = λ grid o on. absurd (false≢true (sym grid ∙ one)) };
        values = can.values;
        params = can.params;
        writes = can.buffers;
        point = first_local;
      })

  pub scalar_can_commit : (p : PatchValue) (zone : Zone) → IsSamePatch p old → zone.all.low ≡ first
      → CanCommit p x zone
  scalar_can_commit p zone same is =
      subst (λ q. CanCommit q x zone) (with_buffers_of p old same) (record {
        points = subst (λ k. HasZone k (record old { staged = p.staged }) zone) (sym scalar)
            (subst (IsIn old.local) (sym is) first_local);
        levels = subst (λ k. All (CanWrite k (record old { staged = p.staged })) x.writes)
            (sym scalar) (λ i w l.
            let stored = can.writes i w l in
            record {
              var = stored.var;
              stored = let m = stored.stored in
                  omega (arith, m);
              scalar =
                  scalar_writes (setup_in old) x (declared (setup_in old) x can.declared)
                  scalar i w l;
            });
        distinct = (declared (setup_in old) x can.declared).distinct;
        writes = let few = can.buffers in let count = same.buffers in omega (arith, few, count);
      })

  module _ (rule : Rule) (iteration : ℕ) where
    given_first : (from : Point)
        → given_at old rule x iteration from from
        ≡ rule (seen_at (setup_in old) x (values_in old) first_point)
        (place_at (setup_in old) x iteration first_point)
    given_first from =
        ap (λ k. rule (seen_at (setup_in old) x (values_in old) from)
        (place_at (setup_in old) x iteration (placed_at k from))) scalar
        ∙ ap (λ (v : List ℤ). rule
        (record (seen_at (setup_in old) x (values_in old) from) { values = v })
        (place_at (setup_in old) x iteration first_point))
        (same_seen old from first_point x.reads
        (scalar_reads (setup_in old) x (declared (setup_in old) x can.declared) scalar))

    swept_scalar : swept old rule x iteration ≡ swept_by Scalar old rule x iteration
    swept_scalar = ap (λ k. swept_by k old rule x iteration) scalar

    -- the rule gives no numbers
    pub scalar_fails : (from : Point) (new : PatchValue) (before after : ℕ) (e : Overflow)
        → Stages old rule x iteration from from new (Err e) → after ≡ raised before 1
        → Sweeps old rule x iteration new before after (Err e)
    scalar_fails from new before after e st meter = (
      swept_scalar ∙ ap (λ o. scalar_turn x old.numbers (if_fit (setup_in old) x.writes o))
          (sym (given_first from) ∙ st.0),
      subst (λ q. IsSamePatch q old) (sym st.1) (same_patch old),
      let one = points_one in
          record { least = omega (arith, meter); most = omega (arith, meter, one) },
    )

    module _ (from : Point) (p : PatchValue) (before after : ℕ) (done : Unit {0})
        (is : from ≡ first) (st : Stages old rule x iteration from from p (Ok done))
        (meter : after ≡ raised before 1) where
      scalar_same : IsSamePatch p old
      scalar_same = just_staged old p from st.0 st.3

      fitting_first : fitting_at p x from
          ≡ numbers_by (setup_in old) rule x (values_in old) iteration first_point first_point
      fitting_first =
          ap (λ (q : PatchValue). fitting_at q x from) st.3
          ∙ ap (λ (ns : List ℤ). if_fit (setup_in old) x.writes (Some ns))
          (numbers_just_staged old (length x.writes) from st.0 its
          (subst (IsIn old.local) (sym is) first_local) st.2 can.buffers)
          ∙ ap (if_fit (setup_in old) x.writes) (sym st.1 ∙ given_first from)

      committed_first : (zone : Zone) → zone.all.low ≡ from
          → committed p x zone ≡ swept old rule x iteration
      committed_first zone low =
          ap (λ k. committed_by k p x zone) scalar
          ∙ ap (λ q. scalar_turn x p.numbers (fitting_at p x q)) low
          ∙ ap (scalar_turn x p.numbers) fitting_first
          ∙ ap (λ (q : PatchValue).
          scalar_turn x q.numbers
          (numbers_by (setup_in old) rule x (values_in old) iteration first_point first_point))
          scalar_same.numbers
          ∙ sym swept_scalar

      pub scalar_swept : (zone : Zone) (new : PatchValue) (r : Result (Unit {0}) Overflow)
          → zone.all.low ≡ from → Commits p x zone new r
          → Sweeps old rule x iteration new before after r
      scalar_swept zone new (Ok did) low c = (
        c.0,
        sym (committed_first zone low) ∙ c.1,
        subst (λ q. IsSamePatch q (with_numbers old c.0)) (sym c.2) (record {
          numbers = ap (λ (q : PatchValue). with_numbers q c.0) scalar_same.numbers;
          buffers = cleared_count p.staged ∙ scalar_same.buffers;
        }),
        meter ∙ ap (raised before) (sym points_one),
      )
      scalar_swept zone new (Err e) low c = (
        sym (committed_first zone low) ∙ c.0,
        subst (λ q. IsSamePatch q old) (sym c.1) scalar_same,
        let one = points_one in
            record { least = omega (arith, meter); most = omega (arith, meter, one) },
      )

-- ---- for those who compute scalars with no part

-- a Scalar item's sweep is the same in each box
pub scalar_anywhere : (p : PatchValue) (b : Box3) (rule : Rule) (x : Item) (iteration : ℕ)
    → list_all (λ (r : Touch). is_scalar (setup_in p) r.var) x.reads ≡ true
    → swept_by Scalar p rule x iteration ≡ swept_by Scalar (record p { local = b }) rule x iteration
scalar_anywhere p b rule x iteration all =
    ap (λ (v : List ℤ). scalar_turn x p.numbers
    (if_fit (setup_in p) x.writes
    (rule (record (seen_at (setup_in p) x (values_in p) first_point) { values = v })
    (place_at (setup_in p) x iteration first_point))))
    (each_same x.reads all)
  where
    one_same : (r : Touch) → is_scalar (setup_in p) r.var ≡ true
        → values_around (setup_in p) (values_in p) first_point r
        ≡ values_around (setup_in p) (values_in (record p { local = b })) first_point r
    one_same r e =
        ap (λ t. numbers_in (reach_box p.shape.dims r.reach)
        (λ o. cond t (scalar_of p.numbers r.var)
        (number_at p r.var r.level (shifted first_point o)))) e
        ∙ sym
        (ap (λ t. numbers_in (reach_box p.shape.dims r.reach)
        (λ o. cond t (scalar_of p.numbers r.var)
        (number_at (record p { local = b }) r.var r.level (shifted first_point o)))) e)

    each_same : (rs : List Touch) → list_all (λ (r : Touch). is_scalar (setup_in p) r.var) rs ≡ true
        → flat_map (values_around (setup_in p) (values_in p) first_point) rs
        ≡ flat_map (values_around (setup_in p) (values_in (record p { local = b })) first_point)
        rs
    each_same [] h = refl
    each_same (r ∷ rs) h =
        let t = and_parts (is_scalar (setup_in p) r.var)
        (list_all (λ (q : Touch). is_scalar (setup_in p) q.var) rs) h in
        ap (λ (l : List ℤ). l ++ flat_map (values_around (setup_in p) (values_in p) first_point) rs)
        (one_same r t.0)
        ∙ ap (λ (l : List ℤ). values_around (setup_in p) (values_in (record p { local = b }))
        first_point r ++ l) (each_same rs t.1)
