-- What the items of a job of HeatFlux alone keep.
use Rattle.std.proofs.Common.{◌≡◌, ◌≢◌, refl, sym, ap, subst, ◌∙◌, ℕ, zero, suc, ◌+◌, ◌<◌, ◌≤◌, Bool, true, false, not, ℤ, pos, ◌≤ℤ◌, List, [], ◌∷◌, length, get_or, Option, Some, None, is_some, inl, inr, arith}
use Rattle.std.specs.Prelude.{if◌then◌else◌, codes, int_le}
use Rattle.std.specs.List.{All, list_all, range_with_len}
use Rattle.std.proofs.lemmas.Bool.{false≢true, and_parts, cases_eq}
use Rattle.std.proofs.lemmas.Int.{ints}
use Rattle.std.proofs.lemmas.List.Elements.{All-nil, All-cons, All-head, All-tail, All-weaker}
use Rattle.cx_grid.specs.declared.boxes.Point.{Point}
use Rattle.cx_grid.specs.declared.shapes.Shape.{Shape}
use Rattle.cx_grid.specs.Boxes.{IsIn, numbers_in, along, point_count}
use Rattle.cx_grid.specs.Grid.{IsShape, whole, is_boundary, at}
use Rattle.cx_plan.specs.declared.variable.VarId.{VarId}
use Rattle.cx_plan.specs.declared.item.Item.{Item}
use Rattle.cx_plan.specs.declared.item.Touch.{Touch}
use Rattle.cx_plan.specs.declared.item.Region.TheVariants.{Everywhere, Interior, Boundary}
use Rattle.cx_plan.specs.declared.item.ItemKind.TheVariants.{Cell, Sum}
use Rattle.cx_plan.specs.Setups.{Setup}
use Rattle.cx_plan.specs.Lookups.{variable, is_scalar, item}
use Rattle.cx_plan.specs.Regions.{run_items, has_shape, HasShapes, region_of, read_needs, grid_needs, within_ghosts}
use Rattle.cx_plan.specs.declared.flag.Flag.TheVariants.{I, B, G, S}
use Rattle.cx_plan.specs.declared.item.ItemKind.{ItemKind}
use Rattle.cx_plan.specs.Steering.{item_at}
use Rattle.cx_rule.specs.Routine.{Rule}
use Rattle.cx_rule.specs.States.{State, level_of, with_level, with_scalar, rotate}
use Rattle.cx_rule.specs.Sweeps.{if_fit, in_region, number_or, level_after}
use Rattle.cx_model.specs.States.{IsState, start, number_count}
use Rattle.cx_model.specs.Turns.{values_of, reduced, turn}
use Rattle.cx_model.specs.Runs.{undivided_run}
use Rattle.cx_model.specs.Alike.{UsesOnlyOwn}
use Rattle.cx_model.proofs.WalkLaws.{Each}
use Rattle.cx_model.proofs.PointLaws.{wrap-own, numbers-same, at-numbers}
use Rattle.cx_model.proofs.StateLaws.{start_is_state, rotate_keeps, with_level_keeps, with_scalar_keeps}
use Rattle.cx_model.proofs.TurnLaws.{declared}
use Rattle.cx_thorn_physics.specs.Flux.{heatflux_init_rule, heatflux_step_rule, heatflux_zero_rule, start_at}
use Rattle.law_physics.specs.Steps.{touch_of, IsField, Computes, HasGhosts, sum_of}
use Rattle.law_physics.specs.Heat.{IsClosed}
use Rattle.law_physics.specs.Constant.{SumsUp}
use Rattle.law_physics.specs.HeatRuns.{StartsHeat, IsHeatItem, Starts, Steps, Closes, Sums, IsHeatJob, HeatStays}
use Rattle.law_physics.proofs.HeatLaws.{heat_kept}
use Rattle.law_physics.proofs.LevelLaws.{Holds, rotate_holds, write_holds, level_holds, refill, refill_keeps, refill_holds, refill_leaves, level_written, apart_by_name, apart_by_kind}
use Rattle.law_physics.proofs.Outputs.{Tells, Keeping, texts_told, constant}
use Rattle.law_physics.proofs.RunTurns.{SweptAll, swept_all, everywhere_some, given_by, fit_any, fit_or_old, count_of, unchanged, summed}
use Rattle.law_physics.proofs.Turns.{given, value_at}
use Rattle.law_physics.proofs.Walks.{GoodOr, TurnsWell}

-- ---- the start

-- the heat at a point that the start gives it, and the mask
abbrev pub heat_start : Setup → List ℤ → Point → ℤ
heat_start setup params p = if is_boundary setup.shape p then pos 0 else start_at
    (record { at = p; shape = setup.shape; iteration = 0; params = params })

abbrev mask_start : Setup → Point → ℤ
mask_start setup p = if is_boundary setup.shape p then pos 0 else pos 1

abbrev pub first_heat : Setup → List ℤ → List ℤ
first_heat setup params = numbers_in (whole setup.shape) (heat_start setup params)

abbrev first_mask : Setup → List ℤ
first_mask setup = numbers_in (whole setup.shape) (mask_start setup)

-- the sum that is kept
abbrev pub heat_sum : Setup → List ℤ → ℤ
heat_sum setup params = reduced Sum (first_heat setup params)

-- ---- what is kept

record IsHeat (s : Shape) (sum : ℤ) (level : List ℤ) : Type 0 where
  total : reduced Sum level ≡ sum
  edge : (p : Point) → IsIn (whole s) p → is_boundary s p ≡ true → at s level p ≡ pos 0

record AreWalls (s : Shape) (level : List ℤ) : Type 0 where
  edge : (p : Point) → IsIn (whole s) p → is_boundary s p ≡ true → at s level p ≡ pos 0

record IsTotal (sum : ℤ) (level : List ℤ) : Type 0 where
  number : get_or level 0 (pos 0) ≡ sum

pub record Good (setup : Setup) (u mask total : VarId) (sum : ℤ) (state : State) : Type 0 where
  is : IsState setup state
  heat : Holds (IsHeat setup.shape sum) state u
  walls : Holds (AreWalls setup.shape) state mask
  told : Holds (IsTotal sum) state total

-- the variables are three
record Apart (setup : Setup) (u mask total : VarId) : Type 0 where
  heat : IsField setup u
  walls : IsField setup mask
  var : total.0 < length setup.vars
  scalar : is_scalar setup total ≡ true
  stored : 0 < (variable setup total).levels
  heat_mask : u.0 ≢ mask.0
  heat_total : u.0 ≢ total.0
  mask_total : mask.0 ≢ total.0

apart_of : (setup : Setup) (rules : List Rule) (u mask total : VarId)
    → IsHeatJob setup rules u mask total → Apart setup u mask total
apart_of setup rules u mask total job =
    record {
      heat = job.heat.field;
      walls = job.walls.field;
      var = job.sum.var;
      scalar = job.sum.scalar;
      stored = job.sum.stored;
      heat_mask = apart_by_name setup u mask (codes "heatflux::u") (codes "heatflux::mask")
          job.heat.full job.walls.full (λ e. absurd (differ (ap length e)));
      heat_total = apart_by_kind setup u total job.heat.field.grid job.sum.scalar;
      mask_total = apart_by_kind setup mask total job.walls.field.grid job.sum.scalar;
    }
  where
    differ : length (codes "heatflux::u") ≡ length (codes "heatflux::mask") → ⊥
    differ e = omega (arith, e)

module _ (setup : Setup) (u mask total : VarId) (sum : ℤ) (apart : Apart setup u mask total) where
  -- what is written keeps it
  heat_written : (state : State) (numbers : List ℤ)
      → length numbers ≡ number_count setup (variable setup u) → IsHeat setup.shape sum numbers
      → Good setup u mask total sum state
      → Good setup u mask total sum (with_level state u 0 numbers)
  heat_written state numbers size new good =
      record {
        is = with_level_keeps setup state u 0 numbers good.is size;
        heat = write_holds (IsHeat setup.shape sum) state u u 0 numbers (λ e. new) good.heat;
        walls = write_holds (AreWalls setup.shape) state u mask 0 numbers
            (λ e. absurd (apart.heat_mask e)) good.walls;
        told = write_holds (IsTotal sum) state u total 0 numbers
            (λ e. absurd (apart.heat_total e)) good.told;
      }

  walls_written : (state : State) (numbers : List ℤ)
      → length numbers ≡ number_count setup (variable setup mask) → AreWalls setup.shape numbers
      → Good setup u mask total sum state
      → Good setup u mask total sum (with_level state mask 0 numbers)
  walls_written state numbers size new good =
      record {
        is = with_level_keeps setup state mask 0 numbers good.is size;
        heat = write_holds (IsHeat setup.shape sum) state mask u 0 numbers
            (λ e. absurd (apart.heat_mask (sym e))) good.heat;
        walls = write_holds (AreWalls setup.shape) state mask mask 0 numbers (λ e. new) good.walls;
        told = write_holds (IsTotal sum) state mask total 0 numbers
            (λ e. absurd (apart.mask_total e)) good.told;
      }

  total_written : (state : State) (number : ℤ) → number ≡ sum → Good setup u mask total sum state
      → Good setup u mask total sum (with_scalar state total number)
  total_written state number same good =
      record {
        is = with_scalar_keeps setup state total number good.is apart.scalar;
        heat = write_holds (IsHeat setup.shape sum) state total u 0 (number ∷ [])
            (λ e. absurd (apart.heat_total (sym e))) good.heat;
        walls = write_holds (AreWalls setup.shape) state total mask 0 (number ∷ [])
            (λ e. absurd (apart.mask_total (sym e))) good.walls;
        told = write_holds (IsTotal sum) state total total 0 (number ∷ [])
            (λ e. record { number = same }) good.told;
      }

  rotated : (state : State) → Good setup u mask total sum state
      → Good setup u mask total sum (rotate state)
  rotated state good =
      record {
        is = rotate_keeps setup state good.is;
        heat = rotate_holds (IsHeat setup.shape sum) state u good.heat;
        walls = rotate_holds (AreWalls setup.shape) state mask good.walls;
        told = rotate_holds (IsTotal sum) state total good.told;
      }

  -- the current levels
  heat_now : (state : State) → Good setup u mask total sum state
      → IsHeat setup.shape sum (level_of state u 0)
  heat_now state good =
      level_holds (IsHeat setup.shape sum) setup state u 0 good.is apart.heat.var apart.heat.stored
      good.heat

  heat_edge : (state : State) (p : Point) → Good setup u mask total sum state
      → IsIn (whole setup.shape) p → is_boundary setup.shape p ≡ true
      → values_of setup state u 0 p ≡ pos 0
  heat_edge state p good h edge =
      sym (value_at setup state u p apart.heat.grid) ∙ (heat_now state good).edge p h edge

  closed : (state : State) → Good setup u mask total sum state → IsClosed setup state mask
  closed state good p h edge =
      sym (value_at setup state mask p apart.walls.grid)
      ∙ (level_holds (AreWalls setup.shape) setup state mask 0 good.is apart.walls.var
      apart.walls.stored good.walls).edge p h edge

-- ---- turns

-- what the start gives at a point
start_gives : (setup : Setup) (rules : List Rule) (x : Item) (u mask : VarId) (params : List ℤ)
    (before : State) (n : ℕ) (p : Point) → StartsHeat rules x u mask params
    → IsIn (whole setup.shape) p
    → given setup rules x before n p
    ≡ if_fit setup x.writes (Some (heat_start setup params p ∷ mask_start setup p ∷ []))
start_gives setup rules x u mask params before n p is h =
    given_by setup rules x heatflux_init_rule before n p is.routine
    ∙ ap (λ (q : Point). if_fit setup x.writes (if is_boundary setup.shape q
    then Some (pos 0 ∷ pos 0 ∷ [])
    else Some (start_at (record {
      at = q;
      shape = setup.shape;
      iteration = n;
      params = x.params;
    }) ∷ pos 1 ∷ []))) (wrap-own setup.shape p h)
    ∙ ap (λ (ps : List ℤ). if_fit setup x.writes (if is_boundary setup.shape p
    then Some (pos 0 ∷ pos 0 ∷ [])
    else Some (start_at (record {
      at = p;
      shape = setup.shape;
      iteration = n;
      params = ps;
    }) ∷ pos 1 ∷ []))) is.params
    ∙ ap (if_fit setup x.writes) (by (is_boundary setup.shape p))
  where
    by : (b : Bool) → (if b then Some (pos 0 ∷ pos 0 ∷ [])
        else Some (start_at (record {
          at = p;
          shape = setup.shape;
          iteration = n;
          params = params;
        }) ∷ pos 1 ∷ []))
        ≡ Some ((if b then pos 0 else start_at (record {
          at = p;
          shape = setup.shape;
          iteration = 0;
          params = params;
        })) ∷ (if b then pos 0 else pos 1) ∷ [])
    by true = refl
    by false = refl

edge_of_start : (setup : Setup) (f : Point → ℤ) (p : Point)
    → (is_boundary setup.shape p ≡ true → f p ≡ pos 0) → IsIn (whole setup.shape) p
    → is_boundary setup.shape p ≡ true → at setup.shape (numbers_in (whole setup.shape) f) p ≡ pos 0
edge_of_start setup f p none h edge = at-numbers setup.shape f p h ∙ none edge

heat_of_start : (setup : Setup) (params : List ℤ)
    → IsHeat setup.shape (heat_sum setup params) (first_heat setup params)
heat_of_start setup params =
    record {
      total = refl;
      edge = λ p h edge. edge_of_start setup (heat_start setup params) p
          (λ e. ap (λ (b : Bool). if b then pos 0 else start_at
          (record { at = p; shape = setup.shape; iteration = 0; params = params })) e) h edge;
    }

walls_of_start : (setup : Setup) → AreWalls setup.shape (first_mask setup)
walls_of_start setup =
    record {
      edge = λ p h edge. edge_of_start setup (mask_start setup) p
          (λ e. ap (λ (b : Bool). if b then pos 0 else pos 1) e) h edge;
    }

start_turn : (setup : Setup) (rules : List Rule) (x : Item) (u mask total : VarId)
    (params : List ℤ) (before after : State) (n : ℕ) → Apart setup u mask total
    → StartsHeat rules x u mask params → turn setup rules x before n ≡ Some after
    → Good setup u mask total (heat_sum setup params) before
    → Good setup u mask total (heat_sum setup params) after
start_turn setup rules x u mask total params before after n apart is comes good =
    let ws = touch_of mask Everywhere 0 ∷ [] in
    let swept = swept_all setup rules x (touch_of u Everywhere 0 ∷ ws) before after n is.kind
    is.written comes in
    subst (Good setup u mask total (heat_sum setup params)) (sym (swept.state ∙ both swept))
    (walls_written setup u mask total (heat_sum setup params) apart
    (with_level before u 0 (first_heat setup params)) (first_mask setup)
    (count_of setup mask (mask_start setup) apart.walls.grid) (walls_of_start setup)
    (heat_written setup u mask total (heat_sum setup params) apart before (first_heat setup params)
    (count_of setup u (heat_start setup params) apart.heat.grid) (heat_of_start setup params) good))
  where
    some_at : (p : Point)
        → SweptAll setup rules x (touch_of u Everywhere 0 ∷ touch_of mask Everywhere 0 ∷ []) before
        after n
        → IsIn (whole setup.shape) p
        → is_some (if_fit setup x.writes
        (Some (heat_start setup params p ∷ mask_start setup p ∷ []))) ≡ true
    some_at p swept h =
        subst (λ ns. is_some ns ≡ true)
        (start_gives setup rules x u mask params before n p is h)
        (everywhere_some setup rules x (touch_of u Everywhere 0) (touch_of mask Everywhere 0 ∷ [])
        before after n p refl swept h)

    one : SweptAll setup rules x (touch_of u Everywhere 0 ∷ touch_of mask Everywhere 0 ∷ []) before
        after n
        → level_after (whole setup.shape) (in_region setup.shape Everywhere)
        (given setup rules x before n) 0 (values_of setup before u 0) ≡ first_heat setup params
    one swept =
        numbers-same (whole setup.shape)
        (λ p. number_or (given setup rules x before n p) 0 (values_of setup before u 0 p))
        (heat_start setup params)
        (λ p h. ap (λ ns. number_or ns 0 (values_of setup before u 0 p))
        (start_gives setup rules x u mask params before n p is h)
        ∙ fit_any setup x.writes (heat_start setup params p ∷ mask_start setup p ∷ []) 0
        (values_of setup before u 0 p) (some_at p swept h))

    two : SweptAll setup rules x (touch_of u Everywhere 0 ∷ touch_of mask Everywhere 0 ∷ []) before
        after n
        → level_after (whole setup.shape) (in_region setup.shape Everywhere)
        (given setup rules x before n) 1 (values_of setup before mask 0) ≡ first_mask setup
    two swept =
        numbers-same (whole setup.shape)
        (λ p. number_or (given setup rules x before n p) 1 (values_of setup before mask 0 p))
        (mask_start setup)
        (λ p h. ap (λ ns. number_or ns 1 (values_of setup before mask 0 p))
        (start_gives setup rules x u mask params before n p is h)
        ∙ fit_any setup x.writes (heat_start setup params p ∷ mask_start setup p ∷ []) 1
        (values_of setup before mask 0 p) (some_at p swept h))

    both : SweptAll setup rules x (touch_of u Everywhere 0 ∷ touch_of mask Everywhere 0 ∷ []) before
        after n
        → with_level (with_level before u 0
        (level_after (whole setup.shape) (in_region setup.shape Everywhere)
        (given setup rules x before n) 0 (values_of setup before u 0))) mask 0
        (level_after (whole setup.shape) (in_region setup.shape Everywhere)
        (given setup rules x before n) 1 (values_of setup before mask 0))
        ≡ with_level (with_level before u 0 (first_heat setup params)) mask 0 (first_mask setup)
    both swept =
        ap (λ (level : List ℤ). with_level (with_level before u 0 level) mask 0
        (level_after (whole setup.shape) (in_region setup.shape Everywhere)
        (given setup rules x before n) 1 (values_of setup before mask 0))) (one swept)
        ∙ ap (λ (level : List ℤ). with_level (with_level before u 0 (first_heat setup params)) mask
        0 level) (two swept)

-- a step
step_turn : (setup : Setup) (rules : List Rule) (x : Item) (u mask total : VarId) (sum : ℤ)
    (before after : State) (n : ℕ) → IsShape setup.shape → HasGhosts setup.shape
    → Apart setup u mask total
    → Computes rules x heatflux_step_rule
    (touch_of u Everywhere 1 ∷ touch_of mask Everywhere 1 ∷ []) u Interior
    → turn setup rules x before n ≡ Some after → Good setup u mask total sum before
    → Good setup u mask total sum after
step_turn setup rules x u mask total sum before after n shape ghosts apart is comes good =
    let swept = swept_all setup rules x (touch_of u Interior 0 ∷ []) before after n is.kind
    is.written comes in
    let next = λ (p : Point). if in_region setup.shape Interior p
    then number_or (given setup rules x before n p) 0 (values_of setup before u 0 p)
    else values_of setup before u 0 p in
    let written = heat_written setup u mask total sum apart before
    (numbers_in (whole setup.shape) next) (count_of setup u next apart.heat.grid) in
    let kept = heat_kept setup rules shape ghosts x u mask before after n
    (record { item = is; heat = apart.heat }) good.is
    (closed setup u mask total sum apart before good) comes in
    let there = level_there (numbers_in (whole setup.shape) next) in
    subst (Good setup u mask total sum) (sym swept.state)
    (written
    (record {
      total = ap (reduced Sum) (sym (ap (λ (s : State). level_of s u 0) swept.state ∙ there))
          ∙ kept ∙ (heat_now setup u mask total sum apart before good).total;
      edge = λ p h edge. at-numbers setup.shape next p h
          ∙ ap (λ (b : Bool). if not b
          then number_or (given setup rules x before n p) 0 (values_of setup before u 0 p)
          else values_of setup before u 0 p) edge
          ∙ heat_edge setup u mask total sum apart before p good h edge;
    }) good)
  where
    level_there : (numbers : List ℤ)
        → level_of (with_level before u 0 numbers) u 0 ≡ numbers
    level_there numbers =
        level_written setup before u numbers good.is apart.heat.var apart.heat.stored

-- the boundary set to 0
close_turn : (setup : Setup) (rules : List Rule) (x : Item) (u mask total : VarId) (sum : ℤ)
    (before after : State) (n : ℕ) → Apart setup u mask total
    → Computes rules x heatflux_zero_rule [] u Boundary
    → turn setup rules x before n ≡ Some after → Good setup u mask total sum before
    → Good setup u mask total sum after
close_turn setup rules x u mask total sum before after n apart is comes good =
    let swept = swept_all setup rules x (touch_of u Boundary 0 ∷ []) before after n is.kind
    is.written comes in
    let next = λ (p : Point). if in_region setup.shape Boundary p
    then number_or (given setup rules x before n p) 0 (values_of setup before u 0 p)
    else values_of setup before u 0 p in
    let same = unchanged setup before u next apart.heat good.is (λ p h. still p h) in
    subst (Good setup u mask total sum) (sym swept.state)
    (heat_written setup u mask total sum apart before (numbers_in (whole setup.shape) next)
    (count_of setup u next apart.heat.grid)
    (subst (IsHeat setup.shape sum) (sym same) (heat_now setup u mask total sum apart before good))
    good)
  where
    still : (p : Point) → IsIn (whole setup.shape) p
        → (if is_boundary setup.shape p
        then number_or (given setup rules x before n p) 0 (values_of setup before u 0 p)
        else values_of setup before u 0 p) ≡ values_of setup before u 0 p
    still p h = by (is_boundary setup.shape p) refl
      where
        by : (b : Bool) → is_boundary setup.shape p ≡ b
            → (if b then number_or (given setup rules x before n p) 0 (values_of setup before u 0 p)
            else values_of setup before u 0 p) ≡ values_of setup before u 0 p
        by true edge =
            ap (λ ns. number_or ns 0 (values_of setup before u 0 p))
            (given_by setup rules x heatflux_zero_rule before n p is.routine)
            ∙ fit_or_old setup x.writes (pos 0) (values_of setup before u 0 p)
            (heat_edge setup u mask total sum apart before p good h edge)
        by false inner = refl

sum_turn : (setup : Setup) (rules : List Rule) (x : Item) (u mask total : VarId) (sum : ℤ)
    (before after : State) (n : ℕ) → Apart setup u mask total → SumsUp x u total
    → turn setup rules x before n ≡ Some after → Good setup u mask total sum before
    → Good setup u mask total sum after
sum_turn setup rules x u mask total sum before after n apart is comes good =
    subst (Good setup u mask total sum)
    (sym (summed setup rules x u total before after n is comes))
    (total_written setup u mask total sum apart before (sum_of before u)
    (heat_now setup u mask total sum apart before good).total good)

-- ---- a step asks for ghost zones

-- whether the table has a row for a read
abbrev row_with : Setup → Touch → Bool → ItemKind → List Touch → Bool
row_with setup r scalar kind ws =
    is_some (if scalar then Some (S ∷ []) else grid_needs setup.shape kind (region_of ws) r)

within : (b : Bool) → is_some (if b then Some (I ∷ B ∷ G ∷ []) else None) ≡ true → b ≡ true
within true h = refl
within false h = absurd (false≢true h)

-- what each of a list's numbers passes
passes : (s : Shape) (d from count : ℕ)
    → list_all (λ c. int_le (pos 1) (along s.ghost_ c)) (range_with_len from count) ≡ true
    → from ≤ d → d < from + count → pos 1 ≤ℤ along s.ghost_ d
passes s d from zero all low high = absurd (omega (arith, low, high))
passes s d from (suc count) all low high =
    let parts = and_parts (int_le (pos 1) (along s.ghost_ from))
    (list_all (λ c. int_le (pos 1) (along s.ghost_ c)) (range_with_len (from + 1) count)) all in
    elim (cases_eq d from) [
      | inl same ↦ subst (λ c. pos 1 ≤ℤ along s.ghost_ c) (sym same)
          (by (along s.ghost_ from) parts.0)
      | inr other ↦ passes s d (from + 1) count parts.1 (omega (arith, low, other))
          (omega (arith, high))
    ]
  where
    by : (g : ℤ) → int_le (pos 1) g ≡ true → pos 1 ≤ℤ g
    by g e = grind (arith, ints, e)

ghosts_of : (setup : Setup) (rules : List Rule) (x : Item) (u mask : VarId) → IsField setup u
    → Computes rules x heatflux_step_rule
    (touch_of u Everywhere 1 ∷ touch_of mask Everywhere 1 ∷ []) u Interior
    → has_shape setup x ≡ true → HasGhosts setup.shape
ghosts_of setup rules x u mask field is shaped =
    let test = λ (r : Touch). is_some (read_needs setup x r) in
    let rows = sym (ap (list_all test) is.read) ∙ (declared setup x shaped).rows in
    let first = (and_parts (test (touch_of u Everywhere 1))
    (list_all test (touch_of mask Everywhere 1 ∷ [])) rows).0 in
    let row = row_with setup (touch_of u Everywhere 1) in
    let fits = within (within_ghosts setup.shape 1)
    (sym (ap (λ b. row b x.kind x.writes) field.grid ∙ ap (λ k. row false k x.writes) is.kind
    ∙ ap (λ ws. row false Cell ws) is.written) ∙ first) in
    λ d has. passes setup.shape d 0 setup.shape.dims fits (omega arith) (omega (arith, has))

-- ---- the job

item_turns : (setup : Setup) (rules : List Rule) (u mask total : VarId) (params : List ℤ)
    (x : Item) (n : ℕ) (state : State) (o : Option State) → IsShape setup.shape
    → Apart setup u mask total → has_shape setup x ≡ true
    → IsHeatItem rules u mask total params x → turn setup rules x state n ≡ o
    → Good setup u mask total (heat_sum setup params) state
    → GoodOr (Good setup u mask total (heat_sum setup params)) o
item_turns setup rules u mask total params x n state None shape apart shaped is comes good = tt
item_turns setup rules u mask total params x n state (Some after) shape apart shaped (Starts is)
    comes good =
    start_turn setup rules x u mask total params state after n apart is comes good
item_turns setup rules u mask total params x n state (Some after) shape apart shaped (Steps is)
    comes good =
    step_turn setup rules x u mask total (heat_sum setup params) state after n shape
    (ghosts_of setup rules x u mask apart.heat is shaped) apart is comes good
item_turns setup rules u mask total params x n state (Some after) shape apart shaped (Closes is)
    comes good =
    close_turn setup rules x u mask total (heat_sum setup params) state after n apart is comes good
item_turns setup rules u mask total params x n state (Some after) shape apart shaped (Sums is)
    comes good =
    sum_turn setup rules x u mask total (heat_sum setup params) state after n apart is comes good

both_hold : {X : Type 0} (P Q : X → Type 0) (xs : List X) → All P xs → All Q xs
    → All (λ x. P x × Q x) xs
both_hold P Q [] one two = All-nil (λ x. P x × Q x)
both_hold P Q (x ∷ xs) one two =
    All-cons (λ x. P x × Q x) x xs (All-head P x xs one, All-head Q x xs two)
    (both_hold P Q xs (All-tail P x xs one) (All-tail Q x xs two))

turns_well : (setup : Setup) (rules : List Rule) (u mask total : VarId) → IsShape setup.shape
    → HasShapes setup → (job : IsHeatJob setup rules u mask total)
    → All (TurnsWell setup rules (Good setup u mask total (heat_sum setup job.params)))
    (run_items setup)
turns_well setup rules u mask total shape shapes job =
    let apart = apart_of setup rules u mask total job in
    All-weaker (λ k. ((n : ℕ) → IsHeatItem rules u mask total job.params (item_at setup k n))
    × (has_shape setup (item setup k) ≡ true))
    (TurnsWell setup rules (Good setup u mask total (heat_sum setup job.params)))
    (λ k both n state good.
    item_turns setup rules u mask total job.params (item_at setup k n) n state
    (turn setup rules (item_at setup k n) state n) shape apart both.1 (both.0 n) refl good)
    (run_items setup)
    (both_hold (λ k. (n : ℕ) → IsHeatItem rules u mask total job.params (item_at setup k n))
    (λ k. has_shape setup (item setup k) ≡ true) (run_items setup) job.items shapes)

-- a state that has it
walls_first : Setup → VarId → State
walls_first setup mask = refill setup (start setup) mask (first_mask setup)

heat_first : Setup → List ℤ → (u mask : VarId) → State
heat_first setup params u mask = refill setup (walls_first setup mask) u (first_heat setup params)

first : Setup → List ℤ → (u mask total : VarId) → State
first setup params u mask total =
    refill setup (heat_first setup params u mask) total (heat_sum setup params ∷ [])

first_good : (setup : Setup) (params : List ℤ) (u mask total : VarId) → Apart setup u mask total
    → Good setup u mask total (heat_sum setup params) (first setup params u mask total)
unfolding walls_first heat_first first
first_good setup params u mask total apart =
    let sum = heat_sum setup params in
    let one = walls_first setup mask in
    let two = heat_first setup params u mask in
    let one_is = refill_keeps setup (start setup) mask (first_mask setup) (start_is_state setup)
    apart.walls.var (count_of setup mask (mask_start setup) apart.walls.grid) in
    let two_is = refill_keeps setup one u (first_heat setup params) one_is apart.heat.var
    (count_of setup u (heat_start setup params) apart.heat.grid) in
    record {
      is = refill_keeps setup two total (sum ∷ []) two_is apart.var
          (sym (ap (λ (b : Bool). if b then 1 else point_count (whole setup.shape)) apart.scalar));
      heat = refill_leaves (IsHeat setup.shape sum) setup two total u (sum ∷ []) apart.heat_total
          (refill_holds (IsHeat setup.shape sum) setup one u (first_heat setup params) one_is
          apart.heat.var (heat_of_start setup params));
      walls = refill_leaves (AreWalls setup.shape) setup two total mask (sum ∷ [])
          apart.mask_total
          (refill_leaves (AreWalls setup.shape) setup one u mask (first_heat setup params)
          (λ e. apart.heat_mask (sym e))
          (refill_holds (AreWalls setup.shape) setup (start setup) mask (first_mask setup)
          (start_is_state setup) apart.walls.var (walls_of_start setup)));
      told = refill_holds (IsTotal sum) setup two total (sum ∷ []) two_is apart.var
          (record { number = refl });
    }

-- what is kept of the total
pub heat_keeping : (setup : Setup) (rules : List Rule) (u mask total : VarId) → IsShape setup.shape
    → HasShapes setup → (job : IsHeatJob setup rules u mask total)
    → Keeping setup rules total (heat_sum setup job.params)
    (Good setup u mask total (heat_sum setup job.params))
heat_keeping setup rules u mask total shape shapes job =
    let apart = apart_of setup rules u mask total job in
    let sum = heat_sum setup job.params in
    let begins = first_good setup job.params u mask total apart in
    record {
      scalar = apart.scalar;
      told = λ state good.
          (level_holds (IsTotal sum) setup state total 0 good.is apart.var apart.stored
          good.told).number;
      first = first setup job.params u mask total;
      is = begins.is;
      good = begins;
      turns = turns_well setup rules u mask total shape shapes job;
      rotates = rotated setup u mask total sum apart;
    }

pub heat_told : (setup : Setup) (rules : List Rule) (u mask total : VarId) → IsShape setup.shape
    → HasShapes setup → UsesOnlyOwn setup rules → (job : IsHeatJob setup rules u mask total)
    → Each (Tells setup total (heat_sum setup job.params)) (undivided_run setup rules).entries
heat_told setup rules u mask total shape shapes own job =
    texts_told setup rules total (heat_sum setup job.params)
    (Good setup u mask total (heat_sum setup job.params))
    (heat_keeping setup rules u mask total shape shapes job) own

pub heat_stays : (setup : Setup) (rules : List Rule) → IsShape setup.shape → HasShapes setup
    → UsesOnlyOwn setup rules → HeatStays setup rules
heat_stays setup rules shape shapes own u mask total job =
    constant setup rules total (heat_sum setup job.params)
    (heat_told setup rules u mask total shape shapes own job)
