-- What the items of a job of LatticeGas alone keep.
use Rattle.std.proofs.Common.{◌≡◌, ◌⊎◌, inl, inr, refl, sym, ap, subst, ◌∙◌, ℕ, zero, suc, ◌<◌, ◌≤◌, Bool, true, false, ℤ, pos, List, [], ◌∷◌, ◌++◌, map, length, get_or, Option, Some, None, is_some, arith}
use Rattle.std.specs.Prelude.{if◌then◌else◌, codes, ◌%◌, ◌-◌, ◌+ℤ◌, nat_eq}
use Rattle.std.specs.List.{All, flat_map}
use Rattle.std.proofs.lemmas.Bool.{cases_eq}
use Rattle.std.proofs.lemmas.Int.{ints}
use Rattle.std.proofs.lemmas.List.{length-map}
use Rattle.std.proofs.lemmas.List.Elements.{All-weaker}
use Rattle.cx_grid.specs.declared.boxes.Point.{Point}
use Rattle.cx_grid.specs.Boxes.{IsIn, numbers_in, point_count, shifted}
use Rattle.cx_grid.specs.Windows.{reach_box}
use Rattle.cx_grid.proofs.Places.{same_point}
use Rattle.cx_grid.specs.Grid.{IsShape, whole, is_boundary, at}
use Rattle.cx_plan.specs.declared.variable.VarId.{VarId}
use Rattle.cx_plan.specs.declared.item.Item.{Item}
use Rattle.cx_plan.specs.declared.item.Touch.{Touch}
use Rattle.cx_plan.specs.declared.item.Region.TheVariants.{Everywhere, Interior, Boundary}
use Rattle.cx_plan.specs.declared.item.ItemKind.TheVariants.{Sum}
use Rattle.cx_plan.specs.Setups.{Setup}
use Rattle.cx_plan.specs.Lookups.{variable, no_variable, is_scalar, levels_of}
use Rattle.cx_plan.specs.Regions.{run_items, region_of}
use Rattle.cx_plan.specs.Steering.{item_at}
use Rattle.cx_rule.specs.Numbers.{mix_from}
use Rattle.cx_rule.specs.Place.{global_index, param_of}
use Rattle.cx_rule.specs.Routine.{Rule}
use Rattle.cx_rule.specs.declared.place.Place.{Place}
use Rattle.cx_rule.specs.Seen.{value_of}
use Rattle.cx_rule.specs.Single.{here}
use Rattle.cx_rule.specs.States.{State, level_of, with_level, rotate}
use Rattle.cx_rule.specs.Sweeps.{seen_at, place_at, if_fit, in_region, window_point, number_or, level_after, reach_of, values_around}
use Rattle.cx_model.specs.States.{IsState, start, number_count}
use Rattle.cx_model.specs.Turns.{values_of, reduced, turn}
use Rattle.cx_model.specs.Runs.{undivided_run}
use Rattle.cx_model.specs.Alike.{UsesOnlyOwn}
use Rattle.cx_model.proofs.WalkLaws.{Each}
use Rattle.cx_model.proofs.PointLaws.{wrap-own, numbers-same}
use Rattle.cx_model.proofs.StateLaws.{start_is_state, rotate_keeps, with_level_keeps}
use Rattle.cx_thorn_physics.specs.Gas.{gas_init_rule, gas_step_rule, gas_zero_rule, gas_measure_rule, number_of, momentum_x_of, momentum_y_of, in_block}
use Rattle.law_physics.specs.Steps.{touch_of, IsField, Computes, sum_of, measured}
use Rattle.law_physics.specs.Gas.{IsPeriodic}
use Rattle.law_physics.specs.Constant.{IsFieldOf, IsScalarOf, SumsUp}
use Rattle.law_physics.specs.GasRuns.{GasVars, StartsGas, Measures, IsGasItem, Starts, Steps, Clears, Measured, Counts, SumsX, SumsY, IsGasJob, GasStays}
use Rattle.law_physics.proofs.GasLaws.{particles_kept, no_boundary}
use Rattle.law_physics.proofs.GridTotals.{point_of, grid_same, sum_of_numbers, sum_of_measured}
use Rattle.law_physics.proofs.LevelLaws.{Holds, rotate_holds, write_holds, level_holds, refill, refill_keeps, refill_holds, refill_leaves, level_written}
use Rattle.law_physics.proofs.Outputs.{Tells, Keeping, texts_told, constant}
use Rattle.law_physics.proofs.RunTurns.{SweptAll, swept_all, everywhere_some, given_by, fit_any, counted, count_of, unchanged, summed}
use Rattle.law_physics.proofs.Turns.{given, value_at}
use Rattle.law_physics.proofs.Walks.{GoodOr, TurnsWell}

-- ---- what is kept

-- the number of particles, and both momenta
pub record Amounts : Type 0 where
  pub number : ℤ
  pub x : ℤ
  pub y : ℤ

record IsGas (kept : Amounts) (level : List ℤ) : Type 0 where
  number : reduced Sum (map number_of level) ≡ kept.number
  x : reduced Sum (map momentum_x_of level) ≡ kept.x
  y : reduced Sum (map momentum_y_of level) ≡ kept.y

record SumsTo (sum : ℤ) (level : List ℤ) : Type 0 where
  total : reduced Sum level ≡ sum

record Shows (sum : ℤ) (level : List ℤ) : Type 0 where
  number : get_or level 0 (pos 0) ≡ sum

-- the variables, by what they are for
data Role : Type 0 where
  Cells : Role
  Number : Role
  MomentumX : Role
  MomentumY : Role
  Particles : Role
  TotalX : Role
  TotalY : Role

abbrev var_of : GasVars → Role → VarId
var_of vars Cells = vars.cells
var_of vars Number = vars.number
var_of vars MomentumX = vars.momentum_x
var_of vars MomentumY = vars.momentum_y
var_of vars Particles = vars.particles
var_of vars TotalX = vars.total_x
var_of vars TotalY = vars.total_y

abbrev Has : Amounts → Role → List ℤ → Type 0
Has kept Cells = IsGas kept
Has kept Number = SumsTo kept.number
Has kept MomentumX = SumsTo kept.x
Has kept MomentumY = SumsTo kept.y
Has kept Particles = Shows kept.number
Has kept TotalX = Shows kept.x
Has kept TotalY = Shows kept.y

record Good (setup : Setup) (vars : GasVars) (kept : Amounts) (state : State) : Type 0 where
  is : IsState setup state
  each : (r : Role) → Holds (Has kept r) state (var_of vars r)

-- ---- the variables are seven

abbrev name_of : Role → List ℕ
name_of Cells = codes "gas::cell"
name_of Number = codes "gas::number"
name_of MomentumX = codes "gas::momentum_x"
name_of MomentumY = codes "gas::momentum_y"
name_of Particles = codes "gas::particles"
name_of TotalX = codes "gas::total_x"
name_of TotalY = codes "gas::total_y"

abbrev role_by : (count last : ℕ) → Role
role_by count last =
    if nat_eq count 9 then Cells
    else if nat_eq count 11 then Number
    else if nat_eq count 14 then Particles
    else if nat_eq count 15 then (if nat_eq last 120 then MomentumX else MomentumY)
    else if nat_eq last 120 then TotalX else TotalY

abbrev role_of : List ℕ → Role
role_of name = role_by (length name) (get_or name (length name - 1) 0)

named : (r : Role) → role_of (name_of r) ≡ r
named Cells = refl
named Number = refl
named MomentumX = refl
named MomentumY = refl
named Particles = refl
named TotalX = refl
named TotalY = refl

full_of : (setup : Setup) (rules : List Rule) (vars : GasVars) → IsGasJob setup rules vars
    → (r : Role) → (variable setup (var_of vars r)).full ≡ name_of r
full_of setup rules vars job Cells = job.cells.full
full_of setup rules vars job Number = job.number.full
full_of setup rules vars job MomentumX = job.momentum_x.full
full_of setup rules vars job MomentumY = job.momentum_y.full
full_of setup rules vars job Particles = job.particles.full
full_of setup rules vars job TotalX = job.total_x.full
full_of setup rules vars job TotalY = job.total_y.full

apart : (setup : Setup) (rules : List Rule) (vars : GasVars) → IsGasJob setup rules vars
    → (r q : Role) → (var_of vars r).0 ≡ (var_of vars q).0 → r ≡ q
apart setup rules vars job r q same =
    sym (named r)
    ∙ ap role_of (sym (full_of setup rules vars job r)
    ∙ ap (λ i. (get_or setup.vars i no_variable).full) same ∙ full_of setup rules vars job q)
    ∙ named q

-- each is stored
record IsThere (setup : Setup) (v : VarId) : Type 0 where
  var : v.0 < length setup.vars
  stored : 0 < levels_of setup v

field_there : (setup : Setup) (name : List ℕ) (v : VarId) → IsFieldOf setup name v
    → IsThere setup v
field_there setup name v is = record { var = is.field.var; stored = is.field.stored }

scalar_there : (setup : Setup) (name : List ℕ) (v : VarId) → IsScalarOf setup name v
    → IsThere setup v
scalar_there setup name v is = record { var = is.var; stored = is.stored }

there : (setup : Setup) (rules : List Rule) (vars : GasVars) → IsGasJob setup rules vars
    → (r : Role) → IsThere setup (var_of vars r)
there setup rules vars job Cells = field_there setup (name_of Cells) vars.cells job.cells
there setup rules vars job Number = field_there setup (name_of Number) vars.number job.number
there setup rules vars job MomentumX =
    field_there setup (name_of MomentumX) vars.momentum_x job.momentum_x
there setup rules vars job MomentumY =
    field_there setup (name_of MomentumY) vars.momentum_y job.momentum_y
there setup rules vars job Particles =
    scalar_there setup (name_of Particles) vars.particles job.particles
there setup rules vars job TotalX = scalar_there setup (name_of TotalX) vars.total_x job.total_x
there setup rules vars job TotalY = scalar_there setup (name_of TotalY) vars.total_y job.total_y

-- ---- what keeps it

written : (setup : Setup) (rules : List Rule) (vars : GasVars) (kept : Amounts) (state : State)
    (r : Role) (numbers : List ℤ) → IsGasJob setup rules vars
    → length numbers ≡ number_count setup (variable setup (var_of vars r)) → Has kept r numbers
    → Good setup vars kept state
    → Good setup vars kept (with_level state (var_of vars r) 0 numbers)
written setup rules vars kept state r numbers job size new good =
    record {
      is = with_level_keeps setup state (var_of vars r) 0 numbers good.is size;
      each = λ q. write_holds (Has kept q) state (var_of vars r) (var_of vars q) 0 numbers
          (λ e. subst (λ s. Has kept s numbers) (apart setup rules vars job r q e) new)
          (good.each q);
    }

rotated : (setup : Setup) (vars : GasVars) (kept : Amounts) (state : State)
    → Good setup vars kept state → Good setup vars kept (rotate state)
rotated setup vars kept state good =
    record {
      is = rotate_keeps setup state good.is;
      each = λ q. rotate_holds (Has kept q) state (var_of vars q) (good.each q);
    }

now : (setup : Setup) (rules : List Rule) (vars : GasVars) (kept : Amounts) (state : State)
    (r : Role) → IsGasJob setup rules vars → Good setup vars kept state
    → Has kept r (level_of state (var_of vars r) 0)
now setup rules vars kept state r job good =
    let t = there setup rules vars job r in
    level_holds (Has kept r) setup state (var_of vars r) 0 good.is t.var t.stored (good.each r)

-- ---- the start

abbrev pub place_of : Setup → (iteration : ℕ) → List ℤ → Point → Place
place_of setup iteration params p =
    record { at = p; shape = setup.shape; iteration = iteration; params = params }

-- the cell at a point that the start gives it
abbrev pub start_in : Setup → (iteration : ℕ) → List ℤ → Point → ℤ
start_in setup n params p =
    pos (if in_block (place_of setup n params p) (param_of (place_of setup n params p) 0)
    then mix_from (param_of (place_of setup n params p) 1)
    (global_index (place_of setup n params p)) % 16 else 0)

abbrev pub first_cells : Setup → List ℤ → List ℤ
first_cells setup params = numbers_in (whole setup.shape) (start_in setup 0 params)

-- what is kept
abbrev pub amounts : Setup → List ℤ → Amounts
amounts setup params =
    record {
      number = reduced Sum (map number_of (first_cells setup params));
      x = reduced Sum (map momentum_x_of (first_cells setup params));
      y = reduced Sum (map momentum_y_of (first_cells setup params));
    }

start_gives : (setup : Setup) (rules : List Rule) (x : Item) (cells : VarId) (params : List ℤ)
    (before : State) (n : ℕ) (p : Point) → StartsGas rules x cells params
    → IsIn (whole setup.shape) p
    → given setup rules x before n p
    ≡ if_fit setup x.writes (Some (start_in setup 0 params p ∷ []))
start_gives setup rules x cells params before n p is h =
    given_by setup rules x gas_init_rule before n p is.routine
    ∙ ap (λ (q : Point). if_fit setup x.writes (Some (start_in setup n x.params q ∷ [])))
    (wrap-own setup.shape p h)
    ∙ ap (λ (ps : List ℤ). if_fit setup x.writes (Some (start_in setup n ps p ∷ []))) is.params

start_turn : (setup : Setup) (rules : List Rule) (x : Item) (vars : GasVars) (params : List ℤ)
    (before after : State) (n : ℕ) → IsGasJob setup rules vars
    → StartsGas rules x vars.cells params → turn setup rules x before n ≡ Some after
    → Good setup vars (amounts setup params) before
    → Good setup vars (amounts setup params) after
start_turn setup rules x vars params before after n job is comes good =
    let swept = swept_all setup rules x (touch_of vars.cells Everywhere 0 ∷ []) before after n
    is.kind is.written comes in
    let same = numbers-same (whole setup.shape)
    (λ p. number_or (given setup rules x before n p) 0 (values_of setup before vars.cells 0 p))
    (start_in setup 0 params)
    (λ p h. ap (λ ns. number_or ns 0 (values_of setup before vars.cells 0 p))
    (start_gives setup rules x vars.cells params before n p is h)
    ∙ fit_any setup x.writes (start_in setup 0 params p ∷ []) 0
    (values_of setup before vars.cells 0 p)
    (subst (λ ns. is_some ns ≡ true)
    (start_gives setup rules x vars.cells params before n p is h)
    (everywhere_some setup rules x (touch_of vars.cells Everywhere 0) [] before after n p refl
    swept h))) in
    subst (Good setup vars (amounts setup params))
    (sym (swept.state ∙ ap (with_level before vars.cells 0) same))
    (written setup rules vars (amounts setup params) before Cells (first_cells setup params) job
    (count_of setup vars.cells (start_in setup 0 params) job.cells.field.grid)
    (record { number = refl; x = refl; y = refl }) good)

-- ---- steps

step_turn : (setup : Setup) (rules : List Rule) (x : Item) (vars : GasVars) (kept : Amounts)
    (before after : State) (n : ℕ) → IsShape setup.shape → IsPeriodic setup.shape
    → IsGasJob setup rules vars
    → Computes rules x gas_step_rule (touch_of vars.cells Everywhere 1 ∷ []) vars.cells Interior
    → turn setup rules x before n ≡ Some after → Good setup vars kept before
    → Good setup vars kept after
step_turn setup rules x vars kept before after n shape periodic job is comes good =
    let swept = swept_all setup rules x (touch_of vars.cells Interior 0 ∷ []) before after n
    is.kind is.written comes in
    let next = λ (p : Point). if in_region setup.shape Interior p
    then number_or (given setup rules x before n p) 0 (values_of setup before vars.cells 0 p)
    else values_of setup before vars.cells 0 p in
    let numbers = numbers_in (whole setup.shape) next in
    let law = particles_kept setup rules shape periodic x vars.cells before after n
    (record { item = is; stored = job.cells.field }) good.is comes in
    let level = sym (ap (λ (s : State). level_of s vars.cells 0) swept.state
    ∙ level_written setup before vars.cells numbers good.is job.cells.field.var
    job.cells.field.stored) in
    let was = now setup rules vars kept before Cells job good in
    subst (Good setup vars kept) (sym swept.state)
    (written setup rules vars kept before Cells numbers job
    (count_of setup vars.cells next job.cells.field.grid)
    (record {
      number = ap (λ ns. reduced Sum (map number_of ns)) level ∙ law.number ∙ was.number;
      x = ap (λ ns. reduced Sum (map momentum_x_of ns)) level ∙ law.x ∙ was.x;
      y = ap (λ ns. reduced Sum (map momentum_y_of ns)) level ∙ law.y ∙ was.y;
    }) good)

-- a periodic grid has no boundary that could be cleared
clear_turn : (setup : Setup) (rules : List Rule) (x : Item) (vars : GasVars) (kept : Amounts)
    (before after : State) (n : ℕ) → IsShape setup.shape → IsPeriodic setup.shape
    → IsGasJob setup rules vars → Computes rules x gas_zero_rule [] vars.cells Boundary
    → turn setup rules x before n ≡ Some after → Good setup vars kept before
    → Good setup vars kept after
clear_turn setup rules x vars kept before after n shape periodic job is comes good =
    let swept = swept_all setup rules x (touch_of vars.cells Boundary 0 ∷ []) before after n
    is.kind is.written comes in
    let next = λ (p : Point). if is_boundary setup.shape p
    then number_or (given setup rules x before n p) 0 (values_of setup before vars.cells 0 p)
    else values_of setup before vars.cells 0 p in
    let same = unchanged setup before vars.cells next job.cells.field good.is
    (λ p h. ap (λ (b : Bool). if b
    then number_or (given setup rules x before n p) 0 (values_of setup before vars.cells 0 p)
    else values_of setup before vars.cells 0 p) (no_boundary setup.shape p shape periodic h)) in
    subst (Good setup vars kept) (sym swept.state)
    (written setup rules vars kept before Cells (numbers_in (whole setup.shape) next) job
    (count_of setup vars.cells next job.cells.field.grid)
    (subst (IsGas kept) (sym same) (now setup rules vars kept before Cells job good)) good)

-- ---- measures

-- what a read of reach 0 shows
seen_here : (dims : ℕ) (f : Point → ℤ) → 1 ≤ dims → dims ≤ 3
    → value_of (record {
      dims = dims;
      reaches = 0 ∷ [];
      values = numbers_in (reach_box dims 0) f ++ [];
    }) 0 here ≡ f here
seen_here zero f some most = absurd (omega (arith, some))
seen_here (suc zero) f some most = refl
seen_here (suc (suc zero)) f some most = refl
seen_here (suc (suc (suc zero))) f some most = refl
seen_here (suc (suc (suc (suc n)))) f some most = absurd (omega (arith, most))

keeps : (a : ℤ) → a +ℤ pos 0 ≡ a
keeps a = omega (arith, ints)

-- the numbers that are measured of a cell
abbrev measures_of : ℤ → List ℤ
measures_of cell = number_of cell ∷ momentum_x_of cell ∷ momentum_y_of cell ∷ []

measure_gives : (setup : Setup) (rules : List Rule) (x : Item) (vars : GasVars) (before : State)
    (n : ℕ) (p : Point) → IsShape setup.shape → Measures rules x vars
    → given setup rules x before n p
    ≡ if_fit setup x.writes (Some (measures_of (values_of setup before vars.cells 0 p)))
measure_gives setup rules x vars before n p shape is =
    let values = values_of setup before in
    given_by setup rules x gas_measure_rule before n p is.routine
    ∙ ap (λ (ws : List Touch). if_fit setup x.writes
    (gas_measure_rule (seen_at setup x values (window_point setup.shape (region_of ws) p))
    (place_at setup x n p))) is.written
    ∙ ap (λ (rs : List Touch). if_fit setup x.writes (Some (measures_of (value_of (record {
      dims = setup.shape.dims;
      reaches = map reach_of rs;
      values = flat_map (values_around setup values p) rs;
    }) 0 here)))) is.read
    ∙ ap (λ (c : ℤ). if_fit setup x.writes (Some (measures_of c)))
    (seen_here setup.shape.dims (λ o. values vars.cells 0 (shifted p o)) shape.some shape.most
    ∙ ap (values vars.cells 0) (same_point (keeps p.x) (keeps p.y) (keeps p.z)))

-- the numbers of one measure over the grid
abbrev level_by : Setup → State → VarId → (ℤ → ℤ) → List ℤ
level_by setup before cells measure =
    numbers_in (whole setup.shape) (λ p. measure (values_of setup before cells 0 p))

sum_by_measure : (setup : Setup) (before : State) (cells : VarId) (measure : ℤ → ℤ)
    → IsShape setup.shape → IsField setup cells → IsState setup before
    → reduced Sum (level_by setup before cells measure) ≡ measured measure before cells
sum_by_measure setup before cells measure shape is state =
    sum_of_numbers setup.shape (λ p. measure (values_of setup before cells 0 p))
    ∙ grid_same setup.shape (λ p. measure (values_of setup before cells 0 p))
    (λ p. measure (at setup.shape (level_of before cells 0) p))
    (λ a b c on. ap measure (sym (value_at setup before cells (point_of a b c) is.grid)))
    ∙ sym (sum_of_measured setup.shape measure (level_of before cells 0) shape
    (counted setup before cells is state))

-- what an item that measures writes
abbrev measured_in : GasVars → List Touch
measured_in vars =
    touch_of vars.number Everywhere 0 ∷ touch_of vars.momentum_x Everywhere 0
    ∷ touch_of vars.momentum_y Everywhere 0 ∷ []

-- the level that it leaves of its k-th write
abbrev left : Setup → List Rule → Item → State → (n k : ℕ) → VarId → List ℤ
left setup rules x before n k v =
    level_after (whole setup.shape) (in_region setup.shape Everywhere)
    (given setup rules x before n) k (values_of setup before v 0)

left_is : (setup : Setup) (rules : List Rule) (x : Item) (vars : GasVars) (before after : State)
    (n k : ℕ) (v : VarId) (measure : ℤ → ℤ) → IsShape setup.shape → Measures rules x vars
    → ((c old : ℤ) → get_or (measures_of c) k old ≡ measure c)
    → SweptAll setup rules x (measured_in vars) before after n
    → left setup rules x before n k v ≡ level_by setup before vars.cells measure
left_is setup rules x vars before after n k v measure shape is one swept =
    numbers-same (whole setup.shape)
    (λ p. number_or (given setup rules x before n p) k (values_of setup before v 0 p))
    (λ p. measure (values_of setup before vars.cells 0 p))
    (λ p h.
    let gives = measure_gives setup rules x vars before n p shape is in
    ap (λ ns. number_or ns k (values_of setup before v 0 p)) gives
    ∙ fit_any setup x.writes (measures_of (values_of setup before vars.cells 0 p)) k
    (values_of setup before v 0 p)
    (subst (λ ns. is_some ns ≡ true) gives
    (everywhere_some setup rules x (touch_of vars.number Everywhere 0)
    (touch_of vars.momentum_x Everywhere 0 ∷ touch_of vars.momentum_y Everywhere 0 ∷ [])
    before after n p refl swept h))
    ∙ one (values_of setup before vars.cells 0 p) (values_of setup before v 0 p))

-- a measure that is written keeps what is kept
put : (setup : Setup) (rules : List Rule) (vars : GasVars) (kept : Amounts)
    (before state : State) (r : Role) (measure : ℤ → ℤ) → IsGasJob setup rules vars
    → is_scalar setup (var_of vars r) ≡ false
    → Has kept r (level_by setup before vars.cells measure) → Good setup vars kept state
    → Good setup vars kept
    (with_level state (var_of vars r) 0 (level_by setup before vars.cells measure))
put setup rules vars kept before state r measure job grid new good =
    written setup rules vars kept state r (level_by setup before vars.cells measure) job
    (count_of setup (var_of vars r) (λ p. measure (values_of setup before vars.cells 0 p)) grid)
    new good

three : (before : State) (vars : GasVars) (a b c d e f : List ℤ) → a ≡ d → b ≡ e → c ≡ f
    → with_level (with_level (with_level before vars.number 0 a) vars.momentum_x 0 b)
    vars.momentum_y 0 c
    ≡ with_level (with_level (with_level before vars.number 0 d) vars.momentum_x 0 e)
    vars.momentum_y 0 f
three before vars a b c d e f p q r =
    ap (λ (l : List ℤ). with_level (with_level (with_level before vars.number 0 l)
    vars.momentum_x 0 b) vars.momentum_y 0 c) p
    ∙ ap (λ (l : List ℤ). with_level (with_level (with_level before vars.number 0 d)
    vars.momentum_x 0 l) vars.momentum_y 0 c) q
    ∙ ap (λ (l : List ℤ). with_level (with_level (with_level before vars.number 0 d)
    vars.momentum_x 0 e) vars.momentum_y 0 l) r

measure_turn : (setup : Setup) (rules : List Rule) (x : Item) (vars : GasVars) (kept : Amounts)
    (before after : State) (n : ℕ) → IsShape setup.shape → IsGasJob setup rules vars
    → Measures rules x vars → turn setup rules x before n ≡ Some after
    → Good setup vars kept before → Good setup vars kept after
measure_turn setup rules x vars kept before after n shape job is comes good =
    let swept = swept_all setup rules x (measured_in vars) before after n is.kind is.written comes
    in
    let cells = now setup rules vars kept before Cells job good in
    let by = level_by setup before vars.cells in
    let one = with_level before vars.number 0 (by number_of) in
    let two = with_level one vars.momentum_x 0 (by momentum_x_of) in
    subst (Good setup vars kept)
    (sym (swept.state
    ∙ three before vars (left setup rules x before n 0 vars.number)
    (left setup rules x before n 1 vars.momentum_x) (left setup rules x before n 2 vars.momentum_y)
    (by number_of) (by momentum_x_of) (by momentum_y_of)
    (left_is setup rules x vars before after n 0 vars.number number_of shape is (λ c old. refl)
    swept)
    (left_is setup rules x vars before after n 1 vars.momentum_x momentum_x_of shape is
    (λ c old. refl) swept)
    (left_is setup rules x vars before after n 2 vars.momentum_y momentum_y_of shape is
    (λ c old. refl) swept)))
    (put setup rules vars kept before two MomentumY momentum_y_of job job.momentum_y.field.grid
    (record {
      total = sum_by_measure setup before vars.cells momentum_y_of shape job.cells.field good.is
          ∙ cells.y;
    })
    (put setup rules vars kept before one MomentumX momentum_x_of job job.momentum_x.field.grid
    (record {
      total = sum_by_measure setup before vars.cells momentum_x_of shape job.cells.field good.is
          ∙ cells.x;
    })
    (put setup rules vars kept before before Number number_of job job.number.field.grid
    (record {
      total = sum_by_measure setup before vars.cells number_of shape job.cells.field good.is
          ∙ cells.number;
    }) good)))

-- ---- sums

sum_turn : (setup : Setup) (rules : List Rule) (x : Item) (vars : GasVars) (kept : Amounts)
    (from to : Role) (sum : ℤ) (before after : State) (n : ℕ) → IsGasJob setup rules vars
    → is_scalar setup (var_of vars to) ≡ true → SumsUp x (var_of vars from) (var_of vars to)
    → (Has kept from (level_of before (var_of vars from) 0)
    → Has kept to (sum_of before (var_of vars from) ∷ []))
    → turn setup rules x before n ≡ Some after → Good setup vars kept before
    → Good setup vars kept after
sum_turn setup rules x vars kept from to sum before after n job scalar is tells comes good =
    subst (Good setup vars kept)
    (sym (summed setup rules x (var_of vars from) (var_of vars to) before after n is comes))
    (written setup rules vars kept before to (sum_of before (var_of vars from) ∷ []) job
    (sym (ap (λ (b : Bool). if b then 1 else point_count (whole setup.shape)) scalar))
    (tells (now setup rules vars kept before from job good)) good)

-- ---- the job

item_turns : (setup : Setup) (rules : List Rule) (vars : GasVars) (x : Item) (n : ℕ)
    (state : State) (o : Option State) → IsShape setup.shape → IsPeriodic setup.shape
    → (job : IsGasJob setup rules vars)
    → IsGasItem rules vars job.params x → turn setup rules x state n ≡ o
    → Good setup vars (amounts setup job.params) state
    → GoodOr (Good setup vars (amounts setup job.params)) o
item_turns setup rules vars x n state None shape periodic job is comes good = tt
item_turns setup rules vars x n state (Some after) shape periodic job (Starts is) comes good =
    start_turn setup rules x vars job.params state after n job is comes good
item_turns setup rules vars x n state (Some after) shape periodic job (Steps is) comes good =
    step_turn setup rules x vars (amounts setup job.params) state after n shape periodic job is
    comes good
item_turns setup rules vars x n state (Some after) shape periodic job (Clears is) comes good =
    clear_turn setup rules x vars (amounts setup job.params) state after n shape periodic job is
    comes good
item_turns setup rules vars x n state (Some after) shape periodic job (Measured is) comes good =
    measure_turn setup rules x vars (amounts setup job.params) state after n shape job is comes
    good
item_turns setup rules vars x n state (Some after) shape periodic job (Counts is) comes good =
    sum_turn setup rules x vars (amounts setup job.params) Number Particles
    (amounts setup job.params).number state after n job job.particles.scalar is
    (λ s. record { number = s.total }) comes good
item_turns setup rules vars x n state (Some after) shape periodic job (SumsX is) comes good =
    sum_turn setup rules x vars (amounts setup job.params) MomentumX TotalX
    (amounts setup job.params).x state after n job job.total_x.scalar is
    (λ s. record { number = s.total }) comes good
item_turns setup rules vars x n state (Some after) shape periodic job (SumsY is) comes good =
    sum_turn setup rules x vars (amounts setup job.params) MomentumY TotalY
    (amounts setup job.params).y state after n job job.total_y.scalar is
    (λ s. record { number = s.total }) comes good

turns_well : (setup : Setup) (rules : List Rule) (vars : GasVars) → IsShape setup.shape
    → IsPeriodic setup.shape → (job : IsGasJob setup rules vars)
    → All (TurnsWell setup rules (Good setup vars (amounts setup job.params))) (run_items setup)
turns_well setup rules vars shape periodic job =
    All-weaker (λ k. (n : ℕ) → IsGasItem rules vars job.params (item_at setup k n))
    (TurnsWell setup rules (Good setup vars (amounts setup job.params)))
    (λ k is n state good.
    item_turns setup rules vars (item_at setup k n) n state
    (turn setup rules (item_at setup k n) state n) shape periodic job (is n) refl good)
    (run_items setup) job.items

-- ---- a state that has it

abbrev first_of : Setup → List ℤ → Role → List ℤ
first_of setup params Cells = first_cells setup params
first_of setup params Number = map number_of (first_cells setup params)
first_of setup params MomentumX = map momentum_x_of (first_cells setup params)
first_of setup params MomentumY = map momentum_y_of (first_cells setup params)
first_of setup params Particles = (amounts setup params).number ∷ []
first_of setup params TotalX = (amounts setup params).x ∷ []
first_of setup params TotalY = (amounts setup params).y ∷ []

first_has : (setup : Setup) (params : List ℤ) (r : Role)
    → Has (amounts setup params) r (first_of setup params r)
first_has setup params Cells = record { number = refl; x = refl; y = refl }
first_has setup params Number = record { total = refl }
first_has setup params MomentumX = record { total = refl }
first_has setup params MomentumY = record { total = refl }
first_has setup params Particles = record { number = refl }
first_has setup params TotalX = record { number = refl }
first_has setup params TotalY = record { number = refl }

field_count : (setup : Setup) (params : List ℤ) (v : VarId) (measure : ℤ → ℤ)
    → is_scalar setup v ≡ false
    → length (map measure (first_cells setup params)) ≡ number_count setup (variable setup v)
field_count setup params v measure grid =
    length-map (first_cells setup params) measure ∙ count_of setup v (start_in setup 0 params) grid

scalar_count : (setup : Setup) (v : VarId) → is_scalar setup v ≡ true
    → 1 ≡ number_count setup (variable setup v)
scalar_count setup v scalar =
    sym (ap (λ (b : Bool). if b then 1 else point_count (whole setup.shape)) scalar)

first_count : (setup : Setup) (rules : List Rule) (vars : GasVars) (params : List ℤ)
    → IsGasJob setup rules vars → (r : Role)
    → length (first_of setup params r) ≡ number_count setup (variable setup (var_of vars r))
first_count setup rules vars params job Cells =
    count_of setup vars.cells (start_in setup 0 params) job.cells.field.grid
first_count setup rules vars params job Number =
    field_count setup params vars.number number_of job.number.field.grid
first_count setup rules vars params job MomentumX =
    field_count setup params vars.momentum_x momentum_x_of job.momentum_x.field.grid
first_count setup rules vars params job MomentumY =
    field_count setup params vars.momentum_y momentum_y_of job.momentum_y.field.grid
first_count setup rules vars params job Particles =
    scalar_count setup vars.particles job.particles.scalar
first_count setup rules vars params job TotalX =
    scalar_count setup vars.total_x job.total_x.scalar
first_count setup rules vars params job TotalY =
    scalar_count setup vars.total_y job.total_y.scalar

-- the variables of some roles filled
filled : Setup → GasVars → List ℤ → List Role → State
filled setup vars params [] = start setup
filled setup vars params (r ∷ rs) =
    refill setup (filled setup vars params rs) (var_of vars r) (first_of setup params r)

filled_is : (setup : Setup) (rules : List Rule) (vars : GasVars) (params : List ℤ)
    (rs : List Role) → IsGasJob setup rules vars → IsState setup (filled setup vars params rs)
unfolding filled
filled_is setup rules vars params [] job = start_is_state setup
filled_is setup rules vars params (r ∷ rs) job =
    refill_keeps setup (filled setup vars params rs) (var_of vars r) (first_of setup params r)
    (filled_is setup rules vars params rs job) (there setup rules vars job r).var
    (first_count setup rules vars params job r)

abbrev IsAmong : Role → List Role → Type 0
IsAmong q [] = ⊥
IsAmong q (r ∷ rs) = (q ≡ r) ⊎ IsAmong q rs

-- the variable that is filled last
filled_last : (setup : Setup) (rules : List Rule) (vars : GasVars) (params : List ℤ)
    (r : Role) (rs : List Role) (q : Role) → IsGasJob setup rules vars → q ≡ r
    → Holds (Has (amounts setup params) q) (filled setup vars params (r ∷ rs)) (var_of vars q)
unfolding filled
filled_last setup rules vars params r rs q job same =
    subst (λ q. Holds (Has (amounts setup params) q)
    (refill setup (filled setup vars params rs) (var_of vars r) (first_of setup params r))
    (var_of vars q)) (sym same)
    (refill_holds (Has (amounts setup params) r) setup (filled setup vars params rs)
    (var_of vars r) (first_of setup params r) (filled_is setup rules vars params rs job)
    (there setup rules vars job r).var (first_has setup params r))

filled_has : (setup : Setup) (rules : List Rule) (vars : GasVars) (params : List ℤ)
    (rs : List Role) (q : Role) → IsGasJob setup rules vars → IsAmong q rs
    → Holds (Has (amounts setup params) q) (filled setup vars params rs) (var_of vars q)
unfolding filled
filled_has setup rules vars params [] q job among = absurd among
filled_has setup rules vars params (r ∷ rs) q job (inl same) =
    filled_last setup rules vars params r rs q job same
filled_has setup rules vars params (r ∷ rs) q job (inr later) =
    elim (cases_eq (var_of vars q).0 (var_of vars r).0) [
      | inl same ↦
          filled_last setup rules vars params r rs q job (apart setup rules vars job q r same)
      | inr other ↦
          refill_leaves (Has (amounts setup params) q) setup (filled setup vars params rs)
          (var_of vars r) (var_of vars q) (first_of setup params r) other
          (filled_has setup rules vars params rs q job later)
    ]

abbrev all_roles : List Role
all_roles = Cells ∷ Number ∷ MomentumX ∷ MomentumY ∷ Particles ∷ TotalX ∷ TotalY ∷ []

among_all : (q : Role) → IsAmong q all_roles
among_all Cells = inl refl
among_all Number = inr (inl refl)
among_all MomentumX = inr (inr (inl refl))
among_all MomentumY = inr (inr (inr (inl refl)))
among_all Particles = inr (inr (inr (inr (inl refl))))
among_all TotalX = inr (inr (inr (inr (inr (inl refl)))))
among_all TotalY = inr (inr (inr (inr (inr (inr (inl refl))))))

first_good : (setup : Setup) (rules : List Rule) (vars : GasVars) (params : List ℤ)
    → IsGasJob setup rules vars
    → Good setup vars (amounts setup params) (filled setup vars params all_roles)
first_good setup rules vars params job =
    record {
      is = filled_is setup rules vars params all_roles job;
      each = λ q. filled_has setup rules vars params all_roles q job (among_all q);
    }

-- what is kept of a scalar
keeping : (setup : Setup) (rules : List Rule) (vars : GasVars) (r : Role) (value : ℤ)
    → IsShape setup.shape → IsPeriodic setup.shape
    → (job : IsGasJob setup rules vars) → is_scalar setup (var_of vars r) ≡ true
    → ((level : List ℤ) → Has (amounts setup job.params) r level → get_or level 0 (pos 0) ≡ value)
    → Keeping setup rules (var_of vars r) value (Good setup vars (amounts setup job.params))
keeping setup rules vars r value shape periodic job scalar tells =
    let begins = first_good setup rules vars job.params job in
    record {
      scalar = scalar;
      told = λ state good.
          tells (level_of state (var_of vars r) 0)
          (now setup rules vars (amounts setup job.params) state r job good);
      first = filled setup vars job.params all_roles;
      is = begins.is;
      good = begins;
      turns = turns_well setup rules vars shape periodic job;
      rotates = rotated setup vars (amounts setup job.params);
    }

told : (setup : Setup) (rules : List Rule) (vars : GasVars) (r : Role) (value : ℤ)
    → IsShape setup.shape → IsPeriodic setup.shape → UsesOnlyOwn setup rules
    → (job : IsGasJob setup rules vars) → is_scalar setup (var_of vars r) ≡ true
    → ((level : List ℤ) → Has (amounts setup job.params) r level → get_or level 0 (pos 0) ≡ value)
    → Each (Tells setup (var_of vars r) value) (undivided_run setup rules).entries
told setup rules vars r value shape periodic own job scalar tells =
    texts_told setup rules (var_of vars r) value (Good setup vars (amounts setup job.params))
    (keeping setup rules vars r value shape periodic job scalar tells) own

-- the texts of the three sums
pub record GasTold (setup : Setup) (rules : List Rule) (vars : GasVars)
    (params : List ℤ) : Type 0 where
  pub particles : Each (Tells setup vars.particles (amounts setup params).number)
      (undivided_run setup rules).entries
  pub total_x : Each (Tells setup vars.total_x (amounts setup params).x)
      (undivided_run setup rules).entries
  pub total_y : Each (Tells setup vars.total_y (amounts setup params).y)
      (undivided_run setup rules).entries

pub gas_told : (setup : Setup) (rules : List Rule) (vars : GasVars) → IsShape setup.shape
    → IsPeriodic setup.shape → UsesOnlyOwn setup rules → (job : IsGasJob setup rules vars)
    → GasTold setup rules vars job.params
gas_told setup rules vars shape periodic own job =
    record {
      particles = told setup rules vars Particles (amounts setup job.params).number shape periodic
          own job job.particles.scalar (λ level has. has.number);
      total_x = told setup rules vars TotalX (amounts setup job.params).x shape periodic own job
          job.total_x.scalar (λ level has. has.number);
      total_y = told setup rules vars TotalY (amounts setup job.params).y shape periodic own job
          job.total_y.scalar (λ level has. has.number);
    }

pub gas_stays : (setup : Setup) (rules : List Rule) → IsShape setup.shape
    → IsPeriodic setup.shape → UsesOnlyOwn setup rules → GasStays setup rules
gas_stays setup rules shape periodic own vars job =
    let all = gas_told setup rules vars shape periodic own job in
    let sums = amounts setup job.params in
    record {
      particles = constant setup rules vars.particles sums.number all.particles;
      total_x = constant setup rules vars.total_x sums.x all.total_x;
      total_y = constant setup rules vars.total_y sums.y all.total_y;
    }
