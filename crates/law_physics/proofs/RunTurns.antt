-- What turns of the thorns' items leave.
use Rattle.std.proofs.Common.{◌≡◌, refl, sym, ap, subst, ◌∙◌, ℕ, Bool, true, false, not, ◌||◌, ℤ, List, [], ◌∷◌, length, get_or, Some, None, is_some}
use Rattle.std.specs.Prelude.{if◌then◌else◌}
use Rattle.std.specs.List.{list_all}
use Rattle.std.proofs.lemmas.Bool.{false≢true}
use Rattle.cx_grid.specs.declared.boxes.Point.{Point}
use Rattle.cx_grid.specs.Boxes.{IsIn, point_count, points_in, numbers_in}
use Rattle.cx_grid.specs.Grid.{whole}
use Rattle.cx_plan.specs.declared.variable.VarId.{VarId}
use Rattle.cx_plan.specs.declared.item.Touch.{Touch}
use Rattle.cx_plan.specs.declared.item.Item.{Item}
use Rattle.cx_plan.specs.declared.item.Region.TheVariants.{Everywhere}
use Rattle.cx_plan.specs.declared.item.ItemKind.TheVariants.{Cell, Sum}
use Rattle.cx_plan.specs.Setups.{Setup}
use Rattle.cx_plan.specs.Lookups.{variable, is_scalar}
use Rattle.cx_plan.specs.Regions.{region_of}
use Rattle.cx_rule.specs.Routine.{Rule, rule_at}
use Rattle.cx_rule.specs.States.{State, level_of, with_scalar}
use Rattle.cx_rule.specs.Sweeps.{seen_at, place_at, all_fit, if_fit, in_region, window_point, number_or, levels_after, sweep, scalars_after, scalar_turn}
use Rattle.cx_model.specs.States.{IsState, number_count}
use Rattle.cx_model.specs.Turns.{values_of, turn, turn_by, reduced, first_read}
use Rattle.cx_model.proofs.PointLaws.{numbers-count, at-numbers, same-numbers, all-at}
use Rattle.law_physics.specs.Steps.{IsField, sum_of}
use Rattle.law_physics.specs.Constant.{SumsUp}
use Rattle.law_physics.proofs.Turns.{given, value_at}

-- ---- sweeps of items with any writes

pub record SweptAll (setup : Setup) (rules : List Rule) (x : Item) (ws : List Touch)
    (before after : State) (iteration : ℕ) : Type 0 where
  pub each : list_all (λ p. not (in_region setup.shape (region_of ws) p)
      || is_some (given setup rules x before iteration p)) (points_in (whole setup.shape)) ≡ true
  pub state : after ≡ levels_after (whole setup.shape) (values_of setup before)
      (in_region setup.shape (region_of ws)) (given setup rules x before iteration) 0 ws before

some_of : (test each : Bool) (next after : State) → test ≡ each
    → (if each then Some next else None) ≡ Some after → (test ≡ true) × (after ≡ next)
some_of test true next after is comes = (is, same comes)
  where
    same : Some next ≡ Some after → after ≡ next
    same e = cc
some_of test false next after is comes = absurd cc

pub swept_all : (setup : Setup) (rules : List Rule) (x : Item) (ws : List Touch)
    (before after : State) (iteration : ℕ)
    → x.kind ≡ Cell → x.writes ≡ ws → turn setup rules x before iteration ≡ Some after
    → SweptAll setup rules x ws before after iteration
swept_all setup rules x ws before after iteration kind written comes =
    let test = list_all (λ p. not (in_region setup.shape (region_of ws) p)
    || is_some (given setup rules x before iteration p)) (points_in (whole setup.shape)) in
    let both = some_of test test
    (levels_after (whole setup.shape) (values_of setup before)
    (in_region setup.shape (region_of ws)) (given setup rules x before iteration) 0 ws before)
    after refl
    (sym (ap (λ ws. sweep (whole setup.shape) (values_of setup before)
    (in_region setup.shape (region_of ws)) (given setup rules x before iteration) ws before)
    written)
    ∙ sym (ap (λ kind. turn_by kind setup rules x before iteration) kind) ∙ comes) in
    record { each = both.0; state = both.1 }

-- at each point of the grid, an item that writes everywhere has numbers
pub everywhere_some : (setup : Setup) (rules : List Rule) (x : Item) (w : Touch) (ws : List Touch)
    (before after : State) (iteration : ℕ) (p : Point) → w.region ≡ Everywhere
    → SweptAll setup rules x (w ∷ ws) before after iteration → IsIn (whole setup.shape) p
    → is_some (given setup rules x before iteration p) ≡ true
everywhere_some setup rules x w ws before after iteration p all swept h =
    subst (λ region. (not (in_region setup.shape region p)
    || is_some (given setup rules x before iteration p)) ≡ true) all
    (all-at (whole setup.shape) (λ p. not (in_region setup.shape w.region p)
    || is_some (given setup rules x before iteration p)) p swept.each h)

-- what an item of a routine gives at a point
pub given_by : (setup : Setup) (rules : List Rule) (x : Item) (rule : Rule) (before : State)
    (iteration : ℕ) (p : Point) → rule_at rules x.routine ≡ rule
    → given setup rules x before iteration p
    ≡ if_fit setup x.writes
    (rule (seen_at setup x (values_of setup before)
    (window_point setup.shape (region_of x.writes) p)) (place_at setup x iteration p))
given_by setup rules x rule before iteration p routine =
    ap (λ (r : Rule). if_fit setup x.writes
    (r (seen_at setup x (values_of setup before)
    (window_point setup.shape (region_of x.writes) p)) (place_at setup x iteration p))) routine

-- numbers that fit are those that are left
pub fit_any : (setup : Setup) (ws : List Touch) (ns : List ℤ) (k : ℕ) (old : ℤ)
    → is_some (if_fit setup ws (Some ns)) ≡ true
    → number_or (if_fit setup ws (Some ns)) k old ≡ get_or ns k old
fit_any setup ws ns k old h = by (all_fit setup ws ns) h
  where
    by : (each : Bool) → is_some (if each then Some ns else None) ≡ true
        → number_or (if each then Some ns else None) k old ≡ get_or ns k old
    by true some = refl
    by false some = absurd (false≢true some)

-- a number that fits or not leaves the old one, if it is the same
pub fit_or_old : (setup : Setup) (ws : List Touch) (n old : ℤ) → old ≡ n
    → number_or (if_fit setup ws (Some (n ∷ []))) 0 old ≡ old
fit_or_old setup ws n old same = by (all_fit setup ws (n ∷ []))
  where
    by : (each : Bool) → number_or (if each then Some (n ∷ []) else None) 0 old ≡ old
    by true = sym same
    by false = refl

-- ---- levels

-- a grid variable has as many numbers as the grid has points
pub counted : (setup : Setup) (state : State) (v : VarId) → IsField setup v → IsState setup state
    → length (level_of state v 0) ≡ point_count (whole setup.shape)
counted setup state v is state_is =
    state_is.numbers v 0 is.var is.stored
    ∙ ap (λ (b : Bool). if b then 1 else point_count (whole setup.shape)) is.grid

pub count_of : (setup : Setup) (v : VarId) (f : Point → ℤ) → is_scalar setup v ≡ false
    → length (numbers_in (whole setup.shape) f) ≡ number_count setup (variable setup v)
count_of setup v f grid =
    numbers-count (whole setup.shape) f
    ∙ sym (ap (λ (b : Bool). if b then 1 else point_count (whole setup.shape)) grid)

-- the numbers of a level at all points are the level
pub unchanged : (setup : Setup) (state : State) (v : VarId) (f : Point → ℤ) → IsField setup v
    → IsState setup state
    → ((p : Point) → IsIn (whole setup.shape) p → f p ≡ values_of setup state v 0 p)
    → numbers_in (whole setup.shape) f ≡ level_of state v 0
unchanged setup state v f is state_is same =
    same-numbers setup.shape (numbers_in (whole setup.shape) f) (level_of state v 0)
    (numbers-count (whole setup.shape) f) (counted setup state v is state_is)
    (λ p h. at-numbers setup.shape f p h ∙ same p h ∙ sym (value_at setup state v p is.grid))

-- ---- sums

-- a sum is left in its scalar
pub summed : (setup : Setup) (rules : List Rule) (x : Item) (from to : VarId)
    (before after : State) (iteration : ℕ) → SumsUp x from to
    → turn setup rules x before iteration ≡ Some after
    → after ≡ with_scalar before to (sum_of before from)
summed setup rules x from to before after iteration is comes =
    let n = reduced x.kind (first_read before x.reads) in
    let same : n ≡ sum_of before from =
    ap (λ kind. reduced kind (first_read before x.reads)) is.kind
    ∙ ap (λ rs. reduced Sum (first_read before rs)) is.read in
    by (all_fit setup x.writes (n ∷ []))
    (sym (ap (λ kind. turn_by kind setup rules x before iteration) is.kind) ∙ comes)
    ∙ ap (λ ws. scalars_after ws (n ∷ []) before) is.written
    ∙ ap (λ m. with_scalar before to m) same
  where
    by : (fit : Bool)
        → scalar_turn x before (if fit then Some (reduced x.kind (first_read before x.reads) ∷ [])
        else None) ≡ Some after
        → after
        ≡ scalars_after x.writes (reduced x.kind (first_read before x.reads) ∷ []) before
    by true comes = same comes
      where
        same : {y : State} → Some y ≡ Some after → after ≡ y
        same e = cc
    by false comes = absurd cc
