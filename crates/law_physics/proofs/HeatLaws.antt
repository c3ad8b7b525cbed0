-- The sum of the heat stays.
use Rattle.std.proofs.Common.{◌≡◌, ℕ, zero, suc, ◌*◌, ◌/◌, ◌<◌, arith, refl, sym, ap, ◌∙◌, subst, Bool, true, false, not, ◌&&◌, ℤ, pos, negsuc, neg_ℤ, ◌+ℤ◌, ◌-ℤ◌, ◌*ℤ◌, List, [], ◌∷◌, Option, is_some, nat_lt}
use Rattle.std.specs.Prelude.{if◌then◌else◌, int_div, slice_index_or}
use Rattle.std.proofs.lemmas.Int.{ints}
use Rattle.std.proofs.lemmas.Bool.{ltb-true}
use Rattle.std.proofs.Math.IntN.{*ℤ-negsuc, neg_ℤ-neg_ℤ}
use Rattle.cx_grid.specs.declared.boxes.Point.{Point}
use Rattle.cx_grid.specs.declared.shapes.Shape.{Shape}
use Rattle.cx_grid.specs.Boxes.{IsIn, along, shifted, point_count}
use Rattle.cx_grid.specs.Grid.{IsShape, whole, is_periodic, is_boundary, wrap, at}
use Rattle.cx_grid.proofs.Places.{same_point}
use Rattle.cx_plan.specs.declared.variable.VarId.{VarId}
use Rattle.cx_plan.specs.declared.item.Region.TheVariants.{Everywhere, Interior}
use Rattle.cx_plan.specs.declared.item.ItemKind.TheVariants.{Sum}
use Rattle.cx_plan.specs.declared.item.Item.{Item}
use Rattle.cx_plan.specs.Setups.{Setup}
use Rattle.cx_rule.specs.Routine.{Rule}
use Rattle.cx_rule.specs.Seen.{value_of}
use Rattle.cx_rule.specs.Single.{here, one_number}
use Rattle.cx_rule.specs.States.{State, level_of}
use Rattle.cx_rule.specs.Sweeps.{place_at, if_fit, number_or, in_region}
use Rattle.cx_model.specs.States.{IsState}
use Rattle.cx_model.specs.Turns.{values_of, reduced}
use Rattle.cx_thorn_physics.specs.Exact.{in_64_bits}
use Rattle.cx_thorn_physics.specs.declared.flow.Spot.{Spot}
use Rattle.cx_thorn_physics.specs.Flux.{flow, flow_between, gains, heatflux_step_rule, is_passable}
use Rattle.cx_thorn_physics.specs.Offsets.{step}
use Rattle.law_physics.specs.Steps.{touch_of, IsField, HasGhosts, sum_of}
use Rattle.law_physics.specs.Heat.{IsHeatStep, IsClosed, HeatIsKept}
use Rattle.law_physics.proofs.GridTotals.{point_of, grid_total, grid_same, grid_plus, grid_less, grid_none, on_grid, sum_of_numbers, sum_of_level}
use Rattle.law_physics.proofs.Rings.{Follows, Direction, direction_x, direction_y, direction_z, there_and_back, wrap_beside}
use Rattle.law_physics.proofs.Turns.{Swept, given, swept_one, level_swept, fit_64, value_wrapped, value_at, given_at, gives_at}
use Rattle.law_physics.proofs.Seen.{shows, two_seen, spot_by, gain_in, heat_seen, gains_seen}

-- ---- no flow where a mask is 0

and_false : (b : Bool) → (b && false) ≡ false
and_false true = refl
and_false false = refl

none_from : (factor : ℤ) (a b : Spot) → a.mask ≡ pos 0 → flow_between factor a b ≡ pos 0
none_from factor a b none =
    ap (λ m. if is_passable m && is_passable b.mask then flow factor a.heat b.heat else pos 0) none

none_to : (factor : ℤ) (a b : Spot) → b.mask ≡ pos 0 → flow_between factor a b ≡ pos 0
none_to factor a b none =
    ap (λ m. if is_passable a.mask && is_passable m then flow factor a.heat b.heat else pos 0) none
    ∙ ap (λ (c : Bool). if c then flow factor a.heat b.heat else pos 0)
    (and_false (is_passable a.mask))

-- ---- flows over the grid

-- heat and mask as functions of points, which a periodic grid takes for one another
pub record Fields (s : Shape) (heat mask : Point → ℤ) : Type 0 where
  pub shape : IsShape s
  pub ghosts : HasGhosts s
  pub spots : (p q : Point) → wrap s p ≡ wrap s q
      → spot_by heat mask p ≡ spot_by heat mask q
  pub closed : (p : Point) → IsIn (whole s) p → is_boundary s p ≡ true → mask p ≡ pos 0

-- the flow from a point to its next neighbour along a direction
abbrev flow_up : (factor : ℤ) (heat mask : Point → ℤ) → ℕ → Point → ℤ
flow_up factor heat mask d p =
    flow_between factor (spot_by heat mask p) (spot_by heat mask (shifted p (step d (pos 1))))

-- what a point gains along a direction
abbrev gain_up : (factor : ℤ) (heat mask : Point → ℤ) → ℕ → Point → ℤ
gain_up factor heat mask d p =
    flow_up factor heat mask d (shifted p (step d (negsuc 0))) -ℤ flow_up factor heat mask d p

abbrev gain_up_if : (dims : ℕ) (factor : ℤ) (heat mask : Point → ℤ) → ℕ → Point → ℤ
gain_up_if dims factor heat mask d p =
    if nat_lt d dims then gain_up factor heat mask d p else pos 0

keeps : (a : ℤ) → a +ℤ pos 0 ≡ a
keeps a = omega (arith, ints)

at_here : (p : Point) → shifted p here ≡ p
at_here p = same_point (keeps p.x) (keeps p.y) (keeps p.z)

-- the gain that a window shows
gain_shown : (dims : ℕ) (factor : ℤ) (heat mask : Point → ℤ) (d : ℕ) (p : Point)
    → gain_in dims factor (λ o. heat (shifted p o)) (λ o. mask (shifted p o)) d
    ≡ gain_up_if dims factor heat mask d p
gain_shown dims factor heat mask d p =
    ap (λ a. if nat_lt d dims then a else pos 0)
    (ap (λ q. flow_between factor (spot_by heat mask (shifted p (step d (negsuc 0))))
    (spot_by heat mask q)
    -ℤ flow_between factor (spot_by heat mask q)
    (spot_by heat mask (shifted p (step d (pos 1))))) (at_here p)
    ∙ ap (λ q. flow_between factor (spot_by heat mask (shifted p (step d (negsuc 0))))
    (spot_by heat mask q) -ℤ flow_up factor heat mask d p)
    (sym (there_and_back p d (negsuc 0))))

-- no flow from a point whose mask is 0, and none to it
none_up : (factor : ℤ) (heat mask : Point → ℤ) (d : ℕ) (p : Point) → mask p ≡ pos 0
    → flow_up factor heat mask d p ≡ pos 0
none_up factor heat mask d p none =
    none_from factor (spot_by heat mask p) (spot_by heat mask (shifted p (step d (pos 1)))) none

none_down : (factor : ℤ) (heat mask : Point → ℤ) (d : ℕ) (p : Point) → mask p ≡ pos 0
    → flow_up factor heat mask d (shifted p (step d (negsuc 0))) ≡ pos 0
none_down factor heat mask d p none =
    none_to factor (spot_by heat mask (shifted p (step d (negsuc 0))))
    (spot_by heat mask (shifted (shifted p (step d (negsuc 0))) (step d (pos 1))))
    (ap mask (there_and_back p d (negsuc 0)) ∙ none)

no_gain : (dims : ℕ) (factor : ℤ) (heat mask : Point → ℤ) (d : ℕ) (p : Point) → mask p ≡ pos 0
    → gain_up_if dims factor heat mask d p ≡ pos 0
no_gain dims factor heat mask d p none =
    ap (λ a. if nat_lt d dims then a else pos 0)
    (ap (λ a. a -ℤ flow_up factor heat mask d p) (none_down factor heat mask d p none)
    ∙ ap (λ a. pos 0 -ℤ a) (none_up factor heat mask d p none))
    ∙ either (nat_lt d dims)
  where
    either : (b : Bool) → (if b then pos 0 else pos 0) ≡ pos 0
    either true = refl
    either false = refl

-- the flow up follows from points that are one
flow_wrapped : (s : Shape) (factor : ℤ) (heat mask : Point → ℤ) (d : ℕ) (p q : Point)
    → Fields s heat mask → wrap s p ≡ wrap s q
    → flow_up factor heat mask d p ≡ flow_up factor heat mask d q
flow_wrapped s factor heat mask d p q fields one =
    ap (λ a. flow_between factor a (spot_by heat mask (shifted p (step d (pos 1)))))
    (fields.spots p q one)
    ∙ ap (λ a. flow_between factor (spot_by heat mask q) a)
    (fields.spots (shifted p (step d (pos 1))) (shifted q (step d (pos 1)))
    (wrap_beside s p q (step d (pos 1)) fields.shape one))

-- the flows into the points are those out of the points before them
follows : (s : Shape) (factor : ℤ) (heat mask : Point → ℤ) (d : ℕ) → d < s.dims
    → Fields s heat mask → Direction s d
    → Follows s d (λ p. flow_up factor heat mask d (shifted p (step d (negsuc 0))))
    (flow_up factor heat mask d)
follows s factor heat mask d has fields direction =
    record {
      next = λ p h. ap (flow_up factor heat mask d) (there_and_back p d (pos 1));
      first = λ p h none. by (is_periodic s d) refl p h none;
    }
  where
    by : (b : Bool) → is_periodic s d ≡ b → (p : Point) → IsIn (whole s) p → along p d ≡ pos 0
        → flow_up factor heat mask d (shifted p (step d (negsuc 0)))
        ≡ flow_up factor heat mask d (shifted p (step d (along s.n d -ℤ pos 1)))
    by true round p h none =
        flow_wrapped s factor heat mask d (shifted p (step d (negsuc 0)))
        (shifted p (step d (along s.n d -ℤ pos 1))) fields (sym (direction.round p round))
    by false flat p h none =
        let some = fields.ghosts d has in
        none_down factor heat mask d p (fields.closed p h (direction.first p flat some none))
        ∙ sym (none_up factor heat mask d (shifted p (step d (along s.n d -ℤ pos 1)))
        (fields.closed (shifted p (step d (along s.n d -ℤ pos 1)))
        (direction.last_in p h none) (direction.last p flat some none)))

same_less : (a b : ℤ) → a ≡ b → a -ℤ b ≡ pos 0
same_less a b e = omega (arith, ints, e)

-- along each direction the gains come to nothing
no_gains : (s : Shape) (factor : ℤ) (heat mask : Point → ℤ) (d : ℕ) → Fields s heat mask
    → Direction s d → grid_total s (gain_up_if s.dims factor heat mask d) ≡ pos 0
no_gains s factor heat mask d fields direction = by (nat_lt d s.dims) refl
  where
    by : (b : Bool) → nat_lt d s.dims ≡ b
        → grid_total s (gain_up_if s.dims factor heat mask d) ≡ pos 0
    by true has =
        ap (λ (b : Bool). grid_total s (λ p. if b then gain_up factor heat mask d p else pos 0)) has
        ∙ grid_less s (λ p. flow_up factor heat mask d (shifted p (step d (negsuc 0))))
        (flow_up factor heat mask d)
        ∙ same_less _ _
        (direction.turned (λ p. flow_up factor heat mask d (shifted p (step d (negsuc 0))))
        (flow_up factor heat mask d)
        (follows s factor heat mask d (ltb-true d s.dims has) fields direction))
    by false lacks =
        ap (λ (b : Bool). grid_total s (λ p. if b then gain_up factor heat mask d p else pos 0))
        lacks
        ∙ grid_none s

-- what a point gains from all sides
abbrev all_gains : (s : Shape) (factor : ℤ) (heat mask : Point → ℤ) → Point → ℤ
all_gains s factor heat mask p =
    gain_up_if s.dims factor heat mask 0 p +ℤ gain_up_if s.dims factor heat mask 1 p
    +ℤ gain_up_if s.dims factor heat mask 2 p

three_none : (a b c : ℤ) → a ≡ pos 0 → b ≡ pos 0 → c ≡ pos 0 → a +ℤ b +ℤ c ≡ pos 0
three_none a b c p q r = rw (p, q, r) refl

all_none : (s : Shape) (factor : ℤ) (heat mask : Point → ℤ) → Fields s heat mask
    → grid_total s (all_gains s factor heat mask) ≡ pos 0
all_none s factor heat mask fields =
    grid_plus s
    (λ p. gain_up_if s.dims factor heat mask 0 p +ℤ gain_up_if s.dims factor heat mask 1 p)
    (gain_up_if s.dims factor heat mask 2)
    ∙ ap (λ a. a +ℤ grid_total s (gain_up_if s.dims factor heat mask 2))
    (grid_plus s (gain_up_if s.dims factor heat mask 0) (gain_up_if s.dims factor heat mask 1))
    ∙ three_none _ _ _
    (no_gains s factor heat mask 0 fields (direction_x s fields.shape))
    (no_gains s factor heat mask 1 fields (direction_y s fields.shape))
    (no_gains s factor heat mask 2 fields (direction_z s fields.shape))

-- ---- a step

three_same : (a b c d e f g h : ℤ) → a ≡ b → c ≡ d → e ≡ f → g ≡ h
    → a +ℤ (c +ℤ e +ℤ g) ≡ b +ℤ (d +ℤ f +ℤ h)
three_same a b c d e f g h p q r t = rw (p, q, r, t) refl

-- the number that a step gives at a point
abbrev heat_number : (dims : ℕ) (factor : ℤ) (heat mask : Point → ℤ) → Point → ℤ
heat_number dims factor heat mask p =
    value_of (shows dims ((λ o. heat (shifted p o)) ∷ (λ o. mask (shifted p o)) ∷ [])) 0 here
    +ℤ gains (shows dims ((λ o. heat (shifted p o)) ∷ (λ o. mask (shifted p o)) ∷ [])) factor

next_is : (s : Shape) (factor : ℤ) (heat mask : Point → ℤ) (p : Point) → IsShape s
    → heat_number s.dims factor heat mask p
    ≡ heat p +ℤ all_gains s factor heat mask p
next_is s factor heat mask p shape =
    ap (λ a. a +ℤ gains
    (shows s.dims ((λ o. heat (shifted p o)) ∷ (λ o. mask (shifted p o)) ∷ [])) factor)
    (heat_seen s.dims (λ o. heat (shifted p o)) (λ o. mask (shifted p o)) shape.some shape.most)
    ∙ ap (λ a. heat (shifted p here) +ℤ a)
    (gains_seen s.dims factor (λ o. heat (shifted p o)) (λ o. mask (shifted p o))
    shape.some shape.most)
    ∙ three_same _ _ _ _ _ _ _ _ (ap heat (at_here p))
    (gain_shown s.dims factor heat mask 0 p) (gain_shown s.dims factor heat mask 1 p)
    (gain_shown s.dims factor heat mask 2 p)

plus_none : (a b : ℤ) → b ≡ pos 0 → a ≡ a +ℤ b
plus_none a b none = omega (arith, ints, none)

-- a step's factor
abbrev factor_of : Item → ℤ
factor_of x = slice_index_or x.params 0 (pos 0)

-- a variable's numbers at points
abbrev field : Setup → State → VarId → Point → ℤ
field setup state v p = values_of setup state v 0 p

-- the number that a sweep of the interior leaves at a point
abbrev next_at : Setup → (Point → Option (List ℤ)) → (Point → ℤ) → Point → ℤ
next_at setup numbers old p =
    if in_region setup.shape Interior p then number_or (numbers p) 0 (old p) else old p

-- what a step of the heat gives at an interior point
abbrev step_gives : Setup → Item → State → (u mask : VarId) → Point → Option (List ℤ)
step_gives setup x before u mask p =
    if_fit setup x.writes
    (one_number (in_64_bits
    (heat_number setup.shape.dims (factor_of x) (field setup before u) (field setup before mask)
    p)))

gives_heat : (setup : Setup) (rules : List Rule) (x : Item) (u mask : VarId) (before : State)
    (iteration : ℕ) (p : Point) → IsHeatStep setup rules x u mask
    → given setup rules x before iteration p ≡ step_gives setup x before u mask p
gives_heat setup rules x u mask before iteration p is =
    given_at setup rules x heatflux_step_rule
    (touch_of u Everywhere 1 ∷ touch_of mask Everywhere 1 ∷ []) u before iteration p is.item
    ∙ ap (λ w. if_fit setup x.writes (heatflux_step_rule w (place_at setup x iteration p)))
    (two_seen setup x (values_of setup before) p u mask is.item.read)

-- a step's number at a point of the grid
heat_next : (setup : Setup) (rules : List Rule) (x : Item) (u mask : VarId) (before after : State)
    (iteration : ℕ) (p : Point)
    → Fields setup.shape (field setup before u) (field setup before mask)
    → IsHeatStep setup rules x u mask
    → Swept (whole setup.shape) (values_of setup before) (in_region setup.shape Interior)
    (given setup rules x before iteration) (touch_of u Interior 0) before after
    → IsIn (whole setup.shape) p
    → next_at setup (given setup rules x before iteration) (field setup before u) p
    ≡ field setup before u p
    +ℤ all_gains setup.shape (factor_of x) (field setup before u) (field setup before mask) p
heat_next setup rules x u mask before after iteration p fields is swept h =
    by (is_boundary setup.shape p) refl
  where
    by : (b : Bool) → is_boundary setup.shape p ≡ b
        → next_at setup (given setup rules x before iteration) (field setup before u) p
        ≡ field setup before u p
        +ℤ all_gains setup.shape (factor_of x) (field setup before u) (field setup before mask) p
    by true edge =
        ap (λ (b : Bool). if not b then number_or (given setup rules x before iteration p) 0
        (field setup before u p) else field setup before u p) edge
        ∙ plus_none (field setup before u p) _
        (three_none _ _ _
        (no_gain setup.shape.dims (factor_of x) (field setup before u) (field setup before mask)
        0 p (fields.closed p h edge))
        (no_gain setup.shape.dims (factor_of x) (field setup before u) (field setup before mask)
        1 p (fields.closed p h edge))
        (no_gain setup.shape.dims (factor_of x) (field setup before u) (field setup before mask)
        2 p (fields.closed p h edge)))
    by false inner =
        let gives = gives_heat setup rules x u mask before iteration p is in
        let some = subst (λ ns. is_some ns ≡ true) gives
        (gives_at setup (given setup rules x before iteration) u before after p swept h inner) in
        ap (λ (b : Bool). if not b then number_or (given setup rules x before iteration p) 0
        (field setup before u p) else field setup before u p) inner
        ∙ ap (λ ns. number_or ns 0 (field setup before u p)) gives
        ∙ fit_64 setup x.writes
        (heat_number setup.shape.dims (factor_of x) (field setup before u)
        (field setup before mask) p) (field setup before u p) some
        ∙ next_is setup.shape (factor_of x) (field setup before u) (field setup before mask) p
        fields.shape

fields_of : (setup : Setup) (state : State) (u mask : VarId) → IsShape setup.shape
    → HasGhosts setup.shape → IsClosed setup state mask
    → Fields setup.shape (field setup state u) (field setup state mask)
fields_of setup state u mask shape ghosts closed =
    record {
      shape = shape;
      ghosts = ghosts;
      spots = λ p q one i.
          record {
            mask = value_wrapped setup state mask p q one i;
            heat = value_wrapped setup state u p q one i;
          };
      closed = closed;
    }

-- a field's sum is that of its numbers at all points
pub sum_of_field : (setup : Setup) (state : State) (v : VarId) → IsShape setup.shape
    → IsField setup v → IsState setup state
    → sum_of state v ≡ grid_total setup.shape (λ p. values_of setup state v 0 p)
sum_of_field setup state v shape is state_is =
    sum_of_level setup.shape (level_of state v 0) shape
    (state_is.numbers v 0 is.var is.stored
    ∙ ap (λ (b : Bool). if b then 1 else point_count (whole setup.shape)) is.grid)
    ∙ grid_same setup.shape (at setup.shape (level_of state v 0)) (field setup state v)
    (λ a b c on. value_at setup state v (point_of a b c) is.grid)

pub heat_kept : (setup : Setup) (rules : List Rule) → IsShape setup.shape → HasGhosts setup.shape
    → HeatIsKept setup rules
heat_kept setup rules shape ghosts x u mask before after iteration is state closed comes =
    let fields = fields_of setup before u mask shape ghosts closed in
    let swept = swept_one setup rules x heatflux_step_rule
    (touch_of u Everywhere 1 ∷ touch_of mask Everywhere 1 ∷ []) u Interior before after iteration
    is.item comes in
    let next = next_at setup (given setup rules x before iteration) (field setup before u) in
    let gained = all_gains setup.shape (factor_of x) (field setup before u)
    (field setup before mask) in
    ap (reduced Sum)
    (level_swept setup (given setup rules x before iteration) u Interior before after is.heat state
    swept)
    ∙ sum_of_numbers setup.shape next
    ∙ grid_same setup.shape next (λ p. field setup before u p +ℤ gained p)
    (λ a b c on.
    heat_next setup rules x u mask before after iteration (point_of a b c) fields is swept
    (on_grid setup.shape a b c shape on))
    ∙ grid_plus setup.shape (field setup before u) gained
    ∙ sym (plus_none (grid_total setup.shape (field setup before u)) _
    (all_none setup.shape (factor_of x) (field setup before u) (field setup before mask) fields))
    ∙ sym (sum_of_field setup before u shape is.heat state)

-- ---- flows

negated : (z : ℤ) → int_div (neg_ℤ z) (pos 256) ≡ neg_ℤ (int_div z (pos 256))
negated (pos zero) = refl
negated (pos (suc n)) = refl
negated (negsuc n) = sym (neg_ℤ-neg_ℤ (pos (suc n / 256)))

-- a product with the other sign
less_than_none : (a : ℤ) → a *ℤ pos 0 ≡ pos 0
less_than_none (pos n) =
    let e : n * 0 ≡ 0 = omega arith in
    ap pos e
less_than_none (negsuc n) =
    let e : suc n * 0 ≡ 0 = omega arith in
    ap (λ k. neg_ℤ (pos k)) e

times : (a b : ℤ) → a *ℤ neg_ℤ b ≡ neg_ℤ (a *ℤ b)
times a (pos zero) =
    less_than_none a ∙ sym (ap neg_ℤ (less_than_none a))
times a (pos (suc n)) = *ℤ-negsuc a n
times a (negsuc n) =
    sym (neg_ℤ-neg_ℤ (a *ℤ pos (suc n))) ∙ sym (ap neg_ℤ (*ℤ-negsuc a n))

exchanged : (factor a b : ℤ) → factor *ℤ (a -ℤ b) ≡ neg_ℤ (factor *ℤ (b -ℤ a))
exchanged factor a b =
    let e : a -ℤ b ≡ neg_ℤ (b -ℤ a) = omega (arith, ints) in
    ap (λ d. factor *ℤ d) e ∙ times factor (b -ℤ a)

pub opposite : (factor from to : ℤ) → flow factor from to ≡ neg_ℤ (flow factor to from)
opposite factor from to =
    ap (λ n. int_div n (pos 256)) (exchanged factor from to) ∙ negated (factor *ℤ (to -ℤ from))
