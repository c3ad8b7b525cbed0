-- What a turn of an item leaves that writes one variable.
use Rattle.std.proofs.Common.{◌≡◌, ℕ, zero, suc, ◌+◌, ◌^◌, ◌<◌, ◌≤◌, inl, inr, refl, sym, ap, ◌∙◌, subst, Bool, true, false, not, ◌||◌, ℤ, pos, negsuc, List, [], ◌∷◌, map, length, get_or, Option, Some, None, is_some, set, nat_lt, arith}
use Rattle.std.specs.Prelude.{if◌then◌else◌}
use Rattle.std.specs.List.{list_all, range_with_len}
use Rattle.std.proofs.lemmas.Bool.{false≢true, and_parts, cases_eq}
use Rattle.std.proofs.lemmas.List.{get_or-set_same}
use Rattle.cx_grid.specs.declared.boxes.Point.{Point}
use Rattle.cx_grid.specs.declared.boxes.Box3.{Box3}
use Rattle.cx_grid.specs.Boxes.{IsIn, point_count, point_in, points_in, index_in}
use Rattle.cx_grid.proofs.Places.{index_below, point_at_index}
use Rattle.cx_grid.specs.Grid.{whole, is_boundary, wrap, at}
use Rattle.cx_plan.specs.declared.variable.VarId.{VarId}
use Rattle.cx_plan.specs.declared.item.Region.{Region}
use Rattle.cx_plan.specs.declared.item.Region.TheVariants.{Interior}
use Rattle.cx_plan.specs.declared.item.Touch.{Touch}
use Rattle.cx_plan.specs.declared.item.Item.{Item}
use Rattle.cx_plan.specs.Setups.{Setup}
use Rattle.cx_plan.specs.Lookups.{is_scalar}
use Rattle.cx_rule.specs.Routine.{Rule}
use Rattle.cx_rule.specs.Single.{one_number}
use Rattle.cx_rule.specs.States.{State, level_of, scalar_of, with_level}
use Rattle.cx_rule.specs.Sweeps.{Values, seen_at, place_at, all_fit, if_fit, in_region, window_point, number_or, level_after, sweep}
use Rattle.cx_plan.specs.Regions.{region_of}
use Rattle.cx_model.specs.States.{IsState}
use Rattle.cx_model.specs.Turns.{values_of, turn, turn_by, swept_at}
use Rattle.cx_thorn_physics.specs.Exact.{in_64_bits}
use Rattle.law_physics.specs.Steps.{touch_of, IsField, Computes}

-- ---- sweeps that come to a state

pub record Swept (box : Box3) (values : Values) (zone : Point → Bool)
    (numbers : Point → Option (List ℤ)) (w : Touch) (before after : State) : Type 0 where
  pub each : list_all (λ p. not (zone p) || is_some (numbers p)) (points_in box) ≡ true
  pub state : after ≡ with_level before w.var w.level
      (level_after box zone numbers 0 (values w.var w.level))

some_of : (box : Box3) (values : Values) (zone : Point → Bool) (numbers : Point → Option (List ℤ))
    (w : Touch) (before after : State) (each : Bool)
    → list_all (λ p. not (zone p) || is_some (numbers p)) (points_in box) ≡ each
    → (if each then Some (with_level before w.var w.level
    (level_after box zone numbers 0 (values w.var w.level))) else None) ≡ Some after
    → Swept box values zone numbers w before after
some_of box values zone numbers w before after true is comes =
    record { each = is; state = same comes }
  where
    same : {x : State} → Some x ≡ Some after → after ≡ x
    same e = cc
some_of box values zone numbers w before after false is comes = absurd cc

-- what an item gives at a point
abbrev pub given : Setup → List Rule → Item → State → ℕ → Point → Option (List ℤ)
given setup rules x before iteration p =
    swept_at setup rules x (values_of setup before) iteration p

pub swept_one : (setup : Setup) (rules : List Rule) (x : Item) (rule : Rule) (reads : List Touch)
    (v : VarId) (region : Region) (before after : State) (iteration : ℕ)
    → Computes rules x rule reads v region → turn setup rules x before iteration ≡ Some after
    → Swept (whole setup.shape) (values_of setup before) (in_region setup.shape region)
    (given setup rules x before iteration) (touch_of v region 0) before after
swept_one setup rules x rule reads v region before after iteration item comes =
    some_of (whole setup.shape) (values_of setup before) (in_region setup.shape region)
    (given setup rules x before iteration) (touch_of v region 0) before after
    (list_all (λ p. not (in_region setup.shape region p)
    || is_some (given setup rules x before iteration p)) (points_in (whole setup.shape))) refl
    (sym (ap (λ ws. sweep (whole setup.shape) (values_of setup before)
    (in_region setup.shape (region_of ws)) (given setup rules x before iteration) ws before)
    item.written)
    ∙ sym (ap (λ kind. turn_by kind setup rules x before iteration) item.kind) ∙ comes)

-- the level that is written
pub level_swept : (setup : Setup) (numbers : Point → Option (List ℤ)) (v : VarId) (region : Region)
    (before after : State) → IsField setup v → IsState setup before
    → Swept (whole setup.shape) (values_of setup before) (in_region setup.shape region) numbers
    (touch_of v region 0) before after
    → level_of after v 0
    ≡ level_after (whole setup.shape) (in_region setup.shape region) numbers 0
    (values_of setup before v 0)
level_swept setup numbers v region before after field is swept =
    let there : v.0 < length before = subst (λ n. v.0 < n) (sym is.vars) field.var in
    let stored : 0 < length (get_or before v.0 []) =
    subst (λ n. 0 < n) (sym (is.levels v field.var)) field.stored in
    let next = level_after (whole setup.shape) (in_region setup.shape region) numbers 0
    (values_of setup before v 0) in
    ap (λ state. level_of state v 0) swept.state
    ∙ ap (λ levels. get_or levels 0 [])
    (get_or-set_same before v.0 (set (get_or before v.0 []) 0 next) [] there)
    ∙ get_or-set_same (get_or before v.0 []) 0 next [] stored

-- ---- numbers that fit

fit_if : (each : Bool) (n old : ℤ) → is_some (if each then Some (n ∷ []) else None) ≡ true
    → number_or (if each then Some (n ∷ []) else None) 0 old ≡ n
fit_if true n old h = refl
fit_if false n old h = absurd (false≢true h)

-- a number that fits its variable's type
pub fit_one : (setup : Setup) (ws : List Touch) (n old : ℤ)
    → is_some (if_fit setup ws (Some (n ∷ []))) ≡ true
    → number_or (if_fit setup ws (Some (n ∷ []))) 0 old ≡ n
fit_one setup ws n old h = fit_if (all_fit setup ws (n ∷ [])) n old h

fit_or : (setup : Setup) (ws : List Touch) (each : Bool) (n old : ℤ)
    → is_some (if_fit setup ws (one_number (if each then Some n else None))) ≡ true
    → number_or (if_fit setup ws (one_number (if each then Some n else None))) 0 old ≡ n
fit_or setup ws true n old h = fit_one setup ws n old h
fit_or setup ws false n old h = absurd (false≢true h)

-- a number of 64 bits that fits its variable's type
pub fit_64 : (setup : Setup) (ws : List Touch) (n old : ℤ)
    → is_some (if_fit setup ws (one_number (in_64_bits n))) ≡ true
    → number_or (if_fit setup ws (one_number (in_64_bits n))) 0 old ≡ n
fit_64 setup ws (pos n) old h = fit_or setup ws (nat_lt n (2 ^ 63)) (pos n) old h
fit_64 setup ws (negsuc n) old h = fit_or setup ws (nat_lt n (2 ^ 63)) (negsuc n) old h

-- ---- values of points that are one

pub value_wrapped : (setup : Setup) (state : State) (v : VarId) (p q : Point)
    → wrap setup.shape p ≡ wrap setup.shape q
    → values_of setup state v 0 p ≡ values_of setup state v 0 q
value_wrapped setup state v p q one =
    ap (λ r. if is_scalar setup v then scalar_of state v
    else get_or (level_of state v 0) (index_in (whole setup.shape) r) (pos 0)) one

-- a field's value is its level's number
pub value_at : (setup : Setup) (state : State) (v : VarId) (p : Point) → is_scalar setup v ≡ false
    → at setup.shape (level_of state v 0) p ≡ values_of setup state v 0 p
value_at setup state v p grid =
    ap (λ b. if b then scalar_of state v else at setup.shape (level_of state v 0) p) (sym grid)

-- a test that all points pass, at one point of the box
tests_at : (h : ℕ → Point) (f : Point → Bool) (from count i : ℕ)
    → list_all f (map h (range_with_len from count)) ≡ true → from ≤ i → i < from + count
    → f (h i) ≡ true
tests_at h f from zero i all low high = absurd (omega (arith, low, high))
tests_at h f from (suc count) i all low high =
    let parts = and_parts (f (h from)) (list_all f (map h (range_with_len (from + 1) count))) all in
    elim (cases_eq i from) [
      | inl same ↦ subst (λ j. f (h j) ≡ true) (sym same) parts.0
      | inr other ↦ tests_at h f (from + 1) count i parts.1 (omega (arith, low, other))
          (omega (arith, high))
    ]

pub passed_at : (b : Box3) (f : Point → Bool) (p : Point) → list_all f (points_in b) ≡ true
    → IsIn b p → f p ≡ true
passed_at b f p all h =
    subst (λ q. f q ≡ true) (point_at_index b p h)
    (tests_at (point_in b) f 0 (point_count b) (index_in b p) all (omega arith)
    (let below = index_below b p h in omega (arith, below)))

-- what an item that writes the interior gives at a point of it
pub given_at : (setup : Setup) (rules : List Rule) (x : Item) (rule : Rule) (reads : List Touch)
    (v : VarId) (before : State) (iteration : ℕ) (p : Point)
    → Computes rules x rule reads v Interior
    → given setup rules x before iteration p
    ≡ if_fit setup x.writes
    (rule (seen_at setup x (values_of setup before) p) (place_at setup x iteration p))
given_at setup rules x rule reads v before iteration p item =
    ap (λ r. if_fit setup x.writes
    (r (seen_at setup x (values_of setup before)
    (window_point setup.shape (region_of x.writes) p)) (place_at setup x iteration p))) item.routine
    ∙ ap (λ ws. if_fit setup x.writes
    (rule (seen_at setup x (values_of setup before) (window_point setup.shape (region_of ws) p))
    (place_at setup x iteration p))) item.written

where_here : (here some : Bool) → here ≡ true → (not here || some) ≡ true → some ≡ true
where_here true some e h = h
where_here false some e h = absurd (false≢true e)

-- at an interior point of a sweep there are numbers
pub gives_at : (setup : Setup) (numbers : Point → Option (List ℤ)) (v : VarId)
    (before after : State) (p : Point)
    → Swept (whole setup.shape) (values_of setup before) (in_region setup.shape Interior) numbers
    (touch_of v Interior 0) before after
    → IsIn (whole setup.shape) p → is_boundary setup.shape p ≡ false
    → is_some (numbers p) ≡ true
gives_at setup numbers v before after p swept h inner =
    where_here (not (is_boundary setup.shape p)) (is_some (numbers p)) (ap not inner)
    (passed_at (whole setup.shape)
    (λ p. not (in_region setup.shape Interior p) || is_some (numbers p)) p swept.each h)
