-- What a rule sees and gives depends on the values that its window shows alone.
use Rattle.std.proofs.Common.{◌≡◌, ℕ, suc, ◌+◌, arith, refl, ap, ◌∙◌, ℤ, pos, List, [], ◌∷◌, ◌++◌, map, get_or, cond}
use Rattle.std.specs.Prelude.{All}
use Rattle.std.specs.List.{flat_map}
use Rattle.std.proofs.lemmas.List.FromFn.{fill_by_all, length-map-range_with_len, get_or-map-range_with_len}
use Rattle.cx_grid.specs.declared.boxes.Point.{Point}
use Rattle.cx_grid.specs.declared.boxes.Box3.{Box3}
use Rattle.cx_grid.specs.declared.shapes.Shape.{Shape}
use Rattle.cx_grid.specs.Boxes.{IsIn, point_count, point_in, index_in, numbers_in, shifted}
use Rattle.cx_grid.specs.Grid.{IsShape, wrap, whole}
use Rattle.cx_grid.specs.Windows.{reach_box}
use Rattle.cx_grid.proofs.Places.{point_inside, index_below, point_at_index}
use Rattle.cx_plan.specs.declared.variable.VarId.{VarId}
use Rattle.cx_plan.specs.declared.item.Region.{Region}
use Rattle.cx_plan.specs.declared.item.Region.TheVariants.{Interior, Boundary, Everywhere}
use Rattle.cx_plan.specs.declared.item.Touch.{Touch}
use Rattle.cx_plan.specs.declared.item.Item.{Item}
use Rattle.cx_plan.specs.Setups.{Setup}
use Rattle.cx_plan.specs.Lookups.{is_scalar}
use Rattle.cx_plan.specs.Regions.{region_of}
use Rattle.cx_rule.specs.Routine.{Rule, rule_at}
use Rattle.cx_model.specs.States.{State, level_of, scalar_of}
use Rattle.cx_model.specs.Turns.{Values, values_of, values_around, reach_of, seen_at, place_at, if_fit, numbers_at, window_point, swept_at}
use Rattle.cx_grid.proofs.WrapLaws.{wrap_twice, wrap_shifted, source_wrapped}

pub numbers_same : (b : Box3) (f g : Point → ℤ) → ((p : Point) → IsIn b p → f p ≡ g p)
    → numbers_in b f ≡ numbers_in b g
numbers_same b f g same =
    fill_by_all (λ i. g (point_in b i)) (numbers_in b f) (point_count b) (pos 0)
    (length-map-range_with_len (λ i. f (point_in b i)) 0 (point_count b))
    (λ i l. get_or-map-range_with_len (λ m. f (point_in b m)) 0 (point_count b) i i (pos 0) l
    (omega arith) ∙ same (point_in b i) (point_inside b i l))

pub at_numbers : (b : Box3) (f : Point → ℤ) (p : Point) → IsIn b p
    → get_or (numbers_in b f) (index_in b p) (pos 0) ≡ f p
at_numbers b f p h =
    let z : 0 + index_in b p ≡ index_in b p = omega arith in
    get_or-map-range_with_len (λ i. f (point_in b i)) 0 (point_count b) (index_in b p)
    (index_in b p) (pos 0) (index_below b p h) z
    ∙ ap f (point_at_index b p h)

-- a read shows the same at two points
abbrev pub ShowsSame : Setup → Values → Values → Point → Point → Touch → Type 0
ShowsSame setup f g p q r = (o : Point) → IsIn (reach_box setup.shape.dims r.reach) o
    → f r.var r.level (shifted p o) ≡ g r.var r.level (shifted q o)

around_same : (setup : Setup) (f g : Values) (p q : Point) (rs : List Touch)
    → All (ShowsSame setup f g p q) rs
    → flat_map (values_around setup f p) rs ≡ flat_map (values_around setup g q) rs
around_same setup f g p q [] h = refl
around_same setup f g p q (r ∷ rs) h =
    ap (λ xs. xs ++ flat_map (values_around setup f p) rs)
    (numbers_same (reach_box setup.shape.dims r.reach) (λ o. f r.var r.level (shifted p o))
    (λ o. g r.var r.level (shifted q o)) (h 0 r (omega arith)))
    ∙ ap (λ xs. values_around setup g q r ++ xs)
    (around_same setup f g p q rs (λ k d l. h (suc k) d (omega arith)))

pub seen_same : (setup : Setup) (x : Item) (f g : Values) (p q : Point)
    → All (ShowsSame setup f g p q) x.reads → seen_at setup x f p ≡ seen_at setup x g q
seen_same setup x f g p q h =
    ap (λ (values : List ℤ).
    record { dims = setup.shape.dims; reaches = map reach_of x.reads; values = values })
    (around_same setup f g p q x.reads h)

pub numbers_at_same : (setup : Setup) (rules : List Rule) (x : Item) (f g : Values) (iteration : ℕ)
    (from to p : Point) → All (ShowsSame setup f g from to) x.reads
    → numbers_at setup rules x f iteration from p ≡ numbers_at setup rules x g iteration to p
numbers_at_same setup rules x f g iteration from to p h =
    ap (λ s. if_fit setup x.writes (rule_at rules x.routine s (place_at setup x iteration p)))
    (seen_same setup x f g from to h)

pub swept_same : (setup : Setup) (rules : List Rule) (x : Item) (f g : Values) (iteration : ℕ)
    (p : Point)
    → All (ShowsSame setup f g (window_point setup.shape (region_of x.writes) p)
    (window_point setup.shape (region_of x.writes) p)) x.reads
    → swept_at setup rules x f iteration p ≡ swept_at setup rules x g iteration p
swept_same setup rules x f g iteration p h =
    numbers_at_same setup rules x f g iteration (window_point setup.shape (region_of x.writes) p)
    (window_point setup.shape (region_of x.writes) p) p h

-- ---- the undivided values at a point and at the one that it names

pub values_wrapped : (setup : Setup) (state : State) (v : VarId) (level : ℕ) (p q : Point)
    → wrap setup.shape p ≡ wrap setup.shape q
    → values_of setup state v level p ≡ values_of setup state v level q
values_wrapped setup state v level p q e =
    ap (λ w. cond (is_scalar setup v) (scalar_of state v)
    (get_or (level_of state v level) (index_in (whole setup.shape) w) (pos 0))) e

window_wrapped : (s : Shape) (region : Region) (p : Point)
    → window_point s region (wrap s p) ≡ wrap s (window_point s region p)
window_wrapped s Interior p = refl
window_wrapped s Boundary p = source_wrapped s p
window_wrapped s Everywhere p = refl

all_of : {A : Type 0} (P : A → Type 0) → ((a : A) → P a) → (xs : List A) → All P xs
all_of P h xs = λ k d l. h (get_or xs k d)

pub swept_wrapped : (setup : Setup) (rules : List Rule) (x : Item) (state : State) (iteration : ℕ)
    (p : Point) → IsShape setup.shape
    → swept_at setup rules x (values_of setup state) iteration (wrap setup.shape p)
    ≡ swept_at setup rules x (values_of setup state) iteration p
swept_wrapped setup rules x state iteration p h =
    let q = window_point setup.shape (region_of x.writes) p in
    numbers_at_same setup rules x (values_of setup state) (values_of setup state) iteration
    (window_point setup.shape (region_of x.writes) (wrap setup.shape p)) q (wrap setup.shape p)
    (all_of (ShowsSame setup (values_of setup state) (values_of setup state)
    (window_point setup.shape (region_of x.writes) (wrap setup.shape p)) q)
    (λ r o i. values_wrapped setup state r.var r.level
    (shifted (window_point setup.shape (region_of x.writes) (wrap setup.shape p)) o)
    (shifted q o)
    (ap (λ w. wrap setup.shape (shifted w o)) (window_wrapped setup.shape (region_of x.writes) p)
    ∙ wrap_shifted setup.shape q o h)) x.reads)
    ∙ ap (λ w. if_fit setup x.writes
    (rule_at rules x.routine (seen_at setup x (values_of setup state) q)
    (record { at = w; shape = setup.shape; iteration = iteration; params = x.params })))
    (wrap_twice setup.shape p h)
