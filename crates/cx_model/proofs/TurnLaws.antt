-- Turns from states that agree.
use Rattle.std.proofs.Common.{◌≡◌, ℕ, Bool, true, false, not, ◌&&◌, ◌||◌, ◌==◌, cond, arith, refl, sym, ap, subst, ◌∙◌, inl, inr, ℤ, List, [], ◌∷◌, ◌++◌, map, get_or, Option, Some, None, is_some, if◌then◌else◌}
use Rattle.std.specs.List.{All, list_all, flat_map}
use Rattle.std.proofs.lemmas.Bool.{and_parts, eqb-true, false≢true}
use Rattle.std.proofs.lemmas.List.Elements.{All-nil, All-cons, All-head, All-tail}
use Rattle.std.proofs.lemmas.List.Folds.{list_any_at}
use Rattle.std.proofs.lemmas.List.FromFn.{length-map-range_with_len, get_or-map-range_with_len}
use Rattle.cx_grid.specs.declared.boxes.Point.{Point}
use Rattle.cx_grid.specs.Boxes.{IsIn, point_count, point_in, points_in, index_in, shifted}
use Rattle.cx_grid.specs.Grid.{IsShape, HasInterior, whole, is_boundary, source, wrap, at}
use Rattle.cx_grid.specs.Windows.{reach_box}
use Rattle.cx_grid.proofs.Places.{index_below, point_at_index}
use Rattle.cx_grid.proofs.Interior.{interior, inside}
use Rattle.cx_plan.specs.declared.item.Region.{Region}
use Rattle.cx_plan.specs.declared.item.Region.TheVariants.{Interior, Boundary, Everywhere}
use Rattle.cx_plan.specs.declared.item.Touch.{Touch}
use Rattle.cx_plan.specs.declared.item.Item.{Item}
use Rattle.cx_plan.specs.declared.flag.Flag.{Flag}
use Rattle.cx_plan.specs.declared.flag.Flag.TheVariants.{I, B, G, S}
use Rattle.cx_plan.specs.Setups.{Setup}
use Rattle.cx_plan.specs.Lookups.{is_scalar}
use Rattle.cx_plan.specs.Regions.{Flags, Need, has_boundary, within_ghosts, cell_needs, region_of, grid_needs, read_needs, are_distinct, is_some_list, kinds_agree, has_shape, flags_or_none, needs_of_read, is_met, is_B}
use Rattle.cx_rule.specs.Routine.{Rule, rule_at}
use Rattle.cx_rule.specs.States.{State, level_of, scalar_of}
use Rattle.cx_rule.specs.Sweeps.{Values, values_around, reach_of, place_at, if_fit, in_region, window_point}
use Rattle.cx_model.specs.Turns.{values_of, numbers_at}
use Rattle.cx_model.specs.Agreement.{IsWindowTold, Agree, Met, is_told}
use Rattle.cx_model.proofs.ListLaws.{all-left, all-right}
use Rattle.cx_model.proofs.PointLaws.{wrap-own, at-wrapped, numbers-same}
use Rattle.cx_model.proofs.NearLaws.{near, shifted-still}

-- ---- lists

pub all-tested : {X : Type 0} (f : X → Bool) (xs : List X) → list_all f xs ≡ true
    → All (λ x. f x ≡ true) xs
all-tested f [] each = All-nil (λ x. f x ≡ true)
all-tested f (x ∷ xs) each = let parts = and_parts (f x) (list_all f xs) each in
    All-cons (λ x. f x ≡ true) x xs parts.0 (all-tested f xs parts.1)

-- ---- what met needs tell

-- a boundary point is told by B, also where the grid counts as having none
told-boundary : (setup : Setup) (flags : Flags) (need : Need) (p : Point)
    → IsIn (whole setup.shape) p → is_boundary setup.shape p ≡ true → need.flag ≡ B
    → is_met setup flags need ≡ true → flags need.var need.level B ≡ true
told-boundary setup flags need p h boundary is met =
    by (flags need.var need.level B) (sym (rw (is, some) refl) ∙ met)
  where
    count : ℕ
    count = point_count (whole setup.shape)

    place : get_or (points_in (whole setup.shape)) (index_in (whole setup.shape) p) p ≡ p
    place =
        get_or-map-range_with_len (point_in (whole setup.shape)) 0 count
        (index_in (whole setup.shape) p) (index_in (whole setup.shape) p) p
        (index_below (whole setup.shape) p h) (omega arith)
        ∙ point_at_index (whole setup.shape) p h

    some : has_boundary setup.shape ≡ true
    some =
        let length_is = length-map-range_with_len (point_in (whole setup.shape)) 0 count in
        let below = index_below (whole setup.shape) p h in
        list_any_at (is_boundary setup.shape) (points_in (whole setup.shape))
        (index_in (whole setup.shape) p) p (omega (arith, length_is, below))
        (ap (is_boundary setup.shape) place ∙ boundary)

    by : (f : Bool) → (f || (true && not true)) ≡ true → f ≡ true
    by true e = refl
    by false e = e

abbrev pub need_of : Item → Touch → Flag → Need
need_of x r f = record { place = x.path; var = r.var; level = r.level; flag = f }

abbrev pub MetFlag : Setup → Flags → Item → Touch → Flag → Type 0
MetFlag setup flags x r f = is_met setup flags (need_of x r f) ≡ true

pub plain : (setup : Setup) (flags : Flags) (x : Item) (r : Touch) (f : Flag) → is_B f ≡ false
    → MetFlag setup flags x r f → flags r.var r.level f ≡ true
plain setup flags x r f other met = by (flags r.var r.level f) (sym (rw other refl) ∙ met)
  where
    by : (g : Bool) → (g || (false && not (has_boundary setup.shape))) ≡ true → g ≡ true
    by true e = refl
    by false e = e

pub told-all : (setup : Setup) (flags : Flags) (x : Item) (r : Touch) → MetFlag setup flags x r I
    → MetFlag setup flags x r B → (p : Point) → IsIn (whole setup.shape) p
    → is_told setup flags r.var r.level p ≡ true
told-all setup flags x r met_I met_B p h = by (is_boundary setup.shape p) refl
  where
    by : (b : Bool) → is_boundary setup.shape p ≡ b
        → cond b (flags r.var r.level B) (flags r.var r.level I) ≡ true
    by true is = told-boundary setup flags (need_of x r B) p h is refl met_B
    by false is = plain setup flags x r I refl met_I

told-interior : (setup : Setup) (flags : Flags) (x : Item) (r : Touch) → MetFlag setup flags x r I
    → (p : Point) → is_boundary setup.shape p ≡ false → is_told setup flags r.var r.level p ≡ true
told-interior setup flags x r met_I p is = rw is (plain setup flags x r I refl met_I)

-- ---- what one read sees

abbrev pub SeesSame : Setup → State → State → Point → Touch → Type 0
SeesSame setup a b q r =
    values_around setup (values_of setup a) q r ≡ values_around setup (values_of setup b) q r

-- where each point that a read sees is told
pub sees-told : (setup : Setup) (flags : Flags) (a b : State) (q : Point) (r : Touch)
    → Agree setup flags a b → is_scalar setup r.var ≡ false
    → ((o : Point) → IsIn (reach_box setup.shape.dims r.reach) o
    → IsIn (whole setup.shape) (wrap setup.shape (shifted q o))
    × (is_told setup flags r.var r.level (wrap setup.shape (shifted q o)) ≡ true))
    → SeesSame setup a b q r
sees-told setup flags a b q r agree grid told =
    numbers-same (reach_box setup.shape.dims r.reach)
    (λ o. values_of setup a r.var r.level (shifted q o))
    (λ o. values_of setup b r.var r.level (shifted q o))
    (λ o h.
    let t = told o h in
    value a (shifted q o)
    ∙ at-wrapped setup.shape (level_of a r.var r.level) (shifted q o) t.0
    ∙ agree.points r.var r.level (wrap setup.shape (shifted q o)) grid t.0 t.1
    ∙ sym (at-wrapped setup.shape (level_of b r.var r.level) (shifted q o) t.0)
    ∙ sym (value b (shifted q o)))
  where
    value : (s : State) (p : Point)
        → values_of setup s r.var r.level p ≡ at setup.shape (level_of s r.var r.level) p
    value s p = rw grid refl

pub sees-scalar : (setup : Setup) (flags : Flags) (a b : State) (q : Point) (r : Touch)
    → Agree setup flags a b → is_scalar setup r.var ≡ true → flags r.var r.level S ≡ true
    → SeesSame setup a b q r
sees-scalar setup flags a b q r agree scalar told =
    numbers-same (reach_box setup.shape.dims r.reach)
    (λ o. values_of setup a r.var r.level (shifted q o))
    (λ o. values_of setup b r.var r.level (shifted q o))
    (λ o h. value a (shifted q o) ∙ agree.scalars r.var r.level scalar told
    ∙ sym (value b (shifted q o)))
  where
    value : (s : State) (p : Point) → values_of setup s r.var r.level p ≡ scalar_of s r.var
    value s p = rw scalar refl

-- ---- what a Cell item sees at a point of its region

-- the flags of a row of the table are met
abbrev pub RowMet : Setup → Flags → Item → Touch → Option (List Flag) → Type 0
RowMet setup flags x r row = Met setup flags (map (need_of x r) (flags_or_none row))

pub first-met : (setup : Setup) (flags : Flags) (x : Item) (r : Touch) (f : Flag) (fs : List Flag)
    → RowMet setup flags x r (Some (f ∷ fs)) → MetFlag setup flags x r f
first-met setup flags x r f fs met =
    All-head (λ need. is_met setup flags need ≡ true) (need_of x r f) (map (need_of x r) fs) met

pub second-met : (setup : Setup) (flags : Flags) (x : Item) (r : Touch) (f g : Flag)
    (fs : List Flag) → RowMet setup flags x r (Some (f ∷ g ∷ fs)) → MetFlag setup flags x r g
second-met setup flags x r f g fs met =
    All-head (λ need. is_met setup flags need ≡ true) (need_of x r g) (map (need_of x r) fs)
    (All-tail (λ need. is_met setup flags need ≡ true) (need_of x r f) (map (need_of x r) (g ∷ fs))
    met)

-- a row that stands under a condition
pub row-there : (setup : Setup) (flags : Flags) (x : Item) (r : Touch) (b : Bool) (fs : List Flag)
    → is_some (if b then Some fs else None) ≡ true
    → RowMet setup flags x r (if b then Some fs else None)
    → (b ≡ true) × RowMet setup flags x r (Some fs)
row-there setup flags x r true fs there met = (refl, met)
row-there setup flags x r false fs there met = absurd (false≢true there)

pub third-met : (setup : Setup) (flags : Flags) (x : Item) (r : Touch) (f g h : Flag)
    (fs : List Flag) → RowMet setup flags x r (Some (f ∷ g ∷ h ∷ fs)) → MetFlag setup flags x r h
third-met setup flags x r f g h fs met =
    All-head (λ need. is_met setup flags need ≡ true) (need_of x r h) (map (need_of x r) fs)
    (All-tail (λ need. is_met setup flags need ≡ true) (need_of x r g) (map (need_of x r) (h ∷ fs))
    (All-tail (λ need. is_met setup flags need ≡ true) (need_of x r f)
    (map (need_of x r) (g ∷ h ∷ fs)) met))

-- a window of the point alone
here-told : (setup : Setup) (flags : Flags) (q : Point) (r : Touch) → r.reach ≡ 0
    → IsIn (whole setup.shape) q → is_told setup flags r.var r.level q ≡ true
    → (o : Point) → IsIn (reach_box setup.shape.dims r.reach) o
    → IsIn (whole setup.shape) (wrap setup.shape (shifted q o))
    × (is_told setup flags r.var r.level (wrap setup.shape (shifted q o)) ≡ true)
here-told setup flags q r none h told o on =
    let here : wrap setup.shape (shifted q o) ≡ q =
    ap (wrap setup.shape) (shifted-still setup.shape.dims q o
    (subst (λ k. IsIn (reach_box setup.shape.dims k) o) none on)) ∙ wrap-own setup.shape q h
    in (
      subst (IsIn (whole setup.shape)) (sym here) h,
      ap (is_told setup flags r.var r.level) here ∙ told,
    )

not-true : (b : Bool) → not b ≡ true → b ≡ false
not-true true e = sym e
not-true false e = refl

abbrev pub CellTold : Setup → Flags → Item → Touch → Region → Region → Type 0
CellTold setup flags x r region read =
    is_some (cell_needs setup.shape region read r.reach) ≡ true
    → RowMet setup flags x r (cell_needs setup.shape region read r.reach)
    → (p : Point) → IsIn (whole setup.shape) p → in_region setup.shape region p ≡ true
    → IsWindowTold setup flags p (window_point setup.shape region p) r

pub cell-told : (setup : Setup) (flags : Flags) (x : Item) (r : Touch) (region read : Region)
    → IsShape setup.shape → HasInterior setup.shape → CellTold setup flags x r region read
cell-told setup flags x r Interior Everywhere shape wide there met p h here =
    let row = row-there setup flags x r (within_ghosts setup.shape r.reach) (I ∷ B ∷ G ∷ [])
    there met in
    record {
      each = λ o on.
          let in_grid = near setup.shape p o r.reach shape h
          (not-true (is_boundary setup.shape p) here) row.0 on in (
            in_grid,
            told-all setup flags x r (first-met setup flags x r I (B ∷ G ∷ []) row.1)
                (second-met setup flags x r I B (G ∷ []) row.1) (wrap setup.shape (shifted p o))
                in_grid,
          );
      ghosts = inl (plain setup flags x r G refl (third-met setup flags x r I B G [] row.1));
    }
cell-told setup flags x r Interior Interior shape wide there met p h here =
    let row = row-there setup flags x r (r.reach == 0) (I ∷ []) there met in
    let none = eqb-true r.reach 0 row.0 in
    record {
      each = here-told setup flags p r none h
          (told-interior setup flags x r (first-met setup flags x r I [] row.1) p
          (not-true (is_boundary setup.shape p) here));
      ghosts = inr (refl, none);
    }
cell-told setup flags x r Interior Boundary shape wide there met p h here =
    absurd (false≢true there)
cell-told setup flags x r Everywhere Everywhere shape wide there met p h here =
    let row = row-there setup flags x r (r.reach == 0) (I ∷ B ∷ G ∷ []) there met in
    record {
      each = here-told setup flags p r (eqb-true r.reach 0 row.0) h
          (told-all setup flags x r (first-met setup flags x r I (B ∷ G ∷ []) row.1)
          (second-met setup flags x r I B (G ∷ []) row.1) p h);
      ghosts = inl (plain setup flags x r G refl (third-met setup flags x r I B G [] row.1));
    }
cell-told setup flags x r Everywhere Interior shape wide there met p h here =
    absurd (false≢true there)
cell-told setup flags x r Everywhere Boundary shape wide there met p h here =
    absurd (false≢true there)
cell-told setup flags x r Boundary Interior shape wide there met p h here =
    let row = row-there setup flags x r (r.reach == 0) (I ∷ G ∷ []) there met in
    record {
      each = here-told setup flags (source setup.shape p) r (eqb-true r.reach 0 row.0)
          (inside setup.shape p shape wide h)
          (told-interior setup flags x r (first-met setup flags x r I (G ∷ []) row.1)
          (source setup.shape p) (interior setup.shape p shape wide));
      ghosts = inl (plain setup flags x r G refl (second-met setup flags x r I G [] row.1));
    }
cell-told setup flags x r Boundary Everywhere shape wide there met p h here =
    absurd (false≢true there)
cell-told setup flags x r Boundary Boundary shape wide there met p h here =
    absurd (false≢true there)

-- ---- all reads of an item

abbrev pub ReadsMet : Setup → Flags → Item → List Touch → Type 0
ReadsMet setup flags x rs = Met setup flags (flat_map (needs_of_read setup x) rs)

abbrev pub HasRow : Setup → Item → Touch → Bool
HasRow setup x r = is_some (read_needs setup x r)

-- a read of a scalar needs S
pub scalar-met : (setup : Setup) (flags : Flags) (x : Item) (r : Touch)
    → is_scalar setup r.var ≡ true → Met setup flags (needs_of_read setup x r)
    → flags r.var r.level S ≡ true
scalar-met setup flags x r scalar met =
    plain setup flags x r S refl
    (first-met setup flags x r S []
    (subst (λ b. RowMet setup flags x r
    (if b then Some (S ∷ []) else grid_needs setup.shape x.kind (region_of x.writes) r))
    scalar met))

-- values around points, read after read
pub sees-all : (setup : Setup) (flags : Flags) (a b : State) (x : Item) (q : Point)
    (rs : List Touch)
    → ((r : Touch) → HasRow setup x r ≡ true → Met setup flags (needs_of_read setup x r)
    → SeesSame setup a b q r)
    → list_all (HasRow setup x) rs ≡ true → ReadsMet setup flags x rs
    → flat_map (values_around setup (values_of setup a) q) rs
    ≡ flat_map (values_around setup (values_of setup b) q) rs
sees-all setup flags a b x q [] each rows met = refl
sees-all setup flags a b x q (r ∷ rs) each rows met =
    let parts = and_parts (HasRow setup x r) (list_all (HasRow setup x) rs) rows in
    let P = λ (need : Need). is_met setup flags need ≡ true in
    let here = all-left P (needs_of_read setup x r) (flat_map (needs_of_read setup x) rs) met in
    let rest = all-right P (needs_of_read setup x r) (flat_map (needs_of_read setup x) rs) met in
    ap (λ (ns : List ℤ). ns ++ flat_map (values_around setup (values_of setup a) q) rs)
    (each r parts.0 here)
    ∙ ap (λ (ns : List ℤ). values_around setup (values_of setup b) q r ++ ns)
    (sees-all setup flags a b x q rs each parts.1 rest)

pub numbers-seen : (setup : Setup) (rules : List Rule) (x : Item) (a b : Values) (iteration : ℕ)
    (q p : Point)
    → flat_map (values_around setup a q) x.reads ≡ flat_map (values_around setup b q) x.reads
    → numbers_at setup rules x a iteration q p ≡ numbers_at setup rules x b iteration q p
numbers-seen setup rules x a b iteration q p same =
    ap (λ (ns : List ℤ). if_fit setup x.writes
    (rule_at rules x.routine
    (record { dims = setup.shape.dims; reaches = map reach_of x.reads; values = ns })
    (place_at setup x iteration p))) same

-- ---- the parts of an item's declaration

pub record Declared (setup : Setup) (x : Item) : Type 0 where
  pub agree : kinds_agree setup x x.kind ≡ true
  pub rows : list_all (HasRow setup x) x.reads ≡ true

pub declared : (setup : Setup) (x : Item) → has_shape setup x ≡ true → Declared setup x
declared setup x e =
    by (is_some_list x.writes) (are_distinct x.writes) (kinds_agree setup x x.kind)
    (list_all (HasRow setup x) x.reads) refl refl e
  where
    by : (one two three four : Bool) → kinds_agree setup x x.kind ≡ three
        → list_all (HasRow setup x) x.reads ≡ four → (one && two && three && four) ≡ true
        → Declared setup x
    by true true true true a r e = record { agree = a; rows = r }
    by true true true false a r e = absurd (false≢true e)
    by true true false four a r e = absurd (false≢true e)
    by true false three four a r e = absurd (false≢true e)
    by false two three four a r e = absurd (false≢true e)
