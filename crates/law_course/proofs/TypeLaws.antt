-- In each state of a run each number is one that its variable's type holds.
use Rattle.std.proofs.Common.{◌≡◌, ◌∙◌, ◌⊎◌, sym, ap, subst, refl, inl, inr, ℕ, zero, suc, ◌+◌, ◌-◌, ◌<◌, ◌≤◌, Bool, true, false, not, ◌&&◌, ◌||◌, ℤ, pos, List, [], ◌∷◌, ◌++◌, map, length, take, drop, set, get_or, replicate, Option, Some, None, is_some, if◌then◌else◌, arith, true≢false}
use Rattle.std.specs.List.{list_all, range_with_len}
use Rattle.std.proofs.lemmas.Bool.{cases_eq, cases_lt}
use Rattle.std.proofs.lemmas.List.{get_or-set_same, get_or-set_other, set_past, get_or-drop}
use Rattle.cx_text.specs.declared.ctype.CType.{CType}
use Rattle.cx_text.specs.declared.ctype.CType.TheVariants.{Char, Byte, Int, Int2, Int4, Int8, Real, Complex}
use Rattle.cx_grid.specs.declared.boxes.Point.{Point}
use Rattle.cx_grid.specs.declared.boxes.Box3.{Box3}
use Rattle.cx_grid.specs.Boxes.{point_in, point_count, points_in, index_in}
use Rattle.cx_grid.specs.Grid.{whole, wrap}
use Rattle.cx_plan.specs.declared.variable.VarId.{VarId}
use Rattle.cx_plan.specs.declared.variable.VarInfo.{VarInfo}
use Rattle.cx_plan.specs.declared.item.Touch.{Touch}
use Rattle.cx_plan.specs.declared.item.ItemKind.{ItemKind}
use Rattle.cx_plan.specs.declared.item.ItemKind.TheVariants.{Cell, Scalar, Sum, Least, Greatest, Count}
use Rattle.cx_plan.specs.declared.item.Item.{Item}
use Rattle.cx_plan.specs.Setups.{Setup}
use Rattle.cx_plan.specs.Lookups.{variable, no_variable, is_scalar}
use Rattle.cx_plan.specs.Regions.{region_of}
use Rattle.cx_rule.specs.Routine.{Rule, rule_at}
use Rattle.cx_rule.specs.States.{State, level_of, scalar_of, with_level, with_scalar, rotated_levels, rotate}
use Rattle.cx_rule.specs.Sweeps.{Values, fits, all_fit, if_fit, seen_at, place_at, in_region, window_point, number_or, level_after, levels_after, scalars_after, scalar_turn, first_point}
use Rattle.cx_model.specs.States.{zeros, start, number_count}
use Rattle.cx_model.specs.Turns.{values_of, swept_at, reduced, first_read, turn_by, turn}
use Rattle.cx_model.specs.Runs.{Lengths, Reaches}
use Rattle.law_course.proofs.WalkLaws.{IfState, holds_where_reached}

-- ---- numbers of a type

zero_fits : (t : CType) → fits t (pos 0) ≡ true
zero_fits Char = refl
zero_fits Byte = refl
zero_fits Int = refl
zero_fits Int2 = refl
zero_fits Int4 = refl
zero_fits Int8 = refl
zero_fits Real = refl
zero_fits Complex = refl

abbrev pub type_of : Setup → ℕ → CType
type_of setup i = (get_or setup.vars i no_variable).ctype

-- each number at a place of a level, and of levels; where there is none it counts as 0
abbrev pub IsTypedLevel : CType → List ℤ → Type 0
IsTypedLevel t level = (k : ℕ) → fits t (get_or level k (pos 0)) ≡ true

abbrev pub AreTypedLevels : CType → List (List ℤ) → Type 0
AreTypedLevels t levels = (l : ℕ) → IsTypedLevel t (get_or levels l [])

abbrev pub IsTyped : Setup → State → Type 0
IsTyped setup state = (i : ℕ) → AreTypedLevels (type_of setup i) (get_or state i [])

no_numbers : (t : CType) → IsTypedLevel t []
no_numbers t k = zero_fits t

no_levels : (t : CType) → AreTypedLevels t []
no_levels t l = no_numbers t

-- ---- lists

module _ {X : Type 0} (P : X → Type 0) where
  map_keeps : {Y : Type 0} (f : Y → X) (ys : List Y) (d : X) → ((y : Y) → P (f y)) → P d → (k : ℕ)
      → P (get_or (map f ys) k d)
  map_keeps f [] d each none k = none
  map_keeps f (y ∷ ys) d each none zero = each y
  map_keeps f (y ∷ ys) d each none (suc k) = map_keeps f ys d each none k

  replicate_keeps : (n : ℕ) (x d : X) → P x → P d → (k : ℕ) → P (get_or (replicate n x) k d)
  replicate_keeps zero x d one none k = none
  replicate_keeps (suc n) x d one none zero = one
  replicate_keeps (suc n) x d one none (suc k) = replicate_keeps n x d one none k

  append_keeps : (xs ys : List X) (d : X) → ((k : ℕ) → P (get_or xs k d))
      → ((k : ℕ) → P (get_or ys k d)) → (k : ℕ) → P (get_or (xs ++ ys) k d)
  append_keeps [] ys d one two k = two k
  append_keeps (x ∷ xs) ys d one two zero = one 0
  append_keeps (x ∷ xs) ys d one two (suc k) = append_keeps xs ys d (λ j. one (suc j)) two k

  take_keeps : (n : ℕ) (xs : List X) (d : X) → P d → ((k : ℕ) → P (get_or xs k d)) → (k : ℕ)
      → P (get_or (take n xs) k d)
  take_keeps zero [] d none each k = none
  take_keeps zero (x ∷ xs) d none each k = none
  take_keeps (suc n) [] d none each k = none
  take_keeps (suc n) (x ∷ xs) d none each zero = each 0
  take_keeps (suc n) (x ∷ xs) d none each (suc k) = take_keeps n xs d none (λ j. each (suc j)) k

  drop_keeps : (n : ℕ) (xs : List X) (d : X) → ((k : ℕ) → P (get_or xs k d)) → (k : ℕ)
      → P (get_or (drop n xs) k d)
  drop_keeps n xs d each k = subst P (sym (get_or-drop n xs k d)) (each (n + k))

  set_keeps : (xs : List X) (i j : ℕ) (y d : X) → P (get_or xs i d) → (i ≡ j → P y)
      → P (get_or (set xs j y) i d)
  set_keeps xs i j y d was now =
      elim (cases_eq i j) [
        | inl same ↦ same_place same (cases_lt j (length xs))
        | inr other ↦ subst P (sym (get_or-set_other xs j i y d other)) was
      ]
    where
      same_place : i ≡ j → (j < length xs) ⊎ (length xs ≤ j) → P (get_or (set xs j y) i d)
      same_place same (inl below) =
          subst (λ (n : ℕ). P (get_or (set xs j y) n d)) (sym same)
          (subst P (sym (get_or-set_same xs j y d below)) (now same))
      same_place same (inr past) =
          subst (λ (l : List X). P (get_or l i d)) (sym (set_past xs j y past)) was

-- ---- the start, rotations and other numbers

start_typed : (setup : Setup) → IsTyped setup (start setup)
start_typed setup = go setup.vars
  where
    zeros_typed : (t : CType) (v : VarInfo) → AreTypedLevels t (zeros setup v)
    zeros_typed t v =
        replicate_keeps (IsTypedLevel t) v.levels (replicate (number_count setup v) (pos 0)) []
        (replicate_keeps (λ n. fits t n ≡ true) (number_count setup v) (pos 0) (pos 0) (zero_fits t)
        (zero_fits t)) (no_numbers t)

    go : (vs : List VarInfo) → (i : ℕ)
        → AreTypedLevels (get_or setup.vars i no_variable).ctype
        (get_or (map (zeros setup) vs) i [])
    go vs i = map_keeps (AreTypedLevels (get_or setup.vars i no_variable).ctype) (zeros setup) vs []
        (zeros_typed (get_or setup.vars i no_variable).ctype)
        (no_levels (get_or setup.vars i no_variable).ctype) i

rotated_typed : (t : CType) (levels : List (List ℤ)) → AreTypedLevels t levels
    → AreTypedLevels t (rotated_levels levels)
rotated_typed t levels is =
    append_keeps (IsTypedLevel t) (drop (length levels - 1) levels)
    (take (length levels - 1) levels) []
    (drop_keeps (IsTypedLevel t) (length levels - 1) levels [] is)
    (take_keeps (IsTypedLevel t) (length levels - 1) levels [] (no_numbers t) is)

rotate_typed : (setup : Setup) (state : State) → IsTyped setup state → IsTyped setup (rotate state)
rotate_typed setup state is i = go state i (is i)
  where
    go : (s : State) (j : ℕ) → AreTypedLevels (type_of setup i) (get_or s j [])
        → AreTypedLevels (type_of setup i) (get_or (rotate s) j [])
    go [] j one = one
    go (l ∷ s) zero one = rotated_typed (type_of setup i) l one
    go (l ∷ s) (suc j) one = go s j one

with_level_typed : (setup : Setup) (state : State) (v : VarId) (level : ℕ) (numbers : List ℤ)
    → IsTyped setup state → IsTypedLevel (type_of setup v.0) numbers
    → IsTyped setup (with_level state v level numbers)
with_level_typed setup state v level numbers is new i l =
    set_keeps (λ (levels : List (List ℤ)). IsTypedLevel (type_of setup i) (get_or levels l []))
    state i v.0 (set (get_or state v.0 []) level numbers) [] (is i l)
    (λ same. set_keeps (IsTypedLevel (type_of setup i)) (get_or state v.0 []) l level numbers []
    (subst (λ (n : ℕ). IsTypedLevel (type_of setup i) (get_or (get_or state n []) l [])) same
    (is i l))
    (λ here. subst (λ (n : ℕ). IsTypedLevel (type_of setup n) numbers) (sym same) new))

-- ---- what an item writes

-- the numbers from the k-th on are of the types of what is written from there on
abbrev Gives : Setup → (Point → Option (List ℤ)) → ℕ → List Touch → Type 0
Gives setup numbers k [] = Unit {0}
Gives setup numbers k (w ∷ ws) =
    ((p : Point) (old : ℤ) → fits (variable setup w.var).ctype old ≡ true
    → fits (variable setup w.var).ctype (number_or (numbers p) k old) ≡ true)
    × Gives setup numbers (k + 1) ws

both_true : (a b : Bool) → (a && b) ≡ true → (a ≡ true) × (b ≡ true)
both_true true b e = (refl, e)
both_true false b e = absurd (true≢false (sym e))

number_fits : (setup : Setup) (ws : List Touch) (ns : List ℤ) (k : ℕ) (d : Touch) (old : ℤ)
    → all_fit setup ws ns ≡ true → k < length ws
    → fits (variable setup (get_or ws k d).var).ctype (get_or ns k old) ≡ true
number_fits setup [] ns k d old e h = absurd (omega (arith, h))
number_fits setup (w ∷ ws) [] k d old e h = absurd (true≢false (sym e))
number_fits setup (w ∷ ws) (n ∷ ns) zero d old e h =
    (both_true (fits (variable setup w.var).ctype n) (all_fit setup ws ns) e).0
number_fits setup (w ∷ ws) (n ∷ ns) (suc k) d old e h =
    number_fits setup ws ns k d old
    (both_true (fits (variable setup w.var).ctype n) (all_fit setup ws ns) e).1
    (omega (arith, h))

given_fits : (setup : Setup) (ws : List Touch) (o : Option (List ℤ)) (k : ℕ) (d : Touch) (old : ℤ)
    → k < length ws
    → fits (variable setup (get_or ws k d).var).ctype old ≡ true
    → fits (variable setup (get_or ws k d).var).ctype (number_or (if_fit setup ws o) k old) ≡ true
given_fits setup ws None k d old h was = was
given_fits setup ws (Some ns) k d old h was = by (all_fit setup ws ns) refl
  where
    by : (b : Bool) → all_fit setup ws ns ≡ b
        → fits (variable setup (get_or ws k d).var).ctype
        (number_or (if b then Some ns else None) k old) ≡ true
    by true e = number_fits setup ws ns k d old e h
    by false e = was

gives_from : (setup : Setup) (all ws : List Touch) (raw : Point → Option (List ℤ)) (k : ℕ)
    → k + length ws ≡ length all
    → ((j : ℕ) (d : Touch) → j < length ws → get_or all (k + j) d ≡ get_or ws j d)
    → Gives setup (λ p. if_fit setup all (raw p)) k ws
gives_from setup all [] raw k count same = tt
gives_from setup all (w ∷ ws) raw k count same = (
  λ p old was. subst (λ (x : Touch).
      fits (variable setup x.var).ctype (number_or (if_fit setup all (raw p)) k old) ≡ true) here
      (given_fits setup all (raw p) k w old (omega (arith, count))
      (subst (λ (x : Touch). fits (variable setup x.var).ctype old ≡ true) (sym here) was)),
  gives_from setup all ws raw (k + 1) (omega (arith, count)) (λ j d h. further j d h),
)
  where
    here : get_or all k w ≡ w
    here = let e : k + 0 ≡ k = omega arith in
        ap (λ (n : ℕ). get_or all n w) (sym e) ∙ same 0 w (omega arith)

    further : (j : ℕ) (d : Touch) → j < length ws → get_or all (k + 1 + j) d ≡ get_or ws j d
    further j d h = let e : k + 1 + j ≡ k + suc j = omega arith in
        ap (λ (n : ℕ). get_or all n d) e ∙ same (suc j) d (omega (arith, h))

gives_all : (setup : Setup) (ws : List Touch) (raw : Point → Option (List ℤ))
    → Gives setup (λ p. if_fit setup ws (raw p)) 0 ws
gives_all setup ws raw =
    gives_from setup ws ws raw 0 (omega arith)
    (λ j d h. let e : 0 + j ≡ j = omega arith in ap (λ (n : ℕ). get_or ws n d) e)

-- ---- turns

abbrev AreTypedValues : Setup → Values → Type 0
AreTypedValues setup values = (v : VarId) (level : ℕ) (p : Point)
    → fits (variable setup v).ctype (values v level p) ≡ true

values_typed : (setup : Setup) (state : State) → IsTyped setup state
    → AreTypedValues setup (values_of setup state)
values_typed setup state is v level p = by (is_scalar setup v)
  where
    by : (b : Bool) → fits (variable setup v).ctype
        (if b then scalar_of state v
        else get_or (level_of state v level) (index_in (whole setup.shape) (wrap setup.shape p))
        (pos 0)) ≡ true
    by true = is v.0 0 0
    by false = is v.0 level (index_in (whole setup.shape) (wrap setup.shape p))

level_typed : (setup : Setup) (box : Box3) (zone : Point → Bool) (numbers : Point → Option (List ℤ))
    (k : ℕ) (t : CType) (old : Point → ℤ)
    → ((p : Point) → fits t (old p) ≡ true)
    → ((p : Point) (n : ℤ) → fits t n ≡ true → fits t (number_or (numbers p) k n) ≡ true)
    → IsTypedLevel t (level_after box zone numbers k old)
level_typed setup box zone numbers k t old was new =
    map_keeps (λ n. fits t n ≡ true)
    (λ i. if zone (point_in box i)
    then number_or (numbers (point_in box i)) k (old (point_in box i))
    else old (point_in box i)) (range_with_len 0 (point_count box)) (pos 0)
    (λ i. each (point_in box i)) (zero_fits t)
  where
    by : (p : Point) (b : Bool)
        → fits t (if b then number_or (numbers p) k (old p) else old p) ≡ true
    by p true = new p (old p) (was p)
    by p false = was p

    each : (p : Point) → fits t (if zone p then number_or (numbers p) k (old p) else old p) ≡ true
    each p = by p (zone p)

levels_typed : (setup : Setup) (box : Box3) (values : Values) (zone : Point → Bool)
    (numbers : Point → Option (List ℤ)) (k : ℕ) (ws : List Touch) (state : State)
    → AreTypedValues setup values → Gives setup numbers k ws → IsTyped setup state
    → IsTyped setup (levels_after box values zone numbers k ws state)
levels_typed setup box values zone numbers k [] state typed gives is = is
levels_typed setup box values zone numbers k (w ∷ ws) state typed gives is =
    let level = level_after box zone numbers k (values w.var w.level) in
    levels_typed setup box values zone numbers (k + 1) ws (with_level state w.var w.level level)
    typed gives.1
    (with_level_typed setup state w.var w.level level is
    (level_typed setup box zone numbers k (variable setup w.var).ctype (values w.var w.level)
    (typed w.var w.level) gives.0))

single_typed : (t : CType) (n : ℤ) → fits t n ≡ true → IsTypedLevel t (n ∷ [])
single_typed t n e zero = e
single_typed t n e (suc k) = zero_fits t

scalars_typed : (setup : Setup) (ws : List Touch) (ns : List ℤ) (state : State)
    → all_fit setup ws ns ≡ true → IsTyped setup state → IsTyped setup (scalars_after ws ns state)
scalars_typed setup [] ns state e is = is
scalars_typed setup (w ∷ ws) [] state e is = is
scalars_typed setup (w ∷ ws) (n ∷ ns) state e is =
    let b = both_true (fits (variable setup w.var).ctype n) (all_fit setup ws ns) e in
    scalars_typed setup ws ns (with_scalar state w.var n) b.1
    (with_level_typed setup state w.var 0 (n ∷ []) is
    (single_typed (variable setup w.var).ctype n b.0))

scalar_turn_typed : (setup : Setup) (x : Item) (state : State) (o : Option (List ℤ))
    → IsTyped setup state → IfState (IsTyped setup) (scalar_turn x state (if_fit setup x.writes o))
scalar_turn_typed setup x state None is = tt
scalar_turn_typed setup x state (Some ns) is = by (all_fit setup x.writes ns) refl
  where
    by : (b : Bool) → all_fit setup x.writes ns ≡ b
        → IfState (IsTyped setup) (scalar_turn x state (if b then Some ns else None))
    by true e = scalars_typed setup x.writes ns state e is
    by false e = tt

if_typed : (setup : Setup) (b : Bool) (state : State) → IsTyped setup state
    → IfState (IsTyped setup) (if b then Some state else None)
if_typed setup true state is = is
if_typed setup false state is = tt

turn_typed : (setup : Setup) (rules : List Rule) (x : Item) (state : State) (iteration : ℕ)
    → IsTyped setup state → IfState (IsTyped setup) (turn setup rules x state iteration)
turn_typed setup rules x state iteration is = by x.kind
  where
    by : (k : ItemKind) → IfState (IsTyped setup) (turn_by k setup rules x state iteration)
    by Cell =
        let values = values_of setup state in
        let zone = in_region setup.shape (region_of x.writes) in
        let numbers = swept_at setup rules x values iteration in
        if_typed setup (list_all (λ p. not (zone p) || is_some (numbers p))
        (points_in (whole setup.shape)))
        (levels_after (whole setup.shape) values zone numbers 0 x.writes state)
        (levels_typed setup (whole setup.shape) values zone numbers 0 x.writes state
        (values_typed setup state is)
        (gives_all setup x.writes
        (λ p. rule_at rules x.routine
        (seen_at setup x (values_of setup state)
        (window_point setup.shape (region_of x.writes) p)) (place_at setup x iteration p))) is)
    by Scalar =
        scalar_turn_typed setup x state
        (rule_at rules x.routine (seen_at setup x (values_of setup state) first_point)
        (place_at setup x iteration first_point)) is
    by Sum = scalar_turn_typed setup x state (Some (reduced x.kind (first_read state x.reads) ∷ []))
        is
    by Least = scalar_turn_typed setup x state
        (Some (reduced x.kind (first_read state x.reads) ∷ [])) is
    by Greatest = scalar_turn_typed setup x state
        (Some (reduced x.kind (first_read state x.reads) ∷ [])) is
    by Count = scalar_turn_typed setup x state
        (Some (reduced x.kind (first_read state x.reads) ∷ [])) is

pub reached_typed : (setup : Setup) (rules : List Rule) (c : ℕ) (state : State) (so_far : Lengths)
    → Reaches setup rules c state so_far → IsTyped setup state
reached_typed setup rules =
    holds_where_reached setup rules (IsTyped setup)
    (record { turns = turn_typed setup rules; rotations = rotate_typed setup })
    (start_typed setup)
