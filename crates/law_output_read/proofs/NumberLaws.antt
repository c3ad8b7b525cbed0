-- Each number that the start, a turn or a rotation leaves fits in 64 bits, whatever the rules give.
use Rattle.std.proofs.Common.{◌≡◌, sym, subst, refl, ℕ, zero, suc, ◌+◌, ◌-◌, ◌^◌, ◌<◌, Bool, true, false, not, ◌||◌, ℤ, pos, negsuc, int_le, List, [], ◌∷◌, map, length, get_or, drop, take, set, replicate, All, Option, Some, None, is_some, if◌then◌else◌, lt_of_le_of_lt, arith, true≢false, leb-true, SFits, w64}
use Rattle.std.specs.List.{list_all, range_with_len, AllByRecursion}
use Rattle.std.proofs.lemmas.Bool.{and_parts}
use Rattle.std.proofs.lemmas.List.Elements.{All-from_recursion, recursion_from_All, All-nil, All-cons, All-replicate, All-append, All-set, All-take, All-drop, All-map}
use Rattle.cx_text.specs.declared.ctype.CType.{CType}
use Rattle.cx_text.specs.declared.ctype.CType.TheVariants.{Char, Byte, Int, Int2, Int4, Int8, Real, Complex}
use Rattle.cx_grid.specs.declared.boxes.Point.{Point}
use Rattle.cx_grid.specs.declared.boxes.Box3.{Box3}
use Rattle.cx_grid.specs.Boxes.{point_in, point_count, points_in, index_in}
use Rattle.cx_grid.specs.Grid.{whole, wrap}
use Rattle.cx_plan.specs.declared.variable.VarId.{VarId}
use Rattle.cx_plan.specs.declared.item.Touch.{Touch}
use Rattle.cx_plan.specs.declared.item.ItemKind.{ItemKind}
use Rattle.cx_plan.specs.declared.item.ItemKind.TheVariants.{Cell, Scalar, Sum, Least, Greatest, Count}
use Rattle.cx_plan.specs.declared.item.Item.{Item}
use Rattle.cx_plan.specs.Setups.{Setup}
use Rattle.cx_plan.specs.Lookups.{variable, is_scalar}
use Rattle.cx_plan.specs.Regions.{region_of}
use Rattle.cx_plan.specs.Types.{least, greatest}
use Rattle.cx_rule.specs.Routine.{Rule, rule_at}
use Rattle.cx_rule.specs.States.{State, level_of, scalar_of, with_level, with_scalar, rotated_levels, rotate}
use Rattle.cx_rule.specs.Sweeps.{Values, fits, all_fit, if_fit, seen_at, place_at, in_region, window_point, number_or, level_after, levels_after, scalars_after, scalar_turn, first_point}
use Rattle.cx_model.specs.States.{zeros, start, number_count}
use Rattle.cx_model.specs.Turns.{values_of, swept_at, reduced, first_read, turn_by, turn}

-- a number that fits in 64 bits
abbrev pub IsSmall : ℤ → Type 0
IsSmall n = SFits w64 n

abbrev pub IsSmallLevel : List ℤ → Type 0
IsSmallLevel level = All IsSmall level

abbrev AreSmallLevels : List (List ℤ) → Type 0
AreSmallLevels levels = All IsSmallLevel levels

-- each number of a state fits in 64 bits
abbrev pub AreSmall : State → Type 0
AreSmall state = All AreSmallLevels state

zero_small : IsSmall (pos 0)
zero_small = record { sfits = omega arith }

-- ---- the types: whatever a variable's type holds fits in 64 bits

high_fits : (k h : ℕ) → int_le (pos k) (pos h) ≡ true → h < 2 ^ 63 → IsSmall (pos k)
high_fits k h e l = record { sfits = lt_of_le_of_lt (leb-true k h e) l }

low_fits : (k h : ℕ) → int_le (negsuc h) (negsuc k) ≡ true → h < 2 ^ 63 → IsSmall (negsuc k)
low_fits k h e l = record { sfits = lt_of_le_of_lt (leb-true k h e) l }

within : (t : CType) (n : ℤ) → int_le (least t) n ≡ true → int_le n (greatest t) ≡ true → IsSmall n
within Byte (pos k) low high = high_fits k 255 high (omega arith)
within Byte (negsuc k) low high = absurd (true≢false (sym low))
within Int2 (pos k) low high = high_fits k (2 ^ 15 - 1) high (omega arith)
within Int2 (negsuc k) low high = low_fits k (2 ^ 15 - 1) low (omega arith)
within Int4 (pos k) low high = high_fits k (2 ^ 31 - 1) high (omega arith)
within Int4 (negsuc k) low high = low_fits k (2 ^ 31 - 1) low (omega arith)
within Int8 (pos k) low high = high_fits k (2 ^ 63 - 1) high (omega arith)
within Int8 (negsuc k) low high = low_fits k (2 ^ 63 - 1) low (omega arith)
within Int (pos k) low high = high_fits k (2 ^ 63 - 1) high (omega arith)
within Int (negsuc k) low high = low_fits k (2 ^ 63 - 1) low (omega arith)
within Char (pos k) low high = high_fits k (2 ^ 63 - 1) high (omega arith)
within Char (negsuc k) low high = low_fits k (2 ^ 63 - 1) low (omega arith)
within Real (pos k) low high = high_fits k (2 ^ 63 - 1) high (omega arith)
within Real (negsuc k) low high = low_fits k (2 ^ 63 - 1) low (omega arith)
within Complex (pos k) low high = high_fits k (2 ^ 63 - 1) high (omega arith)
within Complex (negsuc k) low high = low_fits k (2 ^ 63 - 1) low (omega arith)

small_where_fits : (t : CType) (n : ℤ) → fits t n ≡ true → IsSmall n
small_where_fits t n e = let b = and_parts (int_le (least t) n) (int_le n (greatest t)) e in
    within t n b.0 b.1

-- ---- lists

-- an element, or what stands for one that isn't there
got : {X : Type 0} (P : X → Type 0) (xs : List X) (k : ℕ) (d : X) → AllByRecursion P xs → P d
    → P (get_or xs k d)
got P [] k d all none = none
got P (x ∷ xs) zero d all none = all.0
got P (x ∷ xs) (suc k) d all none = got P xs k d all.1 none

each_of : {X : Type 0} (P : X → Type 0) → ((x : X) → P x) → (xs : List X) → All P xs
each_of P each [] = All-nil P
each_of P each (x ∷ xs) = All-cons P x xs (each x) (each_of P each xs)

mapped : {X Y : Type 0} (P : Y → Type 0) (f : X → Y) → ((x : X) → P (f x)) → (xs : List X)
    → All P (map f xs)
mapped P f each xs = All-map P f xs (each_of (λ x. P (f x)) each xs)

levels_at : (state : State) (i : ℕ) → AreSmall state → AreSmallLevels (get_or state i [])
levels_at state i small =
    got AreSmallLevels state i [] (recursion_from_All AreSmallLevels state small)
    (All-nil IsSmallLevel)

pub level_small : (state : State) (v : VarId) (level : ℕ) → AreSmall state
    → IsSmallLevel (level_of state v level)
level_small state v level small =
    got IsSmallLevel (get_or state v.0 []) level []
    (recursion_from_All IsSmallLevel (get_or state v.0 []) (levels_at state v.0 small))
    (All-nil IsSmall)

number_at : (level : List ℤ) (k : ℕ) → IsSmallLevel level → IsSmall (get_or level k (pos 0))
number_at level k small =
    got IsSmall level k (pos 0) (recursion_from_All IsSmall level small) zero_small

pub scalar_small : (state : State) (v : VarId) → AreSmall state → IsSmall (scalar_of state v)
scalar_small state v small = number_at (level_of state v 0) 0 (level_small state v 0 small)

with_level_small : (state : State) (v : VarId) (level : ℕ) (numbers : List ℤ) → AreSmall state
    → IsSmallLevel numbers → AreSmall (with_level state v level numbers)
with_level_small state v level numbers small new =
    All-set AreSmallLevels state v.0 (set (get_or state v.0 []) level numbers)
    (All-set IsSmallLevel (get_or state v.0 []) level numbers new (levels_at state v.0 small)) small

-- ---- the start and rotations

pub start_small : (setup : Setup) → AreSmall (start setup)
start_small setup =
    mapped AreSmallLevels (zeros setup)
    (λ v. All-replicate IsSmallLevel v.levels (replicate (number_count setup v) (pos 0))
    (All-replicate IsSmall (number_count setup v) (pos 0) zero_small)) setup.vars

rotated_small : (levels : List (List ℤ)) → AreSmallLevels levels
    → AreSmallLevels (rotated_levels levels)
rotated_small levels small =
    All-append IsSmallLevel (drop (length levels - 1) levels) (take (length levels - 1) levels)
    (All-drop IsSmallLevel (length levels - 1) levels small)
    (All-take IsSmallLevel (length levels - 1) levels small)

pub rotate_small : (state : State) → AreSmall state → AreSmall (rotate state)
rotate_small state small =
    All-from_recursion AreSmallLevels (rotate state)
    (go state (recursion_from_All AreSmallLevels state small))
  where
    go : (s : State) → AllByRecursion AreSmallLevels s → AllByRecursion AreSmallLevels (rotate s)
    go [] all = tt
    go (l ∷ s) all = (rotated_small l all.0, go s all.1)

-- ---- what an item writes

-- the numbers from the k-th on are of the types of these writes
abbrev AreGiven : Setup → ℕ → List Touch → Option (List ℤ) → Type 0
AreGiven setup k ws None = Unit {0}
AreGiven setup k ws (Some ns) = all_fit setup ws (drop k ns) ≡ true

first_given : (setup : Setup) (w : Touch) (ws : List Touch) (k : ℕ) (ns : List ℤ) (old : ℤ)
    → all_fit setup (w ∷ ws) (drop k ns) ≡ true
    → IsSmall (get_or ns k old) × (all_fit setup ws (drop (suc k) ns) ≡ true)
first_given setup w ws zero [] old e = absurd (true≢false (sym e))
first_given setup w ws (suc k) [] old e = absurd (true≢false (sym e))
first_given setup w ws zero (n ∷ ns) old e =
    let b = and_parts (fits (variable setup w.var).ctype n) (all_fit setup ws ns) e in
    (small_where_fits (variable setup w.var).ctype n b.0, b.1)
first_given setup w ws (suc k) (n ∷ ns) old e = first_given setup w ws k ns old e

number_small : (setup : Setup) (w : Touch) (ws : List Touch) (k : ℕ) (o : Option (List ℤ)) (old : ℤ)
    → AreGiven setup k (w ∷ ws) o → IsSmall old → IsSmall (number_or o k old)
number_small setup w ws k None old given was = was
number_small setup w ws k (Some ns) old given was = (first_given setup w ws k ns old given).0

given_later : (setup : Setup) (w : Touch) (ws : List Touch) (k : ℕ) (o : Option (List ℤ))
    → AreGiven setup k (w ∷ ws) o → AreGiven setup (k + 1) ws o
given_later setup w ws k None given = tt
given_later setup w ws k (Some ns) given =
    let e : suc k ≡ k + 1 = omega arith in
    subst (λ (j : ℕ). all_fit setup ws (drop j ns) ≡ true) e
    (first_given setup w ws k ns (pos 0) given).1

given_first : (setup : Setup) (ws : List Touch) (o : Option (List ℤ))
    → AreGiven setup 0 ws (if_fit setup ws o)
given_first setup ws None = tt
given_first setup ws (Some ns) = by (all_fit setup ws ns) refl
  where
    whole_list : (ms : List ℤ) → all_fit setup ws ms ≡ true → all_fit setup ws (drop 0 ms) ≡ true
    whole_list [] e = e
    whole_list (m ∷ ms) e = e

    by : (b : Bool) → all_fit setup ws ns ≡ b → AreGiven setup 0 ws (if b then Some ns else None)
    by true e = whole_list ns e
    by false e = tt

-- ---- turns

values_small : (setup : Setup) (state : State) → AreSmall state
    → (v : VarId) (level : ℕ) (p : Point) → IsSmall (values_of setup state v level p)
values_small setup state small v level p = by (is_scalar setup v)
  where
    by : (b : Bool) → IsSmall
        (if b then scalar_of state v
        else get_or (level_of state v level) (index_in (whole setup.shape) (wrap setup.shape p))
        (pos 0))
    by true = scalar_small state v small
    by false = number_at (level_of state v level)
        (index_in (whole setup.shape) (wrap setup.shape p)) (level_small state v level small)

level_after_small : (box : Box3) (zone : Point → Bool) (numbers : Point → Option (List ℤ)) (k : ℕ)
    (old : Point → ℤ)
    → ((p : Point) → IsSmall (old p)) → ((p : Point) → IsSmall (number_or (numbers p) k (old p)))
    → IsSmallLevel (level_after box zone numbers k old)
level_after_small box zone numbers k old was new =
    mapped IsSmall (λ i. if zone (point_in box i)
    then number_or (numbers (point_in box i)) k (old (point_in box i))
    else old (point_in box i)) (λ i. by (point_in box i) (zone (point_in box i)))
    (range_with_len 0 (point_count box))
  where
    by : (p : Point) (b : Bool) → IsSmall (if b then number_or (numbers p) k (old p) else old p)
    by p true = new p
    by p false = was p

levels_small : (setup : Setup) (box : Box3) (values : Values) (zone : Point → Bool)
    (numbers : Point → Option (List ℤ)) (k : ℕ) (ws : List Touch) (state : State)
    → ((v : VarId) (level : ℕ) (p : Point) → IsSmall (values v level p))
    → ((p : Point) → AreGiven setup k ws (numbers p)) → AreSmall state
    → AreSmall (levels_after box values zone numbers k ws state)
levels_small setup box values zone numbers k [] state was given small = small
levels_small setup box values zone numbers k (w ∷ ws) state was given small =
    let level = level_after box zone numbers k (values w.var w.level) in
    levels_small setup box values zone numbers (k + 1) ws (with_level state w.var w.level level) was
    (λ p. given_later setup w ws k (numbers p) (given p))
    (with_level_small state w.var w.level level small
    (level_after_small box zone numbers k (values w.var w.level) (was w.var w.level)
    (λ p. number_small setup w ws k (numbers p) (values w.var w.level p) (given p)
    (was w.var w.level p))))

scalars_small : (setup : Setup) (ws : List Touch) (ns : List ℤ) (state : State)
    → all_fit setup ws ns ≡ true → AreSmall state → AreSmall (scalars_after ws ns state)
scalars_small setup [] ns state e small = small
scalars_small setup (w ∷ ws) [] state e small = small
scalars_small setup (w ∷ ws) (n ∷ ns) state e small =
    let b = and_parts (fits (variable setup w.var).ctype n) (all_fit setup ws ns) e in
    scalars_small setup ws ns (with_scalar state w.var n) b.1
    (with_level_small state w.var 0 (n ∷ []) small
    (All-cons IsSmall n [] (small_where_fits (variable setup w.var).ctype n b.0)
    (All-nil IsSmall)))

abbrev pub AreSmallOr : Option State → Type 0
AreSmallOr None = Unit {0}
AreSmallOr (Some state) = AreSmall state

scalar_turn_small : (setup : Setup) (x : Item) (state : State) (o : Option (List ℤ))
    → AreSmall state → AreSmallOr (scalar_turn x state (if_fit setup x.writes o))
scalar_turn_small setup x state None small = tt
scalar_turn_small setup x state (Some ns) small = by (all_fit setup x.writes ns) refl
  where
    by : (b : Bool) → all_fit setup x.writes ns ≡ b
        → AreSmallOr (scalar_turn x state (if b then Some ns else None))
    by true e = scalars_small setup x.writes ns state e small
    by false e = tt

if_small : (b : Bool) (state : State) → AreSmall state → AreSmallOr (if b then Some state else None)
if_small true state small = small
if_small false state small = tt

pub turn_small : (setup : Setup) (rules : List Rule) (x : Item) (state : State) (iteration : ℕ)
    → AreSmall state → AreSmallOr (turn setup rules x state iteration)
turn_small setup rules x state iteration small = by x.kind
  where
    reduction : AreSmallOr (scalar_turn x state
        (if_fit setup x.writes (Some (reduced x.kind (first_read state x.reads) ∷ []))))
    reduction = scalar_turn_small setup x state
        (Some (reduced x.kind (first_read state x.reads) ∷ [])) small

    by : (k : ItemKind) → AreSmallOr (turn_by k setup rules x state iteration)
    by Cell =
        let values = values_of setup state in
        let zone = in_region setup.shape (region_of x.writes) in
        let numbers = swept_at setup rules x values iteration in
        if_small (list_all (λ p. not (zone p) || is_some (numbers p))
        (points_in (whole setup.shape)))
        (levels_after (whole setup.shape) values zone numbers 0 x.writes state)
        (levels_small setup (whole setup.shape) values zone numbers 0 x.writes state
        (values_small setup state small)
        (λ p. given_first setup x.writes
        (rule_at rules x.routine
        (seen_at setup x (values_of setup state)
        (window_point setup.shape (region_of x.writes) p)) (place_at setup x iteration p)))
        small)
    by Scalar =
        scalar_turn_small setup x state
        (rule_at rules x.routine (seen_at setup x (values_of setup state) first_point)
        (place_at setup x iteration first_point)) small
    by Sum = reduction
    by Least = reduction
    by Greatest = reduction
    by Count = reduction
