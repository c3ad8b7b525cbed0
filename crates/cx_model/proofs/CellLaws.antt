-- Turns of items from states that agree.
use Rattle.std.proofs.Common.{◌≡◌, ℕ, zero, suc, ◌+◌, ◌<◌, ◌≤◌, Bool, true, false, not, ◌&&◌, ◌||◌, ◌==◌, cond, arith, refl, sym, ap, subst, ◌∙◌, inl, inr, ℤ, List, [], ◌∷◌, ◌++◌, length, get_or, Option, Some, None, is_some, if◌then◌else◌}
use Rattle.std.specs.List.{All, Contains, list_all, flat_map}
use Rattle.std.proofs.lemmas.Bool.{cases_lt, and_parts, false≢true}
use Rattle.std.proofs.lemmas.List.{get_or_past}
use Rattle.std.proofs.lemmas.List.Elements.{All-nil, All-cons, All-head, All-tail, All-contains}
use Rattle.cx_grid.specs.declared.boxes.Point.{Point}
use Rattle.cx_grid.specs.declared.boxes.Box3.{Box3}
use Rattle.cx_grid.specs.Boxes.{IsIn, points_in}
use Rattle.cx_grid.specs.Grid.{whole, is_boundary, at}
use Rattle.cx_plan.specs.declared.variable.VarId.{VarId}
use Rattle.cx_plan.specs.declared.item.Region.{Region}
use Rattle.cx_plan.specs.declared.item.Region.TheVariants.{Interior, Boundary, Everywhere}
use Rattle.cx_plan.specs.declared.item.Touch.{Touch}
use Rattle.cx_plan.specs.declared.item.ItemKind.{ItemKind}
use Rattle.cx_plan.specs.declared.item.ItemKind.TheVariants.{Cell, Scalar, Sum, Least, Greatest, Count}
use Rattle.cx_plan.specs.declared.item.Item.{Item}
use Rattle.cx_plan.specs.declared.flag.Flag.{Flag}
use Rattle.cx_plan.specs.declared.flag.Flag.TheVariants.{I, B, S}
use Rattle.cx_plan.specs.Setups.{Setup}
use Rattle.cx_plan.specs.Lookups.{variable, is_scalar, levels_of}
use Rattle.cx_plan.specs.Regions.{Flags, Need, same_region, region_of, grid_needs, read_needs, reduces, kinds_agree, written, after_write, after_scalar, all_written, needs_of_read, is_met}
use Rattle.cx_rule.specs.Routine.{Rule}
use Rattle.cx_rule.specs.States.{State, level_of, with_level}
use Rattle.cx_model.specs.States.{IsState}
use Rattle.cx_rule.specs.Sweeps.{Values, values_around, fits, all_fit, if_fit, in_region, window_point, number_or, level_after, levels_after, sweep, scalar_turn, first_point}
use Rattle.cx_model.specs.Turns.{values_of, numbers_at, swept_at, cell_turn, reduced, first_read, reduce_turn, turn_by, turn}
use Rattle.cx_model.specs.Agreement.{IsWindowTold, Agree, AgreeOrNone, Met, is_told, IsStoredTouch, IsReady, IsSettled}
use Rattle.cx_model.proofs.PointLaws.{numbers-count, at-numbers, same-numbers, all-same, all-at}
use Rattle.cx_model.proofs.WriteLaws.{agree-level, agree-scalars, flag-new}
use Rattle.cx_model.proofs.ListLaws.{all-left, all-right}
use Rattle.cx_model.proofs.TurnLaws.{SeesSame, RowMet, HasRow, ReadsMet, Declared, declared, all-tested, row-there, first-met, second-met, told-all, sees-told, cell-told, sees-scalar, scalar-met, sees-all, numbers-seen}

-- ---- numbers that fit

-- numbers that a rule gives: as many as are written at least
enough : (setup : Setup) (ws : List Touch) (ns : List ℤ) → all_fit setup ws ns ≡ true
    → length ws ≤ length ns
enough setup [] ns fit = omega arith
enough setup (w ∷ ws) [] fit = absurd (false≢true fit)
enough setup (w ∷ ws) (n ∷ ns) fit = let rest =
    enough setup ws ns (and_parts (fits (variable setup w.var).ctype n) (all_fit setup ws ns)
    fit).1 in omega (arith, rest)

pub fitting : (setup : Setup) (ws : List Touch) (o : Option (List ℤ)) (ns : List ℤ)
    → if_fit setup ws o ≡ Some ns → all_fit setup ws ns ≡ true
fitting setup ws None ns is = absurd cc
fitting setup ws (Some ms) ns is = by (all_fit setup ws ms) refl is
  where
    by : (b : Bool) → all_fit setup ws ms ≡ b → (if b then Some ms else None) ≡ Some ns
        → all_fit setup ws ns ≡ true
    by true fit is = let e : ms ≡ ns = cc in subst (λ l. all_fit setup ws l ≡ true) e fit
    by false fit is = absurd cc

-- ---- Cell items

abbrev pub IsGridWrite : Setup → Region → Touch → Type 0
IsGridWrite setup region w = (is_scalar setup w.var ≡ false) × (w.region ≡ region)

-- both sweeps give the same numbers at each point of the zone, and enough of them
abbrev SameNumbers : Setup → (Point → Bool) → (Point → Option (List ℤ)) → (Point → Option (List ℤ))
    → ℕ → Type 0
SameNumbers setup zone one two most =
    (p : Point) → IsIn (whole setup.shape) p → zone p ≡ true
    → (ns : List ℤ) × (one p ≡ Some ns) × (two p ≡ Some ns) × (most ≤ length ns)

number-there : (ns : List ℤ) (k : ℕ) (x y : ℤ) → k < length ns → get_or ns k x ≡ get_or ns k y
number-there [] k x y below = absurd (omega (arith, below))
number-there (n ∷ ns) zero x y below = refl
number-there (n ∷ ns) (suc k) x y below = number-there ns k x y (omega (arith, below))

-- what stays of a written level outside of the zone is told by the flags before
outside : (setup : Setup) (flags : Flags) (w : Touch) (region : Region) (p : Point)
    → w.region ≡ region → is_scalar setup w.var ≡ false → in_region setup.shape region p ≡ false
    → is_told setup (written setup flags w) w.var w.level p ≡ true
    → (region ≡ Boundary) × (is_boundary setup.shape p ≡ false) × (flags w.var w.level I ≡ true)
outside setup flags w region p same grid out told =
    by region same out (is_boundary setup.shape p) refl
  where
    new : (f : Flag) → written setup flags w w.var w.level f
        ≡ after_write w.region f (flags w.var w.level f)
    new f = flag-new setup flags w f grid

    told-by : (b : Bool) → is_boundary setup.shape p ≡ b
        → cond b (written setup flags w w.var w.level B) (written setup flags w w.var w.level I)
        ≡ true
    told-by b is =
        subst (λ c. cond c (written setup flags w w.var w.level B)
        (written setup flags w w.var w.level I) ≡ true) is told

    by : (region : Region) → w.region ≡ region → in_region setup.shape region p ≡ false → (b : Bool)
        → is_boundary setup.shape p ≡ b
        → (region ≡ Boundary) × (is_boundary setup.shape p ≡ false) × (flags w.var w.level I ≡ true)
    by Everywhere same out b is = absurd (false≢true (sym out))
    by Interior same out true is =
        absurd
        (false≢true (sym (new B ∙ ap (λ r. after_write r B (flags w.var w.level B)) same)
        ∙ told-by true is))
    by Interior same out false is = absurd (false≢true (sym out ∙ rw is refl))
    by Boundary same out true is = absurd (false≢true (sym out ∙ is))
    by Boundary same out false is = (
      refl,
      is,
      sym (new I ∙ ap (λ r. after_write r I (flags w.var w.level I)) same)
          ∙ told-by false is,
    )

-- flags of which a boundary write needs that they have gained no interior
abbrev NoMore : Region → Flags → Flags → Type 0
NoMore region now before = region ≡ Boundary → (v : VarId) (level : ℕ) → now v level I ≡ true
    → before v level I ≡ true

no-more : (setup : Setup) (region : Region) (w : Touch) (now before : Flags)
    → IsGridWrite setup region w → NoMore region now before
    → NoMore region (written setup now w) before
no-more setup region w now before grid old boundary v level told =
    old boundary v level (by (same_var_level) refl told)
  where
    same_var_level : Bool
    same_var_level = v.0 == w.var.0 && level == w.level

    kept : (s : Bool) → (if s then after_scalar I (now v level I)
        else after_write w.region I (now v level I)) ≡ true → now v level I ≡ true
    kept true e = e
    kept false e = sym (ap (λ r. after_write r I (now v level I)) (grid.1 ∙ boundary)) ∙ e

    by : (b : Bool) → same_var_level ≡ b → written setup now w v level I ≡ true
        → now v level I ≡ true
    by true is e = kept (is_scalar setup v) (sym (rw is refl) ∙ e)
    by false is e = sym (rw is refl) ∙ e

-- the levels that a Cell item writes
cell-levels : (setup : Setup) (region : Region) (before : Flags) (a0 b0 : State)
    (one two : Point → Option (List ℤ)) (k : ℕ) (ws : List Touch) (flags : Flags) (a b : State)
    → Agree setup before a0 b0 → Agree setup flags a b → NoMore region flags before
    → SameNumbers setup (in_region setup.shape region) one two (k + length ws)
    → All (IsGridWrite setup region) ws → All (IsStoredTouch setup) ws
    → Agree setup (all_written setup ws flags)
    (levels_after (whole setup.shape) (values_of setup a0) (in_region setup.shape region)
    one k ws a)
    (levels_after (whole setup.shape) (values_of setup b0) (in_region setup.shape region)
    two k ws b)
cell-levels setup region before a0 b0 one two k [] flags a b first agree less same grid there =
    agree
cell-levels setup region before a0 b0 one two k (w ∷ ws)
    flags a b first agree less same grid there =
    cell-levels setup region before a0 b0 one two (k + 1) ws (written setup flags w)
    (with_level a w.var w.level
    (level_after (whole setup.shape) zone one k (values_of setup a0 w.var w.level)))
    (with_level b w.var w.level
    (level_after (whole setup.shape) zone two k (values_of setup b0 w.var w.level)))
    first
    (agree-level setup flags a b w xs ys agree g.0 (All-head (IsStoredTouch setup) w ws there)
    (numbers-count (whole setup.shape) (new_at one a0))
    (numbers-count (whole setup.shape) (new_at two b0))
    (λ p h told.
    at-numbers setup.shape (new_at one a0) p h
    ∙ at_point p h told (zone p) refl
    ∙ sym (at-numbers setup.shape (new_at two b0) p h)))
    (no-more setup region w flags before g less)
    (λ p h here. let s = same p h here in (s.0, s.1, s.2, (let e = s.3 in omega (arith, e))))
    (All-tail (IsGridWrite setup region) w ws grid)
    (All-tail (IsStoredTouch setup) w ws there)
  where
    zone : Point → Bool
    zone = in_region setup.shape region

    g : IsGridWrite setup region w
    g = All-head (IsGridWrite setup region) w ws grid

    new_at : (Point → Option (List ℤ)) → State → Point → ℤ
    new_at numbers s p = if zone p then number_or (numbers p) k (values_of setup s w.var w.level p)
        else values_of setup s w.var w.level p

    xs : List ℤ
    xs = level_after (whole setup.shape) zone one k (values_of setup a0 w.var w.level)

    ys : List ℤ
    ys = level_after (whole setup.shape) zone two k (values_of setup b0 w.var w.level)

    old : (s : State) (p : Point)
        → values_of setup s w.var w.level p ≡ at setup.shape (level_of s w.var w.level) p
    old s p = rw g.0 refl

    at_point : (p : Point) → IsIn (whole setup.shape) p
        → is_told setup (written setup flags w) w.var w.level p ≡ true → (b : Bool)
        → in_region setup.shape region p ≡ b
        → new_at one a0 p ≡ new_at two b0 p
    at_point p h told true here =
        let s = same p h here in
        rw (here, s.1, s.2) (number-there s.0 k (values_of setup a0 w.var w.level p)
        (values_of setup b0 w.var w.level p) (let e = s.3 in omega (arith, e)))
    at_point p h told false here =
        let o = outside setup flags w region p g.1 g.0 here told in
        rw here (old a0 p ∙ first.points w.var w.level p g.0 h
        (rw (o.1) (less o.0 w.var w.level o.2)) ∙ sym (old b0 p))

-- the kinds of a Cell item's writes
same-region : (a b : Region) → same_region a b ≡ true → a ≡ b
same-region Interior Interior e = refl
same-region Boundary Boundary e = refl
same-region Everywhere Everywhere e = refl
same-region Interior Boundary e = absurd (false≢true e)
same-region Interior Everywhere e = absurd (false≢true e)
same-region Boundary Interior e = absurd (false≢true e)
same-region Boundary Everywhere e = absurd (false≢true e)
same-region Everywhere Interior e = absurd (false≢true e)
same-region Everywhere Boundary e = absurd (false≢true e)

not-true : (b : Bool) → not b ≡ true → b ≡ false
not-true true e = sym e
not-true false e = refl

pub grid-writes : (setup : Setup) (region : Region) (ws : List Touch)
    → list_all (λ (w : Touch). not (is_scalar setup w.var) && same_region w.region region) ws ≡ true
    → All (IsGridWrite setup region) ws
grid-writes setup region [] e = All-nil (IsGridWrite setup region)
grid-writes setup region (w ∷ ws) e =
    let parts = and_parts (not (is_scalar setup w.var) && same_region w.region region)
    (list_all (λ (w : Touch). not (is_scalar setup w.var) && same_region w.region region) ws)
    e in
    let one = and_parts (not (is_scalar setup w.var)) (same_region w.region region) parts.0 in
    All-cons (IsGridWrite setup region) w ws
    (not-true (is_scalar setup w.var) one.0, same-region w.region region one.1)
    (grid-writes setup region ws parts.1)

-- a sweep whose numbers are the same
sweeps : (setup : Setup) (flags : Flags) (a b : State) (va vb : Values) (zone : Point → Bool)
    (one two : Point → Option (List ℤ)) (ws : List Touch)
    → ((p : Point) → IsIn (whole setup.shape) p → zone p ≡ true → one p ≡ two p)
    → (((p : Point) → IsIn (whole setup.shape) p → zone p ≡ true → is_some (one p) ≡ true)
    → Agree setup flags (levels_after (whole setup.shape) va zone one 0 ws a)
    (levels_after (whole setup.shape) vb zone two 0 ws b))
    → AgreeOrNone setup flags (sweep (whole setup.shape) va zone one ws a)
    (sweep (whole setup.shape) vb zone two ws b)
sweeps setup flags a b va vb zone one two ws same build =
    subst (λ t. AgreeOrNone setup flags (sweep box va zone one ws a)
    (if t then Some (levels_after box vb zone two 0 ws b) else None)) tests
    (by (list_all (passed one) (points_in box)) refl)
  where
    box : Box3
    box = whole setup.shape

    passed : (Point → Option (List ℤ)) → Point → Bool
    passed numbers p = not (zone p) || is_some (numbers p)

    each : (p : Point) → IsIn box p → (z : Bool) → zone p ≡ z → passed one p ≡ passed two p
    each p h true is = rw is (ap is_some (same p h is))
    each p h false is = rw is refl

    tests : list_all (passed one) (points_in box) ≡ list_all (passed two) (points_in box)
    tests = all-same box (passed one) (passed two) (λ p h. each p h (zone p) refl)

    there : (p : Point) → list_all (passed one) (points_in box) ≡ true → IsIn box p → zone p ≡ true
        → is_some (one p) ≡ true
    there p all h is = sym (rw is refl) ∙ all-at box (passed one) p all h

    by : (t : Bool) → list_all (passed one) (points_in box) ≡ t
        → AgreeOrNone setup flags (if t then Some (levels_after box va zone one 0 ws a) else None)
        (if t then Some (levels_after box vb zone two 0 ws b) else None)
    by true all = build (λ p h is. there p all h is)
    by false all = tt

-- one read, at the window of a point of the region
read-seen : (setup : Setup) (flags : Flags) (a b : State) (x : Item) (r : Touch) (p : Point)
    → IsSettled setup → x.kind ≡ Cell → Agree setup flags a b
    → IsIn (whole setup.shape) p → in_region setup.shape (region_of x.writes) p ≡ true
    → HasRow setup x r ≡ true → Met setup flags (needs_of_read setup x r)
    → SeesSame setup a b (window_point setup.shape (region_of x.writes) p) r
read-seen setup flags a b x r p settled kind agree h here row met = by (is_scalar setup r.var) refl
  where
    q : Point
    q = window_point setup.shape (region_of x.writes) p

    grid_row : is_scalar setup r.var ≡ false
        → read_needs setup x r ≡ grid_needs setup.shape Cell (region_of x.writes) r
    grid_row is = rw is (ap (λ k. grid_needs setup.shape k (region_of x.writes) r) kind)

    by : (s : Bool) → is_scalar setup r.var ≡ s → SeesSame setup a b q r
    by true is = sees-scalar setup flags a b q r agree is (scalar-met setup flags x r is met)
    by false is =
        sees-told setup flags a b q r agree is
        (cell-told setup flags x r (region_of x.writes) r.region settled.shape settled.interior
        (sym (ap is_some (grid_row is)) ∙ row) (subst (RowMet setup flags x r) (grid_row is) met)
        p h here).each

-- what is met of each read
all-reads : (setup : Setup) (flags : Flags) (x : Item) (rs : List Touch)
    → list_all (HasRow setup x) rs ≡ true → ReadsMet setup flags x rs
    → All (λ r. (HasRow setup x r ≡ true) × Met setup flags (needs_of_read setup x r)) rs
all-reads setup flags x [] rows met =
    All-nil (λ r. (HasRow setup x r ≡ true) × Met setup flags (needs_of_read setup x r))
all-reads setup flags x (r ∷ rs) rows met =
    let parts = and_parts (HasRow setup x r) (list_all (HasRow setup x) rs) rows in
    let P = λ (need : Need). is_met setup flags need ≡ true in
    All-cons (λ r. (HasRow setup x r ≡ true) × Met setup flags (needs_of_read setup x r)) r rs
    (parts.0, all-left P (needs_of_read setup x r) (flat_map (needs_of_read setup x) rs) met)
    (all-reads setup flags x rs parts.1
    (all-right P (needs_of_read setup x r) (flat_map (needs_of_read setup x) rs) met))

one-read : (setup : Setup) (flags : Flags) (x : Item) (r : Touch) → IsReady setup x
    → Contains x.reads r → ReadsMet setup flags x x.reads
    → (HasRow setup x r ≡ true) × Met setup flags (needs_of_read setup x r)
one-read setup flags x r ready one met =
    All-contains (λ r. (HasRow setup x r ≡ true) × Met setup flags (needs_of_read setup x r))
    x.reads r (all-reads setup flags x x.reads (declared setup x ready.declared).rows met) one

-- a read of a Cell item, at the window of a point of its region
pub window-told : (setup : Setup) (flags : Flags) (x : Item) (r : Touch) (p : Point)
    → IsSettled setup → IsReady setup x → x.kind ≡ Cell → Contains x.reads r
    → is_scalar setup r.var ≡ false
    → ReadsMet setup flags x x.reads → IsIn (whole setup.shape) p
    → in_region setup.shape (region_of x.writes) p ≡ true
    → IsWindowTold setup flags p (window_point setup.shape (region_of x.writes) p) r
window-told setup flags x r p settled ready kind one is met h here =
    let m = one-read setup flags x r ready one met in
    let grid_row : read_needs setup x r ≡ grid_needs setup.shape Cell (region_of x.writes) r =
    rw is (ap (λ k. grid_needs setup.shape k (region_of x.writes) r) kind) in
    cell-told setup flags x r (region_of x.writes) r.region settled.shape settled.interior
    (sym (ap is_some grid_row) ∙ m.0) (subst (RowMet setup flags x r) grid_row m.1) p h here

pub scalar-told : (setup : Setup) (flags : Flags) (x : Item) (r : Touch) → IsReady setup x
    → Contains x.reads r → is_scalar setup r.var ≡ true → ReadsMet setup flags x x.reads
    → flags r.var r.level S ≡ true
scalar-told setup flags x r ready one is met =
    scalar-met setup flags x r is (one-read setup flags x r ready one met).1

some-there : {X : Type 0} (o : Option X) → is_some o ≡ true → (x : X) × (o ≡ Some x)
some-there None e = absurd (false≢true e)
some-there (Some x) e = (x, refl)

cell-agrees : (setup : Setup) (rules : List Rule) (flags : Flags) (x : Item) (a b : State)
    (iteration : ℕ) → IsSettled setup → IsReady setup x → x.kind ≡ Cell → Agree setup flags a b
    → ReadsMet setup flags x x.reads
    → AgreeOrNone setup (all_written setup x.writes flags) (cell_turn setup rules x a iteration)
    (cell_turn setup rules x b iteration)
cell-agrees setup rules flags x a b iteration settled ready kind agree met =
    sweeps setup (all_written setup x.writes flags) a b (values_of setup a) (values_of setup b)
    (in_region setup.shape (region_of x.writes)) one two x.writes same
    (λ there.
    cell-levels setup (region_of x.writes) flags a b one two 0 x.writes flags a b agree agree
    (λ boundary v level told. told)
    (λ p h here.
    let s = some-there (one p) (there p h here) in (
      s.0,
      s.1,
      sym (same p h here) ∙ s.1,
      (let e = enough setup x.writes s.0 (fitting setup x.writes _ s.0 s.1) in omega (arith, e)),
    ))
    (grid-writes setup (region_of x.writes) x.writes
    (subst (λ k. kinds_agree setup x k ≡ true) kind parts.agree)) ready.writes)
  where
    parts : Declared setup x
    parts = declared setup x ready.declared

    one : Point → Option (List ℤ)
    one = swept_at setup rules x (values_of setup a) iteration

    two : Point → Option (List ℤ)
    two = swept_at setup rules x (values_of setup b) iteration

    same : (p : Point) → IsIn (whole setup.shape) p
        → in_region setup.shape (region_of x.writes) p ≡ true → one p ≡ two p
    same p h here =
        numbers-seen setup rules x (values_of setup a) (values_of setup b) iteration
        (window_point setup.shape (region_of x.writes) p) p
        (sees-all setup flags a b x (window_point setup.shape (region_of x.writes) p) x.reads
        (λ r row need. read-seen setup flags a b x r p settled kind agree h here row need)
        parts.rows met)

-- ---- items that write scalars

scalars-given : (setup : Setup) (flags : Flags) (x : Item) (a b : State) (one two : Option (List ℤ))
    → Agree setup flags a b → All (λ (w : Touch). is_scalar setup w.var ≡ true) x.writes
    → All (IsStoredTouch setup) x.writes
    → one ≡ two → ((ns : List ℤ) → one ≡ Some ns → all_fit setup x.writes ns ≡ true)
    → AgreeOrNone setup (all_written setup x.writes flags) (scalar_turn x a one)
    (scalar_turn x b two)
scalars-given setup flags x a b one two agree scalars there same fit =
    subst (λ o. AgreeOrNone setup (all_written setup x.writes flags) (scalar_turn x a one)
    (scalar_turn x b o)) same (by one fit)
  where
    by : (o : Option (List ℤ)) → ((ns : List ℤ) → o ≡ Some ns → all_fit setup x.writes ns ≡ true)
        → AgreeOrNone setup (all_written setup x.writes flags) (scalar_turn x a o)
        (scalar_turn x b o)
    by None fit = tt
    by (Some ns) fit = agree-scalars setup x.writes ns flags a b agree (fit ns refl) scalars there

-- a Scalar item reads scalars alone
scalar-agrees : (setup : Setup) (rules : List Rule) (flags : Flags) (x : Item) (a b : State)
    (iteration : ℕ) → IsReady setup x → x.kind ≡ Scalar → Agree setup flags a b
    → ReadsMet setup flags x x.reads
    → AgreeOrNone setup (all_written setup x.writes flags)
    (scalar_turn x a (numbers_at setup rules x (values_of setup a)
    iteration first_point first_point))
    (scalar_turn x b (numbers_at setup rules x (values_of setup b)
    iteration first_point first_point))
scalar-agrees setup rules flags x a b iteration ready kind agree met =
    scalars-given setup flags x a b
    (numbers_at setup rules x (values_of setup a) iteration first_point first_point)
    (numbers_at setup rules x (values_of setup b) iteration first_point first_point)
    agree (all-tested (λ (w : Touch). is_scalar setup w.var) x.writes kinds.0) ready.writes
    (numbers-seen setup rules x (values_of setup a) (values_of setup b)
    iteration first_point first_point
    (seen x.reads kinds.1 met))
    (λ ns is. fitting setup x.writes _ ns is)
  where
    parts : Declared setup x
    parts = declared setup x ready.declared

    kinds : (list_all (λ (w : Touch). is_scalar setup w.var) x.writes ≡ true)
        × (list_all (λ (r : Touch). is_scalar setup r.var) x.reads ≡ true)
    kinds = and_parts (list_all (λ (w : Touch). is_scalar setup w.var) x.writes)
        (list_all (λ (r : Touch). is_scalar setup r.var) x.reads)
        (subst (λ k. kinds_agree setup x k ≡ true) kind parts.agree)

    seen : (rs : List Touch) → list_all (λ (r : Touch). is_scalar setup r.var) rs ≡ true
        → ReadsMet setup flags x rs
        → flat_map (values_around setup (values_of setup a) first_point) rs
        ≡ flat_map (values_around setup (values_of setup b) first_point) rs
    seen [] scalars met = refl
    seen (r ∷ rs) scalars met =
        let one = and_parts (is_scalar setup r.var)
        (list_all (λ (r : Touch). is_scalar setup r.var) rs) scalars in
        let P = λ (need : Need). is_met setup flags need ≡ true in
        let here = all-left P (needs_of_read setup x r) (flat_map (needs_of_read setup x) rs) met in
        let rest = all-right P (needs_of_read setup x r) (flat_map (needs_of_read setup x) rs)
        met in
        ap (λ (ns : List ℤ). ns
        ++ flat_map (values_around setup (values_of setup a) first_point) rs)
        (sees-scalar setup flags a b first_point r agree one.0
        (scalar-met setup flags x r one.0 here))
        ∙ ap (λ (ns : List ℤ). values_around setup (values_of setup b) first_point r ++ ns)
        (seen rs one.1 rest)

-- a level that is told at each point is the same list
pub same-level : (setup : Setup) (flags : Flags) (a b : State) (v : VarId) (level : ℕ)
    → Agree setup flags a b → is_scalar setup v ≡ false
    → ((p : Point) → IsIn (whole setup.shape) p → is_told setup flags v level p ≡ true)
    → level_of a v level ≡ level_of b v level
same-level setup flags a b v level agree grid told =
    elim (cases_lt v.0 (length setup.vars)) [
      | inl there ↦ elim (cases_lt level (levels_of setup v)) [
        | inl stored ↦
            same-numbers setup.shape (level_of a v level) (level_of b v level)
            (agree.first.numbers v level there stored ∙ rw grid refl)
            (agree.second.numbers v level there stored ∙ rw grid refl)
            (λ p h. agree.points v level p grid h (told p h))
        | inr past ↦
            get_or_past (get_or a v.0 []) level []
            (let e = agree.first.levels v there in omega (arith, e, past))
            ∙ sym (get_or_past (get_or b v.0 []) level []
            (let e = agree.second.levels v there in omega (arith, e, past)))
      ]
      | inr past ↦ ap (λ levels. get_or levels level [])
          (none a agree.first past ∙ sym (none b agree.second past))
    ]
  where
    none : (s : State) → IsState setup s → length setup.vars ≤ v.0 → get_or s v.0 [] ≡ []
    none s is past = get_or_past s v.0 [] (let e = is.vars in omega (arith, e, past))

-- a reduction reads one level whole
abbrev reduction_needs : Touch → Option (List Flag)
reduction_needs r = if same_region r.region Everywhere && r.reach == 0 then Some (I ∷ B ∷ [])
    else None

reduced-agrees : (setup : Setup) (flags : Flags) (x : Item) (a b : State) → IsReady setup x
    → reduces setup x ≡ true
    → ((r : Touch) → grid_needs setup.shape x.kind (region_of x.writes) r ≡ reduction_needs r)
    → Agree setup flags a b → ReadsMet setup flags x x.reads
    → AgreeOrNone setup (all_written setup x.writes flags) (reduce_turn setup x a)
    (reduce_turn setup x b)
reduced-agrees setup flags x a b ready is row agree met =
    scalars-given setup flags x a b
    (if_fit setup x.writes (Some (reduced x.kind (first_read a x.reads) ∷ [])))
    (if_fit setup x.writes (Some (reduced x.kind (first_read b x.reads) ∷ [])))
    agree (all-tested (λ (w : Touch). is_scalar setup w.var) x.writes shape.1) ready.writes
    (ap (λ ns. if_fit setup x.writes (Some (reduced x.kind ns ∷ [])))
    (seen x.reads shape.0 parts.rows met))
    (λ ns e. fitting setup x.writes (Some (reduced x.kind (first_read a x.reads) ∷ [])) ns e)
  where
    parts : Declared setup x
    parts = declared setup x ready.declared

    shape : (list_all (λ (r : Touch). not (is_scalar setup r.var)) x.reads ≡ true)
        × (list_all (λ (w : Touch). is_scalar setup w.var) x.writes ≡ true)
    shape =
        let last = and_parts _ (list_all (λ (w : Touch). is_scalar setup w.var) x.writes) is in (
          (and_parts _ (list_all (λ (r : Touch). not (is_scalar setup r.var)) x.reads) last.0).1,
          last.1,
        )

    seen : (rs : List Touch) → list_all (λ (r : Touch). not (is_scalar setup r.var)) rs ≡ true
        → list_all (HasRow setup x) rs ≡ true → ReadsMet setup flags x rs
        → first_read a rs ≡ first_read b rs
    seen [] grids rows met = refl
    seen (r ∷ rs) grids rows met =
        let grid = not-true (is_scalar setup r.var)
        (and_parts (not (is_scalar setup r.var))
        (list_all (λ (r : Touch). not (is_scalar setup r.var)) rs) grids).0 in
        let here = (and_parts (HasRow setup x r) (list_all (HasRow setup x) rs) rows).0 in
        let needs_is : read_needs setup x r ≡ reduction_needs r = rw grid (row r) in
        let mine = subst (RowMet setup flags x r) needs_is
        (all-left (λ (need : Need). is_met setup flags need ≡ true) (needs_of_read setup x r)
        (flat_map (needs_of_read setup x) rs) met) in
        let there = row-there setup flags x r (same_region r.region Everywhere && r.reach == 0)
        (I ∷ B ∷ []) (sym (ap is_some needs_is) ∙ here) mine in
        same-level setup flags a b r.var r.level agree grid
        (told-all setup flags x r (first-met setup flags x r I (B ∷ []) there.1)
        (second-met setup flags x r I B [] there.1))

-- ---- any item

-- two states that agree lead, by an item whose needs are met, to none both times or to states that
-- agree for what it leaves
pub turn-agrees : (setup : Setup) (rules : List Rule) (flags : Flags) (x : Item) (a b : State)
    (iteration : ℕ) → IsSettled setup → IsReady setup x → Agree setup flags a b
    → Met setup flags (flat_map (needs_of_read setup x) x.reads)
    → AgreeOrNone setup (all_written setup x.writes flags) (turn setup rules x a iteration)
    (turn setup rules x b iteration)
turn-agrees setup rules flags x a b iteration settled ready agree met = by x.kind refl
  where
    agrees : kinds_agree setup x x.kind ≡ true
    agrees = (declared setup x ready.declared).agree

    by : (k : ItemKind) → x.kind ≡ k
        → AgreeOrNone setup (all_written setup x.writes flags) (turn_by k setup rules x a iteration)
        (turn_by k setup rules x b iteration)
    by Cell is = cell-agrees setup rules flags x a b iteration settled ready is agree met
    by Scalar is = scalar-agrees setup rules flags x a b iteration ready is agree met
    by Sum is = reduced-agrees setup flags x a b ready
        (subst (λ k. kinds_agree setup x k ≡ true) is agrees)
        (λ r. ap (λ k. grid_needs setup.shape k (region_of x.writes) r) is) agree met
    by Least is = reduced-agrees setup flags x a b ready
        (subst (λ k. kinds_agree setup x k ≡ true) is agrees)
        (λ r. ap (λ k. grid_needs setup.shape k (region_of x.writes) r) is) agree met
    by Greatest is = reduced-agrees setup flags x a b ready
        (subst (λ k. kinds_agree setup x k ≡ true) is agrees)
        (λ r. ap (λ k. grid_needs setup.shape k (region_of x.writes) r) is) agree met
    by Count is = reduced-agrees setup flags x a b ready
        (subst (λ k. kinds_agree setup x k ≡ true) is agrees)
        (λ r. ap (λ k. grid_needs setup.shape k (region_of x.writes) r) is) agree met
