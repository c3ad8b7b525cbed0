-- A part that agrees with the undivided run sweeps its zone as the undivided run does.
use Rattle.std.proofs.Common.{◌≡◌, ℕ, zero, suc, ◌<◌, ◌≤◌, Bool, true, false, not, ◌&&◌, ◌||◌, refl, sym, ap, ◌∙◌, subst, arith, cond, ℤ, pos, List, [], ◌∷◌, length, get_or, Option, Some, None}
use Rattle.std.specs.Prelude.{All, is_some, is_none}
use Rattle.std.specs.List.{list_all, list_any}
use Rattle.std.proofs.lemmas.Bool.{and_parts}
use Rattle.cx_grid.specs.declared.boxes.Point.{Point}
use Rattle.cx_grid.specs.Boxes.{shifted, IsIn, index_in, points_in}
use Rattle.cx_grid.specs.Grid.{IsShape, is_boundary, wrap, whole, at}
use Rattle.cx_grid.specs.Windows.{reach_box}
use Rattle.cx_plan.specs.declared.variable.VarId.{VarId}
use Rattle.cx_plan.specs.declared.flag.Flag.TheVariants.{G, S}
use Rattle.cx_plan.specs.declared.item.Region.{Region}
use Rattle.cx_plan.specs.declared.item.Region.TheVariants.{Interior, Boundary, Everywhere}
use Rattle.cx_plan.specs.declared.item.ItemKind.{ItemKind}
use Rattle.cx_plan.specs.declared.item.ItemKind.TheVariants.{Cell, Scalar, Sum, Least, Greatest, Count}
use Rattle.cx_plan.specs.declared.item.Touch.{Touch}
use Rattle.cx_plan.specs.declared.item.Item.{Item}
use Rattle.cx_plan.specs.Setups.{Setup}
use Rattle.cx_plan.specs.Lookups.{is_scalar, levels_of}
use Rattle.cx_plan.specs.Regions.{Flags, region_of, cell_needs, grid_needs, read_needs, flags_or_none, is_G, after_write, all_written, kinds_agree, has_shape}
use Rattle.cx_rule.specs.Routine.{Rule, rule_at}
use Rattle.cx_model.specs.States.{State, level_of, scalar_of, IsState}
use Rattle.cx_model.specs.Turns.{Values, values_of, all_fit, if_fit, seen_at, place_at, in_region, window_point, swept_at, number_or, level_after, levels_after}
use Rattle.cx_cut.specs.Cuts.{Parts, IsReached, owned, local}
use Rattle.law_parts.specs.Holding.{IsHeld, number_at, local_values, in_zone}
use Rattle.law_parts.specs.Ghosts.{GhostsAt}
use Rattle.law_parts.proofs.LevelsLaws.{found, left_by, after_all, found_below, is_grid_write, flag_by, flags_found}
use Rattle.cx_grid.proofs.WrapLaws.{wrap_twice, boundary_wrapped}
use Rattle.law_parts.proofs.SeenLaws.{at_numbers, ShowsSame, swept_same, swept_wrapped}
use Rattle.law_parts.proofs.ZoneLaws.{in_from, Lies, own_reached, reached_own, window_reached, test_at, any_is}

-- ---- numbers of writes

enough : (setup : Setup) (ws : List Touch) (ns : List ℤ) → all_fit setup ws ns ≡ true
    → length ws ≤ length ns
enough setup [] ns h = omega arith
enough setup (w ∷ ws) [] h = absurd cc
enough setup (w ∷ ws) (n ∷ ns) h = let l =
    enough setup ws ns (and_parts _ (all_fit setup ws ns) h).1 in omega (arith, l)

-- there are as many numbers as writes
abbrev Enough : ℕ → Option (List ℤ) → Type 0
Enough n None = Unit {0}
Enough n (Some ns) = n ≤ length ns

if_enough : (setup : Setup) (ws : List Touch) (o : Option (List ℤ))
    → Enough (length ws) (if_fit setup ws o)
if_enough setup ws None = tt
if_enough setup ws (Some ns) = go (all_fit setup ws ns) refl
  where
    go : (b : Bool) → all_fit setup ws ns ≡ b → Enough (length ws) (cond b (Some ns) None)
    go true e = enough setup ws ns e
    go false e = tt

below_length : (xs : List ℤ) (j : ℕ) (a b : ℤ) → j < length xs → get_or xs j a ≡ get_or xs j b
below_length [] j a b l = absurd (omega arith)
below_length (x ∷ xs) zero a b l = refl
below_length (x ∷ xs) (suc j) a b l = below_length xs j a b (omega arith)

-- ---- one point

abbrev put : Bool → Option (List ℤ) → ℕ → ℤ → ℤ
put z o j old = cond z (number_or o j old) old

-- from the same old number
put_same : (z : Bool) (o q : Option (List ℤ)) (j : ℕ) (a b : ℤ) → a ≡ b → (z ≡ true → o ≡ q)
    → put z o j a ≡ put z q j b
put_same true o q j a b e h = ap (λ n. number_or n j a) (h refl) ∙ ap (number_or q j) e
put_same false o q j a b e h = e

-- from any old number, where there is a new one
put_new : (n : ℕ) (o q : Option (List ℤ)) (j : ℕ) (a b : ℤ) → o ≡ q → is_some o ≡ true → Enough n o
    → j < n → number_or o j a ≡ number_or q j b
put_new n None q j a b e some many l = absurd cc
put_new n (Some ns) q j a b e some many l =
    below_length ns j a b (omega (arith, l, many)) ∙ ap (λ r. number_or r j b) e

or_true : (a b : Bool) → (not a || b) ≡ true → a ≡ true → b ≡ true
or_true true b h e = h
or_true false b h e = absurd cc

tested_same : (z a b : Bool) → (z ≡ true → a ≡ b) → (z && not b) ≡ not (not z || a)
tested_same true a b h = ap not (sym (h refl))
tested_same false a b h = refl

none_is : (o : Option (List ℤ)) → is_none o ≡ not (is_some o)
none_is None = refl
none_is (Some x) = refl

-- ---- an item that computes points

-- a variable's level that is stored
abbrev pub IsStored : Setup → VarId → ℕ → Type 0
IsStored setup v level = (v.0 < length setup.vars) × (level < levels_of setup v)

pub record IsCell (setup : Setup) (x : Item) : Type 0 where
  pub kind : x.kind ≡ Cell
  pub shape : has_shape setup x ≡ true
  pub reads : All (λ (t : Touch). IsStored setup t.var t.level) x.reads

grid_read : (setup : Setup) (x : Item) (t : Touch) (kind : ItemKind) → kind ≡ Cell
    → grid_needs setup.shape kind (region_of x.writes) t
    ≡ cell_needs setup.shape (region_of x.writes) t.region t.reach
grid_read setup x t Cell e = refl
grid_read setup x t Scalar e = absurd cc
grid_read setup x t Sum e = absurd cc
grid_read setup x t Least e = absurd cc
grid_read setup x t Greatest e = absurd cc
grid_read setup x t Count e = absurd cc

cell_writes : (setup : Setup) (x : Item) (kind : ItemKind) → kind ≡ Cell
    → kinds_agree setup x kind ≡ true
    → list_all (is_grid_write setup (region_of x.writes)) x.writes ≡ true
cell_writes setup x Cell e h = h
cell_writes setup x Scalar e h = absurd cc
cell_writes setup x Sum e h = absurd cc
cell_writes setup x Least e h = absurd cc
cell_writes setup x Greatest e h = absurd cc
cell_writes setup x Count e h = absurd cc

-- all its writes are of grid variables in one region
pub cell_grid : (setup : Setup) (x : Item) → IsCell setup x
    → list_all (is_grid_write setup (region_of x.writes)) x.writes ≡ true
cell_grid setup x cell =
    let u = and_parts _ (list_all (λ r. is_some (read_needs setup x r)) x.reads) cell.shape in
    cell_writes setup x x.kind cell.kind (and_parts _ (kinds_agree setup x x.kind) u.0).1

pub all_at : {A : Type 0} (test : A → Bool) (xs : List A) → list_all test xs ≡ true
    → (i : ℕ) (d : A) → i < length xs → test (get_or xs i d) ≡ true
all_at test [] h i d l = absurd (omega arith)
all_at test (x ∷ xs) h zero d l = (and_parts (test x) (list_all test xs) h).0
all_at test (x ∷ xs) h (suc i) d l =
    all_at test xs (and_parts (test x) (list_all test xs) h).1 i d (omega arith)

-- ---- a part's sweep and the undivided one

module _ (setup : Setup) (rules : List Rule) (cut : Parts) (k : ℕ) (lies : Lies setup.shape cut k)
    (shape : IsShape setup.shape) (x : Item) (cell : IsCell setup x) (numbers state : State)
    (iteration : ℕ)
    (held : IsHeld setup (local cut k) numbers) (is_state : IsState setup state) (flags : Flags)
    (done : VarId → ℕ → ℕ) (ghosts : GhostsAt setup x flags)
    (scalars : (v : VarId) → is_scalar setup v ≡ true → scalar_of numbers v ≡ scalar_of state v)
    (agrees : (v : VarId) (level : ℕ) (p : Point) → is_scalar setup v ≡ false
    → IsStored setup v level → IsReached cut k (cond (flags v level G) 3 (done v level)) p
    → number_at (local cut k) (level_of numbers v level) p
    ≡ at setup.shape (level_of state v level) p) where
  abbrev region : Region
  region = region_of x.writes

  abbrev zone : Point → Bool
  zone p = in_zone setup (owned cut k) region p

  abbrev here : Values
  here = local_values setup (local cut k) numbers

  abbrev there : Values
  there = values_of setup state

  -- a read's row of the table
  read_row : (i : ℕ) (t : Touch) → i < length x.reads
      → is_scalar setup (get_or x.reads i t).var ≡ false
      → read_needs setup x (get_or x.reads i t)
      ≡ cell_needs setup.shape region (get_or x.reads i t).region (get_or x.reads i t).reach
  read_row i t l grid = ap
      (λ b. cond b (Some (S ∷ [])) (grid_needs setup.shape x.kind region (get_or x.reads i t))) grid
      ∙ grid_read setup x (get_or x.reads i t) x.kind cell.kind

  shape_parts : (kinds_agree setup x x.kind ≡ true)
      × (list_all (λ r. is_some (read_needs setup x r)) x.reads ≡ true)
  shape_parts =
      let u = and_parts _ (list_all (λ r. is_some (read_needs setup x r)) x.reads) cell.shape in
      ((and_parts _ (kinds_agree setup x x.kind) u.0).1, u.1)

  -- a point of the zone shows both the same window
  shows_same : (p : Point) → IsIn (local cut k) p → zone p ≡ true
      → All (ShowsSame setup here there (window_point setup.shape region p)
      (window_point setup.shape region p)) x.reads
  shows_same p near zoned =
      λ i t l o inside. go i t l o inside (is_scalar setup (get_or x.reads i t).var) refl
    where
      go : (i : ℕ) (t : Touch) → i < length x.reads → (o : Point)
          → IsIn (reach_box setup.shape.dims (get_or x.reads i t).reach) o → (b : Bool)
          → is_scalar setup (get_or x.reads i t).var ≡ b
          → here (get_or x.reads i t).var (get_or x.reads i t).level
          (shifted (window_point setup.shape region p) o)
          ≡ there (get_or x.reads i t).var (get_or x.reads i t).level
          (shifted (window_point setup.shape region p) o)
      go i t l o inside true e =
          let d = get_or x.reads i t in
          let q = shifted (window_point setup.shape region p) o in
          ap (λ b. cond b (scalar_of numbers d.var)
          (number_at (local cut k) (level_of numbers d.var d.level) q)) e ∙ scalars d.var e
          ∙ sym
          (ap (λ b. cond b (scalar_of state d.var)
          (at setup.shape (level_of state d.var d.level) q)) e)
      go i t l o inside false e =
          let d = get_or x.reads i t in
          let q = shifted (window_point setup.shape region p) o in
          let row = read_row i t l e in
          let some = all_at (λ r. is_some (read_needs setup x r)) x.reads shape_parts.1 i t l in
          ap (λ b. cond b (scalar_of numbers d.var)
          (number_at (local cut k) (level_of numbers d.var d.level) q)) e
          ∙ agrees d.var d.level q e (cell.reads i t l)
          (window_reached setup cut k lies region d.region d.reach (flags d.var d.level G)
          (done d.var d.level) p o (sym (ap is_some row) ∙ some)
          (λ g. ghosts i t l (ap (λ n. list_any is_G (flags_or_none n)) row ∙ g)) near zoned inside)
          ∙ sym
          (ap (λ b. cond b (scalar_of state d.var)
          (at setup.shape (level_of state d.var d.level) q)) e)

  pub same_numbers : (p : Point) → IsIn (local cut k) p → zone p ≡ true
      → swept_at setup rules x here iteration p ≡ swept_at setup rules x there iteration p
  same_numbers p near zoned =
      swept_same setup rules x here there iteration p (shows_same p near zoned)

  abbrev pub passes : Bool
  passes = list_all (λ p. not (zone p) || is_some (swept_at setup rules x here iteration p))
      (points_in (local cut k))

  -- a part meets an end exactly where the undivided turn has no numbers at some point of its zone
  pub faults_same : list_any (λ p. zone p && is_none (swept_at setup rules x there iteration p))
      (points_in (local cut k)) ≡ not passes
  faults_same =
      any_is (local cut k) (λ p. zone p && is_none (swept_at setup rules x there iteration p))
      (λ p. not (zone p) || is_some (swept_at setup rules x here iteration p))
      (λ p h. ap (λ b. zone p && b) (none_is (swept_at setup rules x there iteration p))
      ∙ tested_same (zone p) (is_some (swept_at setup rules x here iteration p))
      (is_some (swept_at setup rules x there iteration p))
      (λ z. ap is_some (same_numbers p h z)))

  abbrev pub swept_here : State
  swept_here = levels_after (local cut k) here zone (swept_at setup rules x here iteration)
      0 x.writes numbers

  abbrev pub swept_there : State
  swept_there = levels_after (whole setup.shape) there (in_region setup.shape region)
      (swept_at setup rules x there iteration) 0 x.writes state

  -- a region of the grid has a point and the one that it names
  region_wrapped : (g : Region) (p : Point)
      → in_region setup.shape g (wrap setup.shape p) ≡ in_region setup.shape g p
  region_wrapped Interior p = ap not (boundary_wrapped setup.shape p)
  region_wrapped Boundary p = boundary_wrapped setup.shape p
  region_wrapped Everywhere p = refl

  -- the new number at a local point
  there_is : (j : ℕ) (v : VarId) (level : ℕ) (p : Point) → is_scalar setup v ≡ false
      → IsIn (local cut k) p
      → at setup.shape (level_after (whole setup.shape) (in_region setup.shape region)
      (swept_at setup rules x there iteration) j (there v level)) p
      ≡ put (in_region setup.shape region p) (swept_at setup rules x there iteration p) j
      (at setup.shape (level_of state v level) p)
  there_is j v level p grid near =
      let w = wrap setup.shape p in
      at_numbers (whole setup.shape)
      (λ q. put (in_region setup.shape region q) (swept_at setup rules x there iteration q) j
      (there v level q)) w (lies.names p near)
      ∙ ap (λ z. put z (swept_at setup rules x there iteration w) j (there v level w))
      (region_wrapped region p)
      ∙ ap (λ o. put (in_region setup.shape region p) o j (there v level w))
      (swept_wrapped setup rules x state iteration p shape)
      ∙ ap (λ b. put (in_region setup.shape region p) (swept_at setup rules x there iteration p) j
      (cond b (scalar_of state v) (at setup.shape (level_of state v level) w))) grid
      ∙ ap (λ q. put (in_region setup.shape region p) (swept_at setup rules x there iteration p) j
      (get_or (level_of state v level) (index_in (whole setup.shape) q) (pos 0)))
      (wrap_twice setup.shape p shape)

  here_is : (j : ℕ) (v : VarId) (level : ℕ) (p : Point) → is_scalar setup v ≡ false
      → IsIn (local cut k) p
      → number_at (local cut k)
      (level_after (local cut k) zone (swept_at setup rules x here iteration) j (here v level))
      p
      ≡ put (zone p) (swept_at setup rules x here iteration p) j
      (number_at (local cut k) (level_of numbers v level) p)
  here_is j v level p grid near =
      at_numbers (local cut k)
      (λ q. put (zone q) (swept_at setup rules x here iteration q) j (here v level q)) p near
      ∙ ap (λ b. put (zone p) (swept_at setup rules x here iteration p) j
      (cond b (scalar_of numbers v) (number_at (local cut k) (level_of numbers v level) p)))
      grid

  -- at each local point that is reached behind the sweep
  one_point : (g : Region) → region_of x.writes ≡ g → (j : ℕ) (v : VarId) (level : ℕ) (p : Point)
      → passes ≡ true → j < length x.writes → is_scalar setup v ≡ false → IsStored setup v level
      → IsReached cut k (cond (after_write g G (flags v level G)) 3 0) p → IsIn (local cut k) p
      → done v level ≡ 0
      → put (in_zone setup (owned cut k) g p) (swept_at setup rules x here iteration p) j
      (number_at (local cut k) (level_of numbers v level) p)
      ≡ put (in_region setup.shape g p) (swept_at setup rules x there iteration p) j
      (at setup.shape (level_of state v level) p)
  one_point Interior e j v level p pass l grid stored reached near none =
      let mine = reached_own setup cut k lies p reached in
      let z : in_zone setup (owned cut k) Interior p ≡ in_region setup.shape Interior p =
      ap (λ b. b && not (is_boundary setup.shape p)) (in_from (owned cut k) p mine) in
      ap (λ b. put b (swept_at setup rules x here iteration p) j
      (number_at (local cut k) (level_of numbers v level) p)) z
      ∙ put_same (in_region setup.shape Interior p) (swept_at setup rules x here iteration p)
      (swept_at setup rules x there iteration p) j _ _
      (agrees v level p grid stored
      (own_reached setup cut k lies (cond (flags v level G) 3 (done v level)) p mine))
      (λ t. same_numbers p near (ap (λ g. in_zone setup (owned cut k) g p) e ∙ z ∙ t))
  one_point Boundary e j v level p pass l grid stored reached near none =
      put_same (in_region setup.shape Boundary p) (swept_at setup rules x here iteration p)
      (swept_at setup rules x there iteration p) j _ _
      (agrees v level p grid stored
      (subst (λ d. IsReached cut k (cond (flags v level G) 3 d) p) (sym none) reached))
      (λ t. same_numbers p near (ap (λ g. in_zone setup (owned cut k) g p) e ∙ t))
  one_point Everywhere e j v level p pass l grid stored reached near none =
      let zoned : zone p ≡ true = ap (λ g. in_zone setup (owned cut k) g p) e in
      put_new (length x.writes) (swept_at setup rules x here iteration p)
      (swept_at setup rules x there iteration p) j _ _ (same_numbers p near zoned)
      (or_true (zone p) (is_some (swept_at setup rules x here iteration p))
      (test_at (local cut k)
      (λ q. not (zone q) || is_some (swept_at setup rules x here iteration q)) p pass near)
      zoned)
      (if_enough setup x.writes
      (rule_at rules x.routine (seen_at setup x here (window_point setup.shape region p))
      (place_at setup x iteration p))) l

  here_stored : (v : VarId) (level : ℕ) → IsStored setup v level
      → (v.0 < length numbers) × (level < length (get_or numbers v.0 []))
  here_stored v level stored = (
    subst (λ n. v.0 < n) (sym held.vars) stored.0,
    subst (λ n. level < n) (sym (held.levels v stored.0)) stored.1,
  )

  there_stored : (v : VarId) (level : ℕ) → IsStored setup v level
      → (v.0 < length state) × (level < length (get_or state v.0 []))
  there_stored v level stored = (
    subst (λ n. v.0 < n) (sym is_state.vars) stored.0,
    subst (λ n. level < n) (sym (is_state.levels v stored.0)) stored.1,
  )

  -- Behind the sweep each local point that is reached has the undivided run's number
  pub sweeps_agree : (v : VarId) (level : ℕ) (p : Point) → passes ≡ true → is_scalar setup v ≡ false
      → IsStored setup v level → done v level ≡ 0
      → IsReached cut k (cond (all_written setup x.writes flags v level G) 3 0) p
      → number_at (local cut k) (level_of swept_here v level) p
      ≡ at setup.shape (level_of swept_there v level) p
  sweeps_agree v level p pass grid stored none reached =
      let h = here_stored v level stored in
      let t = there_stored v level stored in
      ap (λ list. number_at (local cut k) list p)
      (after_all (local cut k) here zone (swept_at setup rules x here iteration)
      0 x.writes numbers v level h.0 h.1)
      ∙ go (found 0 x.writes v level) refl
      ∙ sym (ap (λ list. at setup.shape list p)
      (after_all (whole setup.shape) there (in_region setup.shape region)
      (swept_at setup rules x there iteration) 0 x.writes state v level t.0 t.1))
    where
      go : (o : Option ℕ) → found 0 x.writes v level ≡ o
          → number_at (local cut k)
          (left_by (local cut k) here zone (swept_at setup rules x here iteration) o v level
          (level_of numbers v level)) p
          ≡ at setup.shape (left_by (whole setup.shape) there (in_region setup.shape region)
          (swept_at setup rules x there iteration) o v level (level_of state v level)) p
      go None e =
          let f = flags_found setup region 0 x.writes flags v level grid
          (cell_writes setup x x.kind cell.kind shape_parts.0)
          ∙ ap (λ o. flag_by region o (flags v level G)) e in
          agrees v level p grid stored
          (subst (λ d. IsReached cut k (cond (flags v level G) 3 d) p) (sym none)
          (subst (λ b. IsReached cut k (cond b 3 0) p) f reached))
      go (Some j) e =
          let f = flags_found setup region 0 x.writes flags v level grid
          (cell_writes setup x x.kind cell.kind shape_parts.0)
          ∙ ap (λ o. flag_by region o (flags v level G)) e in
          here_is j v level p grid reached.inside
          ∙ one_point region refl j v level p pass
          (let l = found_below 0 x.writes v level j e in omega (arith, l)) grid stored
          (subst (λ b. IsReached cut k (cond b 3 0) p) f reached) reached.inside none
          ∙ sym (there_is j v level p grid reached.inside)
