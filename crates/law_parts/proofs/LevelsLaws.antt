-- What a sweep leaves of each variable's levels, and of their flags.
use Rattle.std.proofs.Common.{◌≡◌, ℕ, ◌+◌, ◌<◌, ◌⊎◌, inl, inr, Bool, true, false, not, ◌&&◌, eqb, ℤ, pos, List, [], ◌∷◌, length, get_or, set, Option, Some, None, refl, sym, ap, ◌∙◌, subst, arith, eq-eqb, cond}
use Rattle.std.specs.List.{list_all}
use Rattle.std.proofs.lemmas.Bool.{cases_eq, ne_eqb, and_parts, both_ways}
use Rattle.std.proofs.lemmas.List.{length-set, get_or-set_same, get_or-set_other}
use Rattle.cx_grid.specs.declared.boxes.Point.{Point}
use Rattle.cx_grid.specs.declared.boxes.Box3.{Box3}
use Rattle.cx_grid.specs.Boxes.{point_count, point_in}
use Rattle.std.proofs.lemmas.List.FromFn.{length-map-range_with_len}
use Rattle.law_parts.specs.Holding.{IsHeld}
use Rattle.cx_plan.specs.declared.variable.VarId.{VarId}
use Rattle.cx_plan.specs.declared.flag.Flag.TheVariants.{G}
use Rattle.cx_plan.specs.declared.item.Region.{Region}
use Rattle.cx_plan.specs.declared.item.Region.TheVariants.{Interior, Boundary, Everywhere}
use Rattle.cx_plan.specs.declared.item.Touch.{Touch}
use Rattle.cx_plan.specs.Setups.{Setup}
use Rattle.cx_plan.specs.Lookups.{is_scalar, levels_of, no_variable}
use Rattle.cx_plan.specs.Regions.{Flags, same_region, after_write, written, all_written, same_variable}
use Rattle.cx_model.specs.States.{State, level_of, scalar_of, with_level}
use Rattle.cx_model.specs.Turns.{Values, number_or, level_after, levels_after}
use Rattle.law_parts.proofs.ListLaws.{not_true}

-- whether a write is of this level
abbrev pub hits : VarId → ℕ → Touch → Bool
hits v level w = same_variable v w.var && eqb level w.level

abbrev pub later_or : Option ℕ → Option ℕ → Option ℕ
later_or (Some j) o = Some j
later_or None o = o

-- the number of the last write of this level, the writes being numbered from k on
abbrev pub found : ℕ → List Touch → VarId → ℕ → Option ℕ
found k [] v level = None
found k (w ∷ ws) v level = later_or (found (k + 1) ws v level) (cond (hits v level w) (Some k) None)

pub hits_is : (v : VarId) (level : ℕ) (w : Touch) → v.0 ≡ w.var.0 → level ≡ w.level
    → hits v level w ≡ true
hits_is v level w e f = ap (λ b. b && eqb level w.level) (eq-eqb v.0 w.var.0 e)
    ∙ eq-eqb level w.level f

no_hit : (v : VarId) (level : ℕ) (w : Touch) → (v.0 ≡ w.var.0 → ⊥) ⊎ (level ≡ w.level → ⊥)
    → hits v level w ≡ false
no_hit v level w (inl n) = ap (λ b. b && eqb level w.level) (ne_eqb v.0 w.var.0 n)
no_hit v level w (inr n) = go (eqb v.0 w.var.0)
  where
    go : (b : Bool) → (b && eqb level w.level) ≡ false
    go true = ne_eqb level w.level n
    go false = refl

-- one write
pub levels_stay : (state : State) (w : Touch) (list : List ℤ) (v : VarId) → v.0 < length state
    → length (get_or (with_level state w.var w.level list) v.0 []) ≡ length (get_or state v.0 [])
levels_stay state w list v below = go (cases_eq v.0 w.var.0)
  where
    go : (v.0 ≡ w.var.0) ⊎ (v.0 ≡ w.var.0 → ⊥)
        → length (get_or (with_level state w.var w.level list) v.0 [])
        ≡ length (get_or state v.0 [])
    go (inl e) =
        let levels = set (get_or state w.var.0 []) w.level list in
        ap (λ i. length (get_or (set state w.var.0 levels) i [])) e
        ∙ ap length (get_or-set_same state w.var.0 levels []
        (subst (λ i. i < length state) e below))
        ∙ length-set (get_or state w.var.0 []) w.level list
        ∙ ap (λ i. length (get_or state i [])) (sym e)
    go (inr n) =
        ap length (get_or-set_other state w.var.0 v.0 (set (get_or state w.var.0 []) w.level list)
        [] n)

module _ (state : State) (w : Touch) (list : List ℤ) (v : VarId) (level : ℕ)
    (below : v.0 < length state) (stored : level < length (get_or state v.0 [])) where
  pub written_one : v.0 ≡ w.var.0 → level ≡ w.level
      → level_of (with_level state w.var w.level list) v level ≡ list
  written_one e f =
      let levels = set (get_or state w.var.0 []) w.level list in
      let here : w.level < length (get_or state w.var.0 []) =
      subst (λ i. i < length (get_or state w.var.0 [])) f
      (subst (λ i. level < length (get_or state i [])) e stored) in
      ap (λ i. get_or (get_or (set state w.var.0 levels) i []) level []) e
      ∙ ap (λ ls. get_or ls level [])
      (get_or-set_same state w.var.0 levels [] (subst (λ i. i < length state) e below))
      ∙ ap (λ l. get_or levels l []) f
      ∙ get_or-set_same (get_or state w.var.0 []) w.level list [] here

  pub kept_one : (v.0 ≡ w.var.0 → ⊥) ⊎ (level ≡ w.level → ⊥)
      → level_of (with_level state w.var w.level list) v level ≡ level_of state v level
  kept_one (inl n) = ap (λ ls. get_or ls level [])
      (get_or-set_other state w.var.0 v.0 (set (get_or state w.var.0 []) w.level list) [] n)
  kept_one (inr n) = go (cases_eq v.0 w.var.0)
    where
      go : (v.0 ≡ w.var.0) ⊎ (v.0 ≡ w.var.0 → ⊥)
          → level_of (with_level state w.var w.level list) v level ≡ level_of state v level
      go (inr m) = ap (λ ls. get_or ls level [])
          (get_or-set_other state w.var.0 v.0 (set (get_or state w.var.0 []) w.level list) [] m)
      go (inl e) =
          let levels = set (get_or state w.var.0 []) w.level list in
          ap (λ i. get_or (get_or (set state w.var.0 levels) i []) level []) e
          ∙ ap (λ ls. get_or ls level [])
          (get_or-set_same state w.var.0 levels [] (subst (λ i. i < length state) e below))
          ∙ get_or-set_other (get_or state w.var.0 []) w.level level list [] n
          ∙ ap (λ i. get_or (get_or state i []) level []) (sym e)

-- all writes
module _ (box : Box3) (values : Values) (zone : Point → Bool) (numbers : Point → Option (List ℤ))
  where
    abbrev pub left_by : Option ℕ → VarId → ℕ → List ℤ → List ℤ
    left_by None v level old = old
    left_by (Some j) v level old = level_after box zone numbers j (values v level)

    abbrev pub next_state : ℕ → Touch → State → State
    next_state k w state = with_level state w.var w.level
        (level_after box zone numbers k (values w.var w.level))

    pub after_one : (k : ℕ) (w : Touch) (state : State) (v : VarId) (level : ℕ) → v.0 < length state
        → level < length (get_or state v.0 [])
        → level_of (next_state k w state) v level
        ≡ left_by (cond (hits v level w) (Some k) None) v level (level_of state v level)
    after_one k w state v level below stored = go (cases_eq v.0 w.var.0) (cases_eq level w.level)
      where
        other : (v.0 ≡ w.var.0 → ⊥) ⊎ (level ≡ w.level → ⊥)
            → level_of (next_state k w state) v level
            ≡ left_by (cond (hits v level w) (Some k) None) v level (level_of state v level)
        other n =
            kept_one state w (level_after box zone numbers k (values w.var w.level))
            v level below stored n
            ∙ sym (ap (λ b. left_by (cond b (Some k) None) v level (level_of state v level))
            (no_hit v level w n))

        go : (v.0 ≡ w.var.0) ⊎ (v.0 ≡ w.var.0 → ⊥) → (level ≡ w.level) ⊎ (level ≡ w.level → ⊥)
            → level_of (next_state k w state) v level
            ≡ left_by (cond (hits v level w) (Some k) None) v level (level_of state v level)
        go (inl e) (inl f) =
            let same : w.var ≡ v = ap (λ i. record { 0 = i }) (sym e) in
            written_one state w (level_after box zone numbers k (values w.var w.level))
            v level below stored e f
            ∙ ap (λ u. level_after box zone numbers k (values u w.level)) same
            ∙ ap (λ l. level_after box zone numbers k (values v l)) (sym f)
            ∙ sym (ap (λ b. left_by (cond b (Some k) None) v level (level_of state v level))
            (hits_is v level w e f))
        go (inl e) (inr n) = other (inr n)
        go (inr n) f = other (inl n)

    then_later : (o p : Option ℕ) (v : VarId) (level : ℕ) (old : List ℤ)
        → left_by o v level (left_by p v level old) ≡ left_by (later_or o p) v level old
    then_later None p v level old = refl
    then_later (Some j) p v level old = refl

    pub after_all : (k : ℕ) (ws : List Touch) (state : State) (v : VarId) (level : ℕ)
        → v.0 < length state → level < length (get_or state v.0 [])
        → level_of (levels_after box values zone numbers k ws state) v level
        ≡ left_by (found k ws v level) v level (level_of state v level)
    after_all k [] state v level below stored = refl
    after_all k (w ∷ ws) state v level below stored =
        let list = level_after box zone numbers k (values w.var w.level) in
        let many : length (next_state k w state) ≡ length state =
        length-set state w.var.0 (set (get_or state w.var.0 []) w.level list) in
        let rows = levels_stay state w list v below in
        after_all (k + 1) ws (next_state k w state) v level (subst (λ n. v.0 < n) (sym many) below)
        (subst (λ n. level < n) (sym rows) stored)
        ∙ ap (left_by (found (k + 1) ws v level) v level) (after_one k w state v level below stored)
        ∙ then_later (found (k + 1) ws v level) (cond (hits v level w) (Some k) None) v level
        (level_of state v level)

-- ---- numbers of writes

in_later : (o p : Option ℕ) (j : ℕ) → later_or o p ≡ Some j → (o ≡ Some j) ⊎ (p ≡ Some j)
in_later (Some i) p j e = inl e
in_later None p j e = inr e

some_hit : (b : Bool) (k j : ℕ) → cond b (Some k) None ≡ Some j → k ≡ j
some_hit true k j e = ap (λ (o : Option ℕ). number_in o) e
  where
    number_in : Option ℕ → ℕ
    number_in None = k
    number_in (Some i) = i
some_hit false k j e = absurd cc

pub found_below : (k : ℕ) (ws : List Touch) (v : VarId) (level j : ℕ) → found k ws v level ≡ Some j
    → j < k + length ws
found_below k [] v level j e = absurd cc
found_below k (w ∷ ws) v level j e =
    go (found_below (k + 1) ws v level j)
    (in_later (found (k + 1) ws v level) (cond (hits v level w) (Some k) None) j e)
  where
    go : (found (k + 1) ws v level ≡ Some j → j < k + 1 + length ws)
        → (found (k + 1) ws v level ≡ Some j) ⊎ (cond (hits v level w) (Some k) None ≡ Some j)
        → j < k + length (w ∷ ws)
    go more (inl f) = let l : j < k + 1 + length ws = more f in omega arith
    go more (inr f) = let q : k ≡ j = some_hit (hits v level w) k j f in omega arith

-- ---- flags

-- the flag of ghost points, where all writes are of one region
abbrev pub flag_by : Region → Option ℕ → Bool → Bool
flag_by region None was = was
flag_by region (Some j) was = after_write region G was

flag_later : (region : Region) (o p : Option ℕ) (was : Bool)
    → flag_by region o (flag_by region p was) ≡ flag_by region (later_or o p) was
flag_later region None p was = refl
flag_later Interior (Some j) p was = refl
flag_later Everywhere (Some j) p was = refl
flag_later Boundary (Some j) None was = refl
flag_later Boundary (Some j) (Some i) was = refl

pub is_region : (a b : Region) → same_region a b ≡ true → a ≡ b
is_region Interior Interior e = refl
is_region Boundary Boundary e = refl
is_region Everywhere Everywhere e = refl
is_region Interior Boundary e = absurd cc
is_region Interior Everywhere e = absurd cc
is_region Boundary Interior e = absurd cc
is_region Boundary Everywhere e = absurd cc
is_region Everywhere Interior e = absurd cc
is_region Everywhere Boundary e = absurd cc

-- a write of a grid variable in this region
abbrev pub is_grid_write : Setup → Region → Touch → Bool
is_grid_write setup region w = not (is_scalar setup w.var) && same_region w.region region

flag_one : (setup : Setup) (region : Region) (k : ℕ) (w : Touch) (flags : Flags) (v : VarId)
    (level : ℕ) → is_scalar setup v ≡ false → is_grid_write setup region w ≡ true
    → written setup flags w v level G
    ≡ flag_by region (cond (hits v level w) (Some k) None) (flags v level G)
flag_one setup region k w flags v level grid h = go (hits v level w) refl
  where
    here : w.region ≡ region
    here = is_region w.region region
        (and_parts (not (is_scalar setup w.var)) (same_region w.region region) h).1

    go : (b : Bool) → hits v level w ≡ b
        → cond b (cond (is_scalar setup v) (flags v level G)
        (after_write w.region G (flags v level G))) (flags v level G)
        ≡ flag_by region (cond b (Some k) None) (flags v level G)
    go true e = ap (λ b. cond b (flags v level G) (after_write w.region G (flags v level G))) grid
        ∙ ap (λ g. after_write g G (flags v level G)) here
    go false e = refl

pub flags_found : (setup : Setup) (region : Region) (k : ℕ) (ws : List Touch) (flags : Flags)
    (v : VarId) (level : ℕ) → is_scalar setup v ≡ false
    → list_all (is_grid_write setup region) ws ≡ true
    → all_written setup ws flags v level G ≡ flag_by region (found k ws v level) (flags v level G)
flags_found setup region k [] flags v level grid h = refl
flags_found setup region k (w ∷ ws) flags v level grid h =
    let p = and_parts (is_grid_write setup region w) (list_all (is_grid_write setup region) ws) h in
    flags_found setup region (k + 1) ws (written setup flags w) v level grid p.1
    ∙ ap (flag_by region (found (k + 1) ws v level))
    (flag_one setup region k w flags v level grid p.0)
    ∙ flag_later region (found (k + 1) ws v level) (cond (hits v level w) (Some k) None)
    (flags v level G)

-- ---- what a sweep leaves as it is

-- the same variable is a scalar or none
other_var : (setup : Setup) (v w : VarId) → is_scalar setup v ≡ true → is_scalar setup w ≡ false
    → v.0 ≡ w.0 → ⊥
other_var setup v w e f g =
    both_ways (is_scalar setup w) f (ap (λ i. (get_or setup.vars i no_variable).scalar) (sym g) ∙ e)

pub scalars_kept : (setup : Setup) (region : Region) (box : Box3) (values : Values)
    (zone : Point → Bool) (numbers : Point → Option (List ℤ)) (k : ℕ) (ws : List Touch)
    (state : State) (v : VarId)
    → is_scalar setup v ≡ true → list_all (is_grid_write setup region) ws ≡ true
    → scalar_of (levels_after box values zone numbers k ws state) v ≡ scalar_of state v
scalars_kept setup region box values zone numbers k [] state v e h = refl
scalars_kept setup region box values zone numbers k (w ∷ ws) state v e h =
    let p = and_parts (is_grid_write setup region w) (list_all (is_grid_write setup region) ws) h in
    let q = and_parts (not (is_scalar setup w.var)) (same_region w.region region) p.0 in
    let list = level_after box zone numbers k (values w.var w.level) in
    scalars_kept setup region box values zone numbers (k + 1) ws
    (with_level state w.var w.level list) v e p.1
    ∙ ap (λ ls. get_or (get_or ls 0 []) 0 (pos 0))
    (get_or-set_other state w.var.0 v.0 (set (get_or state w.var.0 []) w.level list) []
    (other_var setup v w.var e (not_true (is_scalar setup w.var) q.0)))

pub held_with : (setup : Setup) (box : Box3) (state : State) (w : Touch) (list : List ℤ)
    → IsHeld setup box state → length list ≡ cond (is_scalar setup w.var) 1 (point_count box)
    → IsHeld setup box (with_level state w.var w.level list)
held_with setup box state w list held many =
    record {
      vars = length-set state w.var.0 (set (get_or state w.var.0 []) w.level list) ∙ held.vars;
      levels = λ v h. levels_stay state w list v (subst (λ n. v.0 < n) (sym held.vars) h)
          ∙ held.levels v h;
      sizes = λ v level h l. go v level h l (subst (λ n. v.0 < n) (sym held.vars) h)
          (subst (λ n. level < n) (sym (held.levels v h)) l) (cases_eq v.0 w.var.0)
          (cases_eq level w.level);
    }
  where
    go : (v : VarId) (level : ℕ) (h : v.0 < length setup.vars) (l : level < levels_of setup v)
        (below : v.0 < length state) (stored : level < length (get_or state v.0 []))
        → (v.0 ≡ w.var.0) ⊎ (v.0 ≡ w.var.0 → ⊥) → (level ≡ w.level) ⊎ (level ≡ w.level → ⊥)
        → length (level_of (with_level state w.var w.level list) v level)
        ≡ cond (is_scalar setup v) 1 (point_count box)
    go v level h l below stored (inl e) (inl f) =
        ap length (written_one state w list v level below stored e f) ∙ many
        ∙ ap (λ i. cond (get_or setup.vars i no_variable).scalar 1 (point_count box)) (sym e)
    go v level h l below stored (inl e) (inr n) =
        ap length (kept_one state w list v level below stored (inr n)) ∙ held.sizes v level h l
    go v level h l below stored (inr n) f =
        ap length (kept_one state w list v level below stored (inl n)) ∙ held.sizes v level h l

pub held_after : (setup : Setup) (region : Region) (box : Box3) (values : Values)
    (zone : Point → Bool) (numbers : Point → Option (List ℤ)) (k : ℕ) (ws : List Touch)
    (state : State)
    → IsHeld setup box state → list_all (is_grid_write setup region) ws ≡ true
    → IsHeld setup box (levels_after box values zone numbers k ws state)
held_after setup region box values zone numbers k [] state held h = held
held_after setup region box values zone numbers k (w ∷ ws) state held h =
    let p = and_parts (is_grid_write setup region w) (list_all (is_grid_write setup region) ws) h in
    let q = and_parts (not (is_scalar setup w.var)) (same_region w.region region) p.0 in
    let list = level_after box zone numbers k (values w.var w.level) in
    let many : length list ≡ cond (is_scalar setup w.var) 1 (point_count box) =
    length-map-range_with_len
    (λ i. (λ (p : Point). cond (zone p) (number_or (numbers p) k (values w.var w.level p))
    (values w.var w.level p)) (point_in box i)) 0 (point_count box)
    ∙ sym (ap (λ b. cond b 1 (point_count box)) (not_true (is_scalar setup w.var) q.0)) in
    held_after setup region box values zone numbers (k + 1) ws (with_level state w.var w.level list)
    (held_with setup box state w list held many) p.1
