-- A state over a box: its lengths, its numbers, and where two are the same.
use Rattle.std.proofs.Common.{◌≡◌, ℕ, zero, suc, ◌+◌, ◌<◌, Bool, true, false, [], ◌∷◌, length, map, get_or, arith, refl, sym, ap, ◌∙◌, subst}
use Rattle.std.specs.Prelude.{if◌then◌else◌}
use Rattle.std.specs.List.{range_with_len}
use Rattle.std.proofs.lemmas.List.FromFn.{get_or-map-range_with_len, length-map-range_with_len, fill_by_all}
use Rattle.cx_grid.specs.declared.boxes.Box3.{Box3}
use Rattle.cx_grid.specs.Boxes.{numbers_in}
use Rattle.cx_plan.specs.declared.variable.VarId.{VarId}
use Rattle.cx_plan.specs.Setups.{Setup}
use Rattle.cx_plan.specs.Lookups.{is_scalar}
use Rattle.cx_rule.specs.States.{State, level_of}
use Rattle.cx_rule.specs.Sweeps.{Values}
use Rattle.law_parts.specs.Holding.{state_in}

abbrev pub var : ℕ → VarId
var v = record { 0 = v }

module _ (setup : Setup) (f : Values) (b : Box3) where
  pub vars_in : (v : ℕ) (state : State) → length (state_in setup f b v state) ≡ length state
  vars_in v [] = refl
  vars_in v (ls ∷ more) = ap suc (vars_in (suc v) more)

  pub scalar_in : (v i u : ℕ) (state : State) → u ≡ v + i → is_scalar setup (var u) ≡ true
      → get_or (state_in setup f b v state) i [] ≡ get_or state i []
  scalar_in v i u [] e h = refl
  scalar_in v zero u (ls ∷ more) e h =
      let same : u ≡ v = omega (arith, e) in
      let s : is_scalar setup (var v) ≡ true = subst (λ n. is_scalar setup (var n) ≡ true) same h in
      rw s refl
  scalar_in v (suc i) u (ls ∷ more) e h = scalar_in (suc v) i u more (omega (arith, e)) h

  -- the levels of a grid variable
  pub grid_in : (v i u : ℕ) (state : State) → u ≡ v + i → is_scalar setup (var u) ≡ false
      → i < length state
      → get_or (state_in setup f b v state) i []
      ≡ map (λ l. numbers_in b (f (var u) l)) (range_with_len 0 (length (get_or state i [])))
  grid_in v i u [] e h few = absurd (omega (arith, few))
  grid_in v zero u (ls ∷ more) e h few =
      let same : u ≡ v = omega (arith, e) in
      let s : is_scalar setup (var v) ≡ false =
      subst (λ n. is_scalar setup (var n) ≡ false) same h in
      (rw s refl) ∙ ap (λ n. map (λ l. numbers_in b (f (var n) l)) (range_with_len 0 (length ls)))
      (sym same)
  grid_in v (suc i) u (ls ∷ more) e h few =
      grid_in (suc v) i u more (omega (arith, e)) h (omega (arith, few))

  pub level_in : (v : VarId) (level : ℕ) (state : State) → is_scalar setup v ≡ false
      → v.0 < length state → level < length (get_or state v.0 [])
      → level_of (state_in setup f b 0 state) v level ≡ numbers_in b (f v level)
  level_in v level state h there few =
      ap (λ ls. get_or ls level []) (grid_in 0 v.0 v.0 state (omega arith) h there)
      ∙ get_or-map-range_with_len (λ l. numbers_in b (f v l)) 0 (length (get_or state v.0 []))
      level level [] few (omega arith)

  pub levels_in : (v : VarId) (state : State) → v.0 < length state
      → length (get_or (state_in setup f b 0 state) v.0 []) ≡ length (get_or state v.0 [])
  levels_in v state there = go (is_scalar setup v) refl
    where
      go : (c : Bool) → is_scalar setup v ≡ c
          → length (get_or (state_in setup f b 0 state) v.0 []) ≡ length (get_or state v.0 [])
      go true e = ap length (scalar_in 0 v.0 v.0 state (omega arith) e)
      go false e =
          ap length (grid_in 0 v.0 v.0 state (omega arith) e there)
          ∙ length-map-range_with_len (λ l. numbers_in b (f v l)) 0 (length (get_or state v.0 []))

-- two states over a box are the same where their scalars are, they have as many levels, and their
-- values agree on the box
module _ (setup : Setup) (f g : Values) (b : Box3) where
  levels_same : (v n : ℕ) → ((level : ℕ) → level < n
      → numbers_in b (f (var v) level) ≡ numbers_in b (g (var v) level))
      → map (λ l. numbers_in b (f (var v) l)) (range_with_len 0 n)
      ≡ map (λ l. numbers_in b (g (var v) l)) (range_with_len 0 n)
  levels_same v n h =
      fill_by_all (λ l. numbers_in b (g (var v) l))
      (map (λ l. numbers_in b (f (var v) l)) (range_with_len 0 n)) n []
      (length-map-range_with_len (λ l. numbers_in b (f (var v) l)) 0 n)
      (λ i l. get_or-map-range_with_len (λ m. numbers_in b (f (var v) m)) 0 n i i [] l (omega arith)
      ∙ h i l)

  pub states_same : (v : ℕ) (one two : State) → length one ≡ length two
      → ((i : ℕ) → i < length one → is_scalar setup (var (v + i)) ≡ true
      → get_or one i [] ≡ get_or two i [])
      → ((i : ℕ) → i < length one → length (get_or one i []) ≡ length (get_or two i []))
      → ((i level : ℕ) → i < length one → is_scalar setup (var (v + i)) ≡ false
      → level < length (get_or one i [])
      → numbers_in b (f (var (v + i)) level) ≡ numbers_in b (g (var (v + i)) level))
      → state_in setup f b v one ≡ state_in setup g b v two
  states_same v [] [] e scalars counts grids = refl
  states_same v [] (ms ∷ two) e scalars counts grids = absurd (omega (arith, e))
  states_same v (ls ∷ one) [] e scalars counts grids = absurd (omega (arith, e))
  states_same v (ls ∷ one) (ms ∷ two) e scalars counts grids =
      let at : v + 0 ≡ v = omega arith in
      let rest = states_same (suc v) one two (omega (arith, e))
      (λ i l s. scalars (suc i) (omega (arith, l))
      (let q : v + suc i ≡ suc v + i = omega arith in
      subst (λ n. is_scalar setup (var n) ≡ true) (sym q) s))
      (λ i l. counts (suc i) (omega (arith, l)))
      (λ i level l s m. let q : v + suc i ≡ suc v + i = omega arith in
      subst (λ n. numbers_in b (f (var n) level) ≡ numbers_in b (g (var n) level)) q
      (grids (suc i) level (omega (arith, l))
      (subst (λ n. is_scalar setup (var n) ≡ false) (sym q) s) m)) in
      ap (λ xs. xs ∷ state_in setup f b (suc v) one) (go (is_scalar setup (var v)) refl at)
      ∙ ap (λ xs. (if is_scalar setup (var v) then ms
      else map (λ l. numbers_in b (g (var v) l)) (range_with_len 0 (length ms))) ∷ xs) rest
    where
      go : (c : Bool) → is_scalar setup (var v) ≡ c → v + 0 ≡ v
          → (if c then ls else map (λ l. numbers_in b (f (var v) l)) (range_with_len 0 (length ls)))
          ≡ (if c then ms else map (λ l. numbers_in b (g (var v) l)) (range_with_len 0 (length ms)))
      go true s at = scalars 0 (omega arith)
          (subst (λ n. is_scalar setup (var n) ≡ true) (sym at) s)
      go false s at =
          levels_same v (length ls) (λ level l.
          subst (λ n. numbers_in b (f (var n) level) ≡ numbers_in b (g (var n) level)) at
          (grids 0 level (omega arith) (subst (λ n. is_scalar setup (var n) ≡ false) (sym at) s)
          l))
          ∙ ap (λ n. map (λ l. numbers_in b (g (var v) l)) (range_with_len 0 n))
          (counts 0 (omega arith))
