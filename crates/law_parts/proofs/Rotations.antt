-- A part's rotation: each level becomes the next older one, and of the new current level the owned
-- points alone count.
use Rattle.std.proofs.Common.{◌≡◌, ℕ, zero, suc, ◌+◌, ◌-◌, ◌<◌, ◌≤◌, ◌⊎◌, inl, inr, Bool, true, false, refl, sym, ap, ◌∙◌, subst, arith, cond, ℤ, pos, List, [], ◌∷◌, length, take, drop, get_or, Some, None}
use Rattle.std.specs.Prelude.{nat_lt}
use Rattle.std.proofs.lemmas.Bool.{cases_lt, lt-ltb, both_ways}
use Rattle.std.proofs.lemmas.List.{length-map, get_or-map, length-append, length-drop, length-take, get_or-append_right, get_or_append_left, get_or-drop, get_or-take}
use Rattle.cx_grid.specs.declared.boxes.Point.{Point}
use Rattle.cx_grid.specs.declared.boxes.Box3.{Box3}
use Rattle.cx_grid.specs.Boxes.{point_count}
use Rattle.cx_grid.specs.Grid.{at}
use Rattle.cx_plan.specs.declared.variable.VarId.{VarId}
use Rattle.cx_plan.specs.declared.flag.Flag.TheVariants.{G}
use Rattle.cx_plan.specs.Setups.{Setup}
use Rattle.cx_plan.specs.Lookups.{is_scalar, levels_of}
use Rattle.cx_plan.specs.Regions.{Flags, rotated, newer_level}
use Rattle.cx_model.specs.States.{State, level_of, scalar_of, rotated_levels, rotate, IsState}
use Rattle.cx_flat.specs.Flats.{Flat, control_after, state_after, notes_at, ends_pair}
use Rattle.cx_cut.specs.Cuts.{IsReached, local}
use Rattle.law_parts.specs.Holding.{Held, IsHeld, number_at}
use Rattle.law_parts.specs.Runs.{Run, Oracle, next_op, undivided, op_of, flags_at, done_directions, guided, guided_state, cut_of}
use Rattle.cx_model.specs.Needs.{notes_leave}
use Rattle.law_parts.specs.Moves.{Message, Channel, Moves}
use Rattle.law_parts.specs.Truths.{Stands}
use Rattle.law_parts.proofs.SweepMoves.{no_direction}
use Rattle.law_parts.proofs.ZoneLaws.{Lies, own_reached, reached_own}
use Rattle.cx_flat.specs.declared.op.Op.TheVariants as op

-- ---- lists

-- the last level becomes the first one
rotated_first : (xs : List (List ℤ)) → 0 < length xs
    → get_or (rotated_levels xs) 0 [] ≡ get_or xs (length xs - 1) []
rotated_first xs some =
    let n = length xs - 1 in
    let m : length (drop n xs) ≡ length xs - n = length-drop n xs in
    let e : n + 0 ≡ n = omega arith in
    get_or_append_left (drop n xs) (take n xs) [] 0 (omega (arith, m)) ∙ get_or-drop n xs 0 []
    ∙ ap (λ i. get_or xs i []) e

-- and each other one the next older one
rotated_next : (xs : List (List ℤ)) (l : ℕ) → suc l < length xs
    → get_or (rotated_levels xs) (suc l) [] ≡ get_or xs l []
rotated_next xs l below =
    let n = length xs - 1 in
    let m : length (drop n xs) ≡ 1 = length-drop n xs ∙ omega arith in
    let e : suc l - 1 ≡ l = omega arith in
    get_or-append_right (drop n xs) (take n xs) 1 (suc l) [] m (omega arith)
    ∙ ap (λ i. get_or (take n xs) i []) e ∙ get_or-take n xs l [] (omega arith)

rotated_length : (xs : List (List ℤ)) → length (rotated_levels xs) ≡ length xs
rotated_length xs =
    let n = length xs - 1 in
    let a = length-append (drop n xs) (take n xs) in
    let b = length-drop n xs in
    let c = length-take n xs in
    omega (arith, a, b, c)

-- a scalar has one level at most, which stays
one_stays : (xs : List (List ℤ)) → length xs ≤ 1 → rotated_levels xs ≡ xs
one_stays [] few = refl
one_stays (x ∷ []) few = refl
one_stays (x ∷ y ∷ xs) few = absurd (omega arith)

rotated_at : (state : State) (i : ℕ) → i < length state
    → get_or (rotate state) i [] ≡ rotated_levels (get_or state i [])
rotated_at state i h = get_or-map rotated_levels state i [] [] h

-- ---- states

scalar_stays : (setup : Setup) (state : State) (v : VarId) → length state ≡ length setup.vars
    → ((w : VarId) → w.0 < length setup.vars → length (get_or state w.0 []) ≡ levels_of setup w)
    → is_scalar setup v ≡ true
    → ((w : VarId) → is_scalar setup w ≡ true → (w.0 < length setup.vars) × (levels_of setup w ≤ 1))
    → scalar_of (rotate state) v ≡ scalar_of state v
scalar_stays setup state v many levels s one =
    let o = one v s in
    let e = levels v o.0 in
    ap (λ ls. get_or (get_or ls 0 []) 0 (pos 0))
    (rotated_at state v.0 (subst (λ n. v.0 < n) (sym many) o.0)
    ∙ one_stays (get_or state v.0 []) (omega (arith, e, o.1)))

held_rotates : (setup : Setup) (box : Box3) (state : State) → IsHeld setup box state
    → IsHeld setup box (rotate state)
held_rotates setup box state held =
    record {
      vars = length-map state rotated_levels ∙ held.vars;
      levels = λ v h. ap length (rotated_at state v.0 (subst (λ n. v.0 < n) (sym held.vars) h))
          ∙ rotated_length (get_or state v.0 []) ∙ held.levels v h;
      sizes = λ v level h l. ap (λ ls. length (get_or ls level []))
          (rotated_at state v.0 (subst (λ n. v.0 < n) (sym held.vars) h)) ∙ go v h level l;
    }
  where
    go : (v : VarId) (h : v.0 < length setup.vars) (level : ℕ) → level < levels_of setup v
        → length (get_or (rotated_levels (get_or state v.0 [])) level [])
        ≡ cond (is_scalar setup v) 1 (point_count box)
    go v h zero l =
        let e = held.levels v h in
        ap length (rotated_first (get_or state v.0 []) (omega (arith, e, l)))
        ∙ held.sizes v (length (get_or state v.0 []) - 1) h (omega (arith, e, l))
    go v h (suc level) l =
        let e = held.levels v h in
        ap length (rotated_next (get_or state v.0 []) level (omega (arith, e, l)))
        ∙ held.sizes v level h (omega (arith, l))

-- ---- a part's rotation

module _ (tells : Type 0) (r : Run) (oracle : Oracle) (k n : ℕ) (x : Held)
    (lies : Lies r.setup.shape (cut_of r) k)
    (agrees : Stands tells r oracle k n x)
    (there : next_op r (guided r oracle n).control ≡ op.Rotate)
    (truth : tells → guided r oracle n ≡ undivided r n)
    (states : IsState r.setup (guided r oracle n).state)
    (one_level : (v : VarId) → is_scalar r.setup v ≡ true
    → (v.0 < length r.setup.vars) × (levels_of r.setup v ≤ 1))
    (quiet : tells → ends_pair (op_of r (suc n)) ≡ None) where
  abbrev now : State
  now = (undivided r n).state

  op_is : tells → op_of r n ≡ op.Rotate
  op_is t = ap (λ g. next_op r g.control) (sym (truth t)) ∙ there

  now_is : tells → IsState r.setup now
  now_is t = subst (λ (g : Flat). IsState r.setup g.state) (truth t) states

  -- the numbers before it, at the level that it makes another one
  old_same : (t : tells) (v : VarId) (level : ℕ) (p : Point) → is_scalar r.setup v ≡ false
      → v.0 < length r.setup.vars → level < levels_of r.setup v
      → IsReached (cut_of r) k (cond (flags_at r n v level G) 3 0) p
      → number_at (local (cut_of r) k) (level_of x.numbers v level) p
      ≡ at r.setup.shape (level_of now v level) p
  old_same t v level p grid below stored reached =
      sym (ap (λ b. cond b (scalar_of x.numbers v)
      (number_at (local (cut_of r) k) (level_of x.numbers v level) p)) grid)
      ∙ agrees.numbers t v level p grid below stored
      (subst (λ d. IsReached (cut_of r) k (cond (flags_at r n v level G) 3 d) p)
      (sym (ap (λ o. done_directions o v level) (op_is t))) reached)

  new_same : (t : tells) (v : VarId) (level : ℕ) (p : Point) → is_scalar r.setup v ≡ false
      → v.0 < length r.setup.vars → level < levels_of r.setup v → (b : Bool)
      → nat_lt 1 (levels_of r.setup v) ≡ b
      → IsReached (cut_of r) k
      (cond (cond b (newer_level (flags_at r n) v level G) (flags_at r n v level G)) 3 0) p
      → number_at (local (cut_of r) k) (get_or (rotated_levels (get_or x.numbers v.0 [])) level [])
      p ≡ at r.setup.shape (get_or (rotated_levels (get_or now v.0 [])) level []) p
  new_same t v zero p grid below stored true e reached =
      let a = agrees.sized.levels v below in
      let b = (now_is t).levels v below in
      let last = levels_of r.setup v - 1 in
      ap (λ list. number_at (local (cut_of r) k) list p)
      (rotated_first (get_or x.numbers v.0 []) (omega (arith, a, stored))
      ∙ ap (λ m. get_or (get_or x.numbers v.0 []) (m - 1) []) a)
      ∙ old_same t v last p grid below (omega (arith, stored))
      (own_reached r.setup (cut_of r) k lies (cond (flags_at r n v last G) 3 0) p
      (reached_own r.setup (cut_of r) k lies p reached))
      ∙ sym (ap (λ list. at r.setup.shape list p)
      (rotated_first (get_or now v.0 []) (omega (arith, b, stored))
      ∙ ap (λ m. get_or (get_or now v.0 []) (m - 1) []) b))
  new_same t v (suc level) p grid below stored true e reached =
      let a = agrees.sized.levels v below in
      let b = (now_is t).levels v below in
      ap (λ list. number_at (local (cut_of r) k) list p)
      (rotated_next (get_or x.numbers v.0 []) level (omega (arith, a, stored)))
      ∙ old_same t v level p grid below (omega (arith, stored)) reached
      ∙ sym (ap (λ list. at r.setup.shape list p)
      (rotated_next (get_or now v.0 []) level (omega (arith, b, stored))))
  new_same t v level p grid below stored false e reached = go (cases_lt 1 (levels_of r.setup v))
    where
      go : (1 < levels_of r.setup v) ⊎ (levels_of r.setup v ≤ 1)
          → number_at (local (cut_of r) k)
          (get_or (rotated_levels (get_or x.numbers v.0 [])) level []) p
          ≡ at r.setup.shape (get_or (rotated_levels (get_or now v.0 [])) level []) p
      go (inl l) =
          absurd (both_ways (nat_lt 1 (levels_of r.setup v)) e (lt-ltb 1 (levels_of r.setup v) l))
      go (inr l) =
          let a = agrees.sized.levels v below in
          let b = (now_is t).levels v below in
          ap (λ ls. number_at (local (cut_of r) k) (get_or ls level []) p)
          (one_stays (get_or x.numbers v.0 []) (omega (arith, a, l)))
          ∙ old_same t v level p grid below stored reached
          ∙ sym (ap (λ ls. at r.setup.shape (get_or ls level []) p)
          (one_stays (get_or now v.0 []) (omega (arith, b, l))))

  pub rotate_moves : (mails : Channel → List (Message tells)) (y : Held)
      → Moves tells r k x mails op.Rotate (Some y) → Stands tells r oracle k (suc n) y
  rotate_moves mails y g =
      record {
        count = g.0.count ∙ ap suc agrees.count;
        control = g.0.control ∙ ap
            (λ c. control_after r.setup op.Rotate (scalar_of (guided r oracle n).state) c)
            agrees.control
            ∙ sym
            (ap (λ o. control_after r.setup o (scalar_of (guided r oracle n).state)
            (guided r oracle n).control) there);
        scalars = λ v s.
            ap (λ numbers. scalar_of numbers v) g.1
            ∙ scalar_stays r.setup x.numbers v agrees.sized.vars agrees.sized.levels s one_level
            ∙ agrees.scalars v s
            ∙ sym
            (ap (λ o. scalar_of (guided_state r oracle n o (guided r oracle n).control.iteration
            (guided r oracle n).state) v) there
            ∙ scalar_stays r.setup
            (guided r oracle n).state v states.vars states.levels s one_level);
        sized = subst (IsHeld r.setup (local (cut_of r) k)) (sym g.1)
            (held_rotates r.setup (local (cut_of r) k) x.numbers agrees.sized);
        numbers = λ t v level p grid below stored reached.
            ap (λ b. cond b (scalar_of y.numbers v)
            (number_at (local (cut_of r) k) (level_of y.numbers v level) p)) grid
            ∙ ap (λ numbers. number_at (local (cut_of r) k) (level_of numbers v level) p) g.1
            ∙ ap (λ ls. number_at (local (cut_of r) k) (get_or ls level []) p)
            (rotated_at x.numbers v.0 (subst (λ m. v.0 < m) (sym agrees.sized.vars) below))
            ∙ new_same t v level p grid below stored (nat_lt 1 (levels_of r.setup v)) refl
            (subst (λ d. IsReached (cut_of r) k
            (cond (rotated r.setup (flags_at r n) v level G) 3 d) p)
            (no_direction (op_of r (suc n)) (quiet t) v level)
            (subst (λ (f : Flags).
            IsReached (cut_of r) k
            (cond (f v level G) 3 (done_directions (op_of r (suc n)) v level)) p)
            (ap (λ o. notes_leave r.setup (notes_at r.setup r.rules o (undivided r n).control now)
            (flags_at r n)) (op_is t)) reached))
            ∙ sym
            (ap (λ o. at r.setup.shape
            (level_of (state_after r.setup r.rules o (undivided r n).control.iteration now)
            v level) p) (op_is t)
            ∙ ap (λ ls. at r.setup.shape (get_or ls level []) p)
            (rotated_at now v.0 (subst (λ m. v.0 < m) (sym (now_is t).vars) below)));
      }
