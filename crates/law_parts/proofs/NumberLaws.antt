-- What a part gives and hands in is the undivided run's, where its owned numbers and its scalars
-- are.
use Rattle.std.proofs.Common.{◌≡◌, ℕ, ◌+◌, ◌<◌, ◌≤◌, Bool, true, false, List, [], ◌∷◌, length, get_or, arith, refl, sym, ap, ◌∙◌, subst, ℤ, pos}
use Rattle.std.specs.Prelude.{if◌then◌else◌}
use Rattle.cx_grid.specs.declared.boxes.Point.{Point}
use Rattle.cx_grid.specs.Boxes.{IsIn, point_count, numbers_in}
use Rattle.cx_grid.specs.Grid.{at, whole}
use Rattle.cx_plan.specs.declared.variable.VarId.{VarId}
use Rattle.cx_plan.specs.declared.item.Touch.{Touch}
use Rattle.cx_plan.specs.Setups.{Setup}
use Rattle.cx_plan.specs.Lookups.{item, is_scalar, levels_of}
use Rattle.cx_rule.specs.States.{State, level_of, scalar_of}
use Rattle.cx_rule.specs.Sweeps.{first_point}
use Rattle.cx_model.specs.States.{IsState}
use Rattle.cx_model.specs.Turns.{values_of, reduced}
use Rattle.cx_cut.specs.Cuts.{owned, local}
use Rattle.cx_flat.specs.declared.op.Op.TheVariants.{Give}
use Rattle.law_parts.specs.Holding.{IsHeld, number_at, first_numbers}
use Rattle.law_parts.specs.Moves.{held_values, number_by, piece_by, state_by}
use Rattle.law_parts.specs.Operations.{IsCurrent, NamesWell}
use Rattle.law_parts.specs.Runs.{Run, cut_of}
use Rattle.law_parts.proofs.ListLaws.{numbers_same}
use Rattle.law_parts.proofs.Reductions.{ReadsGrid}
use Rattle.law_parts.proofs.StateIn.{var, states_same}
use Rattle.law_parts.proofs.WholeReductions.{reads_grid}
use Rattle.law_parts.proofs.WholeRun.{IsRun, one_level}

-- the numbers at owned points are those of a state, and the scalars are
abbrev pub OwnsTrue : Run → ℕ → State → State → Type 0
OwnsTrue r k numbers state = (v : VarId) (level : ℕ) (p : Point) → is_scalar r.setup v ≡ false
    → v.0 < length r.setup.vars → level < levels_of r.setup v
    → IsIn (owned (cut_of r) k) p
    → held_values r k numbers v level p ≡ at r.setup.shape (level_of state v level) p

abbrev pub SameScalars : Run → State → State → Type 0
SameScalars r numbers state = (v : VarId) → is_scalar r.setup v ≡ true
    → scalar_of numbers v ≡ scalar_of state v

-- the values of a grid variable, and of a scalar
grid_of : (setup : Setup) (state : State) (v : VarId) (level : ℕ) (p : Point)
    → is_scalar setup v ≡ false
    → values_of setup state v level p ≡ at setup.shape (level_of state v level) p
grid_of setup state v level p e =
    ap (λ (b : Bool). if b then scalar_of state v else at setup.shape (level_of state v level) p) e

scalar_is : (setup : Setup) (state : State) (v : VarId) (level : ℕ) (p : Point)
    → is_scalar setup v ≡ true → values_of setup state v level p ≡ scalar_of state v
scalar_is setup state v level p e =
    ap (λ (b : Bool). if b then scalar_of state v else at setup.shape (level_of state v level) p) e

held_scalar : (r : Run) (k : ℕ) (numbers : State) (v : VarId) (level : ℕ) (p : Point)
    → is_scalar r.setup v ≡ true → held_values r k numbers v level p ≡ scalar_of numbers v
held_scalar r k numbers v level p e =
    ap (λ (b : Bool). if b then scalar_of numbers v
    else number_at (local (cut_of r) k) (level_of numbers v level) p) e

-- a list of one list of one number
one_number : (xs ys : List (List ℤ)) → length xs ≡ length ys → length xs ≤ 1
    → (0 < length xs → length (get_or xs 0 []) ≡ 1) → (0 < length ys → length (get_or ys 0 []) ≡ 1)
    → get_or (get_or xs 0 []) 0 (pos 0) ≡ get_or (get_or ys 0 []) 0 (pos 0) → xs ≡ ys
one_number [] [] e few a b same = refl
one_number [] (y ∷ ys) e few a b same = absurd (omega (arith, e))
one_number (x ∷ xs) [] e few a b same = absurd (omega (arith, e))
one_number ((m ∷ []) ∷ []) ((n ∷ []) ∷ []) e few a b same = ap (λ z. (z ∷ []) ∷ []) same
one_number ([] ∷ xs) (y ∷ ys) e few a b same = let l = a (omega arith) in absurd (omega (arith, l))
one_number ((m ∷ n ∷ ns) ∷ xs) (y ∷ ys) e few a b same = let l = a (omega arith) in
    absurd (omega (arith, l))
one_number ((m ∷ []) ∷ xs) ([] ∷ ys) e few a b same = let l = b (omega arith) in
    absurd (omega (arith, l))
one_number ((m ∷ []) ∷ xs) ((n ∷ o ∷ ns) ∷ ys) e few a b same = let l = b (omega arith) in
    absurd (omega (arith, l))
one_number ((m ∷ []) ∷ x ∷ xs) ((n ∷ []) ∷ ys) e few a b same = absurd (omega (arith, few))
one_number ((m ∷ []) ∷ []) ((n ∷ []) ∷ y ∷ ys) e few a b same = absurd (omega (arith, e))

module _ (r : Run) (run : IsRun r) (k : ℕ) (numbers state : State) (is : IsState r.setup state)
  where
    reads_of : (i : ℕ) → NamesWell r.setup (Give i) → ReadsGrid r.setup (item r.setup i).reads
    reads_of i = subst (λ s. NamesWell s (Give i) → ReadsGrid s (item s i).reads) (sym run.is)
        (λ h. reads_grid run.job run.whole i h.0 h.1)

    -- a number for a reduction
    pub number_same : OwnsTrue r k numbers state → (i : ℕ) → NamesWell r.setup (Give i)
        → number_by r k (held_values r k numbers) i ≡ number_by r k (values_of r.setup state) i
    number_same owns i h =
        let g = reads_of i h in
        ap (λ (rs : List Touch).
        reduced (item r.setup i).kind
        (first_numbers (held_values r k numbers) (owned (cut_of r) k) rs)) g.reads_are
        ∙ ap (reduced (item r.setup i).kind)
        (numbers_same (owned (cut_of r) k) (held_values r k numbers g.touch.var g.touch.level)
        (values_of r.setup state g.touch.var g.touch.level)
        (λ p inside. owns g.touch.var g.touch.level p g.grid g.there g.stored inside
        ∙ sym (grid_of r.setup state g.touch.var g.touch.level p g.grid)))
        ∙ sym
        (ap (λ (rs : List Touch).
        reduced (item r.setup i).kind
        (first_numbers (values_of r.setup state) (owned (cut_of r) k) rs)) g.reads_are)

    -- a piece of output
    pub piece_same : {tells : Type 0} → OwnsTrue r k numbers state → SameScalars r numbers state
        → (v : VarId) → IsCurrent r.setup v → (t : tells)
        → piece_by r k (held_values r k numbers) v t ≡ piece_by r k (values_of r.setup state) v t
    piece_same owns scalars v current t = go (is_scalar r.setup v) refl
      where
        go : (b : Bool) → is_scalar r.setup v ≡ b
            → (if b then held_values r k numbers v 0 first_point ∷ []
            else numbers_in (owned (cut_of r) k) (held_values r k numbers v 0))
            ≡ (if b then values_of r.setup state v 0 first_point ∷ []
            else numbers_in (owned (cut_of r) k) (values_of r.setup state v 0))
        go true e = ap (λ z. z ∷ [])
            (held_scalar r k numbers v 0 first_point e ∙ scalars v e
            ∙ sym (scalar_is r.setup state v 0 first_point e))
        go false e =
            numbers_same (owned (cut_of r) k) (held_values r k numbers v 0)
            (values_of r.setup state v 0)
            (λ p inside. owns v 0 p e current.0 current.1 inside
            ∙ sym (grid_of r.setup state v 0 p e))

    -- a checkpoint's piece
    pub state_same : {tells : Type 0} → OwnsTrue r k numbers state → SameScalars r numbers state
        → IsHeld r.setup (local (cut_of r) k) numbers → (t : tells)
        → state_by r k (held_values r k numbers) numbers t
        ≡ state_by r k (values_of r.setup state) state t
    state_same owns scalars held t =
        states_same r.setup (held_values r k numbers) (values_of r.setup state) (owned (cut_of r) k)
        0 numbers state (held.vars ∙ sym is.vars)
        (λ i l s. scalar_levels i (below i l) (here i s))
        (λ i l. held.levels (var i) (below i l) ∙ sym (is.levels (var i) (below i l)))
        (λ i level l s m. grid_levels (0 + i) level
        (let q : 0 + i ≡ i = omega arith in
        subst (λ n. n < length r.setup.vars) (sym q) (below i l)) s (stored i level l m))
      where
        below : (i : ℕ) → i < length numbers → i < length r.setup.vars
        below i l = subst (λ n. i < n) held.vars l

        here : (i : ℕ) → is_scalar r.setup (var (0 + i)) ≡ true → is_scalar r.setup (var i) ≡ true
        here i s = let q : 0 + i ≡ i = omega arith in
            subst (λ n. is_scalar r.setup (var n) ≡ true) q s

        stored : (i level : ℕ) → i < length numbers → level < length (get_or numbers i [])
            → level < levels_of r.setup (var (0 + i))
        stored i level l m = let q : 0 + i ≡ i = omega arith in
            subst (λ n. level < levels_of r.setup (var n)) (sym q)
            (subst (λ n. level < n) (held.levels (var i) (below i l)) m)

        scalar_levels : (i : ℕ) → i < length r.setup.vars → is_scalar r.setup (var i) ≡ true
            → get_or numbers i [] ≡ get_or state i []
        scalar_levels i l s =
            let few = (one_level r run (var i) s).1 in
            let a = held.levels (var i) l in
            let b = is.levels (var i) l in
            one_number (get_or numbers i []) (get_or state i []) (a ∙ sym b) (omega (arith, a, few))
            (λ m. held.sizes (var i) 0 l (omega (arith, a, m))
            ∙ ap (λ (c : Bool). if c then 1 else point_count (local (cut_of r) k)) s)
            (λ m. is.numbers (var i) 0 l (omega (arith, b, m))
            ∙ ap (λ (c : Bool). if c then 1 else point_count (whole r.setup.shape)) s)
            (scalars (var i) s)

        grid_levels : (i level : ℕ) → i < length r.setup.vars → is_scalar r.setup (var i) ≡ false
            → level < levels_of r.setup (var i)
            → numbers_in (owned (cut_of r) k) (held_values r k numbers (var i) level)
            ≡ numbers_in (owned (cut_of r) k) (values_of r.setup state (var i) level)
        grid_levels i level l s m =
            numbers_same (owned (cut_of r) k) (held_values r k numbers (var i) level)
            (values_of r.setup state (var i) level)
            (λ p inside. owns (var i) level p s l m inside
            ∙ sym (grid_of r.setup state (var i) level p s))
