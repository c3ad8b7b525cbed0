-- Where a variable's numbers and levels stand in a checkpoint.
use Rattle.std.proofs.Common.{◌≡◌, ℕ, zero, suc, ◌+◌, ◌*◌, ◌<◌, ◌≤◌, Bool, true, false, arith, refl, sym, ap, ◌∙◌, ℤ, pos, List, [], ◌∷◌, ◌++◌, length, map, take, drop}
use Rattle.std.specs.Prelude.{slice_index_or, if◌then◌else◌}
use Rattle.std.specs.List.{flat_map}
use Rattle.std.proofs.lemmas.List.{get_or_append_left, get_or-append-add, length-append, drop-drop}
use Rattle.cx_plan.specs.declared.variable.VarInfo.{VarInfo}
use Rattle.cx_plan.specs.Lookups.{no_variable}
use Rattle.cx_rule.specs.States.{State}
use Rattle.cx_core_buffers.specs.Checkpoints.{total, before, state_from, scalars_in, levels_in}
use Rattle.cx_plan.specs.Whole.{scalar_count, level_count}

abbrev pub info : List VarInfo → ℕ → VarInfo
info vars v = slice_index_or vars v no_variable

-- ---- how many stand before

module _ (count : VarInfo → ℕ) where
  pub before_more : (vars : List VarInfo) (v : ℕ) → v < length vars
      → before count vars (suc v) ≡ before count vars v + count (info vars v)
  before_more [] v l = absurd (omega (arith, l))
  before_more (x ∷ []) zero l = omega arith
  before_more (x ∷ (y ∷ xs)) zero l = omega arith
  before_more (x ∷ xs) (suc v) l = let e = before_more xs v (omega (arith, l)) in omega (arith, e)

  pub before_all : (vars : List VarInfo) (v : ℕ) → length vars ≤ v
      → before count vars v ≡ total count vars
  before_all [] v l = refl
  before_all (x ∷ xs) zero l = absurd (omega (arith, l))
  before_all (x ∷ xs) (suc v) l = ap (λ n. count x + n) (before_all xs v (omega (arith, l)))

  pub before_room : (vars : List VarInfo) (v : ℕ) → v < length vars
      → before count vars v + count (info vars v) ≤ total count vars
  before_room [] v l = absurd (omega (arith, l))
  before_room (x ∷ xs) zero l = omega arith
  before_room (x ∷ xs) (suc v) l = let e = before_room xs v (omega (arith, l)) in omega (arith, e)

  pub total_more : (vars : List VarInfo) (v : ℕ) → v < length vars
      → total count (drop v vars) ≡ count (info vars v) + total count (drop (suc v) vars)
  total_more [] v l = absurd (omega (arith, l))
  total_more (x ∷ xs) zero l = refl
  total_more (x ∷ xs) (suc v) l = total_more xs v (omega (arith, l))

  pub before_none : (vars : List VarInfo) → 0 ≡ before count vars 0
  before_none [] = refl
  before_none (x ∷ xs) = refl

  pub before_next : (vars : List VarInfo) (v : ℕ) → v < length vars
      → before count vars (v + 1) ≡ before count vars v + count (info vars v)
  before_next vars v l = let q : v + 1 ≡ suc v = omega arith in
      ap (before count vars) q ∙ before_more vars v l

  pub total_few : (vars : List VarInfo) (n : ℕ)
      → ((v : ℕ) → v < length vars → count (info vars v) ≤ n) → total count vars ≤ n * length vars
  total_few [] n h = omega arith
  total_few (x ∷ xs) n h =
      let a = h 0 (omega arith) in
      let b = total_few xs n (λ v l. h (suc v) (omega (arith, l))) in
      let c : n * suc (length xs) ≡ n + n * length xs = grind arith in
      omega (arith, a, b, c)

pub scalars_few : (x : VarInfo) → scalar_count x ≤ x.levels
scalars_few x = go x.scalar refl
  where
    go : (b : Bool) → x.scalar ≡ b → scalar_count x ≤ x.levels
    go true e = let z : scalar_count x ≡ x.levels = rw e refl in omega (arith, z)
    go false e = let z : scalar_count x ≡ 0 = rw e refl in omega (arith, z)

pub levels_few : (x : VarInfo) → level_count x ≤ x.levels
levels_few x = go x.scalar refl
  where
    go : (b : Bool) → x.scalar ≡ b → level_count x ≤ x.levels
    go true e = let z : level_count x ≡ 0 = rw e refl in omega (arith, z)
    go false e = let z : level_count x ≡ x.levels = rw e refl in omega (arith, z)

-- an element that is read is there under any default
pub any_default : {A : Type 0} (xs : List A) (i : ℕ) (a b : A) → i < length xs
    → slice_index_or xs i a ≡ slice_index_or xs i b
any_default [] i a b l = absurd (omega (arith, l))
any_default (x ∷ xs) zero a b l = refl
any_default (x ∷ xs) (suc i) a b l = any_default xs i a b (omega (arith, l))

pub info_is : (vars : List VarInfo) (v : ℕ) (x : VarInfo) → v < length vars
    → x ≡ slice_index_or vars v x → info vars v ≡ x
info_is vars v x l e = any_default vars v no_variable x l ∙ sym e

-- ---- the levels of a state

-- each variable has its levels
pub record HasLevels (vars : List VarInfo) (state : State) : Type 0 where
  pub vars_are : length state ≡ length vars
  pub levels : (v : ℕ) → v < length vars → length (slice_index_or state v []) ≡ (info vars v).levels

rest_has : (x : VarInfo) (vars : List VarInfo) (levels : List (List ℤ)) (state : State)
    → HasLevels (x ∷ vars) (levels ∷ state) → HasLevels vars state
rest_has x vars levels state h =
    record {
      vars_are = let e = h.vars_are in
          omega (arith, e);
      levels = λ v l. h.levels (suc v) (omega (arith, l));
    }

grid_count : (x : VarInfo) → x.scalar ≡ false → level_count x ≡ x.levels
grid_count x e = rw e refl

no_grid_count : (x : VarInfo) → x.scalar ≡ true → level_count x ≡ 0
no_grid_count x e = rw e refl

pub levels_length : (vars : List VarInfo) (state : State) → HasLevels vars state
    → length (levels_in vars state) ≡ total level_count vars
levels_length [] state h = refl
levels_length (x ∷ vars) [] h = absurd (let e = h.vars_are in omega (arith, e))
levels_length (x ∷ vars) (levels ∷ state) h =
    let first = h.levels 0 (omega arith) in
    let rest = levels_length vars state (rest_has x vars levels state h) in
    length-append (if x.scalar then [] else levels) (levels_in vars state)
    ∙ go x.scalar refl first rest
  where
    go : (b : Bool) → x.scalar ≡ b → length levels ≡ x.levels
        → length (levels_in vars state) ≡ total level_count vars
        → length (if x.scalar then [] else levels) + length (levels_in vars state)
        ≡ level_count x + total level_count vars
    go true e first rest = rw (e, rest) refl
    go false e first rest = rw (e, rest, first) refl

-- a level of a grid variable
pub levels_at : (vars : List VarInfo) (state : State) (v l : ℕ) → HasLevels vars state
    → v < length vars → (info vars v).scalar ≡ false → l < (info vars v).levels
    → slice_index_or (levels_in vars state) (before level_count vars v + l) []
    ≡ slice_index_or (slice_index_or state v []) l []
levels_at [] state v l h k g m = absurd (omega (arith, k))
levels_at (x ∷ vars) [] v l h k g m = absurd (let e = h.vars_are in omega (arith, e))
levels_at (x ∷ vars) (levels ∷ state) zero l h k g m =
    let first = h.levels 0 (omega arith) in
    let z : 0 + l ≡ l = omega arith in
    rw (g, z) (get_or_append_left levels (levels_in vars state) [] l (omega (arith, first, m)))
levels_at (x ∷ vars) (levels ∷ state) (suc v) l h k g m =
    let first = h.levels 0 (omega arith) in
    go x.scalar refl first ∙ levels_at vars state v l (rest_has x vars levels state h)
    (omega (arith, k)) g m
  where
    go : (b : Bool) → x.scalar ≡ b → length levels ≡ x.levels
        → slice_index_or ((if x.scalar then [] else levels) ++ levels_in vars state)
        (level_count x + before level_count vars v + l) []
        ≡ slice_index_or (levels_in vars state) (before level_count vars v + l) []
    go true e first = let z : 0 + before level_count vars v + l ≡ before level_count vars v + l =
        omega arith in rw (e, z) refl
    go false e first =
        let z : x.levels + before level_count vars v + l
        ≡ length levels + (before level_count vars v + l) = omega (arith, first) in
        rw (e, z) (get_or-append-add levels (levels_in vars state) (before level_count vars v + l)
        [])

-- ---- the scalars of a state

-- a scalar has at most one level, of one number
pub record HasScalars (vars : List VarInfo) (state : State) : Type 0 where
  pub has : HasLevels vars state
  pub one_level : (v : ℕ) → v < length vars → (info vars v).scalar ≡ true → (info vars v).levels ≤ 1
  pub one_number : (v : ℕ) → v < length vars → (info vars v).scalar ≡ true
      → 0 < (info vars v).levels → length (slice_index_or (slice_index_or state v []) 0 []) ≡ 1

rest_scalars : (x : VarInfo) (vars : List VarInfo) (levels : List (List ℤ)) (state : State)
    → HasScalars (x ∷ vars) (levels ∷ state) → HasScalars vars state
rest_scalars x vars levels state h = record {
  has = rest_has x vars levels state h.has;
  one_level = λ v l. h.one_level (suc v) (omega (arith, l));
  one_number = λ v l. h.one_number (suc v) (omega (arith, l));
}

abbrev all_numbers : List (List ℤ) → List ℤ
all_numbers levels = flat_map (λ (level : List ℤ). level) levels

-- as many numbers as levels, where there is at most one, of one number
numbers_length : (levels : List (List ℤ)) → length levels ≤ 1
    → (0 < length levels → length (slice_index_or levels 0 []) ≡ 1)
    → length (all_numbers levels) ≡ length levels
numbers_length [] h one = refl
numbers_length ((n ∷ []) ∷ []) h one = refl
numbers_length ([] ∷ []) h one = absurd (let e = one (omega arith) in omega (arith, e))
numbers_length ((n ∷ m ∷ ns) ∷ []) h one = absurd (let e = one (omega arith) in omega (arith, e))
numbers_length (a ∷ b ∷ levels) h one = absurd (omega (arith, h))

numbers_first : (levels : List (List ℤ)) (more : List ℤ) → length levels ≤ 1 → 0 < length levels
    → length (slice_index_or levels 0 []) ≡ 1
    → slice_index_or (all_numbers levels ++ more) 0 (pos 0)
    ≡ slice_index_or (slice_index_or levels 0 []) 0 (pos 0)
numbers_first [] more h some one = absurd (omega (arith, some))
numbers_first ((n ∷ []) ∷ []) more h some one = refl
numbers_first ([] ∷ []) more h some one = absurd (omega (arith, one))
numbers_first ((n ∷ m ∷ ns) ∷ []) more h some one = absurd (omega (arith, one))
numbers_first (a ∷ b ∷ levels) more h some one = absurd (omega (arith, h))

-- of the first variable
first_numbers : (x : VarInfo) (vars : List VarInfo) (levels : List (List ℤ)) (state : State)
    → HasScalars (x ∷ vars) (levels ∷ state) → x.scalar ≡ true
    → length (all_numbers levels) ≡ x.levels
first_numbers x vars levels state h e =
    let first = h.has.levels 0 (omega arith) in
    let few = h.one_level 0 (omega arith) e in
    numbers_length levels (omega (arith, first, few))
    (λ some. h.one_number 0 (omega arith) e (omega (arith, first, some))) ∙ first

pub scalars_length : (vars : List VarInfo) (state : State) → HasScalars vars state
    → length (scalars_in vars state) ≡ total scalar_count vars
scalars_length [] state h = refl
scalars_length (x ∷ vars) [] h = absurd (let e = h.has.vars_are in omega (arith, e))
scalars_length (x ∷ vars) (levels ∷ state) h =
    length-append (if x.scalar then all_numbers levels else []) (scalars_in vars state)
    ∙ go x.scalar refl (first_numbers x vars levels state h)
    (scalars_length vars state (rest_scalars x vars levels state h))
  where
    go : (b : Bool) → x.scalar ≡ b → (x.scalar ≡ true → length (all_numbers levels) ≡ x.levels)
        → length (scalars_in vars state) ≡ total scalar_count vars
        → length (if x.scalar then all_numbers levels else []) + length (scalars_in vars state)
        ≡ scalar_count x + total scalar_count vars
    go true e first rest = let f = first e in rw (e, rest, f) refl
    go false e first rest = rw (e, rest) refl

pub scalars_at : (vars : List VarInfo) (state : State) (v : ℕ) → HasScalars vars state
    → v < length vars → (info vars v).scalar ≡ true → 0 < (info vars v).levels
    → slice_index_or (scalars_in vars state) (before scalar_count vars v) (pos 0)
    ≡ slice_index_or (slice_index_or (slice_index_or state v []) 0 []) 0 (pos 0)
scalars_at [] state v h k g some = absurd (omega (arith, k))
scalars_at (x ∷ vars) [] v h k g some = absurd (let e = h.has.vars_are in omega (arith, e))
scalars_at (x ∷ vars) (levels ∷ state) zero h k g some =
    let first = h.has.levels 0 (omega arith) in
    let few = h.one_level 0 (omega arith) g in
    let one = h.one_number 0 (omega arith) g some in
    rw g (numbers_first levels (scalars_in vars state) (omega (arith, first, few))
    (omega (arith, first, some)) one)
scalars_at (x ∷ vars) (levels ∷ state) (suc v) h k g some =
    go x.scalar refl (first_numbers x vars levels state h)
    ∙ scalars_at vars state v (rest_scalars x vars levels state h) (omega (arith, k)) g some
  where
    go : (b : Bool) → x.scalar ≡ b → (x.scalar ≡ true → length (all_numbers levels) ≡ x.levels)
        → slice_index_or ((if x.scalar then all_numbers levels else []) ++ scalars_in vars state)
        (scalar_count x + before scalar_count vars v) (pos 0)
        ≡ slice_index_or (scalars_in vars state) (before scalar_count vars v) (pos 0)
    go true e first =
        let f = first e in
        let z : x.levels + before scalar_count vars v
        ≡ length (all_numbers levels) + before scalar_count vars v = omega (arith, f) in
        rw (e, z) (get_or-append-add (all_numbers levels) (scalars_in vars state)
        (before scalar_count vars v) (pos 0))
    go false e first = let z : 0 + before scalar_count vars v ≡ before scalar_count vars v =
        omega arith in rw (e, z) refl

-- ---- the state of a checkpoint

pub from_length : (vars : List VarInfo) (scalars : List ℤ) (levels : List (List ℤ))
    → length (state_from vars scalars levels) ≡ length vars
from_length [] scalars levels = refl
from_length (x ∷ vars) scalars levels =
    go x.scalar refl (from_length vars (drop x.levels scalars) levels)
    (from_length vars scalars (drop x.levels levels))
  where
    go : (b : Bool) → x.scalar ≡ b
        → length (state_from vars (drop x.levels scalars) levels) ≡ length vars
        → length (state_from vars scalars (drop x.levels levels)) ≡ length vars
        → length (state_from (x ∷ vars) scalars levels) ≡ suc (length vars)
    go true e a b = rw e (ap suc a)
    go false e a b = rw e (ap suc b)

-- a grid variable takes its levels
pub from_grid : (vars : List VarInfo) (scalars : List ℤ) (levels : List (List ℤ)) (v : ℕ)
    → v < length vars → (info vars v).scalar ≡ false
    → slice_index_or (state_from vars scalars levels) v []
    ≡ take (info vars v).levels (drop (before level_count vars v) levels)
from_grid [] scalars levels v k g = absurd (omega (arith, k))
from_grid (x ∷ vars) scalars levels zero k g = rw g refl
from_grid (x ∷ vars) scalars levels (suc v) k g =
    go x.scalar refl (from_grid vars (drop x.levels scalars) levels v (omega (arith, k)) g)
    (from_grid vars scalars (drop x.levels levels) v (omega (arith, k)) g)
  where
    go : (b : Bool) → x.scalar ≡ b
        → slice_index_or (state_from vars (drop x.levels scalars) levels) v []
        ≡ take (info vars v).levels (drop (before level_count vars v) levels)
        → slice_index_or (state_from vars scalars (drop x.levels levels)) v []
        ≡ take (info vars v).levels (drop (before level_count vars v) (drop x.levels levels))
        → slice_index_or (state_from (x ∷ vars) scalars levels) (suc v) []
        ≡ take (info vars v).levels (drop (level_count x + before level_count vars v) levels)
    go true e a b = let z : 0 + before level_count vars v ≡ before level_count vars v =
        omega arith in rw (e, z) a
    go false e a b = rw e (b
        ∙ ap (take (info vars v).levels) (drop-drop (before level_count vars v) x.levels levels))

-- a scalar takes its numbers
pub from_scalar : (vars : List VarInfo) (scalars : List ℤ) (levels : List (List ℤ)) (v : ℕ)
    → v < length vars → (info vars v).scalar ≡ true
    → slice_index_or (state_from vars scalars levels) v []
    ≡ map (λ (n : ℤ). n ∷ [])
    (take (info vars v).levels (drop (before scalar_count vars v) scalars))
from_scalar [] scalars levels v k g = absurd (omega (arith, k))
from_scalar (x ∷ vars) scalars levels zero k g = rw g refl
from_scalar (x ∷ vars) scalars levels (suc v) k g =
    go x.scalar refl (from_scalar vars (drop x.levels scalars) levels v (omega (arith, k)) g)
    (from_scalar vars scalars (drop x.levels levels) v (omega (arith, k)) g)
  where
    go : (b : Bool) → x.scalar ≡ b
        → slice_index_or (state_from vars (drop x.levels scalars) levels) v []
        ≡ map (λ (n : ℤ). n ∷ [])
        (take (info vars v).levels (drop (before scalar_count vars v) (drop x.levels scalars)))
        → slice_index_or (state_from vars scalars (drop x.levels levels)) v []
        ≡ map (λ (n : ℤ). n ∷ [])
        (take (info vars v).levels (drop (before scalar_count vars v) scalars))
        → slice_index_or (state_from (x ∷ vars) scalars levels) (suc v) []
        ≡ map (λ (n : ℤ). n ∷ [])
        (take (info vars v).levels (drop (scalar_count x + before scalar_count vars v) scalars))
    go true e a b = rw e (a
        ∙ ap (λ ns. map (λ (n : ℤ). n ∷ []) (take (info vars v).levels ns))
        (drop-drop (before scalar_count vars v) x.levels scalars))
    go false e a b = let z : 0 + before scalar_count vars v ≡ before scalar_count vars v =
        omega arith in rw (e, z) b
