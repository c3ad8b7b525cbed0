-- How many flags of a table are set: fewer, once a flag has fallen.
use Rattle.std.proofs.Common.{◌≡◌, ℕ, zero, suc, ◌+◌, ◌<◌, ◌≤◌, Bool, true, false, not, ◌&&◌, ◌||◌, refl, sym, subst, List, [], ◌∷◌, length, arith}
use Rattle.std.specs.List.{list_all, range_with_len}
use Rattle.cx_plan.specs.declared.flag.Flag.{Flag}
use Rattle.cx_plan.specs.declared.flag.Flag.TheVariants.{I, B, G, S}
use Rattle.cx_region_flags.specs.declared.flags.LevelFlags.{LevelFlags}
use Rattle.cx_region_flags.specs.Cells.{flag_of, cell}
use Rattle.cx_region_flags.specs.AllPaths.{is_within, Meet}

abbrev pub one_if : Bool → ℕ
one_if true = 1
one_if false = 0

abbrev pub level_count : LevelFlags → ℕ
level_count x = one_if x.interior + one_if x.boundary + one_if x.ghosts + one_if x.scalar

-- how many flags are set
abbrev pub set_count : List LevelFlags → ℕ
set_count [] = 0
set_count (x ∷ xs) = level_count x + set_count xs

-- ---- one level

abbrev IsBoth : LevelFlags → LevelFlags → LevelFlags → Type 0
IsBoth x y both = (f : Flag) → flag_of both f ≡ (flag_of x f && flag_of y f)

falls-flag : (a b t : Bool) → t ≡ (a && b) → one_if t + one_if (not (not a || b)) ≤ one_if a
falls-flag a b t is = subst (λ (t : Bool). one_if t + one_if (not (not a || b)) ≤ one_if a) (sym is)
    (by a b)
  where
    by : (a b : Bool) → one_if (a && b) + one_if (not (not a || b)) ≤ one_if a
    by true true = omega arith
    by true false = omega arith
    by false b = omega arith

some_false : (a b c d : Bool) → (a && b && c && d) ≡ false
    → 1 ≤ one_if (not a) + one_if (not b) + one_if (not c) + one_if (not d)
some_false false b c d h = omega arith
some_false true false c d h = omega arith
some_false true true false d h = omega arith
some_false true true true false h = omega arith
some_false true true true true h = absurd (cc)

lower-level : (x y both : LevelFlags) → IsBoth x y both → level_count both ≤ level_count x
lower-level x y both is =
    let i = falls-flag x.interior y.interior both.interior (is I) in
    let b = falls-flag x.boundary y.boundary both.boundary (is B) in
    let g = falls-flag x.ghosts y.ghosts both.ghosts (is G) in
    let s = falls-flag x.scalar y.scalar both.scalar (is S) in
    omega (arith, i, b, g, s)

falls-level : (x y both : LevelFlags) → IsBoth x y both → is_within x y ≡ false
    → level_count both < level_count x
falls-level x y both is h =
    let i = falls-flag x.interior y.interior both.interior (is I) in
    let b = falls-flag x.boundary y.boundary both.boundary (is B) in
    let g = falls-flag x.ghosts y.ghosts both.ghosts (is G) in
    let s = falls-flag x.scalar y.scalar both.scalar (is S) in
    let some = some_false (not x.interior || y.interior) (not x.boundary || y.boundary)
    (not x.ghosts || y.ghosts) (not x.scalar || y.scalar) h in
    omega (arith, i, b, g, s, some)

-- ---- all levels

lower : (a new : List LevelFlags) (other : ℕ → LevelFlags) → length new ≡ length a
    → ((k : ℕ) → IsBoth (cell a k) (other k) (cell new k)) → set_count new ≤ set_count a
lower [] [] other same each = omega arith
lower [] (y ∷ ys) other same each = absurd (omega (arith, same))
lower (x ∷ xs) [] other same each = absurd (omega (arith, same))
lower (x ∷ xs) (y ∷ ys) other same each =
    let here = lower-level x (other 0) y (each 0) in
    let rest = lower xs ys (λ k. other (suc k)) (omega (arith, same)) (λ k. each (suc k)) in
    omega (arith, here, rest)

falls-at : (a new : List LevelFlags) (other : ℕ → LevelFlags) (k : ℕ) → k < length a
    → length new ≡ length a → ((k : ℕ) → IsBoth (cell a k) (other k) (cell new k))
    → is_within (cell a k) (other k) ≡ false → set_count new < set_count a
falls-at [] new other k below same each h = absurd (omega (arith, below))
falls-at (x ∷ xs) [] other k below same each h = absurd (omega (arith, same))
falls-at (x ∷ xs) (y ∷ ys) other zero below same each h =
    let here = falls-level x (other 0) y (each 0) h in
    let rest = lower xs ys (λ k. other (suc k)) (omega (arith, same)) (λ k. each (suc k)) in
    omega (arith, here, rest)
falls-at (x ∷ xs) (y ∷ ys) other (suc k) below same each h =
    let here = lower-level x (other 0) y (each 0) in
    let rest = falls-at xs ys (λ k. other (suc k)) k (omega (arith, below)) (omega (arith, same))
    (λ k. each (suc k)) h in
    omega (arith, here, rest)

not_all : (p : ℕ → Bool) (n a : ℕ) → list_all p (range_with_len a n) ≡ false
    → (k : ℕ) × (k < a + n) × (p k ≡ false)
not_all p zero a h = absurd (cc)
not_all p (suc n) a h = by (p a) refl h (not_all p n (a + 1))
  where
    by : (t : Bool) → p a ≡ t → (t && list_all p (range_with_len (a + 1) n)) ≡ false
        → (list_all p (range_with_len (a + 1) n) ≡ false
        → (k : ℕ) × (k < a + 1 + n) × (p k ≡ false)) → (k : ℕ) × (k < a + suc n) × (p k ≡ false)
    by false at h rest = (a, omega arith, at)
    by true at h rest =
        let found = rest h in
        (found.0, omega (arith, found.1), found.2)

-- a table that was not below the other has fewer flags set, once it has met it
pub falls : (a b new : List LevelFlags) → Meet a b new
    → list_all (λ k. is_within (cell a k) (cell b k)) (range_with_len 0 (length a)) ≡ false
    → set_count new < set_count a
falls a b new meet h =
    let found = not_all (λ k. is_within (cell a k) (cell b k)) (length a) 0 h in
    falls-at a new (cell b) found.0 (omega (arith, found.1)) meet.same_length meet.set found.2
