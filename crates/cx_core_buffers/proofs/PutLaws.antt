-- What each step of putting a part's numbers into a checkpoint leaves.
use Rattle.std.proofs.Common.{◌≡◌, ℕ, zero, suc, ◌+◌, ◌<◌, ◌≤◌, Bool, true, false, arith, refl, sym, ap, ◌∙◌, ℤ, pos, List, [], ◌∷◌, length, length-set}
use Rattle.std.proofs.lemmas.List.{get_or-set_other}
use Rattle.std.specs.Prelude.{slice_index_or, slice_set, if◌then◌else◌}
use Rattle.cx_grid.specs.Boxes.{point_count, has_point}
use Rattle.cx_grid.specs.Grid.{whole}
use Rattle.cx_plan.specs.declared.variable.VarId.{VarId}
use Rattle.cx_plan.specs.declared.variable.VarInfo.{VarInfo}
use Rattle.cx_rule.specs.States.{level_of}
use Rattle.cx_field.specs.Patches.{PatchValue}
use Rattle.law_parts.specs.Holding.{number_at}
use Rattle.law_parts.proofs.ListLaws.{numbers_length}
use Rattle.law_parts.proofs.StateIn.{var}
use Rattle.cx_core_buffers.specs.Checkpoints.{total, before, scalars_in, levels_in}
use Rattle.cx_core_buffers.specs.Gathering.{put, put_all}
use Rattle.cx_core_buffers.specs.Filling.{scalar_put}
use Rattle.cx_core_buffers.specs.Rows.{levels_put}
use Rattle.law_parts.proofs.FilledLaws.{filled, filled_later, filled_step, filled_all}
use Rattle.cx_core_buffers.proofs.CheckpointLaws.{info, HasLevels, HasScalars, before_next, before_room, before_all, levels_length, levels_at, scalars_length, scalars_at}
use Rattle.cx_plan.specs.Whole.{scalar_count, level_count}

pub put_length : (p : PatchValue) (part level : List ℤ)
    → length (put p part level) ≡ point_count (whole p.shape)
put_length p part level =
    numbers_length (whole p.shape)
    (λ y. if has_point p.owned y then number_at p.local part y
    else number_at (whole p.shape) level y)

pub all_length : (p : PatchValue) (parts levels : List (List ℤ)) → length parts ≡ length levels
    → length (put_all p parts levels) ≡ length levels
all_length p [] [] e = refl
all_length p [] (y ∷ levels) e = absurd (omega (arith, e))
all_length p (x ∷ parts) [] e = refl
all_length p (x ∷ parts) (y ∷ levels) e = ap suc (all_length p parts levels (omega (arith, e)))

pub all_at : (p : PatchValue) (parts levels : List (List ℤ)) (i : ℕ) → i < length parts
    → i < length levels
    → slice_index_or (put_all p parts levels) i []
    ≡ put p (slice_index_or parts i []) (slice_index_or levels i [])
all_at p [] levels i l m = absurd (omega (arith, l))
all_at p (x ∷ parts) [] i l m = absurd (omega (arith, m))
all_at p (x ∷ parts) (y ∷ levels) zero l m = refl
all_at p (x ∷ parts) (y ∷ levels) (suc i) l m =
    all_at p parts levels i (omega (arith, l)) (omega (arith, m))

-- each whole level has as many numbers as before
pub all_points : (p : PatchValue) (parts levels : List (List ℤ)) (i : ℕ)
    → length parts ≡ length levels → i < length levels
    → length (slice_index_or (put_all p parts levels) i []) ≡ point_count (whole p.shape)
all_points p parts levels i e l =
    ap length (all_at p parts levels i (omega (arith, e, l)) l)
    ∙ put_length p (slice_index_or parts i []) (slice_index_or levels i [])

-- ---- a variable's levels

module _ (p : PatchValue) (v : VarId) (from : ℕ) (parts first : List (List ℤ))
    (same : length parts ≡ length first) where
  abbrev all : List (List ℤ)
  all = put_all p parts first

  pub some_put : (n : ℕ) → from + n ≤ length first
      → ((l : ℕ) → l < n → slice_index_or parts (from + l) [] ≡ level_of p.numbers v l)
      → levels_put p v from n (filled from all first) ≡ filled (from + n) all first
  some_put zero room each = ap (λ k. filled k all first) none
    where
      none : from ≡ from + 0
      none = omega arith
  some_put (suc n) room each =
      let below : from + n < length first = omega (arith, room) in
      let before_is = some_put n (omega (arith, room)) (λ l m. each l (omega (arith, m))) in
      let now = filled (from + n) all first in
      let many = all_length p parts first same in
      let next : suc (from + n) ≡ from + suc n = omega arith in
      ap (λ ls. slice_set ls (from + n)
      (put p (level_of p.numbers v n) (slice_index_or ls (from + n) []))) before_is
      ∙ ap (λ ns. slice_set now (from + n) (put p (level_of p.numbers v n) ns))
      (filled_later (from + n) (from + n) all first [] (omega arith))
      ∙ ap (λ ns. slice_set now (from + n) (put p ns (slice_index_or first (from + n) [])))
      (sym (each n (omega arith)))
      ∙ ap (slice_set now (from + n))
      (sym (all_at p parts first (from + n) (omega (arith, same, below)) below))
      ∙ filled_step (from + n) all first [] (omega (arith, many, below)) below
      ∙ ap (λ k. filled k all first) next

-- ---- the variables

module _ (p : PatchValue) (vars : List VarInfo) (has : HasLevels vars p.numbers)
    (first : List (List ℤ)) (room : length first ≡ total level_count vars) where
  abbrev parts : List (List ℤ)
  parts = levels_in vars p.numbers

  parts_many : length parts ≡ length first
  parts_many = levels_length vars p.numbers has ∙ sym room

  pub levels_more : (v : ℕ) → v < length vars
      → levels_put p (var v) (before level_count vars v) (level_count (info vars v))
      (filled (before level_count vars v) (put_all p parts first) first)
      ≡ filled (before level_count vars v + level_count (info vars v)) (put_all p parts first) first
  levels_more v l =
      let r = before_room level_count vars v l in
      some_put p (var v) (before level_count vars v) parts first parts_many
      (level_count (info vars v)) (omega (arith, r, room)) (go (info vars v).scalar refl)
    where
      go : (b : Bool) → (info vars v).scalar ≡ b → (k : ℕ) → k < level_count (info vars v)
          → slice_index_or parts (before level_count vars v + k) [] ≡ level_of p.numbers (var v) k
      go true e k m = let z : level_count (info vars v) ≡ 0 = rw e refl in
          absurd (omega (arith, m, z))
      go false e k m =
          let z : level_count (info vars v) ≡ (info vars v).levels = rw e refl in
          levels_at vars p.numbers v k has l e (omega (arith, m, z))

  pub levels_kept : (v place n : ℕ) (items new : List (List ℤ)) → v < length vars
      → place ≡ before level_count vars v → n ≡ level_count (info vars v)
      → items ≡ filled place (put_all p parts first) first
      → new ≡ levels_put p (var v) place n items
      → (place + n ≡ before level_count vars (v + 1))
      × (new ≡ filled (place + n) (put_all p parts first) first)
  levels_kept v place n items new l a b c e =
      let d = before_next level_count vars v l in
      let sum : place + n ≡ before level_count vars v + level_count (info vars v) =
      omega (arith, a, b) in (
        omega (arith, d, sum),
        e ∙ ap (λ k. levels_put p (var v) k n items) a
            ∙ ap (λ m. levels_put p (var v) (before level_count vars v) m items) b
            ∙ ap (levels_put p (var v) (before level_count vars v) (level_count (info vars v)))
            (c ∙ ap (λ k. filled k (put_all p parts first) first) a)
            ∙ levels_more v l ∙ ap (λ k. filled k (put_all p parts first) first) (sym sum),
      )

  pub levels_done : (v : ℕ) → length vars ≤ v
      → filled (before level_count vars v) (put_all p parts first) first ≡ put_all p parts first
  levels_done v l =
      let e = before_all level_count vars v l in
      filled_all (before level_count vars v) (put_all p parts first) first
      (all_length p parts first parts_many) (omega (arith, e, room))

  pub levels_points : (k i : ℕ) → i < length first
      → length (slice_index_or first i []) ≡ point_count (whole p.shape)
      → length (slice_index_or (filled k (put_all p parts first) first) i [])
      ≡ point_count (whole p.shape)
  levels_points k i l e = go k i (put_all p parts first) first
      (all_points p parts first i parts_many l) e
    where
      go : (k i : ℕ) (new old : List (List ℤ))
          → length (slice_index_or new i []) ≡ point_count (whole p.shape)
          → length (slice_index_or old i []) ≡ point_count (whole p.shape)
          → length (slice_index_or (filled k new old) i []) ≡ point_count (whole p.shape)
      go zero i new old a b = b
      go (suc k) i [] old a b = b
      go (suc k) i (x ∷ new) [] a b = b
      go (suc k) zero (x ∷ new) (y ∷ old) a b = a
      go (suc k) (suc i) (x ∷ new) (y ∷ old) a b = go k i new old a b

module _ (p : PatchValue) (vars : List VarInfo) (has : HasScalars vars p.numbers) (first : List ℤ)
    (room : length first ≡ total scalar_count vars) where
  abbrev numbers : List ℤ
  numbers = scalars_in vars p.numbers

  numbers_many : length numbers ≡ length first
  numbers_many = scalars_length vars p.numbers has ∙ sym room

  pub scalars_more : (v : ℕ) → v < length vars
      → scalar_put p (var v) (before scalar_count vars v) (scalar_count (info vars v))
      (filled (before scalar_count vars v) numbers first)
      ≡ filled (before scalar_count vars v + scalar_count (info vars v)) numbers first
  scalars_more v l = go (info vars v).scalar refl
    where
      at : ℕ
      at = before scalar_count vars v

      none : at ≡ at + 0
      none = omega arith

      by : (n : ℕ) → n ≡ (info vars v).levels → n ≤ 1 → (info vars v).scalar ≡ true
          → scalar_count (info vars v) ≡ n
          → scalar_put p (var v) at n (filled at numbers first) ≡ filled (at + n) numbers first
      by zero e few s z = ap (λ k. filled k numbers first) none
      by (suc zero) e few s z =
          let r = before_room scalar_count vars v l in
          let here : at < length first = omega (arith, r, room, z) in
          let next : suc at ≡ at + 1 = omega arith in
          ap (slice_set (filled at numbers first) at)
          (sym (scalars_at vars p.numbers v has l s (omega (arith, e))))
          ∙ filled_step at numbers first (pos 0) (omega (arith, numbers_many, here)) here
          ∙ ap (λ k. filled k numbers first) next
      by (suc (suc n)) e few s z = absurd (omega (arith, few))

      go : (b : Bool) → (info vars v).scalar ≡ b
          → scalar_put p (var v) at (scalar_count (info vars v)) (filled at numbers first)
          ≡ filled (at + scalar_count (info vars v)) numbers first
      go true e =
          let z : scalar_count (info vars v) ≡ (info vars v).levels = rw e refl in
          let m = has.one_level v l e in
          by (scalar_count (info vars v)) z (omega (arith, z, m)) e refl
      go false e =
          let z : scalar_count (info vars v) ≡ 0 = rw e refl in
          ap (λ k. scalar_put p (var v) at k (filled at numbers first)) z
          ∙ ap (λ k. filled k numbers first) (none ∙ ap (λ k. at + k) (sym z))

  pub scalars_kept : (v place n : ℕ) (items new : List ℤ) → v < length vars
      → place ≡ before scalar_count vars v → n ≡ scalar_count (info vars v)
      → items ≡ filled place numbers first → new ≡ scalar_put p (var v) place n items
      → (place + n ≡ before scalar_count vars (v + 1)) × (new ≡ filled (place + n) numbers first)
  scalars_kept v place n items new l a b c e =
      let d = before_next scalar_count vars v l in
      let sum : place + n ≡ before scalar_count vars v + scalar_count (info vars v) =
      omega (arith, a, b) in (
        omega (arith, d, sum),
        e ∙ ap (λ k. scalar_put p (var v) k n items) a
            ∙ ap (λ m. scalar_put p (var v) (before scalar_count vars v) m items) b
            ∙ ap (scalar_put p (var v) (before scalar_count vars v) (scalar_count (info vars v)))
            (c ∙ ap (λ k. filled k numbers first) a)
            ∙ scalars_more v l ∙ ap (λ k. filled k numbers first) (sym sum),
      )

  pub scalars_done : (v : ℕ) → length vars ≤ v
      → filled (before scalar_count vars v) numbers first ≡ numbers
  scalars_done v l =
      let e = before_all scalar_count vars v l in
      filled_all (before scalar_count vars v) numbers first numbers_many (omega (arith, e, room))

-- ---- the first so many levels of a variable

module _ (p : PatchValue) (v : VarId) (from : ℕ) (levels : List (List ℤ)) where
  pub put_many : (n : ℕ) → length (levels_put p v from n levels) ≡ length levels
  put_many zero = refl
  put_many (suc n) =
      length-set (levels_put p v from n levels) (from + n)
      (put p (level_of p.numbers v n)
      (slice_index_or (levels_put p v from n levels) (from + n) [])) ∙ put_many n

  pub put_later : (n m : ℕ) → n ≤ m
      → slice_index_or (levels_put p v from n levels) (from + m) []
      ≡ slice_index_or levels (from + m) []
  put_later zero m h = refl
  put_later (suc n) m h =
      get_or-set_other (levels_put p v from n levels) (from + n) (from + m)
      (put p (level_of p.numbers v n)
      (slice_index_or (levels_put p v from n levels) (from + n) [])) []
      (λ e. omega (arith, e, h))
      ∙ put_later n m (omega (arith, h))

  pub put_next : (n : ℕ) → slice_set (levels_put p v from n levels) (from + n)
      (put p (level_of p.numbers v n) (slice_index_or (levels_put p v from n levels) (from + n) []))
      ≡ levels_put p v from (n + 1) levels
  put_next n = let e : suc n ≡ n + 1 = omega arith in ap (λ k. levels_put p v from k levels) e
