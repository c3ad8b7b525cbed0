-- The levels of a part: how many there are, how many numbers each has, and what a write leaves.
use Rattle.std.proofs.Common.{◌≡◌, ℕ, ◌+◌, ◌-◌, ◌<◌, ◌≤◌, ◌⊎◌, inl, inr, arith, refl, sym, ap, ◌∙◌, ℤ, List, [], ◌∷◌, ◌++◌, length, map, take, drop, replicate, length-set}
use Rattle.std.specs.Prelude.{slice_index_or, slice_set}
use Rattle.std.proofs.Math.Seq.{map-set_same}
use Rattle.std.proofs.lemmas.List.{get_or-set_same, get_or-set_other, get_or-map, get_or-replicate, length-replicate, length-map, map-append, take-map, drop-map, take-replicate, drop-replicate, replicate-append-replicate}
use Rattle.std.proofs.lemmas.Bool.{cases_eq}
use Rattle.cx_grid.specs.Boxes.{point_count}
use Rattle.cx_plan.specs.declared.variable.VarId.{VarId}
use Rattle.cx_plan.specs.declared.variable.VarInfo.{VarInfo}
use Rattle.cx_plan.specs.Lookups.{variable, levels_of, no_variable}
use Rattle.cx_rule.specs.States.{State, level_of, with_level, rotated_levels, rotate}
use Rattle.cx_rule.specs.Patches.{PatchValue, IsPatch, IsStored, IsGridLevel, IsScalar, setup_in, number_count, with_numbers}
use Rattle.cx_rule.specs.Staging.{put_from}
use Rattle.cx_rule.proofs.BufferLaws.{put_from_size}

-- ---- sizes

sizes_in : PatchValue → VarInfo → List ℕ
sizes_in p v = replicate v.levels (number_count p.local v)

module _ (p : PatchValue) (s : IsPatch p) where
  pub var_count : length p.numbers ≡ length p.vars
  var_count =
      sym (length-map p.numbers (map length)) ∙ ap length s.sized
      ∙ length-map p.vars (λ (v : VarInfo). replicate v.levels (number_count p.local v))

  module _ (v : VarId) (level : ℕ) (g : IsStored p v level) where
    pub var_below : v.0 < length p.numbers
    var_below = omega (arith, var_count, g.var)

    var_sizes : map length (slice_index_or p.numbers v.0 [])
        ≡ replicate (levels_of (setup_in p) v) (number_count p.local (variable (setup_in p) v))
    var_sizes =
        sym (get_or-map (map length) p.numbers v.0 [] [] var_below)
        ∙ ap (λ ls. slice_index_or ls v.0 []) s.sized
        ∙ get_or-map (λ (v : VarInfo). replicate v.levels (number_count p.local v))
        p.vars v.0 no_variable [] g.var

    pub level_below : level < length (slice_index_or p.numbers v.0 [])
    level_below =
        let n = sym (length-map (slice_index_or p.numbers v.0 []) length) ∙ ap length var_sizes
        ∙ length-replicate (levels_of (setup_in p) v)
        (number_count p.local (variable (setup_in p) v)) in
        omega (arith, n, g.stored)

    pub level_size : length (level_of p.numbers v level)
        ≡ number_count p.local (variable (setup_in p) v)
    level_size =
        sym (get_or-map length (slice_index_or p.numbers v.0 []) level [] 0 level_below)
        ∙ ap (λ ns. slice_index_or ns level 0) var_sizes
        ∙ get_or-replicate (levels_of (setup_in p) v) level
        (number_count p.local (variable (setup_in p) v)) 0 g.stored

pub stored_grid : (p : PatchValue) (v : VarId) (level : ℕ) → IsGridLevel p v level
    → IsStored p v level
stored_grid p v level g = record { var = g.var; stored = g.stored }

pub stored_scalar : (p : PatchValue) (v : VarId) → IsScalar p v → IsStored p v 0
stored_scalar p v g = record { var = g.var; stored = g.stored }

pub grid_size : (p : PatchValue) (v : VarId) (level : ℕ) → IsPatch p → IsGridLevel p v level
    → length (level_of p.numbers v level) ≡ point_count p.local
grid_size p v level s g = let e = level_size p s v level (stored_grid p v level g) in rw g.grid at e

pub grid_count : (p : PatchValue) (v : VarId) (level : ℕ) → IsGridLevel p v level
    → number_count p.local (variable (setup_in p) v) ≡ point_count p.local
grid_count p v level g = rw g.grid refl

pub scalar_count : (p : PatchValue) (v : VarId) → IsScalar p v
    → number_count p.local (variable (setup_in p) v) ≡ 1
scalar_count p v g = rw g.scalar refl

pub scalar_size : (p : PatchValue) (v : VarId) → IsPatch p → IsScalar p v
    → length (level_of p.numbers v 0) ≡ 1
scalar_size p v s g = level_size p s v 0 (stored_scalar p v g) ∙ scalar_count p v g

-- ---- a level written

pub same_sizes : (state : State) (v : VarId) (level : ℕ) (ns : List ℤ)
    → length ns ≡ length (level_of state v level)
    → map (map length) (with_level state v level ns) ≡ map (map length) state
same_sizes state v level ns h =
    map-set_same (map length) state v.0 (slice_set (slice_index_or state v.0 []) level ns) []
    (map-set_same length (slice_index_or state v.0 []) level ns [] h)

pub patch_by_sizes : (p : PatchValue) (state : State) → IsPatch p
    → map (map length) state ≡ map (map length) p.numbers → IsPatch (with_numbers p state)
patch_by_sizes p state s e =
    record { part = s.part; box = s.box; small = s.small; sized = e ∙ s.sized; buffers = s.buffers }

pub written_patch : (p : PatchValue) (v : VarId) (level at : ℕ) (n : ℤ) → IsPatch p
    → IsPatch (with_numbers p
    (with_level p.numbers v level (slice_set (level_of p.numbers v level) at n)))
written_patch p v level at n s =
    patch_by_sizes p _ s (same_sizes p.numbers v level (slice_set (level_of p.numbers v level) at n)
    (length-set (level_of p.numbers v level) at n))

pub written_row : (p : PatchValue) (v : VarId) (level at : ℕ) (ns : List ℤ) → IsPatch p
    → at + length ns ≤ length (level_of p.numbers v level)
    → IsPatch (with_numbers p
    (with_level p.numbers v level (put_from at (level_of p.numbers v level) ns)))
written_row p v level at ns s h =
    patch_by_sizes p _ s (same_sizes p.numbers v level (put_from at (level_of p.numbers v level) ns)
    (put_from_size (level_of p.numbers v level) ns at h))

module _ (state : State) (v : VarId) (level : ℕ) (ns : List ℤ) (var : v.0 < length state) where
  at_var : slice_index_or (with_level state v level ns) v.0 []
      ≡ slice_set (slice_index_or state v.0 []) level ns
  at_var = get_or-set_same state v.0 (slice_set (slice_index_or state v.0 []) level ns) [] var

  pub level_same : level < length (slice_index_or state v.0 [])
      → level_of (with_level state v level ns) v level ≡ ns
  level_same h = ap (λ ls. slice_index_or ls level []) at_var
      ∙ get_or-set_same (slice_index_or state v.0 []) level ns [] h

  other_var : (u : VarId) (m : ℕ) → (u.0 ≡ v.0 → ⊥)
      → level_of (with_level state v level ns) u m ≡ level_of state u m
  other_var u m h = ap (λ ls. slice_index_or ls m [])
      (get_or-set_other state v.0 u.0 (slice_set (slice_index_or state v.0 []) level ns) [] h)

  other_level : (u : VarId) (m : ℕ) → (m ≡ level → ⊥) → (u.0 ≡ v.0) ⊎ (u.0 ≡ v.0 → ⊥)
      → level_of (with_level state v level ns) u m ≡ level_of state u m
  other_level u m h (inl e) =
      rw e (ap (λ ls. slice_index_or ls m []) at_var
      ∙ get_or-set_other (slice_index_or state v.0 []) level m ns [] h)
  other_level u m h (inr e) = other_var u m e

  pub level_other : (u : VarId) (m : ℕ) → (u.0 ≡ v.0 → ⊥) ⊎ (m ≡ level → ⊥)
      → level_of (with_level state v level ns) u m ≡ level_of state u m
  level_other u m (inl h) = other_var u m h
  level_other u m (inr h) = other_level u m h (cases_eq u.0 v.0)

-- ---- rotation

rotated_sizes : (levels : List (List ℤ)) (n c : ℕ) → map length levels ≡ replicate n c
    → map length (rotated_levels levels) ≡ replicate n c
rotated_sizes levels n c e =
    let k = length levels - 1 in
    let m : length levels ≡ n =
    sym (length-map levels length) ∙ ap length e ∙ length-replicate n c in
    map-append length (drop k levels) (take k levels)
    ∙ ap (λ a. a ++ map length (take k levels)) (sym (drop-map length k levels))
    ∙ ap (λ b. drop k (map length levels) ++ b) (sym (take-map length k levels))
    ∙ ap (λ a. drop k a ++ take k a) e
    ∙ ap (λ a. a ++ take k (replicate n c)) (drop-replicate k n c)
    ∙ ap (λ b. replicate (n - k) c ++ b) (take-replicate k n c (omega arith))
    ∙ replicate-append-replicate (n - k) k c
    ∙ ap (λ i. replicate i c) (omega arith)

rotated_all : (state : State) (vars : List VarInfo) (f g : VarInfo → ℕ)
    → map (map length) state ≡ map (λ v. replicate (f v) (g v)) vars
    → map (map length) (rotate state) ≡ map (λ v. replicate (f v) (g v)) vars
rotated_all [] [] f g e = refl
rotated_all [] (v ∷ vs) f g e = cc
rotated_all (ls ∷ rest) [] f g e = cc
rotated_all (ls ∷ rest) (v ∷ vs) f g e =
    let head : map length ls ≡ replicate (f v) (g v) = cc in
    let tail : map (map length) rest ≡ map (λ v. replicate (f v) (g v)) vs = cc in
    let a = rotated_sizes ls (f v) (g v) head in
    let b = rotated_all rest vs f g tail in
    rw (a, b) refl

pub rotated_patch : (p : PatchValue) → IsPatch p → IsPatch (with_numbers p (rotate p.numbers))
rotated_patch p s =
    record {
      part = s.part;
      box = s.box;
      small = s.small;
      sized = rotated_all p.numbers p.vars (λ (v : VarInfo). v.levels) (number_count p.local)
          s.sized;
      buffers = s.buffers;
    }

-- ---- one number

pub one_set : (ns : List ℤ) (n : ℤ) → length ns ≡ 1 → slice_set ns 0 n ≡ n ∷ []
one_set [] n e = absurd (omega (arith, e))
one_set (m ∷ []) n e = refl
one_set (m ∷ k ∷ ns) n e = absurd (omega (arith, e))
