-- The numbers of built-in parameters lie between the ends of their ranges, so that no other number
-- stands for them.
use Rattle.std.proofs.Common.{◌≡◌, refl, sym, ap, subst, ℕ, Bool, true, false, ◌&&◌, ◌||◌, ◌⊎◌, inl, inr, ℤ, pos, negsuc, ◌≤ℤ◌, int_le, unsigned_abs, if◌then◌else◌, List, [], ◌∷◌, ◌++◌, map, length, slice_get, codes, Some, None, arith}
use Rattle.std.proofs.lemmas.Int.{ints, clamps}
use Rattle.std.proofs.lemmas.Bool.Decides.{Decides-int_eq}
use Rattle.std.specs.Option.{unwrap_or}
use Rattle.std.specs.List.{position_or_len}
use Rattle.cx_text.specs.Lexemes.{same_name}
use Rattle.cx_plan.specs.Names.{full_name}
use Rattle.std.specs.Prelude.{int_lt}
use Rattle.std.specs.Ordering.{int_eq}
use Rattle.cx_param.specs.declared.ranges.Value.TheVariants.{Number}
use Rattle.cx_param.specs.Ranges.{holds, any_holds, is_above, is_below, is_on_step}
use Rattle.cx_parfile.specs.declared.settings.Setting.{Setting}
use Rattle.cx_bind.specs.declared.thorns.Thorn.{Thorn}
use Rattle.cx_bind.specs.declared.thorns.Param.{Param}
use Rattle.cx_bind.specs.Parameters.{parameters}
use Rattle.cx_bind.specs.BuiltIn.{from_to, int_parameter, unset_parameter}
use Rattle.cx_values.specs.declared.values.Values.{Values}
use Rattle.cx_values.specs.Faults.{assign_fault}
use Rattle.cx_values.specs.Assigned.{slot, number, assigned}
use Rattle.cx_job_values.specs.Grids.{within, number_at, natural_within, letter, has_direction, for_all_or, points_along, ghosts_along}
use Rattle.cx_job_values.specs.declared.direction.Direction.{Direction}
use Rattle.cx_job_values.specs.declared.direction.Direction.TheVariants.{X, Y, Z}
use Rattle.cx_job_values.specs.Ranges.{IsBetween, IsUnsetOr, AreInRange}
use Rattle.cx_job_values.proofs.RangeLaws.{IsNumberAt, IsNumberOf, in_ranges}

pub itself : (low high n : ℤ) → IsBetween low high n → within low high n ≡ n
itself low high n is = let from = is.0 in let to = is.1 in omega (arith, ints, clamps)

either : (a b : Bool) → (a || b) ≡ true → (a ≡ true) ⊎ (b ≡ true)
either true b e = inl refl
either false b e = inr e

both : (a b : Bool) → (a && b) ≡ true → (a ≡ true) × (b ≡ true)
both true b e = (refl, e)
both false b e = absurd cc

-- a low end and a high end that are in the range
from : (a b : ℤ) → (int_lt a b || int_eq a b) ≡ true → a ≤ℤ b
from a b e = by (either (int_lt a b) (int_eq a b) e)
  where
    by : (int_lt a b ≡ true) ⊎ (int_eq a b ≡ true) → a ≤ℤ b
    by (inl lt) = omega (arith, ints)
    by (inr eq) = let same : a ≡ b = (Decides-int_eq a b).0 eq in omega (arith, ints)

to : (a b : ℤ) → (int_lt a b || int_eq b a) ≡ true → a ≤ℤ b
to a b e = by (either (int_lt a b) (int_eq b a) e)
  where
    by : (int_lt a b ≡ true) ⊎ (int_eq b a ≡ true) → a ≤ℤ b
    by (inl lt) = omega (arith, ints)
    by (inr eq) = let same : b ≡ a = (Decides-int_eq b a).0 eq in omega (arith, ints)

-- ---- what ranges hold

between : (low high n : ℤ) → holds (from_to low high) (Number n) ≡ true → IsBetween low high n
between low high n e =
    let ends : (is_above (Some low) true n ≡ true)
    × ((is_below (Some high) true n && is_on_step (Some low) 1 n) ≡ true) =
    both (is_above (Some low) true n) (is_below (Some high) true n && is_on_step (Some low) 1 n)
    e in (
      from low n ends.0,
      to n high
          (both (is_below (Some high) true n) (is_on_step (Some low) 1 n) ends.1).0,
    )

in_one : (low high n : ℤ) → any_holds (from_to low high ∷ []) (Number n) ≡ true
    → IsBetween low high n
in_one low high n e = by (either (holds (from_to low high) (Number n)) false e)
  where
    by : (holds (from_to low high) (Number n) ≡ true) ⊎ (false ≡ true) → IsBetween low high n
    by (inl first) = between low high n first
    by (inr none) = absurd cc

in_unset : (low high n : ℤ)
    → any_holds (from_to (negsuc 0) (negsuc 0) ∷ from_to low high ∷ []) (Number n) ≡ true
    → IsUnsetOr low high n
in_unset low high n e = by
    (either (holds (from_to (negsuc 0) (negsuc 0)) (Number n))
    (any_holds (from_to low high ∷ []) (Number n)) e)
  where
    by : (holds (from_to (negsuc 0) (negsuc 0)) (Number n) ≡ true)
        ⊎ (any_holds (from_to low high ∷ []) (Number n) ≡ true) → IsUnsetOr low high n
    by (inl unset) =
        let ends : IsBetween (negsuc 0) (negsuc 0) n = between (negsuc 0) (negsuc 0) n unset in
        let least : negsuc 0 ≤ℤ n = ends.0 in
        let most : n ≤ℤ negsuc 0 = ends.1 in
        inl (omega (arith, ints))
    by (inr other) = inr (in_one low high n other)

-- ---- the numbers

number_is : (v : Values) (full : List ℕ) (n : ℤ) → number v full None ≡ Some n
    → number_at v full ≡ n
number_is v full n e = ap (λ o. unwrap_or o (pos 0)) e

abbrev named : List Thorn → List ℕ → List ℕ → ℕ
named thorns dir full = position_or_len (λ s. same_name s.full full)
    (map (slot dir) (parameters thorns))

module _ (thorns : List Thorn) (settings : List Setting)
    (none : assign_fault thorns settings ≡ None) where
  abbrev values : Values
  values = assigned thorns settings

  module _ (implementation name : List ℕ) (low high : ℤ) (default : List ℕ) (k : ℕ)
      (no_folder : same_name (full_name implementation name) (codes "IO::recover_dir") ≡ false)
      (first : (dir : List ℕ) → named thorns dir (full_name implementation name) ≡ k) where
    number_of : (p : Param) → IsNumberAt thorns (full_name implementation name) k p
        → IsNumberOf p.ranges (number values (full_name implementation name) None)
    number_of p is = in_ranges thorns settings (full_name implementation name) k p is none

    one : slice_get (parameters thorns) k
        ≡ Some (int_parameter (length thorns) implementation name low high default)
        → IsBetween low high (number_at values (full_name implementation name))
    one at =
        let found : IsNumberOf (from_to low high ∷ [])
        (number values (full_name implementation name) None) =
        number_of (int_parameter (length thorns) implementation name low high default)
        (record {
          at = at;
          int = refl;
          single = refl;
          own = refl;
          no_folder = no_folder;
          named = first;
        }) in
        subst (IsBetween low high)
        (sym (number_is values (full_name implementation name) found.0 found.1))
        (in_one low high found.0 found.2)

    unset : slice_get (parameters thorns) k
        ≡ Some (unset_parameter (length thorns) implementation name low high default)
        → IsUnsetOr low high (number_at values (full_name implementation name))
    unset at =
        let found : IsNumberOf (from_to (negsuc 0) (negsuc 0) ∷ from_to low high ∷ [])
        (number values (full_name implementation name) None) =
        number_of (unset_parameter (length thorns) implementation name low high default)
        (record {
          at = at;
          int = refl;
          single = refl;
          own = refl;
          no_folder = no_folder;
          named = first;
        }) in
        subst (IsUnsetOr low high)
        (sym (number_is values (full_name implementation name) found.0 found.1))
        (in_unset low high found.0 found.2)

  points : (d : Direction)
      → IsBetween (pos 1) (pos 16777216) (number_at values (codes "driver::global_n" ++ letter d))
  points X = one (codes "driver") (codes "global_nx") (pos 1) (pos 16777216) (codes "10") 3 refl
      (λ dir. refl) refl
  points Y = one (codes "driver") (codes "global_ny") (pos 1) (pos 16777216) (codes "10") 4 refl
      (λ dir. refl) refl
  points Z = one (codes "driver") (codes "global_nz") (pos 1) (pos 16777216) (codes "10") 5 refl
      (λ dir. refl) refl

  ghosts : (d : Direction)
      → IsBetween (pos 0) (pos 8) (number_at values (codes "driver::ghost_size_" ++ letter d))
  ghosts X = one (codes "driver") (codes "ghost_size_x") (pos 0) (pos 8) (codes "1") 8 refl
      (λ dir. refl) refl
  ghosts Y = one (codes "driver") (codes "ghost_size_y") (pos 0) (pos 8) (codes "1") 9 refl
      (λ dir. refl) refl
  ghosts Z = one (codes "driver") (codes "ghost_size_z") (pos 0) (pos 8) (codes "1") 10 refl
      (λ dir. refl) refl

  parts : (d : Direction) → IsBetween (pos 1) (pos 512)
      (number_at values (codes "driver::parts_" ++ letter d))
  parts X = one (codes "driver") (codes "parts_x") (pos 1) (pos 512) (codes "1") 15 refl
      (λ dir. refl) refl
  parts Y = one (codes "driver") (codes "parts_y") (pos 1) (pos 512) (codes "1") 16 refl
      (λ dir. refl) refl
  parts Z = one (codes "driver") (codes "parts_z") (pos 1) (pos 512) (codes "1") 17 refl
      (λ dir. refl) refl

  -- the numbers of settings without a fault
  pub are_in_range : AreInRange values
  are_in_range =
      record {
        itlast = one (codes "Cactus") (codes "cctk_itlast") (pos 0) (pos 1000000) (codes "10")
            0 refl (λ dir. refl) refl;
        points = points;
        all_points = unset (codes "driver") (codes "global_nsize") (pos 1) (pos 16777216)
            (codes "-1") 6 refl (λ dir. refl) refl;
        ghosts = ghosts;
        all_ghosts = unset (codes "driver") (codes "ghost_size") (pos 0) (pos 8) (codes "-1") 7 refl
            (λ dir. refl) refl;
        parts = parts;
        lead = one (codes "driver") (codes "lead") (pos 0) (pos 64) (codes "0") 21 refl
            (λ dir. refl) refl;
        while_limit = one (codes "driver") (codes "while_limit") (pos 1) (pos 1000000)
            (codes "1000") 22 refl (λ dir. refl) refl;
        out_every = one (codes "IO") (codes "out_every") (negsuc 0) (pos 1000000) (codes "1")
            25 refl (λ dir. refl) refl;
        checkpoint_every = one (codes "IO") (codes "checkpoint_every") (negsuc 0) (pos 1000000)
            (codes "-1") 26 refl (λ dir. refl) refl;
        keep = one (codes "IO") (codes "checkpoint_keep") (pos 1) (pos 7) (codes "1") 27 refl
            (λ dir. refl) refl;
        weight_factor = one (codes "driver") (codes "weight_factor") (pos 0) (pos 1048576)
            (codes "1") 36 refl (λ dir. refl) refl;
      }

-- ---- so the numbers themselves are taken

for_all_between : (least high all one : ℤ) → IsUnsetOr least high all → pos 0 ≤ℤ least
    → IsBetween least high one → IsBetween least high (for_all_or least all one)
for_all_between least high all one which natural is = by (int_le least all) refl which
  where
    by : (b : Bool) → int_le least all ≡ b → IsUnsetOr least high all
        → IsBetween least high (if b then all else one)
    by true e (inl unset) = absurd (omega (arith, ints))
    by true e (inr between) = between
    by false e other = is

module _ (v : Values) (is : AreInRange v) (dims : ℕ) (d : Direction) where
  pub plain_points : points_along dims v d
      ≡ (if has_direction dims d
      then for_all_or (pos 1) (number_at v (codes "driver::global_nsize"))
      (number_at v (codes "driver::global_n" ++ letter d)) else pos 1)
  plain_points =
      ap (λ n. if has_direction dims d then n else pos 1)
      (itself (pos 1) (pos 16777216) _
      (for_all_between (pos 1) (pos 16777216) _ _ is.all_points (omega (arith, ints))
      (is.points d)))

  pub plain_ghosts : ghosts_along dims v d
      ≡ (if has_direction dims d
      then for_all_or (pos 0) (number_at v (codes "driver::ghost_size"))
      (number_at v (codes "driver::ghost_size_" ++ letter d)) else pos 0)
  plain_ghosts =
      ap (λ n. if has_direction dims d then n else pos 0)
      (itself (pos 0) (pos 8) _
      (for_all_between (pos 0) (pos 8) _ _ is.all_ghosts (omega (arith, ints)) (is.ghosts d)))

  pub plain_parts : natural_within v 1 512 (codes "driver::parts_" ++ letter d)
      ≡ unsigned_abs (number_at v (codes "driver::parts_" ++ letter d))
  plain_parts = ap unsigned_abs (itself (pos 1) (pos 512) _ (is.parts d))
