-- One number of a part written: what is there then, and what is elsewhere.
use Rattle.std.proofs.Common.{◌≡◌, ℕ, ◌<◌, ◌⊎◌, inl, inr, true, false, arith, refl, sym, ap, ◌∙◌, ℤ, pos, List, length, length-set}
use Rattle.std.specs.Prelude.{slice_index_or, slice_set}
use Rattle.std.proofs.lemmas.List.{get_or-set_same, get_or-set_other}
use Rattle.std.proofs.lemmas.Bool.{cases_eq}
use Rattle.cx_grid.specs.declared.boxes.Point.{Point}
use Rattle.cx_grid.specs.Boxes.{IsIn, index_in}
use Rattle.cx_grid.proofs.Places.{index_below, index_once}
use Rattle.cx_plan.specs.declared.variable.VarId.{VarId}
use Rattle.cx_plan.specs.Lookups.{is_scalar}
use Rattle.cx_rule.specs.States.{level_of}
use Rattle.cx_rule.specs.Patches.{PatchValue, IsPatch, IsGridLevel, setup_in, number_at, with_number}
use Rattle.cx_rule.specs.Filling.{IsAlike}
use Rattle.cx_rule.proofs.NumberLaws.{var_below, level_below, stored_grid, grid_size, written_patch, same_sizes, level_same, level_other}

module _ (p : PatchValue) (v : VarId) (l : ℕ) (x : Point) (a : ℤ) (s : IsPatch p)
    (g : IsGridLevel p v l) where
  abbrev q : PatchValue
  q = with_number p v l x a

  abbrev written : List ℤ
  written = slice_set (level_of p.numbers v l) (index_in p.local x) a

  var : v.0 < length p.numbers
  var = var_below p s v l (stored_grid p v l g)

  at_level : level_of q.numbers v l ≡ written
  at_level = level_same p.numbers v l written var (level_below p s v l (stored_grid p v l g))

  elsewhere : (u : VarId) (m : ℕ) → (u.0 ≡ v.0 → ⊥) ⊎ (m ≡ l → ⊥)
      → level_of q.numbers u m ≡ level_of p.numbers u m
  elsewhere u m h = level_other p.numbers v l written var u m h

  pub number_patch : IsPatch q
  number_patch = written_patch p v l (index_in p.local x) a s

  scalar_apart : (u : VarId) → is_scalar (setup_in p) u ≡ true → u.0 ≡ v.0 → ⊥
  scalar_apart u h e = let b : true ≡ false = sym (rw e at h) ∙ g.grid in absurd cc

  pub number_alike : IsAlike p q
  number_alike = record {
    frame = refl;
    sized = same_sizes p.numbers v l written
        (length-set (level_of p.numbers v l) (index_in p.local x) a);
    scalars = λ u h. ap (λ ns. slice_index_or ns 0 (pos 0))
        (elsewhere u 0 (inl (scalar_apart u h)));
  }

  module _ (h : IsIn p.local x) where
    there : index_in p.local x < length (level_of p.numbers v l)
    there = let n = grid_size p v l s g in let b = index_below p.local x h in omega (arith, n, b)

    pub number_same : number_at q v l x ≡ a
    number_same =
        ap (λ ns. slice_index_or ns (index_in p.local x) (pos 0)) at_level
        ∙ get_or-set_same (level_of p.numbers v l) (index_in p.local x) a (pos 0) there

    by_place : (u : VarId) (m : ℕ) (y : Point) → IsIn p.local y → (y ≡ x → ⊥)
        → (u.0 ≡ v.0) ⊎ (u.0 ≡ v.0 → ⊥) → (m ≡ l) ⊎ (m ≡ l → ⊥)
        → number_at q u m y ≡ number_at p u m y
    by_place u m y i e (inl r) (inl t) =
        let apart : index_in p.local y ≡ index_in p.local x
        → ⊥ = λ r. e (index_once p.local y x i h r) in
        rw (r, t) (
        ap (λ ns. slice_index_or ns (index_in p.local y) (pos 0)) at_level
        ∙ get_or-set_other (level_of p.numbers v l) (index_in p.local x) (index_in p.local y) a
        (pos 0) apart)
    by_place u m y i e (inr r) t =
        ap (λ ns. slice_index_or ns (index_in p.local y) (pos 0)) (elsewhere u m (inl r))
    by_place u m y i e (inl r) (inr t) =
        ap (λ ns. slice_index_or ns (index_in p.local y) (pos 0)) (elsewhere u m (inr t))

    pub number_other : (u : VarId) (m : ℕ) (y : Point) → IsIn p.local y
        → (u.0 ≡ v.0 → ⊥) ⊎ ((m ≡ l → ⊥) ⊎ (y ≡ x → ⊥))
        → number_at q u m y ≡ number_at p u m y
    number_other u m y i (inl e) =
        ap (λ ns. slice_index_or ns (index_in p.local y) (pos 0)) (elsewhere u m (inl e))
    number_other u m y i (inr (inl e)) =
        ap (λ ns. slice_index_or ns (index_in p.local y) (pos 0)) (elsewhere u m (inr e))
    number_other u m y i (inr (inr e)) = by_place u m y i e (cases_eq u.0 v.0) (cases_eq m l)
