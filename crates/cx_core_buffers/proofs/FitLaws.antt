-- A checkpoint whose numbers and levels pass a test one by one, variable by variable, holds a whole
-- state.
use Rattle.std.proofs.Common.{◌≡◌, ℕ, zero, suc, ◌+◌, ◌<◌, Bool, true, false, ◌&&◌, arith, refl, sym, ap, ◌∙◌, ℤ, List, [], ◌∷◌, length, replicate}
use Rattle.std.specs.Prelude.{slice_index_or}
use Rattle.std.specs.List.{flat_map}
use Rattle.std.proofs.lemmas.Bool.{and_parts}
use Rattle.std.proofs.lemmas.List.{length-append, length-replicate}
use Rattle.cx_grid.specs.Boxes.{point_count}
use Rattle.cx_grid.specs.Grid.{whole}
use Rattle.cx_plan.specs.declared.variable.VarInfo.{VarInfo}
use Rattle.cx_plan.specs.Setups.{Setup}
use Rattle.cx_chk.specs.declared.checkpoint.Checkpoint.{Checkpoint}
use Rattle.cx_core_buffers.specs.Checkpoints.{HoldsState, total}
use Rattle.cx_plan.specs.Whole.{scalar_count, level_count}

-- whether there is an item for each variable, and passes
pub record IsEach {A : Type 0}
    (each : (VarInfo → A → Bool) → List VarInfo → List A → Bool) : Type 0 where
  pub over : (test : VarInfo → A → Bool) (x : A) (xs : List A) → each test [] (x ∷ xs) ≡ false
  pub short : (test : VarInfo → A → Bool) (v : VarInfo) (vs : List VarInfo)
      → each test (v ∷ vs) [] ≡ false
  pub both : (test : VarInfo → A → Bool) (v : VarInfo) (vs : List VarInfo) (x : A) (xs : List A)
      → each test (v ∷ vs) (x ∷ xs) ≡ (test v x && each test vs xs)

module _ {A : Type 0} (each : (VarInfo → A → Bool) → List VarInfo → List A → Bool)
    (is : IsEach each) (test : VarInfo → A → Bool) where
  off : {b : Bool} → b ≡ false → b ≡ true → ⊥
  off e f = let q : false ≡ true = sym e ∙ f in absurd cc

  each_many : (vs : List VarInfo) (xs : List A) → each test vs xs ≡ true → length xs ≡ length vs
  each_many [] [] h = refl
  each_many [] (x ∷ xs) h = absurd (off (is.over test x xs) h)
  each_many (v ∷ vs) [] h = absurd (off (is.short test v vs) h)
  each_many (v ∷ vs) (x ∷ xs) h =
      ap suc (each_many vs xs
      (and_parts (test v x) (each test vs xs) (sym (is.both test v vs x xs) ∙ h)).1)

  each_at : (vs : List VarInfo) (xs : List A) → each test vs xs ≡ true → (i : ℕ) (d : A)
      → i < length xs → (v : VarInfo) × (test v (slice_index_or xs i d) ≡ true)
  each_at vs [] h i d l = absurd (omega (arith, l))
  each_at [] (x ∷ xs) h i d l = absurd (off (is.over test x xs) h)
  each_at (v ∷ vs) (x ∷ xs) h zero d l =
      (v, (and_parts (test v x) (each test vs xs) (sym (is.both test v vs x xs) ∙ h)).0)
  each_at (v ∷ vs) (x ∷ xs) h (suc i) d l =
      each_at vs xs (and_parts (test v x) (each test vs xs) (sym (is.both test v vs x xs) ∙ h)).1 i
      d (omega (arith, l))

-- the variables of so many items each
abbrev pub listed : (VarInfo → ℕ) → List VarInfo → List VarInfo
listed count vars = flat_map (λ (v : VarInfo). replicate (count v) v) vars

listed_many : (count : VarInfo → ℕ) (vars : List VarInfo)
    → length (listed count vars) ≡ total count vars
listed_many count [] = refl
listed_many count (v ∷ vs) =
    length-append (replicate (count v) v) (listed count vs)
    ∙ ap (λ n. n + length (listed count vs)) (length-replicate (count v) v)
    ∙ ap (λ n. count v + n) (listed_many count vs)

pub fits_holds : (setup : Setup) (c : Checkpoint)
    (one : (VarInfo → ℤ → Bool) → List VarInfo → List ℤ → Bool)
    (two : (VarInfo → List ℤ → Bool) → List VarInfo → List (List ℤ) → Bool) → IsEach one
    → IsEach two
    → (value : VarInfo → ℤ → Bool) (level : VarInfo → List ℤ → Bool)
    → ((v : VarInfo) (ns : List ℤ) → level v ns ≡ true
    → length ns ≡ point_count (whole setup.shape))
    → one value (listed scalar_count setup.vars) c.scalars ≡ true
    → two level (listed level_count setup.vars) c.levels ≡ true → HoldsState setup c
fits_holds setup c one two is_one is_two value level sized scalars levels = record {
  scalars = each_many one is_one value (listed scalar_count setup.vars) c.scalars scalars
      ∙ listed_many scalar_count setup.vars;
  levels = each_many two is_two level (listed level_count setup.vars) c.levels levels
      ∙ listed_many level_count setup.vars;
  points = λ k d l.
      let (v, e) = each_at two is_two level (listed level_count setup.vars) c.levels levels k d l in
      sized v (slice_index_or c.levels k d) e;
}
