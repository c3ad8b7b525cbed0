-- The items of parts, as one part goes on.
use Rattle.std.proofs.Common.{◌≡◌, ℕ, zero, suc, ◌<◌, List, [], ◌∷◌, map, length, slice_get, Some, arith, refl, sym, ap, ◌∙◌, get_or-set_same, length-set}
use Rattle.std.specs.Prelude.{ℤ, slice_index_or, slice_set}
use Rattle.cx_plan.specs.declared.variable.VarId.{VarId}
use Rattle.cx_plan.specs.Setups.{Setup}
use Rattle.cx_core_part.specs.Copies.{Copies, copies_at}
use Rattle.cx_core_events.specs.Paces.{Paces, no_part, iteration_of}
use Rattle.cx_core_events.specs.Steps.{moved_on}
use Rattle.cx_core.specs.Cores.{items_in, items_of}

map_set : {A B : Type 0} (f : A → B) (xs : List A) (k : ℕ) (x : A)
    → map f (slice_set xs k x) ≡ slice_set (map f xs) k (f x)
map_set f [] k x = refl
map_set f (y ∷ ys) zero x = refl
map_set f (y ∷ ys) (suc k) x = ap (λ zs. f y ∷ zs) (map_set f ys k x)

get_mapped : {A B : Type 0} (f : A → B) (xs : List A) (k : ℕ) (d : A) → k < length xs
    → slice_get (map f xs) k ≡ Some (f (slice_index_or xs k d))
get_mapped f [] k d l = absurd (omega (arith, l))
get_mapped f (y ∷ ys) zero d l = refl
get_mapped f (y ∷ ys) (suc k) d l = get_mapped f ys k d (omega (arith, l))

module _ (setup : Setup) (p : Paces) (k : ℕ) (l : k < length p.parts) where
  -- a part has those of its iteration
  pub its_items : (items : List Copies) → items ≡ items_of setup p
      → slice_get items k ≡ Some (copies_at setup (iteration_of p k))
  its_items items is =
      ap (λ xs. slice_get xs k) is ∙ get_mapped (items_in setup) p.parts k no_part l

  -- and has them again behind its operation
  pub items_moved : (items : List Copies) → items ≡ items_of setup p
      → (scalars : VarId → ℤ)
      → slice_set items k (copies_at setup (iteration_of (moved_on setup p k scalars) k))
      ≡ items_of setup (moved_on setup p k scalars)
  items_moved items is scalars =
      ap (λ xs. slice_set xs k (copies_at setup (iteration_of (moved_on setup p k scalars) k))) is
      ∙ ap (λ s. slice_set (items_of setup p) k (items_in setup s))
      (get_or-set_same p.parts k _ no_part l)
      ∙ sym (map_set (items_in setup) p.parts k _)

  pub part_there : (scalars : VarId → ℤ) (new : Paces) → new ≡ moved_on setup p k scalars
      → k < length new.parts
  part_there scalars new e =
      let many = ap (λ (q : Paces). length q.parts) e ∙ length-set p.parts k _ in
      omega (arith, l, many)

  pub items_there : (items : List Copies) → items ≡ items_of setup p
      → k < length items
  items_there items is = below items k (copies_at setup (iteration_of p k)) (its_items items is)
    where
      below : {A : Type 0} (xs : List A) (i : ℕ) (x : A) → slice_get xs i ≡ Some x → i < length xs
      below [] i x e = absurd cc
      below (y ∷ ys) zero x e = omega arith
      below (y ∷ ys) (suc i) x e = let b = below ys i x e in omega (arith, b)
