-- The grid of thorns that fit each other has as many directions as each of their groups of grid
-- functions.
use Rattle.std.proofs.Common.{◌≡◌, ◌≤◌, arith, refl, sym, ◌∙◌, ap, ℕ, zero, suc, Bool, true, false, ◌&&◌, ◌==◌, not, List, [], ◌∷◌, find, slice_get, Option, Some, None, if◌then◌else◌}
use Rattle.std.proofs.lemmas.Bool.{eqb-true}
use Rattle.std.specs.Option.{option_map, unwrap_or}
use Rattle.cx_plan.specs.Lists.{or_else, first_some, first_of_each}
use Rattle.cx_iface.specs.declared.tree.Group.{Group}
use Rattle.cx_bind.specs.declared.thorns.Thorn.{Thorn}
use Rattle.cx_bind.specs.Faults.{unsupported, is_grid, is_grid_but, with_thorn, first_group, differing, two_dims_from, two_dims}
use Rattle.cx_bind.specs.Parameters.{known}
use Rattle.cx_bind.specs.Variables.{variable_infos}
use Rattle.cx_bind.specs.Binding.{needs_fault, names_fault, kinds_fault, bind_fault}
use Rattle.cx_job_values.specs.Grids.{dim_in, first_dim, dims}
use Rattle.cx_job_values.proofs.NoneLaws.{no_some, some_none, some_same, first_none, second_none, none_at}

-- ---- what isn't found

not_found : {X : Type 0} (p : X → Bool) (xs : List X) (k : ℕ) (x : X) → find p xs ≡ None
    → slice_get xs k ≡ Some x → p x ≡ false
not_found p [] zero x none there = no_some there
not_found p [] (suc k) x none there = no_some there
not_found p (y ∷ ys) k x none there =
    by (λ k none there. not_found p ys k x none there) (p y) refl none k there
  where
    by : ((k : ℕ) → find p ys ≡ None → slice_get ys k ≡ Some x → p x ≡ false) → (b : Bool) → p y ≡ b
        → (if b then Some y else find p ys) ≡ None → (k : ℕ) → slice_get (y ∷ ys) k ≡ Some x
        → p x ≡ false
    by later true here none k there = some_none none
    by later false here none zero there = sym (ap p (some_same y x there)) ∙ here
    by later false here none (suc k) there = later k none there

-- no thorn has such a group
not_in : (test : Group → Bool) (thorns : List Thorn) (i : ℕ) (t : Thorn) (k : ℕ) (g : Group)
    → first_group test thorns ≡ None → slice_get thorns i ≡ Some t
    → slice_get t.interface.groups k ≡ Some g → test g ≡ false
not_in test thorns i t k g none there at =
    not_found test t.interface.groups k g
    (by (find test t.interface.groups)
    (none_at (λ t. with_thorn t (find test t.interface.groups)) thorns i t none there)) at
  where
    by : (o : Option Group) → with_thorn t o ≡ None → o ≡ None
    by None e = refl
    by (Some g) e = some_none e

-- ---- the number of directions

first_dim_is : (thorns : List Thorn)
    → first_of_each dim_in thorns
    ≡ option_map (λ a. a.1.dim) (first_group (is_grid_but None) thorns)
first_dim_is [] = refl
first_dim_is (t ∷ thorns) = by (first_dim_is thorns) (find (is_grid_but None) t.interface.groups)
  where
    by : first_of_each dim_in thorns
        ≡ option_map (λ a. a.1.dim) (first_group (is_grid_but None) thorns) → (o : Option Group)
        → or_else (option_map (λ g. g.dim) o) (first_of_each dim_in thorns)
        ≡ option_map (λ a. a.1.dim)
        (or_else (with_thorn t o) (first_group (is_grid_but None) thorns))
    by later None = later
    by later (Some g) = refl

same_dim : (g : Group) (dim : ℕ) → is_grid g.gtype ≡ true
    → (is_grid g.gtype && not (g.dim == dim)) ≡ false → g.dim ≡ dim
same_dim g dim grid e = eqb-true g.dim dim (by (is_grid g.gtype) (g.dim == dim) grid e)
  where
    by : (a b : Bool) → a ≡ true → (a && not b) ≡ false → b ≡ true
    by true true grid e = refl
    by true false grid e = absurd cc
    by false b grid e = absurd cc

by_dims : (thorns : List Thorn) → two_dims thorns ≡ None → (i : ℕ) (t : Thorn)
    → slice_get thorns i ≡ Some t → (k : ℕ) (g : Group) → slice_get t.interface.groups k ≡ Some g
    → is_grid g.gtype ≡ true → g.dim ≡ first_dim thorns
by_dims thorns none i t there k g at grid = by (first_group (is_grid_but None) thorns) refl none
  where
    others : (a : Thorn × Group) (o : Option (Thorn × Group)) → differing a o ≡ None → o ≡ None
    others a None e = refl
    others a (Some b) e = some_none e

    by : (o : Option (Thorn × Group)) → first_group (is_grid_but None) thorns ≡ o
        → two_dims_from thorns o ≡ None → g.dim ≡ first_dim thorns
    by None first e =
        let no_grid : is_grid g.gtype ≡ false =
        not_in (is_grid_but None) thorns i t k g first there at in
        absurd cc
    by (Some a) first e =
        let alike : (is_grid g.gtype && not (g.dim == a.1.dim)) ≡ false =
        not_in (is_grid_but (Some a.1.dim)) thorns i t k g
        (others a (first_group (is_grid_but (Some a.1.dim)) thorns) e) there at in
        same_dim g a.1.dim grid alike
        ∙ sym (ap (λ o. unwrap_or o 1)
        (first_dim_is thorns ∙ ap (option_map (λ a. a.1.dim)) first))

no_two_dims : (thorns : List Thorn) → bind_fault thorns ≡ None → two_dims thorns ≡ None
unfolding bind_fault
no_two_dims thorns none =
    let kinds : first_some (kinds_fault (variable_infos thorns) thorns ∷ []) ≡ None =
    second_none (names_fault (known thorns) (variable_infos thorns) thorns) _
    (second_none (needs_fault thorns) _ none) in
    first_none (two_dims thorns) _
    (second_none (unsupported thorns) _
    (first_none (kinds_fault (variable_infos thorns) thorns) None kinds))

-- A group that is read has from 1 to 3 directions.
pub grid_dim : (thorns : List Thorn) → bind_fault thorns ≡ None → (i : ℕ) (t : Thorn)
    → slice_get thorns i ≡ Some t → (k : ℕ) (g : Group) → slice_get t.interface.groups k ≡ Some g
    → is_grid g.gtype ≡ true → 1 ≤ g.dim → g.dim ≤ 3 → g.dim ≡ dims thorns
grid_dim thorns none i t there k g at grid some most =
    let first : g.dim ≡ first_dim thorns =
    by_dims thorns (no_two_dims thorns none) i t there k g at grid in
    omega arith
