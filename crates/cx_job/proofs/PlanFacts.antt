-- What ordering has made sure of.
use Rattle.std.proofs.Common.{◌≡◌, refl, ap, sym, subst, ◌∙◌, ℕ, zero, suc, ◌+◌, ◌-◌, ◌^◌, ◌≤◌, ◌<◌, Bool, true, false, nat_lt, ltb-false, List, [], ◌∷◌, map, length, get_or, slice_get, Option, Some, None, Result, if◌then◌else◌, codes, arith, zero-add}
use Rattle.std.specs.Prelude.{min, slice_index_or}
use Rattle.std.proofs.lemmas.List.FromFn.{length-map-range_with_len, get_or-map-range_with_len}
use Rattle.cx_plan.specs.Sizes.{all_nodes, greatest_depth}
use Rattle.cx_plan.specs.declared.variable.VarId.{VarId}
use Rattle.cx_plan.specs.declared.variable.VarInfo.{VarInfo}
use Rattle.cx_bind.specs.declared.thorns.Thorn.{Thorn}
use Rattle.cx_bind.specs.Variables.{variable_infos}
use Rattle.cx_scope.specs.declared.fault.ScopeFault.{ScopeFault}
use Rattle.cx_scope.specs.Sight.{Sight}
use Rattle.cx_scope.specs.Resolving.{group_of}
use Rattle.cx_order.specs.declared.ordered.Ordered.{Ordered}
use Rattle.cx_order.specs.declared.fault.OrderFault.TheVariants.{Limit}
use Rattle.cx_order_entries.specs.Counted.{Line}
use Rattle.cx_order.specs.Files.{Input}
use Rattle.cx_order.specs.Meanings.{World}
use Rattle.cx_plan.specs.Lookups.{bin_count}
use Rattle.cx_order.specs.Plans.{Forest, calls, bin_forest, forests, bin_trees, over}
use Rattle.cx_order.specs.Storage.{has_variable, granted, declared_levels, given, given_by, storage}
use Rattle.cx_order.specs.Ordering.{IsPlan, planned, world}
use Rattle.cx_job_values.proofs.NoneLaws.{some_none, first_none, second_none}
use Rattle.cx_plan.specs.Lists.{greatest}

-- ---- trees

a_tree_each : (w : World) (k : ℕ) (fs : List Forest) → length (bin_trees w k fs) ≡ length fs
a_tree_each w k [] = refl
a_tree_each w k (f ∷ fs) = ap (λ n. suc n) (a_tree_each w (k + calls f) fs)

within : (what : List ℕ) (number limit : ℕ) → over what number limit ≡ None → number ≤ limit
within what number limit none = by (nat_lt limit number) refl none
  where
    by : (b : Bool) → nat_lt limit number ≡ b
        → (if b then Some (Limit what (min number (2 ^ 64 - 1))) else None) ≡ None → number ≤ limit
    by true e none = some_none none
    by false e none = ltb-false limit number e

-- ---- storage

granted_most : (declared : ℕ) (levels : Option ℕ) → granted declared levels ≤ declared
granted_most declared None = omega arith
granted_most declared (Some n) = omega arith

given_most : (infos : List VarInfo) (levels : Option ℕ) (group : Result (List VarId) ScopeFault)
    (v : ℕ) → given infos levels group v ≤ declared_levels (slice_get infos v)
given_most infos levels group v = by (has_variable v group)
  where
    by : (b : Bool) → (if b then granted (declared_levels (slice_get infos v)) levels else 0)
        ≤ declared_levels (slice_get infos v)
    by true = granted_most (declared_levels (slice_get infos v)) levels
    by false = omega arith

greatest_most : {X : Type 0} (f : X → ℕ) (n : ℕ) → ((x : X) → f x ≤ n) → (xs : List X)
    → greatest (map f xs) ≤ n
greatest_most f n each [] = omega arith
greatest_most f n each (x ∷ xs) =
    (let one = each x in let rest = greatest_most f n each xs in omega (arith, one, rest))

declared_at : (infos : List VarInfo) (k : ℕ) (d : VarInfo) → k < length infos
    → declared_levels (slice_get infos k) ≡ (get_or infos k d).levels
declared_at [] k d there = absurd (let n : ⊥ = omega (arith, there) in n)
declared_at (v ∷ vs) zero d there = refl
declared_at (v ∷ vs) (suc k) d there = declared_at vs k d (omega (arith, there))

stored_most : (thorns : List Thorn) (sight : Sight) (lines : List Line) (k : ℕ) (d : VarInfo)
    → k < length (variable_infos thorns)
    → slice_index_or (storage thorns sight lines) k 0 ≤ (get_or (variable_infos thorns) k d).levels
stored_most thorns sight lines k d there =
    let infos : List VarInfo = variable_infos thorns in
    let is = get_or-map-range_with_len (λ v. greatest (map (given_by thorns sight v) lines)) 0
    (length infos) k k 0 there (zero-add k) in
    let most = greatest_most (given_by thorns sight k) (declared_levels (slice_get infos k))
    (λ l. given_most infos l.levels (group_of thorns sight l.thorn l.group) k) lines in
    let declared = declared_at infos k d there in
    omega (arith, is, most, declared)

pub each_variable : (thorns : List Thorn) (sight : Sight) (lines : List Line)
    → length (storage thorns sight lines) ≡ length (variable_infos thorns)
each_variable thorns sight lines =
    length-map-range_with_len (λ v. greatest (map (given_by thorns sight v) lines)) 0
    (length (variable_infos thorns))

-- ---- a plan

module _ (input : Input) (ordered : Ordered) (plan : IsPlan input ordered) where
  abbrev the_plan : Ordered
  the_plan = planned input plan.c plan.sight plan.orders

  -- one tree for each bin
  pub each_bin : length ordered.plan.bins ≡ 17
  each_bin =
      let all : List Forest = forests plan.c.entries plan.orders in
      ap (λ (o : Ordered). length o.plan.bins) plan.is_planned
      ∙ a_tree_each (world input plan.c plan.sight) 0 all
      ∙ length-map-range_with_len (bin_forest plan.c.entries plan.orders) 0 bin_count

  pub not_deep : greatest_depth ordered.plan.bins ≤ 32
  not_deep =
      let same = ap (λ (o : Ordered). greatest_depth o.plan.bins) plan.is_planned in
      let most = within (codes "depth") (greatest_depth the_plan.plan.bins) 32
      (first_none (over (codes "depth") (greatest_depth the_plan.plan.bins) 32)
      (over (codes "nodes") (all_nodes the_plan.plan.bins) 4096) plan.limits) in
      subst (λ n. n ≤ 32) (sym same) most

  pub not_large : all_nodes ordered.plan.bins ≤ 4096
  not_large =
      let same = ap (λ (o : Ordered). all_nodes o.plan.bins) plan.is_planned in
      let most = within (codes "nodes") (all_nodes the_plan.plan.bins) 4096
      (second_none (over (codes "depth") (greatest_depth the_plan.plan.bins) 32)
      (over (codes "nodes") (all_nodes the_plan.plan.bins) 4096) plan.limits) in
      subst (λ n. n ≤ 4096) (sym same) most

  -- no more levels are stored than are declared
  pub no_more_levels : (k : ℕ) (d : VarInfo) → k < length (variable_infos input.thorns)
      → slice_index_or ordered.storage k 0 ≤ (get_or (variable_infos input.thorns) k d).levels
  no_more_levels k d there =
      let same = ap (λ (o : Ordered). slice_index_or o.storage k 0) plan.is_planned in
      let most = stored_most input.thorns plan.sight plan.c.lines k d there in
      subst (λ n. n ≤ (get_or (variable_infos input.thorns) k d).levels) (sym same) most
