-- What thorns that fit each other declare of their variables.
use Rattle.std.proofs.Common.{◌≡◌, refl, ℕ, suc, ◌+◌, ◌≤◌, Bool, true, false, nat_lt, ltb-false, List, [], ◌∷◌, map, find, length, get_or, Option, Some, None, if◌then◌else◌, codes, arith}
use Rattle.std.specs.Prelude.{◌||◌, All}
use Rattle.std.specs.Option.{option_map}
use Rattle.std.specs.List.{flat_map, enumerate_from}
use Rattle.std.proofs.lemmas.List.Elements.{All-cons, All-map, All-append}
use Rattle.cx_iface.specs.declared.tree.GType.{GType}
use Rattle.cx_iface.specs.declared.tree.GType.TheVariants.{Gf, Array, Scalar}
use Rattle.cx_iface.specs.declared.tree.Group.{Group}
use Rattle.cx_plan.specs.Lists.{first_some}
use Rattle.cx_plan.specs.declared.variable.VarInfo.{VarInfo}
use Rattle.cx_bind.specs.declared.thorns.Thorn.{Thorn}
use Rattle.cx_bind.specs.declared.thorns.BindFault.TheVariants.{Unsupported, Limit}
use Rattle.cx_bind.specs.Binding.{needs_fault, names_fault, kinds_fault, bind_fault}
use Rattle.cx_bind.specs.Faults.{is_unsupported_type, is_unsupported_kind, is_unsupported_group, is_unsupported_parameter, unsupported_of, unsupported, two_dims, no_parameter, wrong_type, two_variables, over}
use Rattle.cx_bind.specs.Parameters.{known}
use Rattle.cx_bind.specs.Variables.{OwnedGroup, Variable, groups_of, owned_groups, copies, variables_in, variables, is_scalar, variable_info, variable_infos}
use Rattle.cx_job_values.proofs.NoneLaws.{some_none, first_none, second_none}

-- ---- lists

pub none_in : {X : Type 0} (P : X → Type 0) → All P []
none_in P = λ k d within. absurd (let n : ⊥ = omega (arith, within) in n)

pub first_of : {X : Type 0} (P : X → Type 0) (x : X) (xs : List X) → All P (x ∷ xs) → P x
first_of P x xs each = each 0 x (omega arith)

pub others_of : {X : Type 0} (P : X → Type 0) (x : X) (xs : List X) → All P (x ∷ xs) → All P xs
others_of P x xs each = λ k d within. each (suc k) d (omega (arith, within))

pub in_all : {X Y : Type 0} (P : Y → Type 0) (f : X → List Y) (xs : List X)
    → All (λ x. All P (f x)) xs → All P (flat_map f xs)
in_all P f [] each = none_in P
in_all P f (x ∷ xs) each =
    All-append P (f x) (flat_map f xs) (first_of (λ x. All P (f x)) x xs each)
    (in_all P f xs (others_of (λ x. All P (f x)) x xs each))

all_false : {X : Type 0} (p : X → Bool) (xs : List X) → find p xs ≡ None → All (λ x. p x ≡ false) xs
all_false p [] none = none_in (λ x. p x ≡ false)
all_false p (x ∷ xs) none = by (p x) refl (all_false p xs) none
  where
    by : (b : Bool) → p x ≡ b → (find p xs ≡ None → All (λ x. p x ≡ false) xs)
        → (if b then Some x else find p xs) ≡ None → All (λ x. p x ≡ false) (x ∷ xs)
    by true e later none = some_none none
    by false e later none = All-cons (λ x. p x ≡ false) x xs e (later none)

-- ---- groups

abbrev IsSupported : Group → Type 0
IsSupported g = is_unsupported_group g ≡ false

unmapped : {X Y : Type 0} (f : X → Y) (o : Option X) → option_map f o ≡ None → o ≡ None
unmapped f None e = refl
unmapped f (Some x) e = some_none e

groups_supported : (thorns : List Thorn) (n : ℕ) → unsupported thorns ≡ None
    → All (λ (t : ℕ × Thorn). All IsSupported t.1.interface.groups) (enumerate_from n thorns)
groups_supported [] n none = none_in (λ (t : ℕ × Thorn). All IsSupported t.1.interface.groups)
groups_supported (t ∷ ts) n none =
    let first : unsupported_of t ≡ None = first_none (unsupported_of t) (unsupported ts) none in
    let groups = first_none
    (option_map (λ g. Unsupported t.name g.name) (find is_unsupported_group t.interface.groups))
    (option_map (λ d. Unsupported t.name d.name)
    (find (λ d. is_unsupported_parameter d.ptype d.ranges) t.params)) first in
    All-cons (λ (t : ℕ × Thorn). All IsSupported t.1.interface.groups) (n, t)
    (enumerate_from (n + 1) ts)
    (all_false is_unsupported_group t.interface.groups
    (unmapped (λ g. Unsupported t.name g.name) (find is_unsupported_group t.interface.groups)
    groups))
    (groups_supported ts (n + 1) (second_none (unsupported_of t) (unsupported ts) none))

owned_supported : (thorns : List Thorn) → unsupported thorns ≡ None
    → All (λ (o : OwnedGroup). IsSupported o.group) (owned_groups thorns)
owned_supported thorns none =
    in_all (λ (o : OwnedGroup). IsSupported o.group) groups_of (enumerate_from 0 thorns)
    (λ k d within.
    let t = get_or (enumerate_from 0 thorns) k d in
    All-map (λ (o : OwnedGroup). IsSupported o.group)
    (λ g. record { number = t.0; thorn = t.1; group = g }) t.1.interface.groups
    (groups_supported thorns 0 none k d within))

of_group : (o : OwnedGroup) → IsSupported o.group
    → All (λ (v : Variable). IsSupported v.owned.group) (variables_in o)
of_group o is =
    in_all (λ (v : Variable). IsSupported v.owned.group)
    (λ name. map (λ copy. record { owned = o; name = name; copy = copy })
    (copies o.group.copies)) o.group.variables
    (λ k d within.
    All-map (λ (v : Variable). IsSupported v.owned.group)
    (λ copy. record { owned = o; name = get_or o.group.variables k d; copy = copy })
    (copies o.group.copies) (λ i e there. is))

all_supported : (thorns : List Thorn) → unsupported thorns ≡ None
    → All (λ (v : Variable). IsSupported v.owned.group) (variables thorns)
all_supported thorns none =
    in_all (λ (v : Variable). IsSupported v.owned.group) variables_in (owned_groups thorns)
    (λ k d within. of_group (get_or (owned_groups thorns) k d)
    (owned_supported thorns none k d within))

second_false : (a b : Bool) → (a || b) ≡ false → b ≡ false
second_false false b e = e
second_false true b e = absurd cc

one_at_most : (kind : GType) (levels : ℕ) → is_unsupported_kind kind levels ≡ false
    → is_scalar kind ≡ true → levels ≤ 1
one_at_most Scalar levels few scalar = ltb-false 1 levels few
one_at_most Gf levels few scalar = absurd cc
one_at_most Array levels few scalar = absurd cc

-- ---- what binding has made sure of

module _ (thorns : List Thorn) (none : bind_fault thorns ≡ None) where
  behind_needs : first_some
      (names_fault (known thorns) (variable_infos thorns) thorns
      ∷ kinds_fault (variable_infos thorns) thorns ∷ []) ≡ None
  unfolding bind_fault
  behind_needs = second_none (needs_fault thorns) _ none

  names_fit : names_fault (known thorns) (variable_infos thorns) thorns ≡ None
  names_fit = first_none (names_fault (known thorns) (variable_infos thorns) thorns) _ behind_needs

  kinds_fit : kinds_fault (variable_infos thorns) thorns ≡ None
  kinds_fit = first_none (kinds_fault (variable_infos thorns) thorns) None
      (second_none (names_fault (known thorns) (variable_infos thorns) thorns) _ behind_needs)

  pub no_two_variables : two_variables (variable_infos thorns) ≡ None
  no_two_variables = first_none (two_variables (variable_infos thorns)) _
      (second_none (wrong_type (known thorns) thorns) _
      (second_none (no_parameter (known thorns) thorns) _ names_fit))

  -- a scalar has one level
  pub one_level : All (λ (v : VarInfo). v.scalar ≡ true → v.levels ≤ 1) (variable_infos thorns)
  one_level =
      let supported : unsupported thorns ≡ None = first_none (unsupported thorns) _ kinds_fit in
      All-map (λ (v : VarInfo). v.scalar ≡ true → v.levels ≤ 1) variable_info (variables thorns)
      (λ k d within.
      let g : Group = (get_or (variables thorns) k d).owned.group in
      one_at_most g.gtype g.levels
      (second_false (is_unsupported_type g.ctype) (is_unsupported_kind g.gtype g.levels)
      (all_supported thorns supported k d within)))

  pub few_variables : length (variable_infos thorns) ≤ 256
  few_variables =
      let limit = first_none (over (codes "variables") (length (variable_infos thorns)) 256) None
      (second_none (over (codes "thorns") (length thorns) 64) _
      (second_none (two_dims thorns) _ (second_none (unsupported thorns) _ kinds_fit))) in
      by (nat_lt 256 (length (variable_infos thorns))) refl limit
    where
      by : (b : Bool) → nat_lt 256 (length (variable_infos thorns)) ≡ b
          → (if b then Some (Limit (codes "variables") (length (variable_infos thorns))) else None)
          ≡ None → length (variable_infos thorns) ≤ 256
      by true e none = some_none none
      by false e none = ltb-false 256 (length (variable_infos thorns)) e
