-- What thorns that are there see, by the least sets, is one: names mean the same by each sight that
-- tells them.
use Rattle.std.proofs.Common.{◌≡◌, refl, sym, ◌∙◌, ap, ℕ, zero, suc, ◌+◌, ◌<◌, ◌≤◌, Bool, true, false, ◌&&◌, cond, List, [], ◌∷◌, ◌++◌, map, length, Option, Some, None, arith}
use Rattle.std.specs.Prelude.{slice_get}
use Rattle.std.specs.List.{flat_map, enumerate_from, position_from, range_with_len}
use Rattle.std.specs.Option.{option_map}
use Rattle.std.proofs.Math.Path.{fun_ext}
use Rattle.cx_plan.specs.Lists.{or_else, first_of_each}
use Rattle.cx_sched.specs.declared.tree.Ref.{Ref}
use Rattle.cx_bind.specs.declared.thorns.Thorn.{Thorn}
use Rattle.cx_bind.specs.Variables.{copies}
use Rattle.cx_scope.specs.Names.{named_group, groups_of, named_groups, named_copy, copies_of, variables_in, variables_of, named_variables}
use Rattle.cx_scope.specs.Sight.{Sight, IsSightOf, is_public, is_protected, is_in, seen}
use Rattle.cx_scope.specs.Naming.{Level, names_level, names_group, variable_at, variable_named, group_named}
use Rattle.cx_scope.specs.Resolving.{group_levels, levels, group_members, resolve, group_of}

-- ---- each element

abbrev pub Each : {X : Type 0} → List X → (X → Type 0) → Type 0
Each [] P = Unit {0}
Each (x ∷ xs) P = P x × Each xs P

pub each-all : {X : Type 0} (xs : List X) (P : X → Type 0) → ((x : X) → P x) → Each xs P
each-all [] P h = tt
each-all (x ∷ xs) P h = (h x, each-all xs P h)

each-map : {X Y : Type 0} (f : X → Y) (xs : List X) (P : Y → Type 0) → ((x : X) → P (f x))
    → Each (map f xs) P
each-map f [] P h = tt
each-map f (x ∷ xs) P h = (h x, each-map f xs P h)

each-append : {X : Type 0} (xs ys : List X) (P : X → Type 0) → Each xs P → Each ys P
    → Each (xs ++ ys) P
each-append [] ys P h k = k
each-append (x ∷ xs) ys P h k = (h.0, each-append xs ys P h.1 k)

each-flat : {X Y : Type 0} (f : X → List Y) (xs : List X) (P : Y → Type 0) (Q : X → Type 0)
    → ((x : X) → Q x → Each (f x) P) → Each xs Q → Each (flat_map f xs) P
each-flat f [] P Q h q = tt
each-flat f (x ∷ xs) P Q h q =
    each-append (f x) (flat_map f xs) P (h x q.0) (each-flat f xs P Q h q.1)

each-flat-all : {X Y : Type 0} (f : X → List Y) (xs : List X) (P : Y → Type 0)
    → ((x : X) → Each (f x) P) → Each (flat_map f xs) P
each-flat-all f [] P h = tt
each-flat-all f (x ∷ xs) P h = each-append (f x) (flat_map f xs) P (h x) (each-flat-all f xs P h)

-- ---- tests that agree where it counts

position-agree : {X : Type 0} (k : ℕ) (xs : List X) (p q : X → Bool) (P : X → Type 0)
    → ((x : X) → P x → p x ≡ q x) → Each xs P → position_from p k xs ≡ position_from q k xs
position-agree k [] p q P h all = refl
position-agree k (x ∷ xs) p q P h all =
    ap (λ b. cond b (Some k) (position_from p (k + 1) xs)) (h x all.0)
    ∙ ap (λ o. cond (q x) (Some k) o) (position-agree (k + 1) xs p q P h all.1)

pub first-agree : {X Y : Type 0} (xs : List X) (f g : X → Option Y) (P : X → Type 0)
    → ((x : X) → P x → f x ≡ g x) → Each xs P → first_of_each f xs ≡ first_of_each g xs
first-agree [] f g P h all = refl
first-agree (x ∷ xs) f g P h all =
    ap (λ o. or_else o (first_of_each f xs)) (h x all.0)
    ∙ ap (λ o. or_else (g x) o) (first-agree xs f g P h all.1)

pub map-agree : {X Y : Type 0} (xs : List X) (f g : X → Y) (P : X → Type 0)
    → ((x : X) → P x → f x ≡ g x) → Each xs P → map f xs ≡ map g xs
map-agree [] f g P h all = refl
map-agree (x ∷ xs) f g P h all =
    ap (λ y. y ∷ map f xs) (h x all.0) ∙ ap (λ ys. g x ∷ ys) (map-agree xs f g P h all.1)

same_truth : (a b : Bool) → (a ≡ true → b ≡ true) → (b ≡ true → a ≡ true) → a ≡ b
same_truth true true h k = refl
same_truth true false h k = sym (h refl)
same_truth false true h k = k refl
same_truth false false h k = refl

-- ---- the groups and variables are those of thorns that are there

numbered : {X : Type 0} (n from : ℕ) (xs : List X) → from + length xs ≤ n
    → Each (enumerate_from from xs) (λ t. t.0 < n)
numbered n from [] h = tt
numbered n from (x ∷ xs) h = (omega (arith, h), numbered n (from + 1) xs (omega (arith, h)))

thorn_at : (ts : List Thorn) (k : ℕ) → k < length ts → (x : Thorn) × (slice_get ts k ≡ Some x)
thorn_at [] k h = absurd (let no : ⊥ = omega (arith, h) in no)
thorn_at (t ∷ ts) zero h = (t, refl)
thorn_at (t ∷ ts) (suc k) h = thorn_at ts k (omega (arith, h))

module _ (thorns : List Thorn) where
  abbrev pub IsThere : ℕ → Type 0
  IsThere k = k < length thorns

  groups-there : Each (named_groups thorns) (λ g. IsThere g.thorn)
  groups-there =
      each-flat groups_of (enumerate_from 0 thorns) (λ g. IsThere g.thorn) (λ t. IsThere t.0)
      (λ t there. each-map (named_group t) (enumerate_from 0 t.1.interface.groups)
      (λ g. IsThere g.thorn) (λ g. there))
      (numbered (length thorns) 0 thorns (omega arith))

  variables-there : Each (named_variables thorns) (λ v. IsThere v.group.thorn)
  variables-there =
      each-flat variables_of (enumerate_from 0 thorns) (λ v. IsThere v.group.thorn)
      (λ t. IsThere t.0)
      (λ t there. each-flat-all (variables_in t) (enumerate_from 0 t.1.interface.groups)
      (λ v. IsThere v.group.thorn)
      (λ g. each-flat-all (copies_of (named_group t g) g.1.copies) g.1.variables
      (λ v. IsThere v.group.thorn)
      (λ name. each-map (named_copy (named_group t g) name) (copies g.1.copies)
      (λ v. IsThere v.group.thorn) (λ copy. there))))
      (numbered (length thorns) 0 thorns (omega arith))

  module _ (a b : Sight) (told : IsSightOf thorns a) (again : IsSightOf thorns b) (t : ℕ)
      (there : IsThere t) where
    ancestors-agree : (u : ℕ) → IsThere u → a.is_ancestor t u ≡ b.is_ancestor t u
    ancestors-agree u q =
        let x = thorn_at thorns t there in
        let y = thorn_at thorns u q in
        let one = told.ancestors t u x.0 y.0 x.1 y.1 in
        let two = again.ancestors t u x.0 y.0 x.1 y.1 in
        same_truth (a.is_ancestor t u) (b.is_ancestor t u) (λ h. two.1 (one.0 h))
        (λ h. one.1 (two.0 h))

    friends-agree : (u : ℕ) → IsThere u → a.is_friend t u ≡ b.is_friend t u
    friends-agree u q =
        let x = thorn_at thorns t there in
        let y = thorn_at thorns u q in
        let one = told.friends t u x.0 y.0 x.1 y.1 in
        let two = again.friends t u x.0 y.0 x.1 y.1 in
        same_truth (a.is_friend t u) (b.is_friend t u) (λ h. two.1 (one.0 h)) (λ h. one.1 (two.0 h))

    groups-agree : (r : Ref)
        → group_named a t seen (named_groups thorns) r
        ≡ group_named b t seen (named_groups thorns) r
    groups-agree r =
        first-agree seen (λ tier.
        position_from (λ g. is_in a t tier g && names_group r g) 0 (named_groups thorns))
        (λ tier. position_from (λ g. is_in b t tier g && names_group r g) 0
        (named_groups thorns))
        (λ tier. position_from (λ g. is_in a t tier g && names_group r g) 0 (named_groups thorns)
        ≡ position_from (λ g. is_in b t tier g && names_group r g) 0 (named_groups thorns))
        (λ tier h. h) (
          refl,
          (
            position-agree 0 (named_groups thorns)
                (λ g. (is_public g.access && a.is_ancestor t g.thorn) && names_group r g)
                (λ g. (is_public g.access && b.is_ancestor t g.thorn) && names_group r g)
                (λ g. IsThere g.thorn)
                (λ g q. ap (λ s. (is_public g.access && s) && names_group r g)
                (ancestors-agree g.thorn q)) groups-there,
            (
              position-agree 0 (named_groups thorns)
                  (λ g. (is_protected g.access && a.is_friend t g.thorn) && names_group r g)
                  (λ g. (is_protected g.access && b.is_friend t g.thorn) && names_group r g)
                  (λ g. IsThere g.thorn)
                  (λ g q. ap (λ s. (is_protected g.access && s) && names_group r g)
                  (friends-agree g.thorn q)) groups-there,
              tt,
            ),
          ),
        )

    level-agree : (r : Ref) (level : ℕ)
        → variable_at a t seen (named_variables thorns) r level
        ≡ variable_at b t seen (named_variables thorns) r level
    level-agree r level =
        first-agree seen (λ tier.
        position_from (λ v. is_in a t tier v.group && names_level r level v) 0
        (named_variables thorns))
        (λ tier. position_from (λ v. is_in b t tier v.group && names_level r level v) 0
        (named_variables thorns))
        (λ tier. position_from (λ v. is_in a t tier v.group && names_level r level v) 0
        (named_variables thorns)
        ≡ position_from (λ v. is_in b t tier v.group && names_level r level v) 0
        (named_variables thorns))
        (λ tier h. h) (
          refl,
          (
            position-agree 0 (named_variables thorns)
                (λ v. (is_public v.group.access && a.is_ancestor t v.group.thorn)
                && names_level r level v)
                (λ v. (is_public v.group.access && b.is_ancestor t v.group.thorn)
                && names_level r level v) (λ v. IsThere v.group.thorn)
                (λ v q. ap (λ s. (is_public v.group.access && s) && names_level r level v)
                (ancestors-agree v.group.thorn q)) variables-there,
            (
              position-agree 0 (named_variables thorns)
                  (λ v. (is_protected v.group.access && a.is_friend t v.group.thorn)
                  && names_level r level v)
                  (λ v. (is_protected v.group.access && b.is_friend t v.group.thorn)
                  && names_level r level v) (λ v. IsThere v.group.thorn)
                  (λ v q. ap (λ s. (is_protected v.group.access && s) && names_level r level v)
                  (friends-agree v.group.thorn q)) variables-there,
              tt,
            ),
          ),
        )

    variables-agree : (r : Ref)
        → variable_named a t seen (named_variables thorns) r
        ≡ variable_named b t seen (named_variables thorns) r
    variables-agree r =
        ap (λ (f : ℕ → Option Level). first_of_each f (range_with_len 0 (length r.name + 1)))
        (fun_ext (λ level. ap (λ (o : Option ℕ). option_map (λ place. (place, level)) o)
        (level-agree r level)))

    group-levels : (storage : List ℕ) (r : Ref) (o : Option ℕ)
        → group_levels (named_variables thorns) (named_groups thorns) a t r storage o
        ≡ group_levels (named_variables thorns) (named_groups thorns) b t r storage o
    group-levels storage r None = refl
    group-levels storage r (Some place) = refl

    levels-agree : (storage : List ℕ) (r : Ref) (o : Option Level)
        → levels (named_variables thorns) (named_groups thorns) a t r storage o
        ≡ levels (named_variables thorns) (named_groups thorns) b t r storage o
    levels-agree storage r (Some l) = refl
    levels-agree storage r None =
        ap (λ (o : Option ℕ). group_levels (named_variables thorns) (named_groups thorns)
        a t r storage o) (groups-agree r)
        ∙ group-levels storage r (group_named b t seen (named_groups thorns) r)

    members-agree : (r : Ref) (o : Option ℕ)
        → group_members (named_variables thorns) (named_groups thorns) a t r o
        ≡ group_members (named_variables thorns) (named_groups thorns) b t r o
    members-agree r None = refl
    members-agree r (Some place) = refl

    pub same-levels : (storage : List ℕ) (r : Ref)
        → resolve thorns a storage t r ≡ resolve thorns b storage t r
    same-levels storage r =
        ap (λ (o : Option Level).
        levels (named_variables thorns) (named_groups thorns) a t r storage o) (variables-agree r)
        ∙ levels-agree storage r (variable_named b t seen (named_variables thorns) r)

    pub same-group : (r : Ref) → group_of thorns a t r ≡ group_of thorns b t r
    same-group r =
        ap (λ (o : Option ℕ). group_members (named_variables thorns) (named_groups thorns) a t r o)
        (groups-agree r) ∙ members-agree r (group_named b t seen (named_groups thorns) r)
