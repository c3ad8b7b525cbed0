-- Names without a fault stand for levels that are stored.
use Rattle.std.proofs.Common.{◌≡◌, refl, subst, ℕ, ◌<◌, Bool, true, false, List, [], ◌∷◌, map, get_or, slice_get, Option, Some, None, Result, Ok, Err, if◌then◌else◌, arith}
use Rattle.std.specs.Prelude.{All, slice_index_or, nat_le, ◌==◌}
use Rattle.std.proofs.lemmas.List.Elements.{All-cons, All-map}
use Rattle.cx_plan.specs.Lists.{first_of_each}
use Rattle.cx_plan.specs.declared.variable.VarId.{VarId}
use Rattle.cx_sched.specs.declared.tree.Ref.{Ref}
use Rattle.cx_bind.specs.declared.thorns.Thorn.{Thorn}
use Rattle.cx_scope.specs.declared.fault.ScopeFault.{ScopeFault}
use Rattle.cx_scope.specs.declared.fault.ScopeFault.TheVariants.{NoStorage, NoLevel}
use Rattle.cx_scope.specs.Names.{named_groups, named_variables}
use Rattle.cx_scope.specs.Sight.{Sight, seen}
use Rattle.cx_scope.specs.Naming.{Level, variable_named, group_named}
use Rattle.cx_scope.specs.Resolving.{ref_text, var_id, level_fault, unless_fault, stored, members_at, group_levels, levels, resolve}
use Rattle.cx_job_values.proofs.NoneLaws.{some_none, first_none, second_none}
use Rattle.cx_job.proofs.SupportedLaws.{none_in}

-- a level of a variable that is stored
abbrev pub IsKept : List ℕ → VarId × ℕ → Type 0
IsKept storage l = l.1 < slice_index_or storage l.0.0 0

pub err_ok : {X E : Type 0} {e : E} {x : X} {A : Type 0} → Err e ≡ Ok x → A
err_ok e = absurd cc

level_kept : (storage : List ℕ) (r : Ref) (l : Level) → level_fault storage r l ≡ None
    → l.1 < slice_index_or storage l.0 0
level_kept storage r l none =
    by (slice_index_or storage l.0 0 == 0) (nat_le (slice_index_or storage l.0 0) l.1) refl none
  where
    by : (a b : Bool) → nat_le (slice_index_or storage l.0 0) l.1 ≡ b
        → (if a then Some (NoStorage (ref_text r))
        else (if b then Some (NoLevel (ref_text r)) else None)) ≡ None
        → l.1 < slice_index_or storage l.0 0
    by true b e none = some_none none
    by false true e none = some_none none
    by false false e none = grind (arith, e)

pub all_none : {X Y : Type 0} (f : X → Option Y) (xs : List X) → first_of_each f xs ≡ None
    → All (λ x. f x ≡ None) xs
all_none f [] none = none_in (λ x. f x ≡ None)
all_none f (x ∷ xs) none =
    All-cons (λ x. f x ≡ None) x xs (first_none (f x) (first_of_each f xs) none)
    (all_none f xs (second_none (f x) (first_of_each f xs) none))

all_kept : (storage : List ℕ) (r : Ref) (ls : List Level) (vs : List (VarId × ℕ))
    → stored storage r ls ≡ Ok vs → All (IsKept storage) vs
all_kept storage r ls vs told = by (first_of_each (level_fault storage r) ls) refl told
  where
    ok : List (VarId × ℕ) → Result (List (VarId × ℕ)) ScopeFault
    ok us = Ok us

    by : (o : Option ScopeFault) → first_of_each (level_fault storage r) ls ≡ o
        → unless_fault o (map (λ l. (var_id l.0, l.1)) ls) ≡ Ok vs → All (IsKept storage) vs
    by (Some e) is told = err_ok told
    by None is told =
        let same : map (λ l. (var_id l.0, l.1)) ls ≡ vs = cc told in
        subst (λ us. All (IsKept storage) us) same
        (All-map (IsKept storage) (λ l. (var_id l.0, l.1)) ls
        (λ k d within. level_kept storage r (get_or ls k d)
        (all_none (level_fault storage r) ls is k d within)))

pub resolved_kept : (thorns : List Thorn) (sight : Sight) (storage : List ℕ) (t : ℕ) (r : Ref)
    (vs : List (VarId × ℕ)) → resolve thorns sight storage t r ≡ Ok vs → All (IsKept storage) vs
resolved_kept thorns sight storage t r vs told =
    by (variable_named sight t seen (named_variables thorns) r) told
  where
    of_group : (o : Option ℕ)
        → group_levels (named_variables thorns) (named_groups thorns) sight t r storage o ≡ Ok vs
        → All (IsKept storage) vs
    of_group None told = err_ok told
    of_group (Some place) told =
        all_kept storage r (map (λ v. (v, 0))
        (members_at (named_variables thorns) (slice_get (named_groups thorns) place))) vs told

    by : (o : Option Level)
        → levels (named_variables thorns) (named_groups thorns) sight t r storage o ≡ Ok vs
        → All (IsKept storage) vs
    by (Some l) told = all_kept storage r (l ∷ []) vs told
    by None told = of_group (group_named sight t seen (named_groups thorns) r) told
