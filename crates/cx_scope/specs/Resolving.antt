-- What names stand for, with the levels that are stored.
use Rattle.std.specs.Prelude.{◌≡◌, ◌⊎◌, ℕ, ◌==◌, nat_le, Bool, ◌||◌, List, [], ◌∷◌, map, slice_get, Option, Some, None, is_some, Result, Ok, Err, if◌then◌else◌, slice_index_or}
use Rattle.cx_plan.specs.Names.{full_name, with_owner}
use Rattle.cx_plan.specs.Lists.{first_of_each}
use Rattle.cx_plan.specs.declared.variable.VarId.{VarId}
use Rattle.cx_sched.specs.declared.tree.Ref.{Ref}
use Rattle.cx_bind.specs.declared.thorns.Thorn.{Thorn}
use Rattle.cx_bind.specs.Variables.{with_copy}
use Rattle.cx_scope.specs.declared.fault.ScopeFault.{ScopeFault}
use Rattle.cx_scope.specs.declared.fault.ScopeFault.TheVariants.{NotFound, Hidden, NoStorage, NoLevel, Memory}
use Rattle.cx_scope.specs.declared.names.NamedGroup.{NamedGroup}
use Rattle.cx_scope.specs.declared.names.NamedVariable.{NamedVariable}
use Rattle.cx_scope.specs.Names.{named_groups, named_variables}
use Rattle.cx_scope.specs.Sight.{Sight, IsSightOf, seen, anyones}
use Rattle.cx_scope.specs.Naming.{Level, variable_named, group_named, members_from}

abbrev pub ref_text : Ref → List ℕ
ref_text r = with_owner r.owner (with_copy r.name r.copy)

-- some thorn has the name and this one does not see it, or none has it
abbrev pub unseen : Bool → Ref → ScopeFault
unseen is_there r = if is_there then Hidden (ref_text r) else NotFound (ref_text r)

abbrev pub var_id : ℕ → VarId
var_id place = record { 0 = place }

-- why a level can't be used, by the levels that are stored of each variable
abbrev pub level_fault : List ℕ → Ref → Level → Option ScopeFault
level_fault storage r l =
    let stored = slice_index_or storage l.0 0 in
    if stored == 0 then Some (NoStorage (ref_text r))
    else (if nat_le stored l.1 then Some (NoLevel (ref_text r)) else None)

abbrev pub unless_fault : {X : Type 0} → Option ScopeFault → X → Result X ScopeFault
unless_fault None x = Ok x
unless_fault (Some e) x = Err e

-- these levels, where all of them are stored
abbrev pub stored : List ℕ → Ref → List Level → Result (List (VarId × ℕ)) ScopeFault
stored storage r ls = unless_fault (first_of_each (level_fault storage r) ls)
    (map (λ l. (var_id l.0, l.1)) ls)

-- whether any thorn has the name, among groups alone or among variables too
abbrev pub is_anyones_group : List NamedGroup → Sight → ℕ → Ref → Bool
is_anyones_group gs sight t r = is_some (group_named sight t anyones gs r)

abbrev pub is_anyones : List NamedVariable → List NamedGroup → Sight → ℕ → Ref → Bool
is_anyones vs gs sight t r =
    is_some (variable_named sight t anyones vs r) || is_anyones_group gs sight t r

-- the places of a group's variables
abbrev pub members_at : List NamedVariable → Option NamedGroup → List ℕ
members_at vs None = []
members_at vs (Some g) = members_from g 0 vs

-- a group stands for all its variables at level 0
abbrev pub group_levels : List NamedVariable → List NamedGroup → Sight → ℕ → Ref → List ℕ → Option ℕ
    → Result (List (VarId × ℕ)) ScopeFault
group_levels vs gs sight t r storage None = Err (unseen (is_anyones vs gs sight t r) r)
group_levels vs gs sight t r storage (Some place) =
    stored storage r (map (λ v. (v, 0)) (members_at vs (slice_get gs place)))

-- a variable, or where none has the name a group
abbrev pub levels : List NamedVariable → List NamedGroup → Sight → ℕ → Ref → List ℕ → Option Level
    → Result (List (VarId × ℕ)) ScopeFault
levels vs gs sight t r storage (Some l) = stored storage r (l ∷ [])
levels vs gs sight t r storage None =
    group_levels vs gs sight t r storage (group_named sight t seen gs r)

abbrev pub group_members : List NamedVariable → List NamedGroup → Sight → ℕ → Ref → Option ℕ
    → Result (List VarId) ScopeFault
group_members vs gs sight t r None = Err (unseen (is_anyones_group gs sight t r) r)
group_members vs gs sight t r (Some place) = Ok (map var_id (members_at vs (slice_get gs place)))

-- what a name means to a thorn, by what it sees
abbrev pub resolve : List Thorn → Sight → List ℕ → ℕ → Ref → Result (List (VarId × ℕ)) ScopeFault
resolve thorns sight storage t r =
    levels (named_variables thorns) (named_groups thorns) sight t r storage
    (variable_named sight t seen (named_variables thorns) r)

abbrev pub group_of : List Thorn → Sight → ℕ → Ref → Result (List VarId) ScopeFault
group_of thorns sight t r =
    group_members (named_variables thorns) (named_groups thorns) sight t r
    (group_named sight t seen (named_groups thorns) r)

-- a level that passes, or the fault that is told
abbrev pub Passes : Option ScopeFault → ℕ → Result ℕ ScopeFault → Type 0
Passes fault level (Ok l) = (l ≡ level) × (fault ≡ None)
Passes fault level (Err e) = (e ≡ Memory) ⊎ (fault ≡ Some e)

-- Unless memory is wanting, the answer is this one by the least sets of ancestors and friends.
abbrev pub BySight : {X : Type 0} → List Thorn → (Sight → Result X ScopeFault) → Result X ScopeFault
    → Type 0
BySight thorns told result =
    (result ≡ Err Memory) ⊎ ((sight : Sight) × (IsSightOf thorns sight × (told sight ≡ result)))

abbrev pub ResolveAnswers : List Thorn → List ℕ → ℕ → Ref → Result (List (VarId × ℕ)) ScopeFault
    → Type 0
ResolveAnswers thorns storage t r result =
    BySight thorns (λ sight. resolve thorns sight storage t r) result

abbrev pub GroupAnswers : List Thorn → ℕ → Ref → Result (List VarId) ScopeFault → Type 0
GroupAnswers thorns t r result = BySight thorns (λ sight. group_of thorns sight t r) result
