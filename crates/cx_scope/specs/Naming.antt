-- Which variables and groups names mean.
use Rattle.std.specs.Prelude.{ℕ, ◌+◌, ◌-◌, ◌==◌, nat_le, drop, take, codes, Bool, true, false, ◌&&◌, List, [], ◌∷◌, length, Option, Some, None, option_map, is_none, if◌then◌else◌}
use Rattle.std.specs.List.{position_from, range_with_len}
use Rattle.cx_text.specs.Lexemes.{same_name}
use Rattle.cx_plan.specs.Lists.{first_of_each}
use Rattle.cx_sched.specs.declared.tree.Ref.{Ref}
use Rattle.cx_bind.specs.Variables.{past_name}
use Rattle.cx_scope.specs.declared.names.NamedGroup.{NamedGroup}
use Rattle.cx_scope.specs.declared.names.NamedVariable.{NamedVariable}
use Rattle.cx_scope.specs.declared.names.Tier.{Tier}
use Rattle.cx_scope.specs.Sight.{Sight, is_in}

-- what stands before `::`, where it stands, is what stands there in the full name
abbrev pub fits_owner : Option (List ℕ) → NamedGroup → Bool
fits_owner None g = true
fits_owner (Some owner) g = same_name owner g.owner

abbrev pub is_same_copy : Option ℕ → Option ℕ → Bool
is_same_copy None None = true
is_same_copy (Some j) (Some k) = j == k
is_same_copy None (Some k) = false
is_same_copy (Some j) None = false

-- whether a name is that of a level of a variable
abbrev pub names_level : Ref → ℕ → NamedVariable → Bool
names_level r level v = fits_owner r.owner v.group
    && (same_name r.name (past_name v.name level) && is_same_copy r.copy v.copy)

-- a name without the `_p` at its end
abbrev pub without_suffix : List ℕ → Option (List ℕ)
without_suffix name =
    if nat_le 2 (length name) && same_name (drop (length name - 2) name) (codes "_p")
    then Some (take (length name - 2) name) else None

-- whether it is that of a group
abbrev pub names_group : Ref → NamedGroup → Bool
names_group r g = fits_owner r.owner g && (same_name r.name g.name && is_none r.copy)

-- The place of the first variable whose level has the name: the first kind of groups counts, and
-- within a kind the variables' order.
abbrev pub variable_at : Sight → ℕ → List Tier → List NamedVariable → Ref → ℕ → Option ℕ
variable_at sight t tiers vs r level =
    first_of_each (λ tier. position_from (λ v. is_in sight t tier v.group && names_level r level v)
    0 vs) tiers

-- a variable's place and a level
abbrev pub Level : Type 0
Level = ℕ × ℕ

-- Of several levels the least counts, so a variable of that very name goes before past levels. A
-- name has no more suffixes than bytes.
abbrev pub variable_named : Sight → ℕ → List Tier → List NamedVariable → Ref → Option Level
variable_named sight t tiers vs r =
    first_of_each (λ level.
    option_map (λ place. (place, level)) (variable_at sight t tiers vs r level))
    (range_with_len 0 (length r.name + 1))

-- the place of the first group of the name
abbrev pub group_named : Sight → ℕ → List Tier → List NamedGroup → Ref → Option ℕ
group_named sight t tiers gs r =
    first_of_each (λ tier. position_from (λ g. is_in sight t tier g && names_group r g) 0 gs) tiers

abbrev pub is_same_group : NamedGroup → NamedGroup → Bool
is_same_group a b = a.thorn == b.thorn && a.place == b.place

-- the places of a group's variables, in a list that begins at a place
abbrev pub members_from : NamedGroup → ℕ → List NamedVariable → List ℕ
members_from g k [] = []
members_from g k (v ∷ vs) = if is_same_group v.group g then k ∷ members_from g (k + 1) vs
    else members_from g (k + 1) vs
