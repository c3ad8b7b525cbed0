-- What a thorn sees: its own groups, the public ones of its ancestors and the protected ones of its
-- friends.
use Rattle.std.specs.Prelude.{◌≡◌, ◌↔◌, ℕ, ◌==◌, Bool, true, false, ◌&&◌, IsTrue, List, [], ◌∷◌, slice_get, Some}
use Rattle.cx_iface.specs.declared.tree.Access.{Access}
use Rattle.cx_iface.specs.declared.tree.Access.TheVariants.{Public, Protected, Private}
use Rattle.cx_bind.specs.declared.thorns.Thorn.{Thorn}
use Rattle.cx_scope.specs.declared.names.NamedGroup.{NamedGroup}
use Rattle.cx_scope.specs.declared.names.Tier.{Tier}
use Rattle.cx_scope.specs.declared.names.Tier.TheVariants.{Own, Inherited, Friends, Any}
use Rattle.cx_scope.specs.Relations.{Ancestor, Friend}

-- Answers to two questions on thorns by their numbers: whether the second one provides an ancestor
-- of the first one, and whether they provide friends.
pub record Sight : Type 0 where
  pub is_ancestor : ℕ → ℕ → Bool
  pub is_friend : ℕ → ℕ → Bool

-- the answers are those of the least sets
pub record IsSightOf (thorns : List Thorn) (sight : Sight) : Type 0 where
  pub ancestors : (t u : ℕ) (x y : Thorn) → slice_get thorns t ≡ Some x
      → slice_get thorns u ≡ Some y
      → IsTrue (sight.is_ancestor t u) ↔ Ancestor thorns x y.interface.implements
  pub friends : (t u : ℕ) (x y : Thorn) → slice_get thorns t ≡ Some x → slice_get thorns u ≡ Some y
      → IsTrue (sight.is_friend t u) ↔ Friend thorns x.interface.implements y.interface.implements

abbrev pub is_public : Access → Bool
is_public Public = true
is_public Protected = false
is_public Private = false

abbrev pub is_protected : Access → Bool
is_protected Protected = true
is_protected Public = false
is_protected Private = false

-- whether a group is one of these to a thorn
abbrev pub is_in : Sight → ℕ → Tier → NamedGroup → Bool
is_in sight t Own g = g.thorn == t
is_in sight t Inherited g = is_public g.access && sight.is_ancestor t g.thorn
is_in sight t Friends g = is_protected g.access && sight.is_friend t g.thorn
is_in sight t Any g = true

-- what a thorn sees, in the order in which names are sought
abbrev pub seen : List Tier
seen = Own ∷ Inherited ∷ Friends ∷ []

abbrev pub anyones : List Tier
anyones = Any ∷ []
