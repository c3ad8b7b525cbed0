-- Ancestors and friends, as least sets.
use Rattle.std.specs.Prelude.{ℕ, ◌&&◌, Bool, IsTrue, List, ◌++◌, map}
use Rattle.std.specs.List.{list_any}
use Rattle.cx_text.specs.Lexemes.{same_name, among}
use Rattle.cx_bind.specs.declared.thorns.Thorn.{Thorn}
use Rattle.cx_bind.specs.BuiltIn.{built_in}

-- what active thorns implement, those that are built in after the others
abbrev pub active_implementations : List Thorn → List (List ℕ)
active_implementations thorns =
    map (λ t. t.interface.implements) thorns ++ map (λ p. p.implementation) built_in

-- a thorn that provides the first one inherits the second one
abbrev pub is_inherited_by : List Thorn → List ℕ → List ℕ → Bool
is_inherited_by thorns i j =
    list_any (λ t. same_name t.interface.implements i && among t.interface.inherits j) thorns

abbrev pub has_friend_line : List ℕ → List ℕ → Thorn → Bool
has_friend_line i j t = same_name t.interface.implements i && among t.interface.friends j

-- a thorn that provides the first one has a friend line for the second one
abbrev pub is_friend_line : List Thorn → List ℕ → List ℕ → Bool
is_friend_line thorns i j = list_any (has_friend_line i j) thorns

-- The least set that has what a thorn inherits and what the providers of those inherit.
pub data Ancestor (thorns : List Thorn) (t : Thorn) : List ℕ → Type 0 where
  inherited : (i : List ℕ) → IsTrue (among t.interface.inherits i) → Ancestor thorns t i
  through : (i j : List ℕ) → Ancestor thorns t i → IsTrue (is_inherited_by thorns i j)
      → Ancestor thorns t j

-- The least symmetric and transitive set that has the friend lines for implementations that are
-- active.
pub data Friend (thorns : List Thorn) : List ℕ → List ℕ → Type 0 where
  line : (i j : List ℕ) → IsTrue (is_friend_line thorns i j)
      → IsTrue (among (active_implementations thorns) j) → Friend thorns i j
  back : (i j : List ℕ) → Friend thorns i j → Friend thorns j i
  onward : (i j k : List ℕ) → Friend thorns i j → Friend thorns j k → Friend thorns i k
