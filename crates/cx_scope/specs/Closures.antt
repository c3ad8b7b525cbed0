-- How the tables of a scope tell ancestors and friends: by what is reached along edges between
-- active implementations.
use Rattle.std.specs.Prelude.{◌≡◌, ◌↔◌, ℕ, ◌<◌, ◌^◌, ◌==◌, nat_lt, Bool, true, false, ◌&&◌, ◌||◌, List, [], length, slice_get, slice_index_or, Option, Some, None}
use Rattle.cx_text.specs.Lexemes.{among}
use Rattle.cx_bind.specs.declared.thorns.Thorn.{Thorn}
use Rattle.cx_scope.specs.declared.edges.Tie.{Tie}
use Rattle.cx_scope.specs.declared.edges.Tie.TheVariants.{Inherits, Friends}
use Rattle.cx_scope.specs.declared.tables.Tables.{Tables}
use Rattle.cx_scope.specs.Reach.{Edge, has_edge, Reach}
use Rattle.cx_scope.specs.Relations.{active_implementations, is_friend_line}
use Rattle.cx_scope.specs.Names.{named_groups, named_variables}
use Rattle.cx_scope.specs.declared.names.NamedGroup.{NamedGroup}
use Rattle.cx_scope.specs.Sight.{Sight, IsSightOf, is_public, is_protected}
use Rattle.cx_plan.specs.Lists.{is_marked}

abbrev pub inherits_by : Option Thorn → List ℕ → Bool
inherits_by None name = false
inherits_by (Some t) name = among t.interface.inherits name

abbrev pub name_at : List (List ℕ) → ℕ → List ℕ
name_at names k = slice_index_or names k []

-- whether an edge leads from an implementation to another one, by their places
abbrev pub is_tied : List Thorn → List (List ℕ) → Tie → ℕ → ℕ → Bool
is_tied thorns names Inherits a b = inherits_by (slice_get thorns a) (name_at names b)
is_tied thorns names Friends a b =
    is_friend_line thorns (name_at names a) (name_at names b)
    || is_friend_line thorns (name_at names b) (name_at names a)

-- one more edge, if two numbers are tied
abbrev pub AddsEdge : ℕ → ℕ → Bool → List Edge → List Edge → Type 0
AddsEdge from to tied old new = (a b : ℕ)
    → has_edge new a b ≡ (has_edge old a b || (a == from && (b == to && tied)))

-- the edges from one number are among the others
abbrev pub AddsTies : List Thorn → List (List ℕ) → Tie → ℕ → List Edge → List Edge → Type 0
AddsTies thorns names tie from old new =
    (a b : ℕ) → has_edge new a b
    ≡ (has_edge old a b || (a == from
    && (nat_lt b (length names) && is_tied thorns names tie from b)))

-- the edges are all of these
abbrev pub AreTies : List Thorn → List (List ℕ) → Tie → List Edge → Type 0
AreTies thorns names tie edges = (a b : ℕ)
    → has_edge edges a b ≡ (nat_lt a (length names)
    && (nat_lt b (length names) && is_tied thorns names tie a b))

abbrev pub row_of : List (List Bool) → ℕ → List Bool
row_of rows a = slice_index_or rows a []

-- the rows mark what is reached from each number
abbrev pub Closes : List Edge → ℕ → List (List Bool) → Type 0
Closes edges count rows = (a : ℕ) → a < count → (b : ℕ)
    → (is_marked (row_of rows a) b ≡ true) ↔ Reach edges a b

abbrev pub Links : List Thorn → Tie → List (List Bool) → Type 0
Links thorns tie rows =
    (edges : List Edge) × (AreTies thorns (active_implementations thorns) tie edges
    × Closes edges (length (active_implementations thorns)) rows)

-- what the tables tell
abbrev pub sight_of : Tables → Sight
sight_of tables = record {
  is_ancestor = λ t u. is_marked (row_of tables.ancestors t) u;
  is_friend = λ t u. is_marked (row_of tables.friends t) u;
}

-- a public group of an ancestor, and a protected one of a friend
abbrev pub is_of_ancestor : Tables → ℕ → NamedGroup → Bool
is_of_ancestor tables t g = is_public g.access && is_marked (row_of tables.ancestors t) g.thorn

abbrev pub is_of_friend : Tables → ℕ → NamedGroup → Bool
is_of_friend tables t g = is_protected g.access && is_marked (row_of tables.friends t) g.thorn

-- they are those of these thorns
pub record AreOf (thorns : List Thorn) (tables : Tables) : Type 0 where
  pub groups : tables.groups ≡ named_groups thorns
  pub variables : tables.variables ≡ named_variables thorns
  pub tells : IsSightOf thorns (sight_of tables)
  pub few : length tables.variables < 2 ^ 32

-- What a scope is to those who ask it: the thorns, and per thorn which ones provide its ancestors
-- and which provide its friends.
abbrev pub View : Type 0
View = List Thorn × (List (List Bool) × List (List Bool))

abbrev pub thorns_in : View → List Thorn
thorns_in view = view.0

abbrev pub sight_in : View → Sight
sight_in view = record {
  is_ancestor = λ t u. is_marked (row_of view.1.0 t) u;
  is_friend = λ t u. is_marked (row_of view.1.1 t) u;
}
