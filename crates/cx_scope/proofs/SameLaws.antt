-- Groups of the same name.
use Rattle.std.proofs.Common.{◌≡◌, sym, ◌∙◌, ap, ℕ, Bool, true, false, ◌&&◌, List, Option, Some, is_none}
use Rattle.std.proofs.lemmas.Bool.{and_parts}
use Rattle.std.proofs.lemmas.Slice.Eq.{bytes_eq-Decides}
use Rattle.std.specs.List.{position_from}
use Rattle.std.specs.Option.{option_map_or}
use Rattle.std.specs.Str.{bytes_eq}
use Rattle.cx_text.specs.Lexemes.{same_name}
use Rattle.cx_scope.specs.declared.names.NamedGroup.{NamedGroup}
use Rattle.cx_sched.specs.declared.tree.Ref.{Ref}
use Rattle.cx_scope.specs.declared.names.Tier.{Tier}
use Rattle.cx_scope.specs.declared.tables.Tables.{Tables}
use Rattle.cx_scope.specs.Chains.{named_from}
use Rattle.cx_scope.specs.Closures.{sight_of}
use Rattle.cx_scope.specs.Naming.{fits_owner, names_group}
use Rattle.cx_scope.specs.Sight.{is_in}
use Rattle.cx_scope.specs.Tabled.{has_group}
use Rattle.cx_text.specs.Bytes.{folded}

pub at_place : {X : Type 0} (p : X → Bool) (o : Option X) (b c : Bool) → b ≡ option_map_or p o false
    → b ≡ c → (x : X) → o ≡ Some x → p x ≡ c
at_place p o b c is h x e = ap (λ o. option_map_or p o false) (sym e) ∙ sym is ∙ h

pub has_its_name : (tables : Tables) (t : ℕ) (tier : Tier) (r : Ref) (g : NamedGroup)
    → has_group tables t tier r g ≡ true → same_name r.name g.name ≡ true
has_its_name tables t tier r g h =
    let named = (and_parts (is_in (sight_of tables) t tier g) (names_group r g) h).1 in
    let there =
    (and_parts (fits_owner r.owner g) (same_name r.name g.name && is_none r.copy) named).1 in
    (and_parts (same_name r.name g.name) (is_none r.copy) there).0

pub same_next : (a b : List ℕ) (k : ℕ) (gs : List NamedGroup) (o : Option ℕ) → same_name a b ≡ true
    → o ≡ named_from b k gs → o ≡ named_from a k gs
same_next a b k gs o same is =
    is ∙ ap (λ m. position_from (λ (g : NamedGroup). bytes_eq m (folded g.name)) k gs)
    (sym ((bytes_eq-Decides (folded a) (folded b)).0 same))
