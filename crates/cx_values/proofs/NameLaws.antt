-- Tables of names.
use Rattle.std.proofs.Common.{◌≡◌, refl, sym, ◌∙◌, ap, ℕ, ◌+◌, ◌<◌, Bool, true, false, true≢false, List, [], ◌∷◌, ◌++◌, length, take, get_or, find, Option, Some, None, cond, if◌then◌else◌}
use Rattle.std.proofs.lemmas.Slice.Eq.{bytes_eq-Decides}
use Rattle.std.specs.Bool.{one_answer}
use Rattle.std.specs.List.{enumerate_from}
use Rattle.std.specs.Map.{lookup}
use Rattle.std.specs.Option.{option_map, is_some}
use Rattle.std.specs.Str.{bytes_eq}
use Rattle.cx_text.specs.Lexemes.{same_name}
use Rattle.cx_plan.specs.Lists.{or_else}
use Rattle.cx_bind.specs.declared.thorns.Thorn.{Thorn}
use Rattle.cx_bind.specs.declared.thorns.Param.{Param}
use Rattle.cx_bind.specs.NamePlaces.{place_of}
use Rattle.cx_values.specs.declared.naming.Way.{Way}
use Rattle.cx_values.specs.declared.naming.Way.TheVariants.{Full, GlobalOfThorn, Alone, RestrictedOfThorn}
use Rattle.cx_values.specs.Naming.{Naming, named_in, naming_of, name_by, naming, namings_by, Adds, names_by}
use Rattle.cx_values.proofs.Along.{flat_numbered}
use Rattle.cx_text.specs.Bytes.{folded}

or_none : {X : Type 0} (o : Option X) → or_else o None ≡ o
or_none (Some x) = refl
or_none None = refl

or_assoc : {X : Type 0} (o p q : Option X) → or_else (or_else o p) q ≡ or_else o (or_else p q)
or_assoc (Some x) p q = refl
or_assoc None p q = refl

-- ---- what some names name

abbrev number : Naming → ℕ
number n = n.1

one_named : (n : Naming) (o p q : Option Naming) (b : Bool)
    → option_map number o ≡ or_else (option_map number p) (option_map number q)
    → option_map number (cond b (Some n) o)
    ≡ or_else (option_map number (cond b (Some n) p)) (option_map number q)
one_named n o p q true h = refl
one_named n o p q false h = h

named_more : (ns ms : List Naming) (name : List ℕ)
    → named_in (ns ++ ms) name ≡ or_else (named_in ns name) (named_in ms name)
named_more [] ms name = refl
named_more (n ∷ ns) ms name =
    one_named n (find (λ n. same_name n.0 name) (ns ++ ms)) (find (λ n. same_name n.0 name) ns)
    (find (λ n. same_name n.0 name) ms) (same_name n.0 name) (named_more ns ms name)

-- ---- tables

abbrev pub Table : Type 0
Table = List (List ℕ × ℕ)

pub adds_none : (old : Table) → Adds [] old old
adds_none old = λ name. sym (or_none (place_of old name))

pub adds_both : (ns ms : List Naming) (old mid new : Table) → Adds ns old mid → Adds ms mid new
    → Adds (ns ++ ms) old new
adds_both ns ms old mid new first second = λ name.
    second name
    ∙ ap (λ o. or_else o (named_in ms name)) (first name)
    ∙ or_assoc (place_of old name) (named_in ns name) (named_in ms name)
    ∙ ap (λ o. or_else (place_of old name) o) (sym (named_more ns ms name))

bytes_eq_sym : (a b : List ℕ) → bytes_eq a b ≡ bytes_eq b a
bytes_eq_sym a b = one_answer (bytes_eq a b) (bytes_eq b a) (bytes_eq-Decides a b)
    ((λ h. sym ((bytes_eq-Decides b a).0 h)), (λ e. (bytes_eq-Decides b a).1 (sym e)))

same_place : (old : Table) (a b : List ℕ) → same_name a b ≡ true → place_of old b ≡ place_of old a
same_place old a b h = ap (λ n. lookup (bytes_eq n) old)
    (sym ((bytes_eq-Decides (folded a) (folded b)).0 h))

kept : (o : Option ℕ) (n : Naming) (b : Bool) → (b ≡ true → is_some o ≡ true)
    → o ≡ or_else o (option_map number (cond b (Some n) None))
kept (Some x) n b h = refl
kept None n true h = absurd (true≢false (sym (h refl)))
kept None n false h = refl

-- a name that has a place keeps it
pub adds_known : (old : Table) (name : List ℕ) (place : ℕ) → is_some (place_of old name) ≡ true
    → Adds ((name, place) ∷ []) old old
adds_known old name place h = λ other.
    kept (place_of old other) (name, place) (same_name name other)
    (λ same. ap (λ o. is_some o) (same_place old name other same) ∙ h)

put : (o : Option ℕ) (n : Naming) (c b : Bool) → c ≡ b → (b ≡ true → o ≡ None)
    → (if c then Some n.1 else o) ≡ or_else o (option_map number (cond b (Some n) None))
put o n true true e h = ap (λ o. or_else o (Some n.1)) (sym (h refl))
put o n false false e h = sym (or_none o)
put o n true false e h = absurd (true≢false e)
put o n false true e h = absurd (true≢false (sym e))

pub adds_new : (old new : Table) (name : List ℕ) (place : ℕ) → place_of old name ≡ None
    → ((other : List ℕ) → place_of new other
    ≡ (if same_name other name then Some place else place_of old other))
    → Adds ((name, place) ∷ []) old new
adds_new old new name place none is = λ other.
    is other
    ∙ put (place_of old other) (name, place) (same_name other name) (same_name name other)
    (bytes_eq_sym (folded other) (folded name)) (λ same. same_place old name other same ∙ none)

-- ---- along parameters

pub one_named_more : (thorns : List Thorn) (way : Way) (ps : List Param) (k : ℕ) (p : Param)
    (old mid new : Table) → k < length ps → p ≡ get_or ps k p
    → Adds (namings_by thorns (enumerate_from 0 (take k ps)) way) old mid
    → Adds (naming_of k (name_by thorns way p)) mid new
    → Adds (namings_by thorns (enumerate_from 0 (take (k + 1) ps)) way) old new
one_named_more thorns way ps k p old mid new within at before after = λ name.
    adds_both (namings_by thorns (enumerate_from 0 (take k ps)) way)
    (naming_of k (name_by thorns way p)) old mid new before after name
    ∙ ap (λ ns. or_else (place_of old name) (named_in ns name))
    (sym (flat_numbered ps k p within at (naming thorns way)))

pub all_named : (thorns : List Thorn) (ps : List Param) (none a b c d : Table) → none ≡ []
    → Adds (namings_by thorns (enumerate_from 0 ps) Full) none a
    → Adds (namings_by thorns (enumerate_from 0 ps) GlobalOfThorn) a b
    → Adds (namings_by thorns (enumerate_from 0 ps) Alone) b c
    → Adds (namings_by thorns (enumerate_from 0 ps) RestrictedOfThorn) c d
    → (name : List ℕ) → place_of d name ≡ names_by thorns ps name
all_named thorns ps none a b c d empty full global alone restricted = λ name.
    adds_both (namings_by thorns (enumerate_from 0 ps) Full)
    (namings_by thorns (enumerate_from 0 ps) GlobalOfThorn
    ++ (namings_by thorns (enumerate_from 0 ps) Alone
    ++ namings_by thorns (enumerate_from 0 ps) RestrictedOfThorn)) none a d full
    (adds_both (namings_by thorns (enumerate_from 0 ps) GlobalOfThorn)
    (namings_by thorns (enumerate_from 0 ps) Alone
    ++ namings_by thorns (enumerate_from 0 ps) RestrictedOfThorn) a b d global
    (adds_both (namings_by thorns (enumerate_from 0 ps) Alone)
    (namings_by thorns (enumerate_from 0 ps) RestrictedOfThorn) b c d alone restricted))
    name
    ∙ ap (λ t. or_else (place_of t name) (names_by thorns ps name)) empty
