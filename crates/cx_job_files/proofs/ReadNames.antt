-- What readers make sure of: the names and levels of what some text spells.
use Rattle.std.proofs.Common.{◌≡◌, refl, sym, ap, subst, ℕ, ◌+◌, ◌^◌, ◌<◌, ◌≤◌, nat_lt, suc, zero, Bool, true, false, cond, List, [], ◌∷◌, ◌++◌, length, map, take, drop, get_or, Option, Some, None, Result, Ok, Err, codes, arith}
use Rattle.std.specs.Prelude.{All, IfOk, IfSome, ◌||◌, find, count_by, position}
use Rattle.std.specs.List.{AllByRecursion, list_all, list_any, flat_map, enumerate_from, range_with_len}
use Rattle.std.specs.Char.{is_ascii_digit}
use Rattle.std.specs.Fmt.{decimal}
use Rattle.std.proofs.lemmas.Bool.{eqb-false, and_parts}
use Rattle.std.proofs.lemmas.List.{length-append}
use Rattle.std.proofs.lemmas.List.Elements.{All-nil, All-cons, All-head, All-tail, All-append, All-drop, All-map, All-push, All-get_or, All-weaker, All-from_recursion}
use Rattle.cx_text.specs.declared.token.Token.{Token}
use Rattle.cx_text.specs.declared.token.Style.TheVariants.{Ccl, Thorns}
use Rattle.cx_text.specs.declared.fault.CclFault.{CclFault}
use Rattle.cx_text.specs.Tokens.{is_word}
use Rattle.cx_text.specs.Grammar.{Grammar, ReadsBy, Spells}
use Rattle.cx_text.specs.Printing.{HasText}
use Rattle.cx_text.specs.Rules.{one_line_end}
use Rattle.cx_text.proofs.Holds.{Holds, holds_any, holds_also, holds_nothing, holds_token, holds_loop, spelled_holds, each-append}
use Rattle.cx_parfile.proofs.NumberLaws.{decimal_digits}
use Rattle.cx_plan.specs.Lists.{all_ok, with_next}
use Rattle.cx_plan.specs.Names.{full_name, bracketed}
use Rattle.cx_plan.specs.Whole.{IsName}
use Rattle.cx_plan.specs.declared.variable.VarInfo.{VarInfo}
use Rattle.cx_iface.specs.declared.tree.Access.{Access}
use Rattle.cx_iface.specs.declared.tree.Access.TheVariants.{Public, Protected, Private}
use Rattle.cx_iface.specs.declared.tree.Group.{Group}
use Rattle.cx_iface.specs.declared.tree.Interface.{Interface}
use Rattle.cx_iface.specs.File.{interface}
use Rattle.cx_iface.proofs.PrintLaws.{CopiesFit}
use Rattle.cx_iface.proofs.FileAgain.{FitsGroup}
use Rattle.cx_iface.proofs.FitLaws.{fits}
use Rattle.cx_iface.proofs.ShownLaws.{IsPrintable, ShownGroup, shown}
use Rattle.cx_conf.specs.declared.thorn_list.ThornList.{ThornList}
use Rattle.cx_conf.specs.Thorns.{Place, is_empty, names_at, parted, place_in, place_of, line, thorn_list}
use Rattle.cx_bind.specs.declared.thorns.Thorn.{Thorn}
use Rattle.cx_bind.specs.declared.thorns.BindFault.{BindFault}
use Rattle.cx_bind.specs.Selecting as selection
use Rattle.cx_bind.specs.Variables.{OwnedGroup, Variable, groups_of, owned_groups, owner_by, copies, variables_in, variables, with_copy, variable_info, variable_infos}
use Rattle.cx_job_files.specs.declared.fault.ConfigFault.{ConfigFault}
use Rattle.cx_job_files.specs.declared.reading.ThornFiles.{ThornFiles}
use Rattle.cx_job_files.specs.Reading.{IsTree}
use Rattle.cx_job_files.specs.NamesAndLevels.{IsReadGroup, HasNames, IsReadThorn, AreNamed, SayRead, AreRead}
use Rattle.cx_job_files.proofs.WordLaws.{IsNameByte, NamedWord, digit, printed_named, all_named, unmarked_named}
use Rattle.cx_text.specs.Bytes.{is_slash}

-- ---- what is read of tokens

-- what holds of each value that they spell
pub tree_read : {A : Type 0} (S : Grammar A) (P : A → Type 0) (name : List ℕ) (ts : List Token)
    (read : Result A CclFault) (result : Result A ConfigFault) → ((x : A) → Spells S ts x → P x)
    → ReadsBy S (λ x. x) ts read → IsTree name read result → IfOk result P
tree_read S P name ts (Ok x) result each answers is =
    subst (λ r. IfOk r P) (sym is) (each x answers)
tree_read S P name ts (Err fault) result each answers is = subst (λ r. IfOk r P) (sym is.1) tt

-- ---- names of names

-- behind a name
longer_name : (a b : List ℕ) → IsName a → All IsNameByte b → IsName (a ++ b)
longer_name a b n h = (
  let l = n.0 in let e = length-append a b in
      omega (arith, l, e),
  All-append IsNameByte a b n.1 h,
)

colons : All IsNameByte (codes "::")
colons = All-cons IsNameByte 58 (58 ∷ []) (omega arith, omega arith)
    (All-cons IsNameByte 58 [] (omega arith, omega arith) (All-nil IsNameByte))

opening : All IsNameByte (codes "[")
opening = All-cons IsNameByte 91 [] (omega arith, omega arith) (All-nil IsNameByte)

closing : All IsNameByte (codes "]")
closing = All-cons IsNameByte 93 [] (omega arith, omega arith) (All-nil IsNameByte)

digits : (bs : List ℕ) → list_all is_ascii_digit bs ≡ true → All IsNameByte bs
digits [] e = All-nil IsNameByte
digits (b ∷ bs) e =
    let k = and_parts (is_ascii_digit b) (list_all is_ascii_digit bs) e in
    All-cons IsNameByte b bs (digit b k.0) (digits bs k.1)

full_named : (owner name : List ℕ) → IsName owner → IsName name → IsName (full_name owner name)
full_named owner name h n =
    longer_name (owner ++ codes "::") name (longer_name owner (codes "::") h colons) n.1

bracketed_named : (name : List ℕ) (k : ℕ) → k < 2 ^ 64 → IsName name → IsName (bracketed name k)
bracketed_named name k small n =
    longer_name ((name ++ codes "[") ++ decimal k) (codes "]")
    (longer_name (name ++ codes "[") (decimal k) (longer_name name (codes "[") n opening)
    (digits (decimal k) (decimal_digits k small))) closing

-- ---- interfaces

shown_names : (ns : List (List ℕ)) → AllByRecursion IsPrintable ns → All IsName ns
shown_names [] h = All-nil IsName
shown_names (n ∷ ns) h = All-cons IsName n ns (printed_named n h.0) (shown_names ns h.1)

few_copies : (k : Option ℕ) → CopiesFit k → IfSome k (λ n. n ≤ 64)
few_copies None h = tt
few_copies (Some k) h = h.1

groups_read : (gs : List Group) → AllByRecursion FitsGroup gs → AllByRecursion ShownGroup gs
    → All IsReadGroup gs
groups_read [] f s = All-nil IsReadGroup
groups_read (g ∷ gs) f s =
    All-cons IsReadGroup g gs
    (record {
      variables = shown_names g.variables s.0.variables;
      levels = f.0.effects.levels.1;
      copies = few_copies g.copies f.0.copies;
    })
    (groups_read gs f.1 s.1)

-- an interface that some text spells
pub interface_named : (ts : List Token) (i : Interface) → HasText Ccl ts → Spells interface ts i
    → HasNames i
interface_named ts i (bytes, spelling) spelled =
    let f = fits ts i spelled in
    let s = shown bytes ts i spelling spelled in
    record {
      implements = printed_named i.implements s.implements;
      groups = groups_read i.groups f.groups s.groups;
    }

-- ---- lists of thorns

abbrev pub IsNamedPlace : Place → Type 0
IsNamedPlace p = IsName p.1

one_or_more : (k : ℕ) → (k ≡ 0 → ⊥) → 1 ≤ k
one_or_more zero some = absurd (some refl)
one_or_more (suc k) some = omega arith

-- what stands behind the slash is a name
behind_slash : (text : List ℕ) (i : ℕ) (p : Place) → IsName text → names_at text i ≡ Some p
    → IsNamedPlace p
behind_slash text i p n e =
    by (is_empty (take i text)) (is_empty (drop (i + 1) text))
    (list_any is_slash (drop (i + 1) text)) refl e
  where
    name : List ℕ
    name = drop (i + 1) text

    by : (a b c : Bool) → is_empty name ≡ b
        → cond (a || b || c) None (Some (take i text, name)) ≡ Some p → IsNamedPlace p
    by true b c empty e = absurd cc
    by false true c empty e = absurd cc
    by false false true empty e = absurd cc
    by false false false empty e =
        let same : (take i text, name) ≡ p = cc in
        let some : length name ≡ 0 → ⊥ = eqb-false (length name) 0 empty in
        subst IsNamedPlace same
        (one_or_more (length name) some, All-drop IsNameByte (i + 1) text n.1)

parted_named : (text : List ℕ) (at : Option ℕ) (p : Place) → IsName text → parted text at ≡ Some p
    → IsNamedPlace p
parted_named text None p n e = absurd cc
parted_named text (Some i) p n e = behind_slash text i p n e

place_named : (t : Token) (p : Place) → NamedWord t → place_of t ≡ Some p → IsNamedPlace p
place_named t p named e = by (is_word t) refl e
  where
    by : (b : Bool) → is_word t ≡ b → cond b (place_in t.text) None ≡ Some p → IsNamedPlace p
    by true w e = parted_named t.text (position is_slash t.text) p (named w) e
    by false w e = absurd cc

list_named : Holds NamedWord thorn_list (λ n l. AllByRecursion IsNamedPlace l.places)
list_named =
    holds_also (holds_loop {r = line} (λ s. AllByRecursion IsNamedPlace s.places)
    (λ s h.
    holds_also (holds_token {P = λ n p. IsNamedPlace p} (λ t p named v m. place_named t p named v))
    (λ n p q.
    holds_also (holds_any (one_line_end tt)) (λ m u r.
    holds_nothing (λ k. each-append IsNamedPlace s.places (p ∷ []) h (q, tt)))))
    tt) (λ n s h. holds_nothing (λ k. h))

-- a list of thorns that some text spells
pub places_named : (ts : List Token) (l : ThornList) → HasText Thorns ts
    → Spells thorn_list.derives ts l → AreNamed l.places
places_named ts l text spelled =
    All-from_recursion IsNamedPlace l.places
    (spelled_holds list_named ts l spelled (unmarked_named ts (all_named Thorns ts text)))

-- ---- the places of active thorns

module _ (P : Place → Type 0) where
  found_too : (test : Place → Bool) (places : List Place) (place : Place) → All P places
      → find test places ≡ Some place → P place
  found_too test [] place h e = absurd cc
  found_too test (p ∷ ps) place h e = by (test p) (found_too test ps place (All-tail P p ps h)) e
    where
      by : (b : Bool) → (find test ps ≡ Some place → P place)
          → cond b (Some p) (find test ps) ≡ Some place → P place
      by true later e = let same : p ≡ place = cc in subst P same (All-head P p ps h)
      by false later e = later e

  the_found : (name : List ℕ) (one : Option Place) (several : Bool) (place : Place)
      → selection.the_place name one several ≡ Ok place → one ≡ Some place
  the_found name None several place e = absurd cc
  the_found name (Some p) true place e = absurd cc
  the_found name (Some p) false place e = let same : p ≡ place = cc in ap (λ q. Some q) same

  one_too : (places : List Place) (name : List ℕ) (place : Place) → All P places
      → selection.place_of places name ≡ Ok place → P place
  one_too places name place h e =
      found_too (selection.is_place_of name) places place h
      (the_found name (find (selection.is_place_of name) places)
      (nat_lt 1 (count_by (selection.is_place_of name) places)) place e)

  abbrev Gives : Result Place BindFault → Type 0
  Gives r = (place : Place) → r ≡ Ok place → P place

  all_too : (rs : List (Result Place BindFault)) (found : List Place) → All Gives rs
      → all_ok rs ≡ Ok found → All P found
  all_too [] found h e = let same : [] ≡ found = cc in subst (All P) same (All-nil P)
  all_too (r ∷ rs) found h e = by r (all_ok rs) refl (λ ps. all_too rs ps (All-tail Gives r rs h)) e
    where
      by : (one : Result Place BindFault) (others : Result (List Place) BindFault) → r ≡ one
          → ((ps : List Place) → others ≡ Ok ps → All P ps) → with_next one others ≡ Ok found
          → All P found
      by (Err f) others is later e = absurd cc
      by (Ok p) (Err f) is later e = absurd cc
      by (Ok p) (Ok ps) is later e = let same : p ∷ ps ≡ found = cc in
          subst (All P) same (All-cons P p ps (All-head Gives r rs h p is) (later ps refl))

  -- the active thorns' places are places of the list
  pub selected_too : (list : ThornList) (active : List (List ℕ)) (found : List Place)
      → All P list.places → selection.select list active ≡ Ok found → All P found
  selected_too list active found h e =
      all_too (map (selection.place_of list.places) (selection.chosen active)) found
      (All-map Gives (selection.place_of list.places) (selection.chosen active)
      (λ k d within place same. one_too list.places _ place h same)) e

-- ---- the variables of thorns

module _ {X Y : Type 0} (P : X → Type 0) (Q : Y → Type 0) (f : X → List Y)
    (each : (x : X) → P x → All Q (f x)) where
  flat_too : (xs : List X) → All P xs → All Q (flat_map f xs)
  flat_too [] h = All-nil Q
  flat_too (x ∷ xs) h = All-append Q (f x) (flat_map f xs) (each x (All-head P x xs h))
      (flat_too xs (All-tail P x xs h))

numbered_too : {X : Type 0} (P : X → Type 0) (n : ℕ) (xs : List X) → All P xs
    → All (λ t. P t.1) (enumerate_from n xs)
numbered_too P n [] h = All-nil (λ t. P t.1)
numbered_too P n (x ∷ xs) h =
    All-cons (λ t. P t.1) (n, x) (enumerate_from (n + 1) xs) (All-head P x xs h)
    (numbered_too P (n + 1) xs (All-tail P x xs h))

record IsReadOwned (g : OwnedGroup) : Type 0 where
  thorn : IsReadThorn g.thorn
  group : IsReadGroup g.group

record IsReadVariable (v : Variable) : Type 0 where
  owned : IsReadOwned v.owned
  name : IsName v.name
  copy : IfSome v.copy (λ k. k ≤ 64)

numbers_small : (n m : ℕ) → n + m ≤ 64
    → All (λ o. IfSome o (λ k. k ≤ 64)) (map (λ k. Some k) (range_with_len n m))
numbers_small n zero h = All-nil (λ o. IfSome o (λ k. k ≤ 64))
numbers_small n (suc m) h =
    All-cons (λ o. IfSome o (λ k. k ≤ 64)) (Some n) (map (λ k. Some k) (range_with_len (n + 1) m))
    (omega (arith, h)) (numbers_small (n + 1) m (omega (arith, h)))

copies_small : (o : Option ℕ) → IfSome o (λ n. n ≤ 64)
    → All (λ o. IfSome o (λ k. k ≤ 64)) (copies o)
copies_small None h = All-cons (λ o. IfSome o (λ k. k ≤ 64)) None [] tt
    (All-nil (λ o. IfSome o (λ k. k ≤ 64)))
copies_small (Some n) h = numbers_small 0 n (omega (arith, h))

groups_owned : (t : ℕ × Thorn) → IsReadThorn t.1 → All IsReadOwned (groups_of t)
groups_owned t r =
    All-map IsReadOwned (λ g. record { number = t.0; thorn = t.1; group = g }) t.1.interface.groups
    (All-weaker IsReadGroup (λ g. IsReadOwned (record { number = t.0; thorn = t.1; group = g }))
    (λ g q. record { thorn = r; group = q }) t.1.interface.groups r.interface.groups)

variables_read : (g : OwnedGroup) → IsReadOwned g → All IsReadVariable (variables_in g)
variables_read g r =
    flat_too IsName IsReadVariable
    (λ name. map (λ copy. record { owned = g; name = name; copy = copy })
    (copies g.group.copies))
    (λ name n.
    All-map IsReadVariable (λ copy. record { owned = g; name = name; copy = copy })
    (copies g.group.copies)
    (All-weaker (λ o. IfSome o (λ k. k ≤ 64))
    (λ copy. IsReadVariable (record { owned = g; name = name; copy = copy }))
    (λ copy c. record { owned = r; name = n; copy = c }) (copies g.group.copies)
    (copies_small g.group.copies r.group.copies)))
    g.group.variables r.group.variables

all_variables : (thorns : List Thorn) → All IsReadThorn thorns
    → All IsReadVariable (variables thorns)
all_variables thorns h =
    flat_too IsReadOwned IsReadVariable variables_in variables_read (owned_groups thorns)
    (flat_too (λ t. IsReadThorn t.1) IsReadOwned groups_of groups_owned (enumerate_from 0 thorns)
    (numbered_too IsReadThorn 0 thorns h))

owner_named : (a : Access) (t : Thorn) → IsReadThorn t → IsName (owner_by a t)
owner_named Private t r = r.name
owner_named Public t r = r.interface.implements
owner_named Protected t r = r.interface.implements

copy_named : (name : List ℕ) (copy : Option ℕ) → IsName name → IfSome copy (λ k. k ≤ 64)
    → IsName (with_copy name copy)
copy_named name None n h = n
copy_named name (Some k) n h = bracketed_named name k (omega (arith, h)) n

variable_named : (v : Variable) → IsReadVariable v → IsName (variable_info v).full
variable_named v r =
    full_named (owner_by v.owned.group.access v.owned.thorn) (with_copy v.name v.copy)
    (owner_named v.owned.group.access v.owned.thorn r.owned.thorn)
    (copy_named v.name v.copy r.name r.copy)

-- the variables of thorns that were read
pub are_read : (thorns : List Thorn) → All IsReadThorn thorns → AreRead (variable_infos thorns)
are_read thorns h =
    let all = all_variables thorns h in
    record {
      names = All-map (λ (v : VarInfo). IsName v.full) variable_info (variables thorns)
          (All-weaker IsReadVariable (λ v. IsName (variable_info v).full) variable_named
          (variables thorns) all);
      levels = All-map (λ (v : VarInfo). v.levels ≤ 8) variable_info (variables thorns)
          (All-weaker IsReadVariable (λ v. (variable_info v).levels ≤ 8)
          (λ v r. r.owned.group.levels) (variables thorns) all);
    }

-- ---- what the files of several thorns say

pub said_none : (said : List ThornFiles) → said ≡ [] → SayRead said
said_none said none = subst SayRead (sym none) (All-nil (λ (f : ThornFiles). IsReadThorn f.thorn))

-- with those of one thorn more
pub said_too : (places : List Place) (k : ℕ) (place : Place) (said : List ThornFiles)
    (files : ThornFiles) → k < length places → place ≡ get_or places k place
    → (AreNamed places → SayRead said) → (IsName place.1 → IsReadThorn files.thorn)
    → AreNamed places → SayRead (said ++ files ∷ [])
said_too places k place said files within at before one named =
    All-push (λ f. IsReadThorn f.thorn) said files (before named)
    (one (subst IsNamedPlace (sym at) (All-get_or IsNamedPlace places k place within named)))

-- their variables
pub said_read : (said : List ThornFiles) → SayRead said
    → AreRead (variable_infos (map (λ files. files.thorn) said))
said_read said h = are_read (map (λ files. files.thorn) said)
    (All-map IsReadThorn (λ files. files.thorn) said h)
