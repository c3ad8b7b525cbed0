-- A name that is printed is read again, and so are thorns and values.
use Rattle.std.proofs.Common.{◌≡◌, ◌≤◌, ◌+◌, ℕ, nat_eq, ltb, Bool, true, false, not, cond, ◌&&◌, ◌||◌, List, [], ◌∷◌, ◌++◌, length, take, drop, filter, position, Option, Some, None, refl, ap, subst, ◌∙◌, append_assoc, arith}
use Rattle.std.specs.List.{list_all, list_any, slice_split, onto_first, prefix_len, AllByRecursion}
use Rattle.std.specs.Str.{bytes_eq}
use Rattle.std.proofs.lemmas.Bool.{eqb-true, and_parts, lt-ltb, le-ltb, ltb-false, not-true}
use Rattle.std.proofs.lemmas.List.{length-append}
use Rattle.std.proofs.lemmas.List.Folds.{list_any-append}
use Rattle.std.proofs.lemmas.Slice.Eq.{bytes_eq-Decides}
use Rattle.std.proofs.Math.Seq.{take-append_seam, drop-append-add}
use Rattle.cx_text.specs.Lexemes.{among}
use Rattle.cx_parfile.specs.Values.{Named, PARFILE, is_name_byte, is_empty, is_name, is_colon, owned, named_at, named_in, value_in, is_separator, thorns_in, activate, activate_all}
use Rattle.cx_parfile.specs.ParFile.{is_long}
use Rattle.cx_parfile.specs.Printed.{full_name, joined}
use Rattle.cx_text.proofs.Holds.{each-append}

pub or_false : (a b : Bool) → a || b ≡ false → (a ≡ false) × (b ≡ false)
or_false true b e = absurd cc
or_false false b e = (refl, e)

or_right : (a b : Bool) → b ≡ true → a || b ≡ true
or_right true b e = refl
or_right false b e = e

-- ---- names

abbrev pub OwnerIs : Option (List ℕ) → Type 0
OwnerIs None = Unit {0}
OwnerIs (Some owner) = is_name owner ≡ true

no_colon_if : (t : Bool) (b : ℕ) → nat_eq b 58 ≡ t → is_name_byte b ≡ true → t ≡ false
no_colon_if true b e h =
    absurd (let k : is_name_byte 58 ≡ true =
    subst (λ (c : ℕ). is_name_byte c ≡ true) (eqb-true b 58 e) h in cc)
no_colon_if false b e h = refl

no_colon : (b : ℕ) → is_name_byte b ≡ true → is_colon b ≡ false
no_colon b h = no_colon_if (nat_eq b 58) b refl h

abbrev no_colons : List ℕ → ℕ
no_colons text = prefix_len (λ b. not (is_colon b)) text

colon_behind : (owner rest : List ℕ) → list_all is_name_byte owner ≡ true
    → no_colons (owner ++ 58 ∷ rest) ≡ length owner
colon_behind [] rest h = refl
colon_behind (b ∷ bs) rest h =
    let k = and_parts (is_name_byte b) (list_all is_name_byte bs) h in
    let more = colon_behind bs rest k.1 in
    rw (no_colon b k.0, more) (omega arith)

colon_none : (name : List ℕ) → list_all is_name_byte name ≡ true → no_colons name ≡ length name
colon_none [] h = refl
colon_none (b ∷ bs) h =
    let k = and_parts (is_name_byte b) (list_all is_name_byte bs) h in
    let more = colon_none bs k.1 in
    rw (no_colon b k.0, more) (omega arith)

position_behind : (owner rest : List ℕ) → list_all is_name_byte owner ≡ true
    → position is_colon (owner ++ 58 ∷ rest) ≡ Some (length owner)
position_behind owner rest h =
    let at = colon_behind owner rest h in
    let below : ltb (length owner) (length (owner ++ 58 ∷ rest)) ≡ true = let l =
    length-append owner (58 ∷ rest) in lt-ltb _ _ (omega (arith, l)) in
    rw (at, below) refl

position_none : (name : List ℕ) → list_all is_name_byte name ≡ true → position is_colon name ≡ None
position_none name h =
    let at = colon_none name h in
    let above : ltb (length name) (length name) ≡ false = le-ltb _ _ (omega arith) in
    rw (at, above) refl

pub name_bytes : (name : List ℕ) → is_name name ≡ true → list_all is_name_byte name ≡ true
name_bytes name h = (and_parts (not (is_empty name)) (list_all is_name_byte name) h).1

pub name_full : (name : List ℕ) → is_name name ≡ true → is_empty name ≡ false
name_full name h = not-true (is_empty name)
    (and_parts (not (is_empty name)) (list_all is_name_byte name) h).0

pub named_again : (owner : Option (List ℕ)) (name : List ℕ) → OwnerIs owner → is_name name ≡ true
    → named_in (full_name owner name) ≡ Some (owner, name)
named_again None name o h =
    ap (named_at name) (position_none name (name_bytes name h))
    ∙ ap (λ (b : Bool). cond b (Some (None, name)) None) h
named_again (Some owner) name o h =
    let front : take (length owner) (owner ++ 58 ∷ 58 ∷ name) ≡ owner =
    take-append_seam owner (58 ∷ 58 ∷ name) in
    let back : drop (length owner + 1) (owner ++ 58 ∷ 58 ∷ name) ≡ 58 ∷ name =
    drop-append-add owner (58 ∷ 58 ∷ name) 1 in
    ap (named_at (owner ++ 58 ∷ 58 ∷ name)) (position_behind owner (58 ∷ name) (name_bytes owner o))
    ∙ rw (front, back) (ap (λ (b : Bool). cond (b && is_name name) (Some (Some owner, name)) None) o
    ∙ ap (λ (b : Bool). cond b (Some (Some owner, name)) None) h)

abbrev NamedIs : Named → Type 0
NamedIs n = OwnerIs n.0 × (is_name n.1 ≡ true)

alone_if : (b : Bool) (text : List ℕ) (n : Named) → is_name text ≡ b
    → cond b (Some (None, text)) None ≡ Some n → NamedIs n
alone_if true text n e h = let same : (None, text) ≡ n = cc in subst NamedIs same (tt, e)
alone_if false text n e h = absurd cc

owned_if : (b : Bool) (owner name : List ℕ) (n : Named) → is_name owner && is_name name ≡ b
    → cond b (Some (Some owner, name)) None ≡ Some n → NamedIs n
owned_if true owner name n e h = let same : (Some owner, name) ≡ n = cc in
    subst NamedIs same (and_parts (is_name owner) (is_name name) e)
owned_if false owner name n e h = absurd cc

colon_if : (c b : Bool) (owner name : List ℕ) (n : Named) → is_name owner && is_name name ≡ b
    → cond (c && b) (Some (Some owner, name)) None ≡ Some n → NamedIs n
colon_if true b owner name n e h = owned_if b owner name n e h
colon_if false b owner name n e h = absurd cc

owned_is : (owner rest : List ℕ) (n : Named) → owned owner rest ≡ Some n → NamedIs n
owned_is owner [] n h = absurd cc
owned_is owner (b ∷ name) n h =
    colon_if (is_colon b) (is_name owner && is_name name) owner name n refl h

at_is : (text : List ℕ) (i : Option ℕ) (n : Named) → named_at text i ≡ Some n → NamedIs n
at_is text None n h = alone_if (is_name text) text n refl h
at_is text (Some i) n h = owned_is (take i text) (drop (i + 1) text) n h

pub named_is : (text : List ℕ) (n : Named) → named_in text ≡ Some n
    → OwnerIs n.0 × (is_name n.1 ≡ true)
named_is text n h = at_is text (position is_colon text) n h

-- ---- values

again_if : (t u : Bool) (base text : List ℕ) → bytes_eq text PARFILE ≡ t → bytes_eq base PARFILE ≡ u
    → value_in base (cond t base text) ≡ cond t base text
again_if true true base text e f = rw f refl
again_if true false base text e f = rw f refl
again_if false u base text e f = rw e refl

-- a value stands for itself
pub value_again : (base text : List ℕ) → value_in base (value_in base text) ≡ value_in base text
value_again base text = again_if (bytes_eq text PARFILE) (bytes_eq base PARFILE) base text refl refl

parfile_if : (t : Bool) (text : List ℕ) → bytes_eq text PARFILE ≡ t
    → list_any is_separator text ≡ true → t ≡ false
parfile_if true text e h =
    absurd (let k : list_any is_separator PARFILE ≡ true =
    subst (λ (bs : List ℕ). list_any is_separator bs ≡ true) ((bytes_eq-Decides text PARFILE).0 e)
    h in cc)
parfile_if false text e h = refl

pub separated_value : (base text : List ℕ) → list_any is_separator text ≡ true
    → value_in base text ≡ text
separated_value base text h = let other : bytes_eq text PARFILE ≡ false =
    parfile_if (bytes_eq text PARFILE) text refl h in rw other refl

-- ---- thorns

pub record IsThorn (n : List ℕ) : Type 0 where
  pub full : is_empty n ≡ false
  pub whole : list_any is_separator n ≡ false
  pub short : length n ≤ 64

split_behind : (n rest : List ℕ) → list_any is_separator n ≡ false
    → slice_split is_separator (n ++ 32 ∷ rest) ≡ n ∷ slice_split is_separator rest
split_behind [] rest h = refl
split_behind (b ∷ bs) rest h =
    let k = or_false (is_separator b) (list_any is_separator bs) h in
    ap (λ (t : Bool). cond t ([] ∷ slice_split is_separator (bs ++ 32 ∷ rest))
    (onto_first b (slice_split is_separator (bs ++ 32 ∷ rest)))) k.0
    ∙ ap (onto_first b) (split_behind bs rest k.1)

abbrev is_full : List ℕ → Bool
is_full n = not (is_empty n)

pub thorns_again : (ns : List (List ℕ)) → AllByRecursion IsThorn ns → thorns_in (joined ns) ≡ ns
thorns_again [] h = refl
thorns_again (n ∷ ns) h =
    let parts : joined (n ∷ ns) ≡ n ++ 32 ∷ joined ns = append_assoc n (32 ∷ []) (joined ns) in
    ap thorns_in parts
    ∙ ap (filter is_full) (split_behind n (joined ns) h.0.whole)
    ∙ ap (λ (t : Bool). cond (not t) (n ∷ thorns_in (joined ns)) (thorns_in (joined ns))) h.0.full
    ∙ ap (λ (ms : List (List ℕ)). n ∷ ms) (thorns_again ns h.1)

pub joined_separated : (n : List ℕ) (ns : List (List ℕ))
    → list_any is_separator (joined (n ∷ ns)) ≡ true
joined_separated n ns =
    let parts : joined (n ∷ ns) ≡ n ++ 32 ∷ joined ns = append_assoc n (32 ∷ []) (joined ns) in
    ap (list_any is_separator) parts ∙ list_any-append is_separator n (32 ∷ joined ns)
    ∙ or_right (list_any is_separator n) true refl

pub none_long : (ns : List (List ℕ)) → AllByRecursion IsThorn ns → list_any is_long ns ≡ false
none_long [] h = refl
none_long (n ∷ ns) h = let short : ltb 64 (length n) ≡ false = le-ltb _ _ h.0.short in
    rw short (none_long ns h.1)

abbrev IsPart : List ℕ → Type 0
IsPart n = list_any is_separator n ≡ false

first_part : (b : ℕ) (parts : List (List ℕ)) → is_separator b ≡ false → AllByRecursion IsPart parts
    → AllByRecursion IsPart (onto_first b parts)
first_part b [] e h = (rw e refl, tt)
first_part b (n ∷ ns) e h = (rw e h.0, h.1)

part_if : (t : Bool) (b : ℕ) (parts : List (List ℕ)) → is_separator b ≡ t
    → AllByRecursion IsPart parts → AllByRecursion IsPart (cond t ([] ∷ parts) (onto_first b parts))
part_if true b parts e h = (refl, h)
part_if false b parts e h = first_part b parts e h

parts_are : (text : List ℕ) → AllByRecursion IsPart (slice_split is_separator text)
parts_are [] = (refl, tt)
parts_are (b ∷ bs) = part_if (is_separator b) b (slice_split is_separator bs) refl (parts_are bs)

abbrev Short : List ℕ → Type 0
Short n = ltb 64 (length n) ≡ false

thorn_if : (t : Bool) (n : List ℕ) (ns : List (List ℕ)) → is_empty n ≡ t → IsPart n
    → (list_any is_long ns ≡ false → AllByRecursion IsThorn ns)
    → list_any is_long (cond (not t) (n ∷ ns) ns) ≡ false
    → AllByRecursion IsThorn (cond (not t) (n ∷ ns) ns)
thorn_if true n ns e p more h = more h
thorn_if false n ns e p more h = let k = or_false (is_long n) (list_any is_long ns) h in
    (record { full = e; whole = p; short = ltb-false 64 (length n) k.0 }, more k.1)

full_parts : (parts : List (List ℕ)) → AllByRecursion IsPart parts
    → list_any is_long (filter is_full parts) ≡ false
    → AllByRecursion IsThorn (filter is_full parts)
full_parts [] p h = tt
full_parts (n ∷ ns) p h = thorn_if (is_empty n) n (filter is_full ns) refl p.0 (full_parts ns p.1) h

pub thorns_are : (text : List ℕ) → list_any is_long (thorns_in text) ≡ false
    → AllByRecursion IsThorn (thorns_in text)
thorns_are text h = full_parts (slice_split is_separator text) (parts_are text) h

-- ---- active thorns

active_if : (t : Bool) (active : List (List ℕ)) (n : List ℕ) → AllByRecursion IsThorn active
    → IsThorn n → AllByRecursion IsThorn (cond t active (active ++ n ∷ []))
active_if true active n h k = h
active_if false active n h k = each-append IsThorn active (n ∷ []) h (k, tt)

pub active_are : (active ns : List (List ℕ)) → AllByRecursion IsThorn active
    → AllByRecursion IsThorn ns → AllByRecursion IsThorn (activate_all active ns)
active_are active [] h k = h
active_are active (n ∷ ns) h k =
    active_are (activate active n) ns (active_if (among active n) active n h k.0) k.1

activate_all-push : (active ns : List (List ℕ)) (n : List ℕ)
    → activate_all active (ns ++ n ∷ []) ≡ activate (activate_all active ns) n
activate_all-push active [] n = refl
activate_all-push active (m ∷ ns) n = activate_all-push (activate active m) ns n

-- each is named once
abbrev pub Once : List (List ℕ) → Type 0
Once active = activate_all [] active ≡ active

once_if : (t : Bool) (active : List (List ℕ)) (n : List ℕ) → among active n ≡ t → Once active
    → Once (cond t active (active ++ n ∷ []))
once_if true active n e h = h
once_if false active n e h =
    activate_all-push [] active n ∙ ap (λ (ms : List (List ℕ)). activate ms n) h
    ∙ ap (λ (t : Bool). cond t active (active ++ n ∷ [])) e

pub once_still : (active ns : List (List ℕ)) → Once active → Once (activate_all active ns)
once_still active [] h = h
once_still active (n ∷ ns) h =
    once_still (activate active n) ns (once_if (among active n) active n refl h)
