-- Declarations that are printed are read again.
use Rattle.std.proofs.Common.{◌⊎◌, inl, inr, ◌≡◌, ◌<◌, ◌-◌, ℕ, nat_eq, Bool, true, false, List, [], ◌∷◌, ◌++◌, codes, Option, Some, None, Ok, refl, sym, ap, ◌∙◌, append_assoc, arith}
use Rattle.std.specs.List.{AllByRecursion}
use Rattle.std.proofs.lemmas.Bool.{ne_eqb, le-ltb}
use Rattle.std.proofs.lemmas.List.{append-nil}
use Rattle.cx_text.specs.declared.token.Token.{Token}
use Rattle.cx_text.specs.declared.token.Style.TheVariants.{Ccl}
use Rattle.cx_text.specs.Tokens.{is_line_end}
use Rattle.cx_text.specs.Grammar.{head, passes}
use Rattle.cx_text.specs.Reading.{go_on}
use Rattle.cx_text.specs.Rules.{loop, is_sign}
use Rattle.cx_text.specs.Lexemes.{is_quoted}
use Rattle.cx_text.specs.Written.{word, sign, line_end}
use Rattle.cx_text.specs.Printing.{printed_from, spelling, gap}
use Rattle.cx_text.proofs.PrintLaws.{Printable, AllPrintable, WellEnded, printable_end}
use Rattle.cx_text.proofs.WrittenLaws.{printable-append, unlined-append}
use Rattle.cx_text.proofs.Blind.{unlined}
use Rattle.cx_text.proofs.Holds.{each-append}
use Rattle.cx_text.proofs.Printing.{loop_step, no_skip, one_skip, IsShortName}
use Rattle.cx_param.specs.declared.declarations.PType.{PType}
use Rattle.cx_param.specs.declared.declarations.PType.TheVariants.{Boolean, Int, Keyword, String, Real}
use Rattle.cx_param.specs.declared.declarations.Scope.{Scope}
use Rattle.cx_param.specs.declared.declarations.Scope.TheVariants as scopes
use Rattle.cx_param.specs.declared.declarations.Steer.{Steer}
use Rattle.cx_param.specs.declared.declarations.Steer.TheVariants.{Never, Always, Recover}
use Rattle.cx_param.specs.declared.declarations.ParamDecl.{ParamDecl}
use Rattle.cx_param.specs.declared.ranges.Range.{Range}
use Rattle.cx_param.specs.declared.params.Access.{Access}
use Rattle.cx_param.specs.declared.params.Access.TheVariants.{Private, Restricted, Global, Shares}
use Rattle.cx_param.specs.declared.params.Read.{Read}
use Rattle.cx_param.specs.Numbers.{begins_number}
use Rattle.cx_param.specs.Blocks.{block}
use Rattle.cx_param.specs.Headings.{ptype, heading}
use Rattle.cx_param.specs.Defaults.{default_of, unused_default}
use Rattle.cx_param.specs.Params.{decl, shared_scope, shared_ranges, shared, declared, is_access, is_entry, entry}
use Rattle.cx_param.specs.Printed as printed
use Rattle.cx_param.proofs.ParamLaws.{entry_short}
use Rattle.cx_param.proofs.NumberAgain.{Skips, none_skipped, one_skipped}
use Rattle.cx_param.proofs.TokenLaws.{InLine, all_printable, all_end, all_same, a_name, a_word, a_sign, a_number}
use Rattle.cx_param.proofs.BlockAgain.{BlockFits, block_tokens, block_again, block_stands}
use Rattle.cx_param.proofs.HeadingAgain.{LengthFits, AliasFits, named, ptype_again, heading_again}
use Rattle.cx_param.proofs.DefaultAgain.{DefaultFits, DefaultAgain, default_again}

-- ---- what follows a declaration

pub record Next (rest : List Token) : Type 0 where
  pub ended : passes is_line_end (head rest) ≡ false
  pub brace : passes (is_sign 123) (head rest) ≡ false
  pub quoted : passes is_quoted (head rest) ≡ false
  pub number : passes begins_number (head rest) ≡ false

pub nothing_next : Next []
nothing_next = record { ended = refl; brace = refl; quoted = refl; number = refl }

-- ---- tokens ahead of others

-- ahead of lists that are printed alike they are printed alike
ahead_printed : (ts us vs : List Token)
    → ((fresh : Bool) → printed_from fresh us ≡ printed_from fresh vs) → (fresh : Bool)
    → printed_from fresh (ts ++ us) ≡ printed_from fresh (ts ++ vs)
ahead_printed [] us vs h fresh = h fresh
ahead_printed (t ∷ ts) us vs h fresh =
    ap (λ (bytes : List ℕ). (gap fresh t ++ spelling t.kind t.text) ++ bytes)
    (ahead_printed ts us vs h (is_line_end t))

line_printed : (us vs : List Token) → printed_from true us ≡ printed_from true vs → (fresh : Bool)
    → printed_from fresh (line_end ∷ us) ≡ printed_from fresh (line_end ∷ vs)
line_printed us vs h fresh =
    ap (λ (bytes : List ℕ). (gap fresh line_end ++ spelling line_end.kind line_end.text) ++ bytes) h

-- tokens of a line ahead of others
record Ahead (ts : List Token) : Type 0 where
  printable : (us : List Token) → AllPrintable Ccl us → AllPrintable Ccl (ts ++ us)
  ended : (us : List Token) → WellEnded false us → WellEnded false (ts ++ us)
  same : (us : List Token) → unlined us ≡ us → unlined (ts ++ us) ≡ ts ++ us

same_joined : (ts us : List Token) → unlined ts ≡ ts → unlined us ≡ us
    → unlined (ts ++ us) ≡ ts ++ us
same_joined ts us h k = unlined-append ts us ∙ rw (h, k) refl

ahead : (ts : List Token) → AllByRecursion InLine ts → Ahead ts
ahead ts h = record {
  printable = λ us p. printable-append Ccl ts us (all_printable ts h) p;
  ended = λ us e. all_end ts us h e;
  same = λ us s. same_joined ts us (all_same ts h) s;
}

-- ---- heads

-- a name within its limit that can be printed
abbrev pub IsName : List ℕ → Type 0
IsName n = IsShortName n × Printable Ccl (word n)

abbrev pub IsAlias : Option (List ℕ) → Type 0
IsAlias None = Unit {0}
IsAlias (Some n) = IsName n

pub record HeadFits (name : List ℕ) (count : Option ℕ) (alias : Option (List ℕ)) : Type 0 where
  pub named : IsName name
  pub counted : LengthFits count
  pub other : IsAlias alias

short_alias : (a : Option (List ℕ)) → IsAlias a → AliasFits a
short_alias None h = tt
short_alias (Some n) h = h.0

type_in_line : (p : PType) → InLine (word (printed.type_name p))
type_in_line Boolean = a_word 66 (codes "OOLEAN") (λ f. refl) refl
type_in_line Int = a_word 73 (codes "NT") (λ f. refl) refl
type_in_line Keyword = a_word 75 (codes "EYWORD") (λ f. refl) refl
type_in_line String = a_word 83 (codes "TRING") (λ f. refl) refl
type_in_line Real = a_word 82 (codes "EAL") (λ f. refl) refl

steer_in_line : (s : Steer) → InLine (word (printed.steer_name s))
steer_in_line Never = a_word 78 (codes "EVER") (λ f. refl) refl
steer_in_line Always = a_word 65 (codes "LWAYS") (λ f. refl) refl
steer_in_line Recover = a_word 82 (codes "ECOVER") (λ f. refl) refl

length_in_line : (l : Option ℕ) → LengthFits l → AllByRecursion InLine (printed.length l)
length_in_line None h = tt
length_in_line (Some n) h =
    (a_sign 91 (λ f. refl), (a_number n (omega (arith, h.1)), (a_sign 93 (λ f. refl), tt)))

alias_in_line : (a : Option (List ℕ)) → IsAlias a → AllByRecursion InLine (printed.alias a)
alias_in_line None h = tt
alias_in_line (Some n) h = (a_word 65 (codes "S") (λ f. refl) refl, (a_name n h.1, tt))

steering_in_line : (s : Steer) → AllByRecursion InLine (printed.steering s)
steering_in_line s = (
  a_word 83 (codes "TEERABLE") (λ f. refl) refl,
  (a_sign 61 (λ f. refl), (steer_in_line s, tt)),
)

abbrev head_list : PType → List ℕ → Option ℕ → Option (List ℕ) → Steer → List Token
head_list p name l a s =
    word (printed.type_name p) ∷ word name
    ∷ (printed.length l ++ (printed.alias a ++ printed.steering s))

head_in_line : (p : PType) (name : List ℕ) (l : Option ℕ) (a : Option (List ℕ)) (s : Steer)
    → HeadFits name l a → AllByRecursion InLine (head_list p name l a s)
head_in_line p name l a s f = (
  type_in_line p,
  (
    a_name name f.named.1,
    each-append InLine (printed.length l) (printed.alias a ++ printed.steering s)
        (length_in_line l f.counted)
        (each-append InLine (printed.alias a) (printed.steering s) (alias_in_line a f.other)
        (steering_in_line s)),
  ),
)

head_tokens : (p : PType) (name : List ℕ) (l : Option ℕ) (a : Option (List ℕ)) (s : Steer)
    (ts : List Token) → head_list p name l a s ++ ts
    ≡ word (printed.type_name p) ∷ named name l a s ts
head_tokens p name l a s ts = simp append_assoc

-- ---- access lines

abbrev pub IsOwn : Scope → Type 0
IsOwn scopes.Private = Unit {0}
IsOwn scopes.Restricted = Unit {0}
IsOwn scopes.Global = Unit {0}
IsOwn (scopes.Uses n) = ⊥
IsOwn (scopes.Extends n) = ⊥

abbrev pub IsForeign : Scope → Type 0
IsForeign scopes.Private = ⊥
IsForeign scopes.Restricted = ⊥
IsForeign scopes.Global = ⊥
IsForeign (scopes.Uses n) = IsName n
IsForeign (scopes.Extends n) = IsName n

-- an access line that stands ahead of others
record AccessStands (s : Scope) : Type 0 where
  starts : (us : List Token)
      → (passes is_entry (head (printed.access s ++ us)) ≡ true) × Next (printed.access s ++ us)
  printable : (us : List Token) → AllPrintable Ccl us → AllPrintable Ccl (printed.access s ++ us)
  ended : (us : List Token) → WellEnded true us → WellEnded false us
      → WellEnded true (printed.access s ++ us)
  same : (us : List Token) → unlined us ≡ us
      → unlined (printed.access s ++ us) ≡ printed.access s ++ us

private_word : InLine (word (codes "private"))
private_word = a_word 112 (codes "rivate") (λ f. refl) refl

restricted_word : InLine (word (codes "restricted"))
restricted_word = a_word 114 (codes "estricted") (λ f. refl) refl

global_word : InLine (word (codes "global"))
global_word = a_word 103 (codes "lobal") (λ f. refl) refl

shares_word : InLine (word (codes "shares"))
shares_word = a_word 115 (codes "hares") (λ f. refl) refl

uses_word : InLine (word (codes "USES"))
uses_word = a_word 85 (codes "SES") (λ f. refl) refl

extends_word : InLine (word (codes "EXTENDS"))
extends_word = a_word 69 (codes "XTENDS") (λ f. refl) refl

a_colon : Printable Ccl (sign 58)
a_colon = (a_sign 58 (λ f. refl)).printable

next_word : (name : List ℕ) (ts : List Token) → Next (word name ∷ ts)
next_word name ts = record { ended = refl; brace = refl; quoted = refl; number = refl }

access_stands : (s : Scope) → IsOwn s ⊎ IsForeign s → AccessStands s
access_stands scopes.Private h =
    record {
      starts = λ us. (refl, next_word _ _);
      printable = λ us p. (private_word.printable, (a_colon, (printable_end Ccl 0, p)));
      ended = λ us e f. (refl, (refl, (refl, e)));
      same = λ us s. ap (λ (ts : List Token). printed.access scopes.Private ++ ts) s;
    }
access_stands scopes.Restricted h =
    record {
      starts = λ us. (refl, next_word _ _);
      printable = λ us p. (restricted_word.printable, (a_colon, (printable_end Ccl 0, p)));
      ended = λ us e f. (refl, (refl, (refl, e)));
      same = λ us s. ap (λ (ts : List Token). printed.access scopes.Restricted ++ ts) s;
    }
access_stands scopes.Global h =
    record {
      starts = λ us. (refl, next_word _ _);
      printable = λ us p. (global_word.printable, (a_colon, (printable_end Ccl 0, p)));
      ended = λ us e f. (refl, (refl, (refl, e)));
      same = λ us s. ap (λ (ts : List Token). printed.access scopes.Global ++ ts) s;
    }
access_stands (scopes.Uses n) (inl h) = absurd h
access_stands (scopes.Uses n) (inr h) =
    record {
      starts = λ us. (refl, next_word _ _);
      printable = λ us p. (
        shares_word.printable,
        (a_colon, (h.1, (printable_end Ccl 0, (uses_word.printable, p)))),
      );
      ended = λ us e f. (refl, (refl, (refl, (refl, (refl, f)))));
      same = λ us s. ap (λ (ts : List Token). printed.access (scopes.Uses n) ++ ts) s;
    }
access_stands (scopes.Extends n) (inl h) = absurd h
access_stands (scopes.Extends n) (inr h) =
    record {
      starts = λ us. (refl, next_word _ _);
      printable = λ us p. (
        shares_word.printable,
        (a_colon, (h.1, (printable_end Ccl 0, (extends_word.printable, p)))),
      );
      ended = λ us e f. (refl, (refl, (refl, (refl, (refl, f)))));
      same = λ us s. ap (λ (ts : List Token). printed.access (scopes.Extends n) ++ ts) s;
    }

-- the line of one's own parameters, behind which they are declared
record OwnAgain (s : Scope) : Type 0 where
  access : Access
  is : (full : Bool) → (declared access full).reads ≡ (decl s full).reads
  reads : (r : Read) (ts : List Token) → passes is_line_end (head ts) ≡ false
      → (entry r).reads (printed.access s ++ ts) ≡ Ok (record r { access = access }, ts)

own_again : (s : Scope) → IsOwn s → OwnAgain s
own_again scopes.Private h =
    record {
      access = Private;
      is = λ full. refl;
      reads = λ r ts e. rw (no_skip (sign 58 ∷ line_end ∷ ts) refl, one_skip ts e) refl;
    }
own_again scopes.Restricted h =
    record {
      access = Restricted;
      is = λ full. refl;
      reads = λ r ts e. rw (no_skip (sign 58 ∷ line_end ∷ ts) refl, one_skip ts e) refl;
    }
own_again scopes.Global h =
    record {
      access = Global;
      is = λ full. refl;
      reads = λ r ts e. rw (no_skip (sign 58 ∷ line_end ∷ ts) refl, one_skip ts e) refl;
    }
own_again (scopes.Uses n) h = absurd h
own_again (scopes.Extends n) h = absurd h

-- the line of another's parameters, and the word behind it
record ForeignAgain (s : Scope) : Type 0 where
  name : List ℕ
  verb : Token
  reads : (r : Read) (ts : List Token)
      → (entry r).reads (printed.access s ++ ts) ≡ Ok (record r { access = Shares name }, verb ∷ ts)
  opens : (is_access verb ≡ false) × (is_entry verb ≡ true)
  scope : (ts : List Token) → passes is_line_end (head ts) ≡ false
      → (shared_scope name false).reads (verb ∷ ts) ≡ Ok (s, ts)

foreign_again : (s : Scope) → IsForeign s → ForeignAgain s
foreign_again scopes.Private h = absurd h
foreign_again scopes.Restricted h = absurd h
foreign_again scopes.Global h = absurd h
foreign_again (scopes.Uses n) h = record {
  name = n;
  verb = word (codes "USES");
  reads = λ r ts. let short = le-ltb _ _ h.0 in
      rw (
        no_skip (sign 58 ∷ word n ∷ line_end ∷ word (codes "USES") ∷ ts) refl,
        no_skip (word n ∷ line_end ∷ word (codes "USES") ∷ ts) refl,
        short,
        one_skip (word (codes "USES") ∷ ts) refl,
      ) refl;
  opens = (refl, refl);
  scope = λ ts e. rw (no_skip ts e) refl;
}
foreign_again (scopes.Extends n) h = record {
  name = n;
  verb = word (codes "EXTENDS");
  reads = λ r ts. let short = le-ltb _ _ h.0 in
      rw (
        no_skip (sign 58 ∷ word n ∷ line_end ∷ word (codes "EXTENDS") ∷ ts) refl,
        no_skip (word n ∷ line_end ∷ word (codes "EXTENDS") ∷ ts) refl,
        short,
        one_skip (word (codes "EXTENDS") ∷ ts) refl,
      ) refl;
  opens = (refl, refl);
  scope = λ ts e. rw (no_skip ts e) refl;
}

not_full : (left : ℕ) → 0 < left → nat_eq left 0 ≡ false
not_full left h = ne_eqb left 0 (λ e. absurd (omega (arith, h, e)))

type_opens : (p : PType) (ts : List Token)
    → (passes is_access (head (word (printed.type_name p) ∷ ts)) ≡ false)
    × (passes is_entry (head (word (printed.type_name p) ∷ ts)) ≡ true)
type_opens Boolean ts = (refl, refl)
type_opens Int ts = (refl, refl)
type_opens Keyword ts = (refl, refl)
type_opens String ts = (refl, refl)
type_opens Real ts = (refl, refl)

-- ---- a declaration, as it is read again and printed

abbrev state : ℕ → Access → List ParamDecl → Read
state left a ds = record { left = left; access = a; decls = ds }

pub record DeclAgain (d : ParamDecl) : Type 0 where
  pub before : List Token → List Token
  pub starts : (rest : List Token)
      → (passes is_entry (head (before rest)) ≡ true) × Next (before rest)
  pub text : (us vs : List Token) → printed_from true us ≡ printed_from true vs
      → printed_from true (printed.decl d ++ us) ≡ printed_from true (before vs)
  pub printable : (rest : List Token) → AllPrintable Ccl rest → AllPrintable Ccl (before rest)
  pub ended : (rest : List Token) → WellEnded true rest → WellEnded true (before rest)
  pub same : (rest : List Token) → unlined rest ≡ rest → unlined (before rest) ≡ before rest
  pub reads : (left : ℕ) (a : Access) (ds : List ParamDecl) (rest : List Token) → 0 < left
      → Next rest
      → (b : Access) × ((loop is_entry entry (state left a ds)).reads (before rest)
      ≡ (loop is_entry entry (state (left - 1) b (ds ++ d ∷ []))).reads rest)

-- ---- one's own

pub record OwnFits (d : ParamDecl) : Type 0 where
  pub scope : IsOwn d.scope
  pub head : HeadFits d.name d.length d.alias
  pub block : BlockFits d.ptype d.ranges
  pub text : List ℕ
  pub is : d.default ≡ Some text
  pub fits : DefaultFits d.ptype text

-- the head of a declaration, and then
abbrev headed : ParamDecl → List Token → List Token
headed d ts = head_list d.ptype d.name d.length d.alias d.steer ++ ts

-- a block, and then
abbrev blocked : List Range → List Token → List Token
blocked rs ts = sign 123 ∷ (printed.each_range rs ++ sign 125 ∷ ts)

blocked_printable : (p : PType) (rs : List Range) (ts : List Token) → BlockFits p rs
    → AllPrintable Ccl ts → AllPrintable Ccl (blocked rs ts)
blocked_printable p rs ts f h = (
  (a_sign 123 (λ g. refl)).printable,
  printable-append Ccl (printed.each_range rs) (sign 125 ∷ ts) (block_stands p rs f).printable
      ((a_sign 125 (λ g. refl)).printable, h),
)

blocked_ended : (p : PType) (rs : List Range) (ts : List Token) → BlockFits p rs
    → WellEnded false ts → WellEnded false (blocked rs ts)
blocked_ended p rs ts f h = (refl, (block_stands p rs f).ended (sign 125 ∷ ts) (λ b. (refl, h)))

blocked_same : (p : PType) (rs : List Range) (ts : List Token) → BlockFits p rs → unlined ts ≡ ts
    → unlined (blocked rs ts) ≡ blocked rs ts
blocked_same p rs ts f h =
    ap (λ (us : List Token). sign 123 ∷ us)
    (same_joined (printed.each_range rs) (sign 125 ∷ ts) (block_stands p rs f).same
    (ap (λ (us : List Token). sign 125 ∷ us) h))

-- what is printed up to a block, and what it is ahead of others
abbrev printed_head : ParamDecl → List Token
printed_head d = printed.access d.scope ++ printed.heading d

heading_list : (d : ParamDecl)
    → printed.heading d ≡ head_list d.ptype d.name d.length d.alias d.steer
heading_list d = ap (λ (ts : List Token). word (printed.type_name d.ptype) ∷ word d.name ∷ ts)
    (append_assoc (printed.length d.length) (printed.alias d.alias) (printed.steering d.steer))

headed_tokens : (d : ParamDecl) (ts : List Token)
    → printed_head d ++ ts ≡ printed.access d.scope ++ headed d ts
headed_tokens d ts = append_assoc (printed.access d.scope) (printed.heading d) ts
    ∙ ap (λ (us : List Token). printed.access d.scope ++ (us ++ ts)) (heading_list d)

own_joined : (h b : List Token) (t l : Token) (us : List Token)
    → ((h ++ (b ++ t ∷ [])) ++ l ∷ []) ++ us ≡ (h ++ b) ++ (t ∷ l ∷ us)
own_joined h b t l us = simp append_assoc

blocked_tokens : (h : List Token) (rs : List Range) (ts : List Token)
    → (h ++ printed.block rs) ++ ts ≡ h ++ blocked rs ts
blocked_tokens h rs ts =
    append_assoc h (printed.block rs) ts ∙ ap (λ (us : List Token). h ++ us) (block_tokens rs ts)

own_printed : (d : ParamDecl) (f : OwnFits d) (us vs : List Token)
    → printed_from true us ≡ printed_from true vs
    → printed_from true (printed.decl d ++ us)
    ≡ printed_from true (printed.access d.scope
    ++ headed d (blocked d.ranges ((default_again d.ptype f.text f.fits).tokens ++ line_end ∷ vs)))
own_printed d f us vs h =
    let k : DefaultAgain d.ptype f.text = default_again d.ptype f.text f.fits in
    let front : List Token = printed_head d ++ printed.block d.ranges in
    let one : List Token = printed.default d.ptype f.text ∷ line_end ∷ us in
    let other : List Token = k.tokens ++ line_end ∷ vs in
    let alike : (fresh : Bool)
    → printed_from fresh one ≡ printed_from fresh other =
    λ fresh. k.same fresh (line_end ∷ us)
    ∙ ahead_printed k.tokens (line_end ∷ us) (line_end ∷ vs) (line_printed us vs h) fresh in
    let body : printed.decl d
    ≡ (printed_head d ++ (printed.block d.ranges ++ printed.default d.ptype f.text ∷ []))
    ++ line_end ∷ [] =
    ap (λ (o : Option (List ℕ)). (printed_head d ++ printed.body d.ptype d.ranges o) ++ line_end
    ∷ []) f.is in
    ap (λ (ts : List Token). printed_from true (ts ++ us)) body
    ∙ ap (printed_from true)
    (own_joined (printed_head d) (printed.block d.ranges) (printed.default d.ptype f.text)
    line_end us)
    ∙ ahead_printed front one other alike true
    ∙ ap (printed_from true)
    (blocked_tokens (printed_head d) d.ranges other ∙ headed_tokens d (blocked d.ranges other))

own_read : (d : ParamDecl) (f : OwnFits d) (rest : List Token)
    → passes is_line_end (head rest) ≡ false
    → (decl d.scope false).reads
    (headed d (blocked d.ranges ((default_again d.ptype f.text f.fits).tokens ++ line_end ∷ rest)))
    ≡ Ok (d, rest)
own_read d f rest e =
    let k : DefaultAgain d.ptype f.text = default_again d.ptype f.text f.fits in
    let behind : List Token = k.tokens ++ line_end ∷ rest in
    let inner : List Token = blocked d.ranges behind in
    let first = ptype_again d.ptype (named d.name d.length d.alias d.steer inner) refl in
    let second = heading_again d.name d.length d.alias d.steer inner inner f.head.named.0
    f.head.counted (short_alias d.alias f.head.other) (none_skipped inner refl) in
    let third = block_again d.ptype d.ranges behind behind f.block
    (none_skipped behind (k.starts (line_end ∷ rest))) in
    let fourth = k.reads rest e in
    let parts = head_tokens d.ptype d.name d.length d.alias d.steer inner in
    ap (decl d.scope false).reads parts
    ∙ ap (λ a. go_on a (λ p us.
    go_on (heading.reads us)
    (λ h vs. go_on ((block p).reads vs)
    (λ rs ws. go_on ((default_of p).reads ws)
    (λ t xs.
    Ok (
      record {
        scope = d.scope;
        ptype = p;
        name = h.name;
        length = h.length;
        alias = h.alias;
        steer = h.steer;
        ranges = rs;
        default = Some t;
      },
      xs,
    )))))) first
    ∙ ap (λ a. go_on a (λ h vs.
    go_on ((block d.ptype).reads vs)
    (λ rs ws. go_on ((default_of d.ptype).reads ws)
    (λ t xs.
    Ok (
      record {
        scope = d.scope;
        ptype = d.ptype;
        name = h.name;
        length = h.length;
        alias = h.alias;
        steer = h.steer;
        ranges = rs;
        default = Some t;
      },
      xs,
    ))))) second
    ∙ ap (λ a. go_on a (λ rs ws.
    go_on ((default_of d.ptype).reads ws)
    (λ t xs. Ok (record d { ranges = rs; default = Some t }, xs)))) third
    ∙ ap (λ a. go_on a (λ t xs. Ok (record d { default = Some t }, xs))) fourth
    ∙ ap (λ (o : Option (List ℕ)). Ok (record d { default = o }, rest)) (sym f.is)

own_decl : (d : ParamDecl) → OwnFits d → DeclAgain d
own_decl d f =
    let k : DefaultAgain d.ptype f.text = default_again d.ptype f.text f.fits in
    let stands : AccessStands d.scope = access_stands d.scope (inl f.scope) in
    let own : OwnAgain d.scope = own_again d.scope f.scope in
    let line : Ahead (head_list d.ptype d.name d.length d.alias d.steer) =
    ahead (head_list d.ptype d.name d.length d.alias d.steer)
    (head_in_line d.ptype d.name d.length d.alias d.steer f.head) in
    let behind : List Token → List Token = λ rest. blocked d.ranges (k.tokens ++ line_end ∷ rest) in
    record {
      before = λ rest. printed.access d.scope ++ headed d (behind rest);
      starts = λ rest. stands.starts (headed d (behind rest));
      text = own_printed d f;
      printable = λ rest p. stands.printable (headed d (behind rest))
          (line.printable (behind rest)
          (blocked_printable d.ptype d.ranges (k.tokens ++ line_end ∷ rest) f.block
          (printable-append Ccl k.tokens (line_end ∷ rest) k.printable (printable_end Ccl 0, p))));
      ended = λ rest e.
          let inner : WellEnded false (behind rest) =
          blocked_ended d.ptype d.ranges (k.tokens ++ line_end ∷ rest) f.block
          (k.ended (line_end ∷ rest) (refl, e)) in
          let whole : WellEnded false (headed d (behind rest)) = line.ended (behind rest) inner in
          stands.ended (headed d (behind rest)) whole whole;
      same = λ rest s. stands.same (headed d (behind rest))
          (line.same (behind rest)
          (blocked_same d.ptype d.ranges (k.tokens ++ line_end ∷ rest) f.block
          (same_joined k.tokens (line_end ∷ rest) k.unlined
          (ap (λ (us : List Token). line_end ∷ us) s))));
      reads = λ left a ds rest o n.
          let ts : List Token = headed d (behind rest) in
          let opens = type_opens d.ptype [] in
          let full = not_full left o in
          let read = own_read d f rest n.ended in
          let shared : (declared own.access false).reads ts ≡ Ok (d, rest) =
          ap (λ r. r ts) (own.is false) ∙ read in
          let one : (entry (state left own.access ds)).reads ts
          ≡ Ok (state (left - 1) own.access (ds ++ d ∷ []), rest) =
          rw (opens.0, full, shared) refl in (
            own.access,
            loop_step is_entry entry entry_short (state left a ds) (state left own.access ds)
                (printed.access d.scope ++ ts) ts (stands.starts ts).0
                (own.reads (state left a ds) ts refl)
                ∙ loop_step is_entry entry entry_short (state left own.access ds)
                (state (left - 1) own.access (ds ++ d ∷ [])) ts rest opens.1 one,
          );
    }

-- ---- another's

abbrev pub SharedFits : PType → List Range → Type 0
SharedFits p [] = Unit {0}
SharedFits p (r ∷ rs) = BlockFits p (r ∷ rs)

pub record ForeignFits (d : ParamDecl) : Type 0 where
  pub scope : IsForeign d.scope
  pub head : HeadFits d.name d.length d.alias
  pub ranges : SharedFits d.ptype d.ranges
  pub is : d.default ≡ None

-- a block if there is one, and then
abbrev maybe_blocked : List Range → List Token → List Token
maybe_blocked [] ts = ts
maybe_blocked (r ∷ rs) ts = blocked (r ∷ rs) ts

maybe_tokens : (h : List Token) (rs : List Range) (ts : List Token)
    → (h ++ printed.shared_block rs) ++ ts ≡ h ++ maybe_blocked rs ts
maybe_tokens h [] ts = ap (λ (us : List Token). us ++ ts) (append-nil h)
maybe_tokens h (r ∷ rs) ts = blocked_tokens h (r ∷ rs) ts

maybe_printable : (p : PType) (rs : List Range) (ts : List Token) → SharedFits p rs
    → AllPrintable Ccl ts → AllPrintable Ccl (maybe_blocked rs ts)
maybe_printable p [] ts f h = h
maybe_printable p (r ∷ rs) ts f h = blocked_printable p (r ∷ rs) ts f h

maybe_ended : (p : PType) (rs : List Range) (ts : List Token) → SharedFits p rs → WellEnded false ts
    → WellEnded false (maybe_blocked rs ts)
maybe_ended p [] ts f h = h
maybe_ended p (r ∷ rs) ts f h = blocked_ended p (r ∷ rs) ts f h

maybe_same : (p : PType) (rs : List Range) (ts : List Token) → SharedFits p rs → unlined ts ≡ ts
    → unlined (maybe_blocked rs ts) ≡ maybe_blocked rs ts
maybe_same p [] ts f h = h
maybe_same p (r ∷ rs) ts f h = blocked_same p (r ∷ rs) ts f h

record RangesAgain (p : PType) (rs : List Range) (rest : List Token) : Type 0 where
  behind : List Token
  skips : Skips (maybe_blocked rs (line_end ∷ rest)) behind
  reads : (shared_ranges p).reads behind ≡ Ok (rs, rest)

ranges_again : (p : PType) (rs : List Range) (rest : List Token) → SharedFits p rs → Next rest
    → RangesAgain p rs rest
ranges_again p [] rest f n =
    record {
      behind = rest;
      skips = one_skipped rest n.ended;
      reads = let brace = n.brace in
          rw brace refl;
    }
ranges_again p (r ∷ rs) rest f n =
    let ts : List Token = blocked (r ∷ rs) (line_end ∷ rest) in
    let one = block_again p (r ∷ rs) (line_end ∷ rest) rest f (one_skipped rest n.ended) in
    let quoted = n.quoted in
    let number = n.number in
    let unused : unused_default.reads rest ≡ Ok (tt, rest) = rw (quoted, number) refl in
    record {
      behind = ts;
      skips = none_skipped ts refl;
      reads = ap (λ a. go_on a (λ qs us. go_on (unused_default.reads us) (λ u vs. Ok (qs, vs)))) one
          ∙ ap (λ a. go_on a (λ u vs. Ok (r ∷ rs, vs))) unused;
    }

foreign_read : (d : ParamDecl) (f : ForeignFits d) (g : ForeignAgain d.scope) (rest : List Token)
    → Next rest → (shared g.name false).reads
    (g.verb ∷ headed d (maybe_blocked d.ranges (line_end ∷ rest))) ≡ Ok (d, rest)
foreign_read d f g rest n =
    let inner : List Token = maybe_blocked d.ranges (line_end ∷ rest) in
    let k : RangesAgain d.ptype d.ranges rest = ranges_again d.ptype d.ranges rest f.ranges n in
    let scope = g.scope (headed d inner) refl in
    let first = ptype_again d.ptype (named d.name d.length d.alias d.steer inner) refl in
    let second = heading_again d.name d.length d.alias d.steer inner k.behind f.head.named.0
    f.head.counted (short_alias d.alias f.head.other) k.skips in
    let parts = head_tokens d.ptype d.name d.length d.alias d.steer inner in
    ap (λ a. go_on a (λ s us.
    go_on (ptype.reads us)
    (λ p vs. go_on (heading.reads vs)
    (λ h ws. go_on ((shared_ranges p).reads ws)
    (λ rs xs.
    Ok (
      record {
        scope = s;
        ptype = p;
        name = h.name;
        length = h.length;
        alias = h.alias;
        steer = h.steer;
        ranges = rs;
        default = None;
      },
      xs,
    )))))) scope
    ∙ ap (λ (us : List Token).
    go_on (ptype.reads us)
    (λ p vs. go_on (heading.reads vs)
    (λ h ws. go_on ((shared_ranges p).reads ws)
    (λ rs xs.
    Ok (
      record {
        scope = d.scope;
        ptype = p;
        name = h.name;
        length = h.length;
        alias = h.alias;
        steer = h.steer;
        ranges = rs;
        default = None;
      },
      xs,
    ))))) parts
    ∙ ap (λ a. go_on a (λ p vs.
    go_on (heading.reads vs)
    (λ h ws. go_on ((shared_ranges p).reads ws)
    (λ rs xs.
    Ok (
      record {
        scope = d.scope;
        ptype = p;
        name = h.name;
        length = h.length;
        alias = h.alias;
        steer = h.steer;
        ranges = rs;
        default = None;
      },
      xs,
    ))))) first
    ∙ ap (λ a. go_on a (λ h ws.
    go_on ((shared_ranges d.ptype).reads ws)
    (λ rs xs.
    Ok (
      record {
        scope = d.scope;
        ptype = d.ptype;
        name = h.name;
        length = h.length;
        alias = h.alias;
        steer = h.steer;
        ranges = rs;
        default = None;
      },
      xs,
    )))) second
    ∙ ap (λ a. go_on a (λ rs xs. Ok (record d { ranges = rs; default = None }, xs))) k.reads
    ∙ ap (λ (o : Option (List ℕ)). Ok (record d { default = o }, rest)) (sym f.is)

foreign_joined : (h b : List Token) (l : Token) (us : List Token)
    → ((h ++ b) ++ l ∷ []) ++ us ≡ (h ++ b) ++ (l ∷ us)
foreign_joined h b l us = simp append_assoc

foreign_printed : (d : ParamDecl) → ForeignFits d → (us vs : List Token)
    → printed_from true us ≡ printed_from true vs
    → printed_from true (printed.decl d ++ us)
    ≡ printed_from true (printed.access d.scope
    ++ headed d (maybe_blocked d.ranges (line_end ∷ vs)))
foreign_printed d f us vs h =
    let front : List Token = printed_head d ++ printed.shared_block d.ranges in
    let body : printed.decl d ≡ (printed_head d ++ printed.shared_block d.ranges) ++ line_end ∷ [] =
    ap (λ (o : Option (List ℕ)). (printed_head d ++ printed.body d.ptype d.ranges o) ++ line_end
    ∷ []) f.is in
    ap (λ (ts : List Token). printed_from true (ts ++ us)) body
    ∙ ap (printed_from true)
    (foreign_joined (printed_head d) (printed.shared_block d.ranges) line_end us)
    ∙ ahead_printed front (line_end ∷ us) (line_end ∷ vs) (line_printed us vs h) true
    ∙ ap (printed_from true)
    (maybe_tokens (printed_head d) d.ranges (line_end ∷ vs)
    ∙ headed_tokens d (maybe_blocked d.ranges (line_end ∷ vs)))

foreign_decl : (d : ParamDecl) → ForeignFits d → DeclAgain d
foreign_decl d f =
    let stands : AccessStands d.scope = access_stands d.scope (inr f.scope) in
    let foreign : ForeignAgain d.scope = foreign_again d.scope f.scope in
    let line : Ahead (head_list d.ptype d.name d.length d.alias d.steer) =
    ahead (head_list d.ptype d.name d.length d.alias d.steer)
    (head_in_line d.ptype d.name d.length d.alias d.steer f.head) in
    let behind : List Token → List Token = λ rest. maybe_blocked d.ranges (line_end ∷ rest) in
    record {
      before = λ rest. printed.access d.scope ++ headed d (behind rest);
      starts = λ rest. stands.starts (headed d (behind rest));
      text = foreign_printed d f;
      printable = λ rest p. stands.printable (headed d (behind rest))
          (line.printable (behind rest)
          (maybe_printable d.ptype d.ranges (line_end ∷ rest) f.ranges (printable_end Ccl 0, p)));
      ended = λ rest e.
          let inner : WellEnded false (behind rest) =
          maybe_ended d.ptype d.ranges (line_end ∷ rest) f.ranges (refl, e) in
          let whole : WellEnded false (headed d (behind rest)) = line.ended (behind rest) inner in
          stands.ended (headed d (behind rest)) whole whole;
      same = λ rest s. stands.same (headed d (behind rest))
          (line.same (behind rest)
          (maybe_same d.ptype d.ranges (line_end ∷ rest) f.ranges
          (ap (λ (us : List Token). line_end ∷ us) s)));
      reads = λ left a ds rest o n.
          let ts : List Token = headed d (behind rest) in
          let full = not_full left o in
          let shared : (shared foreign.name false).reads (foreign.verb ∷ ts) ≡ Ok (d, rest) =
          foreign_read d f foreign rest n in
          let opens = foreign.opens in
          let one : (entry (state left (Shares foreign.name) ds)).reads (foreign.verb ∷ ts)
          ≡ Ok (state (left - 1) (Shares foreign.name) (ds ++ d ∷ []), rest) =
          rw (opens.0, full, shared) refl in (
            Shares foreign.name,
            loop_step is_entry entry entry_short (state left a ds)
                (state left (Shares foreign.name) ds) (printed.access d.scope ++ ts)
                (foreign.verb ∷ ts) (stands.starts ts).0 (foreign.reads (state left a ds) ts)
                ∙ loop_step is_entry entry entry_short (state left (Shares foreign.name) ds)
                (state (left - 1) (Shares foreign.name) (ds ++ d ∷ [])) (foreign.verb ∷ ts)
                rest opens.1 one,
          );
    }

-- ---- one or the other

abbrev pub DeclFits : ParamDecl → Type 0
DeclFits d = OwnFits d ⊎ ForeignFits d

pub decl_again : (d : ParamDecl) → DeclFits d → DeclAgain d
decl_again d (inl f) = own_decl d f
decl_again d (inr f) = foreign_decl d f
