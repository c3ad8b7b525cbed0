-- Groups, lines and headers that are printed are read again.
use Rattle.std.proofs.Common.{◌⊎◌, ◌≡◌, ◌≤◌, ◌<◌, ◌-◌, ℕ, nat_eq, ltb, Bool, true, false, cond, List, [], ◌∷◌, ◌++◌, length, map, Option, Some, None, Ok, refl, inl, inr, sym, ap, subst, ◌∙◌, append_assoc, arith}
use Rattle.std.specs.List.{AllByRecursion, flat_map}
use Rattle.std.proofs.lemmas.Bool.{le-ltb, ne_eqb}
use Rattle.std.proofs.lemmas.List.{append-nil}
use Rattle.cx_text.specs.declared.ctype.CType.{CType}
use Rattle.cx_text.specs.declared.ctype.CType.TheVariants.{Char, Byte, Int, Int2, Int4, Int8, Real, Complex}
use Rattle.cx_text.specs.declared.stop.Mark.{Mark}
use Rattle.cx_text.specs.declared.token.Kind.{Kind}
use Rattle.cx_text.specs.declared.token.Kind.TheVariants as kinds
use Rattle.cx_text.specs.declared.token.Token.{Token}
use Rattle.cx_text.specs.Tokens.{is_word, is_line_end, is_word_kind, is_line_end_kind}
use Rattle.cx_text.specs.Grammar.{head, passes}
use Rattle.cx_text.specs.Reading.{Answer, go_on, found}
use Rattle.cx_text.specs.Rules.{loop, is_named}
use Rattle.cx_text.specs.Lexemes.{names, kept, more_kept, in_line}
use Rattle.cx_text.specs.Written.{word, words, quoted, sign, line_end}
use Rattle.cx_text.proofs.Printing.{loop_step, loop_stop, no_skip, one_skip, IsShortName, some_names_again}
use Rattle.cx_iface.specs.declared.tree.Access.{Access}
use Rattle.cx_iface.specs.declared.tree.Access.TheVariants.{Public, Protected, Private}
use Rattle.cx_iface.specs.declared.tree.Group.{Group}
use Rattle.cx_iface.specs.declared.tree.Interface.{Interface}
use Rattle.cx_iface.specs.declared.words.First.{First}
use Rattle.cx_iface.specs.declared.words.First.TheVariants as firsts
use Rattle.cx_iface.specs.declared.interface.Read.{Read}
use Rattle.cx_iface.specs.declared.attributes.Attributes.{Attributes}
use Rattle.cx_iface.specs.Words.{IMPLEMENTS, INHERITS, FRIEND, FUNCTION, TYPE, DIM, TIMELEVELS, is_line_word, begins_with}
use Rattle.cx_iface.specs.Attributes.{no_attributes, is_attribute, attribute}
use Rattle.cx_iface.specs.Groups.{group, block_or_name}
use Rattle.cx_iface.specs.File.{nobody, line, kept_line, worded, again_mark, function, part, item, grouped, file}
use Rattle.cx_iface.specs.Printed as printed
use Rattle.cx_iface.proofs.AttributeLaws.{attribute_short}
use Rattle.cx_iface.proofs.FileLaws.{item_short, more_kept_in_line_short}
use Rattle.cx_iface.proofs.PrintLaws.{CopiesFit, FitsEffects, RestAgain, Distinct, Follows, given, idle_of, copies_again, effects_again, variables_again, starts_words}

-- ---- groups

pub record FitsGroup (g : Group) : Type 0 where
  pub name : IsShortName g.name
  pub named : is_named FUNCTION (word g.name) ≡ false
  pub copies : CopiesFit g.copies
  pub effects : FitsEffects g
  pub a : Attributes
  pub rest : a.rest ≡ g.rest
  pub again : RestAgain a
  pub variables : Distinct [] g.variables

not_full : (left : ℕ) → 0 < left → nat_eq left 0 ≡ false
not_full left h = ne_eqb left 0 (λ e. absurd (omega (arith, h, e)))

-- a state behind all headers
abbrev pub behind : Access → ℕ → ℕ → Interface → Read
behind a g l tree = record {
  access = a;
  implements = true;
  inherits = true;
  friend = true;
  groups = g;
  lines = l;
  tree = tree;
}

access_again : (a : Access) (old : Access) (g l : ℕ) (tree : Interface) (rest : List Token)
    → passes is_line_end (head rest) ≡ false
    → (item (behind old g l tree)).reads (word (printed.access_word a) ∷ sign 58 ∷ rest)
    ≡ Ok (behind a g l tree, rest)
access_again Public old g l tree rest e = rw (no_skip (sign 58 ∷ rest) refl, no_skip rest e) refl
access_again Protected old g l tree rest e = rw (no_skip (sign 58 ∷ rest) refl, no_skip rest e) refl
access_again Private old g l tree rest e = rw (no_skip (sign 58 ∷ rest) refl, no_skip rest e) refl

-- a word that begins no line of six, behind which FUNCTION stands or doesn't, and which isn't
-- repeated
worded_step : (t : Token) (s : Read) (us : List Token) (declares : Bool) → is_line_word t ≡ false
    → is_word t ≡ true → passes (is_named FUNCTION) (head us) ≡ declares
    → again_mark s declares t ≡ None
    → (item s).reads (t ∷ us) ≡ (part (begins_with (kept t)) (kept t) s).reads us
worded_step t s us declares w v next unmarked =
    let go : Bool → Option Mark
    → Answer Read = λ b m.
    go_on (found (cond b (Some (kept t)) None) m t us)
    (λ x ts. (part (begins_with x) x s).reads ts) in
    ap (λ b. cond b ((kept_line s).reads (t ∷ us)) ((worded s).reads (t ∷ us))) w
    ∙ ap (λ b. go b (again_mark s (passes (is_named FUNCTION) (head us)) t)) v
    ∙ ap (go true) (ap (λ b. again_mark s b t) next ∙ unmarked)

typed_again : (c : CType) (a : Access) (g l : ℕ) (tree : Interface) (rest : List Token)
    → passes (is_named FUNCTION) (head rest) ≡ false
    → (item (behind a g l tree)).reads (word (printed.ctype_word c) ∷ rest)
    ≡ (grouped c (behind a g l tree)).reads rest
typed_again Char a g l tree rest e =
    worded_step (word (printed.ctype_word Char)) (behind a g l tree) rest false refl refl e refl
    ∙ rw e refl
typed_again Byte a g l tree rest e =
    worded_step (word (printed.ctype_word Byte)) (behind a g l tree) rest false refl refl e refl
    ∙ rw e refl
typed_again Int a g l tree rest e =
    worded_step (word (printed.ctype_word Int)) (behind a g l tree) rest false refl refl e refl
    ∙ rw e refl
typed_again Int2 a g l tree rest e =
    worded_step (word (printed.ctype_word Int2)) (behind a g l tree) rest false refl refl e refl
    ∙ rw e refl
typed_again Int4 a g l tree rest e =
    worded_step (word (printed.ctype_word Int4)) (behind a g l tree) rest false refl refl e refl
    ∙ rw e refl
typed_again Int8 a g l tree rest e =
    worded_step (word (printed.ctype_word Int8)) (behind a g l tree) rest false refl refl e refl
    ∙ rw e refl
typed_again Real a g l tree rest e =
    worded_step (word (printed.ctype_word Real)) (behind a g l tree) rest false refl refl e refl
    ∙ rw e refl
typed_again Complex a g l tree rest e =
    worded_step (word (printed.ctype_word Complex)) (behind a g l tree) rest false refl refl e refl
    ∙ rw e refl

starts_copies : (k : Option ℕ) (t : List ℕ) (rest : List Token)
    → passes is_line_end (head (printed.copies k ++ word t ∷ rest)) ≡ false
starts_copies None t rest = refl
starts_copies (Some k) t rest = refl

-- the attributes without effect, and then a block
abbrev pub idle_then : Group → List Token → List Token
idle_then g rest = map kept g.rest ++ (printed.block g ++ rest)

rest_again : (g : Group) (f : FitsGroup g) (rest : List Token)
    → Follows (idle_then g rest)
    × ((loop is_attribute attribute (given g.gtype g.dim g.levels)).reads (idle_then g rest)
    ≡ Ok (idle_of f.a g.gtype g.dim g.levels, printed.block g ++ rest))
rest_again g f rest =
    let P : List Token → Type 0 =
    λ ts. Follows (map kept ts ++ (printed.block g ++ rest))
    × ((loop is_attribute attribute (given g.gtype g.dim g.levels)).reads
    (map kept ts ++ (printed.block g ++ rest))
    ≡ Ok (idle_of f.a g.gtype g.dim g.levels, printed.block g ++ rest)) in
    let h = f.again g.gtype g.dim g.levels (printed.block g ++ rest) (refl, refl) in
    subst P f.rest (
      h.0,
      h.1
          ∙ loop_stop is_attribute attribute attribute_short (idle_of f.a g.gtype g.dim g.levels)
          (printed.block g ++ rest) refl,
    )

attributes_again : (g : Group) (f : FitsGroup g) (rest : List Token)
    → (loop is_attribute attribute no_attributes).reads (printed.effects g ++ idle_then g rest)
    ≡ Ok (idle_of f.a g.gtype g.dim g.levels, printed.block g ++ rest)
attributes_again g f rest = let h = rest_again g f rest in
    effects_again g (idle_then g rest) f.effects h.0.0 ∙ h.1

pub block_tail : (g : Group) (rest : List Token)
    → printed.block g ++ rest
    ≡ sign 123 ∷ (words g.variables ++ sign 125 ∷ quoted g.text ∷ line_end ∷ rest)
block_tail g rest = ap (λ (ts : List Token). sign 123 ∷ ts)
    (append_assoc (words g.variables) (sign 125 ∷ quoted g.text ∷ line_end ∷ []) rest)

block_again : (name : List ℕ) (g : Group) (f : FitsGroup g) (rest : List Token)
    → passes is_line_end (head rest) ≡ false
    → (block_or_name name []).reads (printed.block g ++ rest)
    ≡ Ok (record { variables = g.variables; text = g.text }, rest)
block_again name g f rest e =
    let v = variables_again g.variables (quoted g.text ∷ line_end ∷ rest) f.variables in
    ap (block_or_name name []).reads (block_tail g rest)
    ∙ rw (
      no_skip (words g.variables ++ sign 125 ∷ quoted g.text ∷ line_end ∷ rest)
          (starts_words g.variables 125 (quoted g.text ∷ line_end ∷ rest)),
      v,
      no_skip (quoted g.text ∷ line_end ∷ rest) refl,
      one_skip rest e,
    ) refl

-- what stands behind the name
abbrev pub behind_name : Group → List Token → List Token
behind_name g rest = printed.copies g.copies ++ (printed.effects g ++ idle_then g rest)

group_again : (g : Group) (f : FitsGroup g) (rest : List Token)
    → passes is_line_end (head rest) ≡ false
    → (group g.access g.ctype false).reads (word g.name ∷ behind_name g rest) ≡ Ok (g, rest)
group_again g f rest e =
    let short : ltb 64 (length g.name) ≡ false = le-ltb _ _ f.name in
    let tail : List Token =
    sign 61 ∷ word (printed.gtype_word g.gtype)
    ∷ (printed.numbered DIM g.dim ++ printed.numbered TIMELEVELS g.levels)
    ++ idle_then g rest in
    let k = copies_again g.copies TYPE tail f.copies in
    let a = attributes_again g f rest in
    let b = block_again g.name g f rest e in
    rw (
      no_skip (word g.name ∷ behind_name g rest) refl,
      f.named,
      short,
      no_skip (behind_name g rest) (starts_copies g.copies TYPE tail),
      k,
      a,
      b,
    )
    (ap (λ (ts : List Token). Ok (record g { rest = ts }, rest)) f.rest)

pub group_tokens : (g : Group) (rest : List Token)
    → printed.group g ++ rest
    ≡ word (printed.access_word g.access) ∷ sign 58 ∷ word (printed.ctype_word g.ctype)
    ∷ word g.name ∷ behind_name g rest
group_tokens g rest =
    ap (λ (ts : List Token). word (printed.access_word g.access) ∷ sign 58
    ∷ word (printed.ctype_word g.ctype) ∷ word g.name ∷ ts)
    (append_assoc (printed.copies g.copies)
    (printed.effects g ++ (map kept g.rest ++ printed.block g)) rest
    ∙ ap (λ (ts : List Token). printed.copies g.copies ++ (printed.effects g ++ ts))
    (append_assoc (map kept g.rest) (printed.block g) rest))

grouped_again : (g : Group) (f : FitsGroup g) (left l : ℕ) (tree : Interface) (rest : List Token)
    → 0 < left → passes is_line_end (head rest) ≡ false
    → (grouped g.ctype (behind g.access left l tree)).reads (word g.name ∷ behind_name g rest)
    ≡ Ok (behind g.access (left - 1) l (record tree { groups = tree.groups ++ g ∷ [] }), rest)
grouped_again g f left l tree rest o e =
    let full = not_full left o in
    let one = group_again g f rest e in
    rw (full, one) refl

starts_groups : (gs : List Group) → passes is_line_end (head (flat_map printed.group gs)) ≡ false
starts_groups [] = refl
starts_groups (g ∷ gs) = refl

groups_again : (gs : List Group) → AllByRecursion FitsGroup gs
    → (a : Access) (left l : ℕ) (tree : Interface) → length gs ≤ left
    → (b : Access) × (k : ℕ)
    × ((loop is_word item (behind a left l tree)).reads (flat_map printed.group gs)
    ≡ Ok (behind b k l (record tree { groups = tree.groups ++ gs }), []))
groups_again [] h a left l tree o = (
  a,
  left,
  loop_stop is_word item item_short (behind a left l tree) [] refl
      ∙ ap (λ (gs : List Group). Ok (behind a left l (record tree { groups = gs }), []))
      (sym (append-nil tree.groups)),
)
groups_again (g ∷ gs) h a left l tree o =
    let rest : List Token = flat_map printed.group gs in
    let s : Read = behind g.access left l tree in
    let t : Read = behind g.access (left - 1) l (record tree { groups = tree.groups ++ g ∷ [] }) in
    let named : List Token = word g.name ∷ behind_name g rest in
    let typed : List Token = word (printed.ctype_word g.ctype) ∷ named in
    let starts = starts_groups gs in
    let more = groups_again gs h.1 g.access (left - 1) l
    (record tree { groups = tree.groups ++ g ∷ [] }) (omega (arith, o)) in (
      more.0,
      more.1,
      ap (loop is_word item (behind a left l tree)).reads (group_tokens g rest)
          ∙ loop_step is_word item item_short (behind a left l tree) s
          (word (printed.access_word g.access) ∷ sign 58 ∷ typed) typed refl
          (access_again g.access a left l tree typed refl)
          ∙ loop_step is_word item item_short s t typed rest refl
          (typed_again g.ctype g.access left l tree named h.0.named
          ∙ grouped_again g h.0 left l tree rest (omega (arith, o)) starts)
          ∙ more.2
          ∙ ap (λ (xs : List Group). Ok (behind more.0 more.1 l (record tree { groups = xs }), []))
          (append_assoc tree.groups (g ∷ []) gs),
    )

-- ---- lines

-- no token of these is a LineEnd, and each is kept as it is
abbrev pub InLine : Token → Type 0
InLine t = (is_line_end t ≡ false) × (kept t ≡ t)

abbrev pub OpensLine : Token → List Token → Type 0
OpensLine f [] = ⊥
OpensLine f (t ∷ ts) = is_named FUNCTION t ≡ true

-- a line that is kept: one of six words begins it, or FUNCTION is its second word
abbrev pub FitsLine : List Token → Type 0
FitsLine [] = ⊥
FitsLine (t ∷ ts) = (is_word t ≡ true) × (kept t ≡ t) × AllByRecursion InLine ts
    × ((is_line_word t ≡ true) ⊎ (is_line_word t ≡ false) × OpensLine t ts)

-- the end of a line, and what follows it
more_again : (ts old rest : List Token) → AllByRecursion InLine ts
    → (loop in_line (more_kept in_line) old).reads (map kept ts ++ line_end ∷ rest)
    ≡ Ok (old ++ ts, line_end ∷ rest)
more_again [] old rest h =
    loop_stop in_line (more_kept in_line) more_kept_in_line_short old (line_end ∷ rest) refl
    ∙ rw (append-nil old) refl
more_again (t ∷ ts) old rest h =
    let inside : is_line_end t ≡ false = h.0.0 in
    let us : List Token = map kept ts ++ line_end ∷ rest in
    let one : (more_kept in_line old).reads (kept t ∷ us) ≡ Ok (old ++ kept t ∷ [], us) =
    rw inside refl in
    let same : old ++ kept t ∷ [] ≡ old ++ t ∷ [] = ap (λ (x : Token). old ++ x ∷ []) h.0.1 in
    let go : passes in_line (head (kept t ∷ us)) ≡ true = rw inside refl in
    loop_step in_line (more_kept in_line) more_kept_in_line_short old (old ++ kept t ∷ [])
    (kept t ∷ us) us go one
    ∙ ap (λ (xs : List Token). (loop in_line (more_kept in_line) xs).reads us) same
    ∙ more_again ts (old ++ t ∷ []) rest h.1
    ∙ ap (λ xs. Ok (xs, line_end ∷ rest)) (append_assoc old (t ∷ []) ts)

line_again : (old ts : List Token) (s : Read) (rest : List Token) → AllByRecursion InLine ts
    → passes is_line_end (head rest) ≡ false
    → (line old s).reads (map kept ts ++ line_end ∷ rest)
    ≡ Ok (
      record s {
        lines = s.lines - 1;
        tree = record s.tree { others = s.tree.others ++ (old ++ ts) ∷ [] };
      },
      rest,
    )
line_again old ts s rest h e = let m = more_again ts old rest h in rw (m, no_skip rest e) refl

stays : (k : Kind) → is_word_kind k ≡ true → is_line_end_kind k ≡ false
stays kinds.Word h = refl
stays kinds.Number h = refl
stays kinds.Quoted h = refl
stays kinds.Sign h = refl
stays kinds.LineEnd h = absurd cc

pub word_stays : (t : Token) → is_word t ≡ true → is_line_end t ≡ false
word_stays t h = stays t.kind h

part_function : (k : First) (w : Token) (s : Read) (ts : List Token)
    → passes (is_named FUNCTION) (head ts) ≡ true → (part k w s).reads ts ≡ (function w s).reads ts
part_function firsts.Implements w s ts e = rw e refl
part_function firsts.Inherits w s ts e = rw e refl
part_function firsts.Friend w s ts e = rw e refl
part_function (firsts.Access a) w s ts e = rw e refl
part_function (firsts.Group c) w s ts e = rw e refl
part_function firsts.Other w s ts e = refl

-- a state ahead of all headers
abbrev pub ahead : ℕ → List (List Token) → Read
ahead l os = record nobody { lines = l; tree = record nobody.tree { others = os } }

pub line_tokens : (t : Token) (ts rest : List Token)
    → printed.line (t ∷ ts) ++ rest ≡ kept t ∷ (map kept ts ++ line_end ∷ rest)
line_tokens t ts rest = ap (λ (us : List Token). kept t ∷ us)
    (append_assoc (map kept ts) (line_end ∷ []) rest)

-- it begins with one of six words
worded_line : (t : Token) (ts : List Token) (l : ℕ) (os : List (List Token)) (rest : List Token)
    → 0 < l → kept t ≡ t → AllByRecursion InLine ts → is_line_word t ≡ true
    → passes is_line_end (head rest) ≡ false
    → (item (ahead l os)).reads (kept t ∷ (map kept ts ++ line_end ∷ rest))
    ≡ Ok (ahead (l - 1) (os ++ (t ∷ ts) ∷ []), rest)
worded_line t ts l os rest o same h w e =
    let full = not_full l o in
    let m = line_again (kept t ∷ []) ts (ahead l os) rest h e in
    rw (w, full, m) (ap (λ (x : Token). Ok (ahead (l - 1) (os ++ (x ∷ ts) ∷ []), rest)) same)

-- its second word is FUNCTION
function_line : (t f : Token) (ts : List Token) (l : ℕ) (os : List (List Token)) (rest : List Token)
    → 0 < l → is_word t ≡ true → is_line_word t ≡ false → kept t ≡ t → kept f ≡ f
    → AllByRecursion InLine ts → is_named FUNCTION f ≡ true → passes is_line_end (head rest) ≡ false
    → (item (ahead l os)).reads (kept t ∷ kept f ∷ (map kept ts ++ line_end ∷ rest))
    ≡ Ok (ahead (l - 1) (os ++ (t ∷ f ∷ ts) ∷ []), rest)
function_line t f ts l os rest o v w same second h n e =
    let full = not_full l o in
    let us : List Token = map kept ts ++ line_end ∷ rest in
    let m = line_again (kept t ∷ kept f ∷ []) ts (ahead l os) rest h e in
    let first : (item (ahead l os)).reads (kept t ∷ kept f ∷ us)
    ≡ (part (begins_with (kept t)) (kept t) (ahead l os)).reads (kept f ∷ us) =
    worded_step (kept t) (ahead l os) (kept f ∷ us) true w v n refl in
    let declared : (function (kept t) (ahead l os)).reads (kept f ∷ us)
    ≡ Ok (ahead (l - 1) (os ++ (kept t ∷ kept f ∷ ts) ∷ []), rest) = rw (n, full, m) refl in
    first ∙ part_function (begins_with (kept t)) (kept t) (ahead l os) (kept f ∷ us) n ∙ declared
    ∙ ap (λ (x : Token). Ok (ahead (l - 1) (os ++ (x ∷ kept f ∷ ts) ∷ []), rest)) same
    ∙ ap (λ (x : Token). Ok (ahead (l - 1) (os ++ (t ∷ x ∷ ts) ∷ []), rest)) second

kept_line_again : (ts : List Token) (l : ℕ) (os : List (List Token)) (rest : List Token) → 0 < l
    → FitsLine ts → passes is_line_end (head rest) ≡ false
    → (passes is_word (head (printed.line ts ++ rest)) ≡ true)
    × (passes is_line_end (head (printed.line ts ++ rest)) ≡ false)
    × ((item (ahead l os)).reads (printed.line ts ++ rest)
    ≡ Ok (ahead (l - 1) (os ++ ts ∷ []), rest))
kept_line_again [] l os rest o h e = absurd h
kept_line_again (t ∷ []) l os rest o h e =
    elim h.3 [
      | inl w ↦ (
        h.0,
        word_stays t h.0,
        ap (item (ahead l os)).reads (line_tokens t [] rest)
            ∙ worded_line t [] l os rest o h.1 h.2 w e,
      )
      | inr w ↦ absurd w.1
    ]
kept_line_again (t ∷ f ∷ ts) l os rest o h e =
    elim h.3 [
      | inl w ↦ (
        h.0,
        word_stays t h.0,
        ap (item (ahead l os)).reads (line_tokens t (f ∷ ts) rest)
            ∙ worded_line t (f ∷ ts) l os rest o h.1 h.2 w e,
      )
      | inr w ↦ (
        h.0,
        word_stays t h.0,
        ap (item (ahead l os)).reads (line_tokens t (f ∷ ts) rest)
            ∙ function_line t f ts l os rest o h.0 w.0 h.1 h.2.0.1 h.2.1 w.1 e,
      )
    ]

starts_lines : (ls : List (List Token)) (rest : List Token) → AllByRecursion FitsLine ls
    → passes is_line_end (head rest) ≡ false
    → passes is_line_end (head (flat_map printed.line ls ++ rest)) ≡ false
starts_lines [] rest h e = e
starts_lines ([] ∷ ls) rest h e = absurd h.0
starts_lines ((t ∷ ts) ∷ ls) rest h e = word_stays t h.0.0

lines_again : (ls os : List (List Token)) (l : ℕ) (rest : List Token) → length ls ≤ l
    → AllByRecursion FitsLine ls → passes is_line_end (head rest) ≡ false
    → (k : ℕ) × ((loop is_word item (ahead l os)).reads (flat_map printed.line ls ++ rest)
    ≡ (loop is_word item (ahead k (os ++ ls))).reads rest)
lines_again [] os l rest o h e = (
  l,
  ap (λ (xs : List (List Token)). (loop is_word item (ahead l xs)).reads rest)
      (sym (append-nil os)),
)
lines_again (ts ∷ ls) os l rest o h e =
    let us : List Token = flat_map printed.line ls ++ rest in
    let one = kept_line_again ts l os us (omega (arith, o)) h.0 (starts_lines ls rest h.1 e) in
    let more = lines_again ls (os ++ ts ∷ []) (l - 1) rest (omega (arith, o)) h.1 e in (
      more.0,
      ap (loop is_word item (ahead l os)).reads
          (append_assoc (printed.line ts) (flat_map printed.line ls) rest)
          ∙ loop_step is_word item item_short (ahead l os) (ahead (l - 1) (os ++ ts ∷ []))
          (printed.line ts ++ us) us one.0 one.2
          ∙ more.1
          ∙ ap (λ (xs : List (List Token)). (loop is_word item (ahead more.0 xs)).reads rest)
          (append_assoc os (ts ∷ []) ls),
    )

-- ---- headers

names_again : (ns : List (List ℕ)) (rest : List Token) → AllByRecursion IsShortName ns
    → (names []).reads (words ns ++ line_end ∷ rest) ≡ Ok (ns, line_end ∷ rest)
names_again [] rest h = refl
names_again (n ∷ ns) rest h = some_names_again [] n ns (line_end ∷ rest) h.0 h.1 refl

-- a state behind the header that names the implementation, and one behind INHERITS
abbrev pub behind_name_line : ℕ → Interface → Read
behind_name_line l tree = record nobody { implements = true; lines = l; tree = tree }

abbrev pub behind_inherits : ℕ → Interface → Read
behind_inherits l tree =
    record nobody { implements = true; inherits = true; lines = l; tree = tree }

abbrev with_name : List (List Token) → List ℕ → Interface
with_name os n = record nobody.tree { others = os; implements = n }

implements_again : (n : List ℕ) (l : ℕ) (os : List (List Token)) (rest : List Token) → IsShortName n
    → passes is_line_end (head rest) ≡ false
    → (item (ahead l os)).reads (printed.header IMPLEMENTS (n ∷ []) ++ rest)
    ≡ Ok (behind_name_line l (with_name os n), rest)
implements_again n l os rest h e =
    let short : ltb 64 (length n) ≡ false = le-ltb _ _ h in
    rw (
      no_skip (sign 58 ∷ word n ∷ line_end ∷ rest) refl,
      no_skip (word n ∷ line_end ∷ rest) refl,
      short,
      no_skip rest e,
    ) refl

inherits_again : (ns : List (List ℕ)) (l : ℕ) (tree : Interface) (rest : List Token)
    → AllByRecursion IsShortName ns → passes is_line_end (head rest) ≡ false
    → (item (behind_name_line l tree)).reads (printed.header INHERITS ns ++ rest)
    ≡ Ok (behind_inherits l (record tree { inherits = ns }), rest)
inherits_again ns l tree rest h e =
    let all = names_again ns rest h in
    ap (λ (ts : List Token). (item (behind_name_line l tree)).reads (word INHERITS ∷ sign 58 ∷ ts))
    (append_assoc (words ns) (line_end ∷ []) rest)
    ∙ rw (no_skip (sign 58 ∷ (words ns ++ line_end ∷ rest)) refl, all, no_skip rest e) refl

friends_again : (ns : List (List ℕ)) (l : ℕ) (tree : Interface) (rest : List Token)
    → AllByRecursion IsShortName ns → passes is_line_end (head rest) ≡ false
    → (item (behind_inherits l tree)).reads (printed.header FRIEND ns ++ rest)
    ≡ Ok (behind Private 4096 l (record tree { friends = ns }), rest)
friends_again ns l tree rest h e =
    let all = names_again ns rest h in
    ap (λ (ts : List Token). (item (behind_inherits l tree)).reads (word FRIEND ∷ sign 58 ∷ ts))
    (append_assoc (words ns) (line_end ∷ []) rest)
    ∙ rw (no_skip (sign 58 ∷ (words ns ++ line_end ∷ rest)) refl, all, no_skip rest e) refl

pub headers_tail : (v : Interface) (rest : List Token)
    → printed.headers v ++ rest
    ≡ printed.header IMPLEMENTS (v.implements ∷ [])
    ++ (printed.header INHERITS v.inherits ++ (printed.header FRIEND v.friends ++ rest))
headers_tail v rest =
    append_assoc (printed.header IMPLEMENTS (v.implements ∷ []))
    (printed.header INHERITS v.inherits ++ printed.header FRIEND v.friends) rest
    ∙ ap (λ (ts : List Token). printed.header IMPLEMENTS (v.implements ∷ []) ++ ts)
    (append_assoc (printed.header INHERITS v.inherits) (printed.header FRIEND v.friends) rest)

headers_again : (v : Interface) (l : ℕ) (rest : List Token) → IsShortName v.implements
    → AllByRecursion IsShortName v.inherits → AllByRecursion IsShortName v.friends
    → passes is_line_end (head rest) ≡ false
    → (loop is_word item (ahead l v.others)).reads (printed.headers v ++ rest)
    ≡ (loop is_word item (behind Private 4096 l (record v { groups = [] }))).reads rest
headers_again v l rest h i k e =
    let third : List Token = printed.header FRIEND v.friends ++ rest in
    let second : List Token = printed.header INHERITS v.inherits ++ third in
    let named : Interface = with_name v.others v.implements in
    ap (loop is_word item (ahead l v.others)).reads (headers_tail v rest)
    ∙ loop_step is_word item item_short (ahead l v.others) (behind_name_line l named)
    (printed.header IMPLEMENTS (v.implements ∷ []) ++ second) second refl
    (implements_again v.implements l v.others second h refl)
    ∙ loop_step is_word item item_short (behind_name_line l named)
    (behind_inherits l (record named { inherits = v.inherits })) second third refl
    (inherits_again v.inherits l named third i refl)
    ∙ loop_step is_word item item_short (behind_inherits l (record named { inherits = v.inherits }))
    (behind Private 4096 l (record v { groups = [] })) third rest refl
    (friends_again v.friends l (record named { inherits = v.inherits }) rest k e)

-- ---- the whole file

-- what a spelled tree is, so that it can be printed
pub record Fits (v : Interface) : Type 0 where
  pub implements : IsShortName v.implements
  pub inherits : AllByRecursion IsShortName v.inherits
  pub friends : AllByRecursion IsShortName v.friends
  pub groups : AllByRecursion FitsGroup v.groups
  pub group_count : length v.groups ≤ 4096
  pub lines : AllByRecursion FitsLine v.others
  pub line_count : length v.others ≤ 4096

pub record ReadAgain (v : Interface) : Type 0 where
  pub s : Read
  pub reads : file.reads (printed.interface_tokens v) ≡ Ok (s, [])
  pub implements : s.implements ≡ true
  pub tree : s.tree ≡ v

pub printed_again : (v : Interface) → Fits v → ReadAgain v
printed_again v f =
    let groups : List Token = flat_map printed.group v.groups in
    let rest : List Token = printed.headers v ++ groups in
    let one = lines_again v.others [] 4096 rest f.line_count f.lines refl in
    let two = headers_again v one.0 groups f.implements f.inherits f.friends
    (starts_groups v.groups) in
    let three = groups_again v.groups f.groups Private 4096 one.0 (record v { groups = [] })
    f.group_count in
    record {
      s = behind three.0 three.1 one.0 v;
      reads = rw (no_skip (printed.interface_tokens v) (starts_lines v.others rest f.lines refl))
          (one.1 ∙ two ∙ three.2);
      implements = refl;
      tree = refl;
    }
