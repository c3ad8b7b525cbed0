-- The interface file is read as it derives.
use Rattle.std.proofs.Common.{◌≡◌, ℕ, Bool, true, false, cond, ◌&&◌, ◌||◌, nat_eq, List, [], ◌∷◌, Option, Some, None, refl, sym, ap, ◌∙◌, arith}
use Rattle.cx_text.specs.declared.stop.Mark.{Mark}
use Rattle.cx_text.specs.declared.stop.Mark.TheVariants.{Repeated, Limit}
use Rattle.cx_text.specs.declared.token.Token.{Token}
use Rattle.cx_text.specs.Grammar.{Item, head, next_of, passes}
use Rattle.cx_text.specs.Reading.{Answer, found}
use Rattle.cx_text.specs.Tokens.{is_word, is_line_end}
use Rattle.cx_text.specs.Rules.{Rule, nothing, ◌>>=◌, is_named, line_ends, sign_here, line_end}
use Rattle.cx_text.specs.Lexemes.{first_mark, names, kept_if, kept, more_kept, in_line}
use Rattle.cx_text.proofs.Choice.{at_test, at_other}
use Rattle.cx_text.proofs.Lookahead.{Goes, Lifts, lookahead_part}
use Rattle.cx_text.proofs.Laws.{Means, Beyond, beyond_also}
use Rattle.cx_text.proofs.Loops.{Short}
use Rattle.cx_text.proofs.RuleLaws.{Good, Part, Tail, Any, Not, short_part, weaker_part, before_part, token_then, lexeme_then, lexeme_last, part_choice, part_end, empty_then, line_ends_good, line_ends_empty, loop_good, loop_empty, a_line_end, tail_loop, tail_then}
use Rattle.cx_text.proofs.LexemeLaws.{a_word, a_sign, a_name, sign_is, Ended, names_good, names_empty, more_kept_good, more_kept_full, more_kept_short, line_ends_tail}
use Rattle.cx_iface.specs.declared.tree.Access.{Access}
use Rattle.cx_iface.specs.declared.interface.Read.{Read}
use Rattle.cx_iface.specs.declared.words.First.{First}
use Rattle.cx_iface.specs.declared.words.First.TheVariants as firsts
use Rattle.cx_iface.specs.Words.{FUNCTION, IMPLEMENTS, INHERITS, FRIEND, is_line_word, begins_with}
use Rattle.cx_iface.specs.File.{implements, inherits, friends, access, grouped, line, kept_line, function, or_function, part, is_again, again_mark, worded, item, file}
use Rattle.cx_iface.proofs.AttributeLaws.{Is}
use Rattle.cx_iface.proofs.GroupLaws.{AfterGroup, at_end, group_part}
use Rattle.cx_text.specs.declared.ctype.CType.{CType}

-- LineEnds, and then a part
after_line_ends : {B : Type 0} {f : Unit {0} → Rule B} {H : Option Token → Type 0} (t : Token)
    → is_line_end t ≡ false → ((u : Unit {0}) → Part (f u) (Is t) H)
    → Part (line_ends >>= f) (Is t) H
after_line_ends t e part =
    empty_then {K = Is t} line_ends_good line_ends_empty (λ n h. (rw h e, rw h e)) part

pub implements_part : (s : Read) → Part (implements s) (Is (a_sign 58)) Ended
implements_part s = after_line_ends (a_sign 58) refl
    (λ u. lexeme_then (sign_is 58 refl) refl
    (λ v. token_then a_name refl (λ n. lexeme_last {F = Any} a_line_end tt)))

names_line_part : {B : Type 0} (g : List (List ℕ) → B)
    → Part (line_ends >>= λ u. sign_here 58 >>= λ v. names [] >>= λ ns. line_end
    >>= λ w. nothing (g ns)) (Is (a_sign 58)) Ended
names_line_part g = after_line_ends (a_sign 58) refl
    (λ u. token_then (sign_is 58 refl) refl
    (λ v. empty_then (names_good []) (names_empty []) (λ n h. (h, h))
    (λ ns. lexeme_last a_line_end refl)))

access_part : (a : Access) (s : Read) → Part (access a s) (Is (a_sign 58)) Ended
access_part a s = after_line_ends (a_sign 58) refl (λ u. lexeme_last (sign_is 58 refl) refl)

grouped_part : (c : CType) (s : Read) → Part (grouped c s) (Is a_name.tok) AfterGroup
grouped_part c s = part_end None at_end (group_part s.access c (nat_eq s.groups 0))

abbrev in_line_is : Means (kept_if in_line)
in_line_is = record { tok = a_name.tok; x = kept a_name.tok; is = refl }

pub more_kept_in_line_short : (ts : List Token) → Short (more_kept in_line ts)
more_kept_in_line_short ts = more_kept_short in_line in_line_is ts

line_part : (ts : List Token) (s : Read) → Part (line ts s) (Not in_line) Ended
line_part ts s = empty_then {G = Not in_line}
    (loop_good {G = Any} (λ us. more_kept_good in_line in_line_is us)
    (λ us. more_kept_full in_line us) (λ n h. h) (λ n h. tt) None refl)
    (loop_empty (more_kept in_line) ts) (λ n h. (h, h)) (λ us. lexeme_last a_line_end refl)

abbrev a_line_word : Means (kept_if is_line_word)
a_line_word = record {
  tok = a_word (85 ∷ 83 ∷ 69 ∷ 83 ∷ []);
  x = a_word (85 ∷ 83 ∷ 69 ∷ 83 ∷ []);
  is = refl;
}

kept_line_part : (s : Read) → Part (kept_line s) Any Ended
kept_line_part s = token_then a_line_word tt (λ w. line_part (w ∷ []) s)

abbrev a_function : Means (kept_if (is_named FUNCTION))
a_function = record { tok = a_word FUNCTION; x = a_word FUNCTION; is = refl }

function_part : (w : Token) (s : Read) → Part (function w s) (Is a_function.tok) Ended
function_part w s = token_then a_function refl (λ f. line_part (w ∷ f ∷ []) s)

-- what follows an item
or_function_part : (w : Token) (s : Read) {r : Rule Read} (t : Token) → is_named FUNCTION t ≡ false
    → Part r (Is t) AfterGroup → Part (or_function w s r) Any AfterGroup
or_function_part w s t e part =
    weaker_part {F = Is t} (part_choice (before_part (function_part w s) (λ n h. h.ended)) part
    (λ n h. rw h e)) (λ n h. tt)

part_part : (k : First) (w : Token) (s : Read) → Part (part k w s) Any AfterGroup
part_part firsts.Implements w s =
    or_function_part w s (a_sign 58) refl (before_part (implements_part s) (λ n h. h.ended))
part_part firsts.Inherits w s =
    or_function_part w s (a_sign 58) refl
    (before_part (names_line_part
    (λ ns. record s { inherits = true; tree = record s.tree { inherits = ns } })) (λ n h. h.ended))
part_part firsts.Friend w s =
    or_function_part w s (a_sign 58) refl
    (before_part (names_line_part
    (λ ns. record s { friend = true; tree = record s.tree { friends = ns } })) (λ n h. h.ended))
part_part (firsts.Access a) w s =
    or_function_part w s (a_sign 58) refl (before_part (access_part a s) (λ n h. h.ended))
part_part (firsts.Group c) w s = or_function_part w s a_name.tok refl (grouped_part c s)
part_part firsts.Other w s =
    weaker_part {F = Is a_function.tok} (before_part (function_part w s) (λ n h. h.ended))
    (λ n h. tt)

abbrev a_first : Means (kept_if is_word)
a_first = record { tok = a_name.tok; x = a_name.tok; is = refl }

-- what a word begins that FUNCTION or another token follows
record Begins (k : First) (w : Token) (s : Read) (next : Option Token)
    (declares : Bool) : Type 0 where
  y : Read
  ms : List Item
  derived : (part k w s).derives y ms next
  first : passes (is_named FUNCTION) (next_of ms next) ≡ declares

function_begins : (k : First) (w : Token) (s : Read) (next : Option Token) → AfterGroup next
    → ((y : Read) (ms : List Item) → passes (is_named FUNCTION) (next_of ms next) ≡ true
    → (function w s).derives y ms next → (part k w s).derives y ms next) → Begins k w s next true
function_begins k w s next h derives =
    let e = ((function_part w s).ends next h.ended).law in
    let first : passes (is_named FUNCTION) (next_of e.1 next) ≡ true = rw e.3 refl in
    record { y = e.0; ms = e.1; derived = derives e.0 e.1 first e.2; first = first }

with_function : (k : First) (w : Token) (s : Read) (next : Option Token) → AfterGroup next
    → Begins k w s next true
with_function firsts.Implements w s next h =
    function_begins firsts.Implements w s next h (λ y ms e d. at_test _ _ _ e d)
with_function firsts.Inherits w s next h =
    function_begins firsts.Inherits w s next h (λ y ms e d. at_test _ _ _ e d)
with_function firsts.Friend w s next h =
    function_begins firsts.Friend w s next h (λ y ms e d. at_test _ _ _ e d)
with_function (firsts.Access a) w s next h =
    function_begins (firsts.Access a) w s next h (λ y ms e d. at_test _ _ _ e d)
with_function (firsts.Group c) w s next h =
    function_begins (firsts.Group c) w s next h (λ y ms e d. at_test _ _ _ e d)
with_function firsts.Other w s next h = function_begins firsts.Other w s next h (λ y ms e d. d)

other_begins : (k : First) (w : Token) (s : Read) {r : Rule Read} {G : Option Token → Type 0}
    (t : Token) → is_named FUNCTION t ≡ false → Part r (Is t) G → (next : Option Token) → G next
    → ((y : Read) (ms : List Item) → passes (is_named FUNCTION) (next_of ms next) ≡ false
    → r.derives y ms next → (part k w s).derives y ms next) → Begins k w s next false
other_begins k w s t e part next h derives =
    let k = (part.ends next h).law in
    let first : passes (is_named FUNCTION) (next_of k.1 next) ≡ false = rw k.3 e in
    record { y = k.0; ms = k.1; derived = derives k.0 k.1 first k.2; first = first }

none_begins : (a b c : Bool) (last : First)
    → cond a firsts.Implements (cond b firsts.Inherits (cond c firsts.Friend last)) ≡ firsts.Other
    → (a ≡ false) × (b ≡ false) × (c ≡ false)
none_begins true b c last e = absurd cc
none_begins false true c last e = absurd cc
none_begins false false true last e = absurd cc
none_begins false false false last e = (refl, refl, refl)

nothing_of : (p : Bool) → (p && false) ≡ false
nothing_of true = refl
nothing_of false = refl

no_header : (p q r a b c : Bool) → a ≡ false → b ≡ false → c ≡ false
    → ((p && a) || (q && b) || (r && c)) ≡ false
no_header p q r a b c d e f = rw (d, e, f, nothing_of p, nothing_of q, nothing_of r) refl

-- whatever stands behind the word, it begins something before which it has the same mark
same_mark : (s : Read) (t : Token) (k : First) → begins_with t ≡ k
    → (b : Bool) (w : Token) (next : Option Token) → AfterGroup next
    → (y : Read) × (ms : List Item) × (part k w s).derives y ms next
    × (again_mark s (passes (is_named FUNCTION) (next_of ms next)) t ≡ again_mark s b t)
same_mark s t k e true w next h = let f = with_function k w s next h in
    (f.y, f.ms, f.derived, ap (λ c. again_mark s c t) f.first)
same_mark s t firsts.Implements e false w next h = let f =
    other_begins firsts.Implements w s (a_sign 58) refl (implements_part s) next h.ended
    (λ y ms n d. at_other _ _ _ n d) in (f.y, f.ms, f.derived, ap (λ c. again_mark s c t) f.first)
same_mark s t firsts.Inherits e false w next h = let f =
    other_begins firsts.Inherits w s (a_sign 58) refl
    (names_line_part (λ ns. record s { inherits = true; tree = record s.tree { inherits = ns } }))
    next h.ended (λ y ms n d. at_other _ _ _ n d) in
    (f.y, f.ms, f.derived, ap (λ c. again_mark s c t) f.first)
same_mark s t firsts.Friend e false w next h = let f =
    other_begins firsts.Friend w s (a_sign 58) refl
    (names_line_part (λ ns. record s { friend = true; tree = record s.tree { friends = ns } }))
    next h.ended (λ y ms n d. at_other _ _ _ n d) in
    (f.y, f.ms, f.derived, ap (λ c. again_mark s c t) f.first)
same_mark s t (firsts.Access a) e false w next h = let f =
    other_begins (firsts.Access a) w s (a_sign 58) refl (access_part a s) next h.ended
    (λ y ms n d. at_other _ _ _ n d) in (f.y, f.ms, f.derived, ap (λ c. again_mark s c t) f.first)
same_mark s t (firsts.Group c) e false w next h = let f =
    other_begins (firsts.Group c) w s a_name.tok refl (grouped_part c s) next h
    (λ y ms n d. at_other _ _ _ n d) in (f.y, f.ms, f.derived, ap (λ b. again_mark s b t) f.first)
same_mark s t firsts.Other e false w next h =
    let f = with_function firsts.Other w s next h in
    let n = none_begins (is_named IMPLEMENTS t) (is_named INHERITS t) (is_named FRIEND t) _ e in
    let again : is_again s t ≡ false =
    no_header s.implements s.inherits s.friend _ _ _ n.0 n.1 n.2 in (
      f.y,
      f.ms,
      f.derived,
      ap (λ c. again_mark s c t) f.first
          ∙ sym (ap (λ c. first_mark c Repeated None) again),
    )

kept_is_word : (b : Bool) (t x : Token) → cond b (Some t) None ≡ Some x → x ≡ t
kept_is_word true t x e = cc
kept_is_word false t x e = absurd cc

word_goes : (s : Read) → Goes (kept_if is_word) (is_named FUNCTION) (again_mark s)
    (λ w. part (begins_with w) w s) AfterGroup
word_goes s = record {
  law =
      λ t x b next v h. same_mark s t (begins_with x)
      (sym (ap begins_with (kept_is_word (is_word t) (kept t) x v))) b x next h;
}

only_repeated : (s : Read) (b : Bool) (t : Token) (m : Mark) → again_mark s b t ≡ Some m
    → m ≡ Repeated
only_repeated s true t m e = absurd cc
only_repeated s false t m e = first_repeated (is_again s t) m e where
  first_repeated : (b : Bool) (m : Mark) → first_mark b Repeated None ≡ Some m → m ≡ Repeated
  first_repeated true m e = cc
  first_repeated false m e = absurd cc

-- ---- where the word goes on unmarked with FUNCTION, the line is read on

taken_beyond : (b : Bool) (x f : Token) (m : Option Mark) (fs : List Token) → b ≡ true
    → Beyond (found (cond b (Some x) None) m f fs) (f ∷ fs)
taken_beyond true x f None fs e = omega arith
taken_beyond true x f (Some m) fs e = tt
taken_beyond false x f m fs e = absurd cc

function_beyond : (w : Token) (s : Read) (rest : List Token)
    → passes (is_named FUNCTION) (head rest) ≡ true → Beyond ((function w s).reads rest) rest
function_beyond w s [] e = absurd cc
function_beyond w s (f ∷ fs) e =
    let m : Option Mark = first_mark (nat_eq s.lines 0) Limit None in
    beyond_also (λ g. (line (w ∷ g ∷ []) s).reads) (λ g. (line (w ∷ g ∷ []) s).derives) Ended
    (λ g. (line_part (w ∷ g ∷ []) s).good.law)
    (found (kept_if (is_named FUNCTION) f) m f fs) (f ∷ fs)
    (taken_beyond (is_named FUNCTION f) (kept f) f m fs e)

choice_beyond : (b : Bool) (x y : Answer Read) (rest : List Token) → b ≡ true → Beyond x rest
    → Beyond (cond b x y) rest
choice_beyond true x y rest e less = less
choice_beyond false x y rest e less = absurd cc

or_function_beyond : (w : Token) (s : Read) (r : Rule Read) (rest : List Token)
    → passes (is_named FUNCTION) (head rest) ≡ true → Beyond ((or_function w s r).reads rest) rest
or_function_beyond w s r rest e =
    choice_beyond (passes (is_named FUNCTION) (head rest)) ((function w s).reads rest)
    (r.reads rest) rest e (function_beyond w s rest e)

part_beyond : (k : First) (w : Token) (s : Read) (rest : List Token)
    → passes (is_named FUNCTION) (head rest) ≡ true → Beyond ((part k w s).reads rest) rest
part_beyond firsts.Implements w s rest e = or_function_beyond w s (implements s) rest e
part_beyond firsts.Inherits w s rest e = or_function_beyond w s (inherits s) rest e
part_beyond firsts.Friend w s rest e = or_function_beyond w s (friends s) rest e
part_beyond (firsts.Access a) w s rest e = or_function_beyond w s (access a s) rest e
part_beyond (firsts.Group c) w s rest e = or_function_beyond w s (grouped c s) rest e
part_beyond firsts.Other w s rest e = function_beyond w s rest e

-- only FUNCTION behind it lifts a word's mark
lifted : (s : Read) (b c : Bool) (t : Token) (m : Mark) → again_mark s b t ≡ Some m
    → again_mark s c t ≡ None → c ≡ true
lifted s b true t m e n = refl
lifted s true false t m e n = absurd cc
lifted s false false t m e n = absurd (let both = sym e ∙ n in cc)

word_lifts : (s : Read) → Lifts (kept_if is_word) (is_named FUNCTION) (again_mark s)
    (λ w. part (begins_with w) w s)
word_lifts s = record {
  law =
      λ t x rest b m v e n. part_beyond (begins_with x) x s rest
      (lifted s b (passes (is_named FUNCTION) (head rest)) t m e n);
}

worded_part : (s : Read) → Part (worded s) (Is a_name.tok) AfterGroup
worded_part s = lookahead_part (kept_if is_word) (is_named FUNCTION) (again_mark s)
    (λ w. part (begins_with w) w s) AfterGroup a_first (λ w. part_part (begins_with w) w s)
    (word_goes s) (word_lifts s) (only_repeated s) refl

pub item_part : (s : Read) → Part (item s) (Is a_name.tok) AfterGroup
item_part s = part_choice (before_part (kept_line_part s) (λ n h. h.ended)) (worded_part s)
    (λ n h. rw h refl)

pub item_short : (s : Read) → Short (item s)
item_short s = short_part (item_part s).good (item_part s).full

-- what follows a file
abbrev pub AfterFile : Option Token → Type 0
AfterFile n = Not is_word n × AfterGroup n

file_tail : Tail file AfterFile
file_tail = tail_then (line_ends_tail None (refl, at_end) (λ n h. h.1.ended))
    (λ u. tail_loop None (refl, at_end) item_part (λ n h. h.1) (λ n h. h.0))

pub file_good : Good file AfterFile
file_good = file_tail.good
