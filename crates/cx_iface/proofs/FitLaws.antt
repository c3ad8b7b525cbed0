-- What holds of each interface that some tokens spell, so that it can be printed.
use Rattle.std.proofs.Common.{◌≡◌, ◌≤◌, ◌<◌, ◌+◌, ℕ, zero, suc, nat_eq, Bool, true, false, not, cond, ◌||◌, ◌&&◌, List, [], ◌∷◌, ◌++◌, length, map, Option, Some, None, refl, inl, inr, sym, ap, subst, ◌∙◌, append_assoc, arith}
use Rattle.std.specs.Prelude.{unwrap_or, codes}
use Rattle.std.specs.List.{AllByRecursion}
use Rattle.std.specs.Str.{bytes_eq}
use Rattle.std.specs.Char.{to_ascii_lowercase}
use Rattle.std.proofs.lemmas.Bool.{eqb-false}
use Rattle.std.proofs.lemmas.List.{append-nil, length-append}
use Rattle.cx_text.specs.declared.ctype.CType.{CType}
use Rattle.cx_text.specs.declared.stop.Mark.{Mark}
use Rattle.cx_text.specs.declared.stop.Mark.TheVariants.{Repeated, Limit}
use Rattle.cx_text.specs.declared.token.Token.{Token}
use Rattle.cx_text.specs.Tokens.{is_word, is_line_end}
use Rattle.cx_text.specs.Grammar.{passes, Spells}
use Rattle.cx_text.specs.Rules.{Rule, nothing, choice, is_named, is_sign, name_of, name_mark, line_ends, line_end, sign, sign_here}
use Rattle.cx_text.specs.Lexemes.{first_mark, among, new_name, comma, is_comma_or_word, is_quoted, names, kept, kept_if, more_kept, in_line}
use Rattle.cx_text.specs.Lexemes as lexemes
use Rattle.cx_text.specs.Written.{word}
use Rattle.cx_text.proofs.Printing.{IsShortName}
use Rattle.cx_text.proofs.Holds.{first_none, Holds, NamesAre, unmarked_clean, holds_any, holds_also, holds_nothing, holds_token, holds_lookahead, holds_choice, holds_loop, holds_lexeme, weaker_holds, names_hold, name_is_word, name_is_short, each-append, spelled_holds}
use Rattle.cx_iface.specs.declared.tree.Access.{Access}
use Rattle.cx_iface.specs.declared.tree.Interface.{Interface}
use Rattle.cx_iface.specs.declared.interface.Read.{Read}
use Rattle.cx_iface.specs.declared.words.First.{First}
use Rattle.cx_iface.specs.declared.words.First.TheVariants as firsts
use Rattle.cx_iface.specs.Words.{FUNCTION, is_line_word, begins_with}
use Rattle.cx_iface.specs.Groups.{group_name_of, group_name, copies, variables, block_or_name, group}
use Rattle.cx_iface.specs.File.{implements, inherits, friends, access, grouped, line, kept_line, function, part, again_mark, worded, item, file, interface}
use Rattle.cx_iface.proofs.PrintLaws.{CopiesFit, Distinct}
use Rattle.cx_iface.proofs.FileAgain.{FitsGroup, FitsLine, InLine, Fits}
use Rattle.cx_iface.proofs.AttributesFit.{Every, both, named_is, ends_no_line, KeptToken, is_kept, InRange, FitsAttributes, number_fits, attribute_fits, none_fit}

text_at : (b : Bool) (text n : List ℕ) → cond b (Some text) None ≡ Some n → (b ≡ true) × (text ≡ n)
text_at true text n e = (refl, cc)
text_at false text n e = absurd cc

pub not_true : (b : Bool) → not b ≡ true → b ≡ false
not_true true e = absurd cc
not_true false e = refl

short : NamesAre Every IsShortName
short t n h v m = name_is_short t n v m

-- ---- groups

record NameFits (full : Bool) (n : List ℕ) : Type 0 where
  name : IsShortName n
  named : is_named FUNCTION (word n) ≡ false
  room : full ≡ false

pub group_name_is : (t : Token) (n : List ℕ) → group_name_of t ≡ Some n → name_of t ≡ Some n
group_name_is t n v =
    let k = text_at (is_word t && not (is_named FUNCTION t)) t.text n v in
    let p = both (is_word t) (not (is_named FUNCTION t)) k.0 in
    ap (λ (b : Bool). cond b (Some t.text) None) p.0 ∙ ap (λ (text : List ℕ). Some text) k.1

name_fits : (full : Bool) → Holds Every (group_name full) (λ k n. NameFits full n)
name_fits full = holds_lexeme (λ t n h v m.
    let k = text_at (is_word t && not (is_named FUNCTION t)) t.text n v in
    let p = both (is_word t) (not (is_named FUNCTION t)) k.0 in
    let f = first_none full Limit (name_mark t) m in
    let other : bytes_eq (map to_ascii_lowercase t.text) (map to_ascii_lowercase FUNCTION) ≡ false =
    sym (ap (λ (w : Bool). w
    && bytes_eq (map to_ascii_lowercase t.text) (map to_ascii_lowercase FUNCTION)) p.0)
    ∙ not_true (is_named FUNCTION t) p.1 in
    record {
      name = name_is_short t n (group_name_is t n v) f.1;
      named = subst (λ (text : List ℕ). is_named FUNCTION (word text) ≡ false) k.1 other;
      room = f.0;
    })

copies_fit : Holds Every (choice (is_sign 91) copies (nothing None)) (λ n k. CopiesFit k)
copies_fit = holds_choice
    (holds_also (holds_any (sign 91))
    (λ n u p. holds_also (number_fits 1 64)
    (λ m x r. holds_also (holds_any (sign 93)) (λ j v q. holds_nothing (λ i e. r)))))
    (holds_nothing (λ i e. tt))

distinct-push : (vs old : List (List ℕ)) (v : List ℕ) → Distinct old vs
    → among (old ++ vs) v ≡ false → IsShortName v → Distinct old (vs ++ v ∷ [])
distinct-push [] old v d fresh h =
    (ap (λ (ns : List (List ℕ)). among ns v) (sym (append-nil old)) ∙ fresh, h, tt)
distinct-push (w ∷ vs) old v d fresh h = (
  d.0,
  d.1,
  distinct-push vs (old ++ w ∷ []) v d.2
      (ap (λ (ns : List (List ℕ)). among ns v) (append_assoc old (w ∷ []) vs) ∙ fresh) h,
)

new_fits : (vs : List (List ℕ))
    → Holds Every (new_name vs) (λ n v. (among vs v ≡ false) × IsShortName v)
new_fits vs = holds_lexeme (λ t n h v m.
    let f = first_none (among vs t.text) Repeated (name_mark t) m in
    (ap (among vs) (sym (name_is_word t n v).1) ∙ f.0, name_is_short t n v f.1))

variables_fit : Holds Every variables (λ n vs. Distinct [] vs)
variables_fit =
    holds_also (new_fits []) (λ n v f.
    holds_loop (Distinct [])
    (λ vs d. holds_also (holds_any comma)
    (λ k u q. holds_also (new_fits vs)
    (λ j w g. holds_nothing (λ i. distinct-push vs [] w d g.0 g.1))))
    (f.0, f.1, tt))

contents_fit : (name text : List ℕ) → IsShortName name
    → Holds Every (block_or_name name text) (λ n c. Distinct [] c.variables)
contents_fit name text h = holds_choice
    (holds_also (holds_any (sign 123)) (λ n u p.
    holds_also (holds_choice {P = λ m vs. Distinct [] vs}
    (weaker_holds variables_fit (λ m vs d e. d)) (holds_nothing (λ m e. tt))) (λ m vs d.
    holds_also (holds_any (sign 125)) (λ j v q.
    holds_also (holds_any (choice is_quoted lexemes.quoted (nothing text))) (λ i s r.
    holds_nothing (λ l e. d))))))
    (holds_nothing (λ n e. (refl, h, tt)))

in_range : (low high other : ℕ) (k : Option ℕ) → low ≤ other → other ≤ high → InRange low high k
    → (low ≤ unwrap_or k other) × (unwrap_or k other ≤ high)
in_range low high other None l h r = (l, h)
in_range low high other (Some n) l h r = r

group_fits : (a : Access) (c : CType) (full : Bool)
    → Holds Every (group a c full) (λ n g. FitsGroup g × (full ≡ false))
group_fits a c full =
    holds_also (holds_any line_ends) (λ n u p.
    holds_also (name_fits full) (λ m name f.
    holds_also copies_fit (λ j k q.
    holds_also (holds_loop FitsAttributes attribute_fits none_fit) (λ i b fit.
    holds_also (holds_any (choice is_quoted lexemes.quoted (nothing []))) (λ l s r.
    holds_also (contents_fit name s f.name) (λ o contents d.
    holds_nothing (λ e. (
      record {
        name = f.name;
        named = f.named;
        copies = q;
        effects = record {
          dim = in_range 1 3 3 b.dim (omega arith) (omega arith) fit.dim;
          levels = in_range 1 8 1 b.levels (omega arith) (omega arith) fit.levels;
        };
        a = b;
        rest = refl;
        again = fit.again;
        variables = d;
      },
      f.room,
    ))))))))

-- ---- what is read so far

record FitsRead (s : Read) : Type 0 where
  implements : IsShortName s.tree.implements
  inherits : AllByRecursion IsShortName s.tree.inherits
  friends : AllByRecursion IsShortName s.tree.friends
  groups : AllByRecursion FitsGroup s.tree.groups
  group_count : s.groups + length s.tree.groups ≤ 4096
  lines : AllByRecursion FitsLine s.tree.others
  line_count : s.lines + length s.tree.others ≤ 4096

open_left : (left : ℕ) → nat_eq left 0 ≡ false → 0 < left
open_left zero h = absurd (eqb-false zero zero h refl)
open_left (suc n) h = omega arith

under : {A : Type 0} {r : Rule A} {Q : Type 0} {P : Option Token → A → Type 0}
    → (Q → Holds Every r P) → Holds Every r (λ n x. Q → P n x)
under f = record { law = λ x ms next d u q. (f q).law x ms next d u }

-- ---- lines

record Longer (ts us : List Token) : Type 0 where
  more : List Token
  is : us ≡ ts ++ more
  each : AllByRecursion InLine more

more_fit : (ts us : List Token) → Longer ts us
    → Holds Every (more_kept in_line us) (λ n vs. Longer ts vs)
more_fit ts us g =
    holds_also (holds_token {P = KeptToken in_line (λ t. None)}
    (λ t x h v m. is_kept in_line (λ u. None) t x v m)) (λ n x k.
    holds_nothing (λ i. record {
      more = g.more ++ x ∷ [];
      is = ap (λ (ws : List Token). ws ++ x ∷ []) g.is ∙ append_assoc ts g.more (x ∷ []);
      each = each-append InLine g.more (x ∷ []) g.each
          (subst InLine (sym k.is) (not_true (is_line_end k.tok) k.passes, refl), tt);
    }))

line_fits : (ts : List Token) (s : Read) → FitsRead s → nat_eq s.lines 0 ≡ false
    → ((more : List Token) → AllByRecursion InLine more → FitsLine (ts ++ more))
    → Holds Every (line ts s) (λ n r. FitsRead r)
line_fits ts s f room fits =
    holds_also (holds_loop (Longer ts) (more_fit ts)
    (record { more = []; is = sym (append-nil ts); each = tt })) (λ n us g.
    holds_also (holds_any line_end) (λ m u p.
    holds_nothing (λ i. record {
      implements = f.implements;
      inherits = f.inherits;
      friends = f.friends;
      groups = f.groups;
      group_count = f.group_count;
      lines = each-append FitsLine s.tree.others (us ∷ []) f.lines
          (subst FitsLine (sym g.is) (fits g.more g.each), tt);
      line_count = let l = f.line_count in let o = open_left s.lines room in
          let e = length-append s.tree.others (us ∷ []) in omega (arith, l, o, e);
    })))

six : (w a b c d e f : Bool)
    → ((w && a) || (w && b) || (w && c) || (w && d) || (w && e) || (w && f)) ≡ true → w ≡ true
six true a b c d e f h = refl
six false a b c d e f h = absurd cc

pub line_word_is_word : (t : Token) → is_line_word t ≡ true → is_word t ≡ true
line_word_is_word t h =
    let is : List ℕ → Bool =
    λ name. bytes_eq (map to_ascii_lowercase t.text) (map to_ascii_lowercase name) in
    six (is_word t) (is (codes "USES")) (is (codes "INCLUDE")) (is (codes "INCLUDES"))
    (is (codes "PROVIDES")) (is (codes "REQUIRES")) (is (codes "SUBROUTINE")) h

kept_line_fits : (s : Read) → FitsRead s → Holds Every (kept_line s) (λ n r. FitsRead r)
kept_line_fits s f =
    let mark : Token → Option Mark = λ t. first_mark (nat_eq s.lines 0) Limit None in
    holds_also (holds_token {P = KeptToken is_line_word mark}
    (λ t x h v m. is_kept is_line_word mark t x v m)) (λ n w k.
    line_fits (w ∷ []) s f (first_none (nat_eq s.lines 0) Limit None k.unmarked).0 (λ more each.
    let P : Token → Type 0 = λ t. FitsLine (t ∷ more) in
    subst P (sym k.is) (line_word_is_word k.tok k.passes, refl, each, inl k.passes)))

function_fits : (w : Token) (s : Read) → FitsRead s → is_word w ≡ true → kept w ≡ w
    → is_line_word w ≡ false → Holds Every (function w s) (λ n r. FitsRead r)
function_fits w s f word_is same other =
    let mark : Token → Option Mark = λ t. first_mark (nat_eq s.lines 0) Limit None in
    holds_also (holds_token {P = KeptToken (is_named FUNCTION) mark}
    (λ t x h v m. is_kept (is_named FUNCTION) mark t x v m)) (λ n x k.
    line_fits (w ∷ x ∷ []) s f (first_none (nat_eq s.lines 0) Limit None k.unmarked).0 (λ more each.
    let P : Token → Type 0 = λ t. FitsLine (w ∷ t ∷ more) in
    subst P (sym k.is) (
      word_is,
      same,
      ((ends_no_line k.tok.kind (named_is FUNCTION k.tok k.passes).0, refl), each),
      inr (other, k.passes),
    )))

-- ---- parts

implements_fits : (s : Read) → FitsRead s → Holds Every (implements s) (λ n r. FitsRead r)
implements_fits s f =
    holds_also (holds_any line_ends) (λ n u p.
    holds_also (holds_any (sign 58)) (λ m v q.
    holds_also (holds_token {P = λ j x. IsShortName x} (λ t x h v m. name_is_short t x v m))
    (λ j name w.
    holds_also (holds_any line_end) (λ i x r.
    holds_nothing
    (λ l. record {
      implements = w;
      inherits = f.inherits;
      friends = f.friends;
      groups = f.groups;
      group_count = f.group_count;
      lines = f.lines;
      line_count = f.line_count;
    })))))

inherits_fits : (s : Read) → FitsRead s → Holds Every (inherits s) (λ n r. FitsRead r)
inherits_fits s f =
    holds_also (holds_any line_ends) (λ n u p.
    holds_also (holds_any (sign_here 58)) (λ m v q.
    holds_also (names_hold IsShortName short [] tt) (λ j ns w.
    holds_also (holds_any line_end) (λ i x r.
    holds_nothing
    (λ l. record {
      implements = f.implements;
      inherits = w;
      friends = f.friends;
      groups = f.groups;
      group_count = f.group_count;
      lines = f.lines;
      line_count = f.line_count;
    })))))

friends_fit : (s : Read) → FitsRead s → Holds Every (friends s) (λ n r. FitsRead r)
friends_fit s f =
    holds_also (holds_any line_ends) (λ n u p.
    holds_also (holds_any (sign_here 58)) (λ m v q.
    holds_also (names_hold IsShortName short [] tt) (λ j ns w.
    holds_also (holds_any line_end) (λ i x r.
    holds_nothing
    (λ l. record {
      implements = f.implements;
      inherits = f.inherits;
      friends = w;
      groups = f.groups;
      group_count = f.group_count;
      lines = f.lines;
      line_count = f.line_count;
    })))))

access_fits : (a : Access) (s : Read) → FitsRead s → Holds Every (access a s) (λ n r. FitsRead r)
access_fits a s f =
    holds_also (holds_any line_ends) (λ n u p.
    holds_also (holds_any (sign 58)) (λ m v q.
    holds_nothing
    (λ l. record {
      implements = f.implements;
      inherits = f.inherits;
      friends = f.friends;
      groups = f.groups;
      group_count = f.group_count;
      lines = f.lines;
      line_count = f.line_count;
    })))

grouped_fits : (c : CType) (s : Read) → FitsRead s → Holds Every (grouped c s) (λ n r. FitsRead r)
grouped_fits c s f =
    holds_also (group_fits s.access c (nat_eq s.groups 0)) (λ n g q.
    holds_nothing (λ l. record {
      implements = f.implements;
      inherits = f.inherits;
      friends = f.friends;
      groups = each-append FitsGroup s.tree.groups (g ∷ []) f.groups (q.0, tt);
      group_count = let k = f.group_count in let o = open_left s.groups q.1 in
          let e = length-append s.tree.groups (g ∷ []) in omega (arith, k, o, e);
      lines = f.lines;
      line_count = f.line_count;
    }))

either : {test : Token → Bool} {r t : Rule Read} → Holds Every r (λ n s. FitsRead s)
    → Holds Every t (λ n s. FitsRead s) → Holds Every (choice test r t) (λ n s. FitsRead s)
either one other = holds_choice (weaker_holds one (λ n b q e. q))
    (weaker_holds other (λ n b q e. q))

part_fits : (k : First) (w : Token) (s : Read) → FitsRead s → is_word w ≡ true → kept w ≡ w
    → is_line_word w ≡ false → Holds Every (part k w s) (λ n r. FitsRead r)
part_fits firsts.Implements w s f v same other =
    either (function_fits w s f v same other) (implements_fits s f)
part_fits firsts.Inherits w s f v same other =
    either (function_fits w s f v same other) (inherits_fits s f)
part_fits firsts.Friend w s f v same other =
    either (function_fits w s f v same other) (friends_fit s f)
part_fits (firsts.Access a) w s f v same other =
    either (function_fits w s f v same other) (access_fits a s f)
part_fits (firsts.Group c) w s f v same other =
    either (function_fits w s f v same other) (grouped_fits c s f)
part_fits firsts.Other w s f v same other = function_fits w s f v same other

worded_fits : (s : Read) → FitsRead s
    → Holds Every (worded s) (λ n r. passes is_line_word n ≡ false → FitsRead r)
worded_fits s f =
    holds_lookahead (λ t w b h v m.
    let k = is_kept is_word (again_mark s b) t w v m in
    weaker_holds (under (λ plain.
    let other : is_line_word w ≡ false =
    ap is_line_word k.is ∙ ap (passes is_line_word) (sym k.begins) ∙ plain in
    part_fits (begins_with w) w s f (ap is_word k.is ∙ k.passes) (ap kept k.is ∙ sym k.is) other))
    (λ n r q e. q))

item_fits : (s : Read) → FitsRead s → Holds Every (item s) (λ n r. FitsRead r)
item_fits s f = holds_choice (weaker_holds (kept_line_fits s f) (λ n r q e. q)) (worded_fits s f)

file_fits : Holds Every file (λ n s. FitsRead s)
file_fits =
    holds_also (holds_any line_ends) (λ n u p.
    holds_loop FitsRead item_fits
    (record {
      implements = omega arith;
      inherits = tt;
      friends = tt;
      groups = tt;
      group_count = omega arith;
      lines = tt;
      line_count = omega arith;
    }))

-- What some tokens spell can be printed.
pub fits : (ts : List Token) (v : Interface) → Spells interface ts v → Fits v
fits ts v (s, d, h, e) =
    let f = spelled_holds file_fits ts s d (unmarked_clean Every ts (λ t. tt)) in
    let whole : Fits s.tree = record {
      implements = f.implements;
      inherits = f.inherits;
      friends = f.friends;
      groups = f.groups;
      group_count = let k = f.group_count in omega (arith, k);
      lines = f.lines;
      line_count = let k = f.line_count in omega (arith, k);
    } in
    subst Fits (sym e) whole
