-- Each name and each kept token of an interface that some text spells can be printed.
use Rattle.std.proofs.Common.{◌≡◌, ℕ, nat_eq, Bool, true, false, List, [], ◌∷◌, Option, Some, None, subst, sym}
use Rattle.std.specs.Prelude.{is_some}
use Rattle.std.specs.List.{AllByRecursion}
use Rattle.cx_text.specs.declared.ctype.CType.{CType}
use Rattle.cx_text.specs.declared.stop.Mark.{Mark}
use Rattle.cx_text.specs.declared.stop.Mark.TheVariants.{Repeated}
use Rattle.cx_text.specs.declared.token.Token.{Token}
use Rattle.cx_text.specs.declared.token.Style.TheVariants.{Ccl}
use Rattle.cx_text.specs.Tokens.{is_word, is_line_end}
use Rattle.cx_text.specs.Grammar.{Spells}
use Rattle.cx_text.specs.Pieces.{Spelled}
use Rattle.cx_text.specs.Rules.{Rule, nothing, choice, lexeme, unmarked, is_named, is_sign, line_ends, line_end, sign, sign_here}
use Rattle.cx_text.specs.Lexemes.{first_mark, new_name, number_in, comma, once, is_quoted, names, kept, kept_if, more_kept, in_line}
use Rattle.cx_text.specs.Lexemes as lexemes
use Rattle.cx_text.specs.Written.{word}
use Rattle.cx_text.proofs.PrintLaws.{Printable, printable_kept, all_printable}
use Rattle.cx_text.proofs.WrittenLaws.{unmarked_printable, printable_name}
use Rattle.cx_text.proofs.Holds.{Holds, NamesAre, holds_any, holds_also, holds_nothing, holds_token, holds_lookahead, holds_choice, holds_loop, holds_lexeme, weaker_holds, names_hold, each-append, spelled_holds}
use Rattle.cx_iface.specs.declared.tree.Access.{Access}
use Rattle.cx_iface.specs.declared.tree.Group.{Group}
use Rattle.cx_iface.specs.declared.tree.Interface.{Interface}
use Rattle.cx_iface.specs.declared.interface.Read.{Read}
use Rattle.cx_iface.specs.declared.attributes.Attributes.{Attributes}
use Rattle.cx_iface.specs.declared.words.First.{First}
use Rattle.cx_iface.specs.declared.words.First.TheVariants as firsts
use Rattle.cx_iface.specs.Words.{FUNCTION, TYPE, DIM, TIMELEVELS, DISTRIB, SIZE, GHOSTSIZE, TAGS, is_line_word, gtype_of, begins_with}
use Rattle.cx_iface.specs.Attributes.{keep, is_distribution, is_size, sizes, type_, dim, levels, distrib, size, ghostsize, tags, attribute}
use Rattle.cx_iface.specs.Groups.{group_name, copies, variables, block_or_name, group}
use Rattle.cx_iface.specs.File.{implements, inherits, friends, access, grouped, line, kept_line, function, part, again_mark, worded, item, file, interface}
use Rattle.cx_iface.proofs.AttributesFit.{named_is, ends_no_line, sign_ended, size_ended, quoted_ended, distribution_ended, kept_at}
use Rattle.cx_iface.proofs.FileAgain.{word_stays}
use Rattle.cx_iface.proofs.FitLaws.{not_true, group_name_is, line_word_is_word}

-- a name that can be printed
abbrev pub IsPrintable : List ℕ → Type 0
IsPrintable n = Printable Ccl (word n)

-- a token inside a line that can be printed
abbrev pub IsInside : Token → Type 0
IsInside t = Printable Ccl t × (is_line_end t ≡ false)

-- the tokens that pass a test end no line
abbrev EndsNone : (Token → Bool) → Type 0
EndsNone test = (t : Token) → test t ≡ true → is_line_end t ≡ false

kept_inside : (test : Token → Bool) → EndsNone test → (t x : Token) → Printable Ccl t
    → kept_if test t ≡ Some x → IsInside x
kept_inside test ends t x p v =
    let k = kept_at (test t) (kept t) x v in
    subst IsInside k.1 (printable_kept p, ends t k.0)

named_ended : (name : List ℕ) → EndsNone (is_named name)
named_ended name t h = ends_no_line t.kind (named_is name t h).0

printable_names : NamesAre (Printable Ccl) IsPrintable
printable_names t n p v m = printable_name Ccl t n p v

-- ---- attributes

keep_inside : (test : Token → Bool) (mark : Token → Option Mark) → EndsNone test → (ts : List Token)
    → AllByRecursion IsInside ts
    → Holds (Printable Ccl) (keep test mark ts) (λ n us. AllByRecursion IsInside us)
keep_inside test mark ends ts h =
    holds_also (holds_lexeme {P = λ n x. IsInside x} (λ t x p v m. kept_inside test ends t x p v))
    (λ n x i.
    holds_nothing (λ m. each-append IsInside ts (x ∷ []) h (i, tt)))

sizes_inside : (ts : List Token) → AllByRecursion IsInside ts
    → Holds (Printable Ccl) (sizes ts) (λ n us. AllByRecursion IsInside us)
sizes_inside ts h =
    holds_also (keep_inside is_size unmarked size_ended ts h) (λ n us u.
    holds_loop (AllByRecursion IsInside) (λ vs v.
    holds_also (keep_inside (is_sign 44) unmarked (sign_ended 44) vs v)
    (λ m ws w. keep_inside is_size unmarked size_ended ws w))
    u)

-- those that are kept of attributes
abbrev RestInside : Attributes → Type 0
RestInside a = AllByRecursion IsInside a.rest

distrib_inside : (a : Attributes) → RestInside a
    → Holds (Printable Ccl) (distrib a) (λ n b. RestInside b)
distrib_inside a h =
    holds_also (keep_inside (is_named DISTRIB) (λ t. first_mark a.distrib Repeated None)
    (named_ended DISTRIB) a.rest h) (λ n us u.
    holds_also (keep_inside (is_sign 61) unmarked (sign_ended 61) us u) (λ m vs v.
    holds_also (keep_inside is_distribution unmarked distribution_ended vs v) (λ j ws w.
    holds_nothing (λ i. w))))

size_inside : (a : Attributes) → RestInside a → Holds (Printable Ccl) (size a) (λ n b. RestInside b)
size_inside a h =
    holds_also (keep_inside (is_named SIZE) (λ t. first_mark a.size Repeated None)
    (named_ended SIZE) a.rest h) (λ n us u.
    holds_also (keep_inside (is_sign 61) unmarked (sign_ended 61) us u) (λ m vs v.
    holds_also (sizes_inside vs v) (λ j ws w.
    holds_nothing (λ i. w))))

ghostsize_inside : (a : Attributes) → RestInside a
    → Holds (Printable Ccl) (ghostsize a) (λ n b. RestInside b)
ghostsize_inside a h =
    holds_also (keep_inside (is_named GHOSTSIZE) (λ t. first_mark a.ghostsize Repeated None)
    (named_ended GHOSTSIZE) a.rest h) (λ n us u.
    holds_also (keep_inside (is_sign 61) unmarked (sign_ended 61) us u) (λ m vs v.
    holds_also (sizes_inside vs v) (λ j ws w.
    holds_nothing (λ i. w))))

tags_inside : (a : Attributes) → RestInside a → Holds (Printable Ccl) (tags a) (λ n b. RestInside b)
tags_inside a h =
    holds_also (keep_inside (is_named TAGS) (λ t. first_mark a.tags Repeated None)
    (named_ended TAGS) a.rest h) (λ n us u.
    holds_also (keep_inside (is_sign 61) unmarked (sign_ended 61) us u) (λ m vs v.
    holds_also (keep_inside is_quoted unmarked quoted_ended vs v) (λ j ws w.
    holds_nothing (λ i. w))))

type_inside : (a : Attributes) → RestInside a
    → Holds (Printable Ccl) (type_ a) (λ n b. RestInside b)
type_inside a h =
    holds_also (holds_any (once TYPE (is_some a.gtype))) (λ n u p.
    holds_also (holds_any (sign 61)) (λ m v q.
    holds_also (holds_any (lexeme gtype_of unmarked)) (λ j g r.
    holds_nothing (λ i. h))))

dim_inside : (a : Attributes) → RestInside a → Holds (Printable Ccl) (dim a) (λ n b. RestInside b)
dim_inside a h =
    holds_also (holds_any (once DIM (is_some a.dim))) (λ n u p.
    holds_also (holds_any (sign 61)) (λ m v q.
    holds_also (holds_any (number_in 1 3)) (λ j x r.
    holds_nothing (λ i. h))))

levels_inside : (a : Attributes) → RestInside a
    → Holds (Printable Ccl) (levels a) (λ n b. RestInside b)
levels_inside a h =
    holds_also (holds_any (once TIMELEVELS (is_some a.levels))) (λ n u p.
    holds_also (holds_any (sign 61)) (λ m v q.
    holds_also (holds_any (number_in 1 8)) (λ j x r.
    holds_nothing (λ i. h))))

-- of two ways
either : {test : Token → Bool} {r s : Rule Attributes}
    → Holds (Printable Ccl) r (λ n b. RestInside b) → Holds (Printable Ccl) s (λ n b. RestInside b)
    → Holds (Printable Ccl) (choice test r s) (λ n b. RestInside b)
either one other = holds_choice (weaker_holds one (λ n b q e. q))
    (weaker_holds other (λ n b q e. q))

attribute_inside : (a : Attributes) → RestInside a
    → Holds (Printable Ccl) (attribute a) (λ n b. RestInside b)
attribute_inside a h = either
    (either (type_inside a h) (either (dim_inside a h) (levels_inside a h)))
    (either (distrib_inside a h)
    (either (size_inside a h) (either (ghostsize_inside a h) (tags_inside a h))))

-- ---- groups

pub record ShownGroup (g : Group) : Type 0 where
  pub name : IsPrintable g.name
  pub rest : AllByRecursion IsInside g.rest
  pub variables : AllByRecursion IsPrintable g.variables

group_name_shown : (full : Bool) → Holds (Printable Ccl) (group_name full) (λ n x. IsPrintable x)
group_name_shown full = holds_lexeme (λ t n p v m. printable_name Ccl t n p (group_name_is t n v))

new_name_shown : (vs : List (List ℕ)) → Holds (Printable Ccl) (new_name vs) (λ n x. IsPrintable x)
new_name_shown vs = holds_lexeme (λ t n p v m. printable_name Ccl t n p v)

variables_shown : Holds (Printable Ccl) variables (λ n vs. AllByRecursion IsPrintable vs)
variables_shown =
    holds_also (new_name_shown []) (λ n v p.
    holds_loop (AllByRecursion IsPrintable)
    (λ vs d. holds_also (holds_any comma)
    (λ k u q. holds_also (new_name_shown vs)
    (λ j w g. holds_nothing (λ i. each-append IsPrintable vs (w ∷ []) d (g, tt)))))
    (p, tt))

contents_shown : (name text : List ℕ) → IsPrintable name
    → Holds (Printable Ccl) (block_or_name name text)
    (λ n c. AllByRecursion IsPrintable c.variables)
contents_shown name text h = holds_choice
    (holds_also (holds_any (sign 123)) (λ n u p.
    holds_also (holds_choice {P = λ m vs. AllByRecursion IsPrintable vs}
    (weaker_holds variables_shown (λ m vs d e. d)) (holds_nothing (λ m e. tt))) (λ m vs d.
    holds_also (holds_any (sign 125)) (λ j v q.
    holds_also (holds_any (choice is_quoted lexemes.quoted (nothing text))) (λ i s r.
    holds_nothing (λ l e. d))))))
    (holds_nothing (λ n e. (h, tt)))

group_shown : (a : Access) (c : CType) (full : Bool)
    → Holds (Printable Ccl) (group a c full) (λ n g. ShownGroup g)
group_shown a c full =
    holds_also (holds_any line_ends) (λ n u p.
    holds_also (group_name_shown full) (λ m name f.
    holds_also (holds_any (choice (is_sign 91) copies (nothing None))) (λ j k q.
    holds_also (holds_loop RestInside attribute_inside tt) (λ i b inside.
    holds_also (holds_any (choice is_quoted lexemes.quoted (nothing []))) (λ l s r.
    holds_also (contents_shown name s f) (λ o contents d.
    holds_nothing (λ e. record { name = f; rest = inside; variables = d })))))))

-- ---- what is read so far

record ShownRead (s : Read) : Type 0 where
  implements : s.implements ≡ true → IsPrintable s.tree.implements
  inherits : AllByRecursion IsPrintable s.tree.inherits
  friends : AllByRecursion IsPrintable s.tree.friends
  groups : AllByRecursion ShownGroup s.tree.groups
  lines : AllByRecursion (AllByRecursion IsInside) s.tree.others

in_line_ended : EndsNone in_line
in_line_ended t h = not_true (is_line_end t) h

more_shown : (us : List Token) → AllByRecursion IsInside us
    → Holds (Printable Ccl) (more_kept in_line us) (λ n vs. AllByRecursion IsInside vs)
more_shown us h =
    holds_also (holds_token {P = λ n x. IsInside x}
    (λ t x p v m. kept_inside in_line in_line_ended t x p v)) (λ n x i.
    holds_nothing (λ m. each-append IsInside us (x ∷ []) h (i, tt)))

line_shown : (ts : List Token) (s : Read) → ShownRead s → AllByRecursion IsInside ts
    → Holds (Printable Ccl) (line ts s) (λ n r. ShownRead r)
line_shown ts s f h =
    holds_also (holds_loop (AllByRecursion IsInside) more_shown h) (λ n us u.
    holds_also (holds_any line_end) (λ m v p.
    holds_nothing
    (λ i. record {
      implements = f.implements;
      inherits = f.inherits;
      friends = f.friends;
      groups = f.groups;
      lines =
          each-append (AllByRecursion IsInside) s.tree.others (us ∷ []) f.lines (u, tt);
    })))

kept_line_shown : (s : Read) → ShownRead s
    → Holds (Printable Ccl) (kept_line s) (λ n r. ShownRead r)
kept_line_shown s f =
    holds_also (holds_token {P = λ n x. IsInside x}
    (λ t x p v m. kept_inside is_line_word (λ u h. word_stays u (line_word_is_word u h))
    t x p v)) (λ n w i.
    line_shown (w ∷ []) s f (i, tt))

function_shown : (w : Token) (s : Read) → ShownRead s → IsInside w
    → Holds (Printable Ccl) (function w s) (λ n r. ShownRead r)
function_shown w s f i =
    holds_also (holds_token {P = λ n x. IsInside x}
    (λ t x p v m. kept_inside (is_named FUNCTION) (named_ended FUNCTION) t x p v)) (λ n x j.
    line_shown (w ∷ x ∷ []) s f (i, (j, tt)))

-- ---- parts

implements_shown : (s : Read) → ShownRead s
    → Holds (Printable Ccl) (implements s) (λ n r. ShownRead r)
implements_shown s f =
    holds_also (holds_any line_ends) (λ n u p.
    holds_also (holds_any (sign 58)) (λ m v q.
    holds_also (holds_token {P = λ j x. IsPrintable x} (λ t x h v m. printable_name Ccl t x h v))
    (λ j name w.
    holds_also (holds_any line_end) (λ i x r.
    holds_nothing
    (λ l. record {
      implements = λ e. w;
      inherits = f.inherits;
      friends = f.friends;
      groups = f.groups;
      lines = f.lines;
    })))))

inherits_shown : (s : Read) → ShownRead s → Holds (Printable Ccl) (inherits s) (λ n r. ShownRead r)
inherits_shown s f =
    holds_also (holds_any line_ends) (λ n u p.
    holds_also (holds_any (sign_here 58)) (λ m v q.
    holds_also (names_hold IsPrintable printable_names [] tt) (λ j ns w.
    holds_also (holds_any line_end) (λ i x r.
    holds_nothing
    (λ l. record {
      implements = f.implements;
      inherits = w;
      friends = f.friends;
      groups = f.groups;
      lines = f.lines;
    })))))

friends_shown : (s : Read) → ShownRead s → Holds (Printable Ccl) (friends s) (λ n r. ShownRead r)
friends_shown s f =
    holds_also (holds_any line_ends) (λ n u p.
    holds_also (holds_any (sign_here 58)) (λ m v q.
    holds_also (names_hold IsPrintable printable_names [] tt) (λ j ns w.
    holds_also (holds_any line_end) (λ i x r.
    holds_nothing
    (λ l. record {
      implements = f.implements;
      inherits = f.inherits;
      friends = w;
      groups = f.groups;
      lines = f.lines;
    })))))

access_shown : (a : Access) (s : Read) → ShownRead s
    → Holds (Printable Ccl) (access a s) (λ n r. ShownRead r)
access_shown a s f =
    holds_also (holds_any line_ends) (λ n u p.
    holds_also (holds_any (sign 58)) (λ m v q.
    holds_nothing
    (λ l. record {
      implements = f.implements;
      inherits = f.inherits;
      friends = f.friends;
      groups = f.groups;
      lines = f.lines;
    })))

grouped_shown : (c : CType) (s : Read) → ShownRead s
    → Holds (Printable Ccl) (grouped c s) (λ n r. ShownRead r)
grouped_shown c s f =
    holds_also (group_shown s.access c (nat_eq s.groups 0)) (λ n g q.
    holds_nothing
    (λ l. record {
      implements = f.implements;
      inherits = f.inherits;
      friends = f.friends;
      groups = each-append ShownGroup s.tree.groups (g ∷ []) f.groups (q, tt);
      lines = f.lines;
    }))

either_part : {test : Token → Bool} {r t : Rule Read} → Holds (Printable Ccl) r (λ n s. ShownRead s)
    → Holds (Printable Ccl) t (λ n s. ShownRead s)
    → Holds (Printable Ccl) (choice test r t) (λ n s. ShownRead s)
either_part one other = holds_choice (weaker_holds one (λ n b q e. q))
    (weaker_holds other (λ n b q e. q))

part_shown : (k : First) (w : Token) (s : Read) → ShownRead s → IsInside w
    → Holds (Printable Ccl) (part k w s) (λ n r. ShownRead r)
part_shown firsts.Implements w s f i = either_part (function_shown w s f i) (implements_shown s f)
part_shown firsts.Inherits w s f i = either_part (function_shown w s f i) (inherits_shown s f)
part_shown firsts.Friend w s f i = either_part (function_shown w s f i) (friends_shown s f)
part_shown (firsts.Access a) w s f i = either_part (function_shown w s f i) (access_shown a s f)
part_shown (firsts.Group c) w s f i = either_part (function_shown w s f i) (grouped_shown c s f)
part_shown firsts.Other w s f i = function_shown w s f i

worded_shown : (s : Read) → ShownRead s → Holds (Printable Ccl) (worded s) (λ n r. ShownRead r)
worded_shown s f =
    holds_lookahead {test = is_named FUNCTION} {mark = again_mark s}
    (λ t w b p v m. weaker_holds
    (part_shown (begins_with w) w s f (kept_inside is_word word_stays t w p v)) (λ n r q e. q))

item_shown : (s : Read) → ShownRead s → Holds (Printable Ccl) (item s) (λ n r. ShownRead r)
item_shown s f = either_part (kept_line_shown s f) (worded_shown s f)

file_shown : Holds (Printable Ccl) file (λ n s. ShownRead s)
file_shown =
    holds_also (holds_any line_ends) (λ n u p.
    holds_loop ShownRead item_shown
    (record {
      implements = λ e. absurd cc;
      inherits = tt;
      friends = tt;
      groups = tt;
      lines = tt;
    }))

-- what of a tree can be printed
pub record Shown (v : Interface) : Type 0 where
  pub implements : IsPrintable v.implements
  pub inherits : AllByRecursion IsPrintable v.inherits
  pub friends : AllByRecursion IsPrintable v.friends
  pub groups : AllByRecursion ShownGroup v.groups
  pub lines : AllByRecursion (AllByRecursion IsInside) v.others

pub shown : (bytes : List ℕ) (ts : List Token) (v : Interface) → Spelled bytes Ccl ts
    → Spells interface ts v → Shown v
shown bytes ts v spelling (s, d, h, e) =
    let f = spelled_holds file_shown ts s d
    (unmarked_printable Ccl ts (all_printable bytes ts spelling)) in
    let tree : Shown s.tree =
    record {
      implements = f.implements h;
      inherits = f.inherits;
      friends = f.friends;
      groups = f.groups;
      lines = f.lines;
    } in
    subst Shown (sym e) tree
