-- An interface that some text spells is spelled by the text that is printed.
use Rattle.std.proofs.Common.{◌≡◌, ◌≤◌, ℕ, Bool, true, false, ◌&&◌, List, [], ◌∷◌, ◌++◌, map, codes, Option, Some, None, refl, sym, ap, subst, ◌∙◌, append_assoc, arith}
use Rattle.std.specs.List.{AllByRecursion, flat_map, list_all}
use Rattle.std.specs.Fmt.{decimal}
use Rattle.cx_text.specs.declared.ctype.CType.{CType}
use Rattle.cx_text.specs.declared.ctype.CType.TheVariants.{Char, Byte, Int, Int2, Int4, Int8, Real, Complex}
use Rattle.cx_text.specs.declared.token.Token.{Token}
use Rattle.cx_text.specs.declared.token.Style.TheVariants.{Ccl}
use Rattle.cx_text.specs.declared.byte.Role.TheVariants as roles
use Rattle.cx_text.specs.declared.byte.Class.TheVariants as classes
use Rattle.cx_text.specs.Bytes.{role_of, has}
use Rattle.cx_text.specs.Tokens.{is_line_end}
use Rattle.cx_text.specs.Lexemes.{kept}
use Rattle.cx_text.specs.Printing.{printed, TextSpells, HasSpelling}
use Rattle.cx_text.specs.Written.{word, words, number, quoted, sign, line_end}
use Rattle.cx_text.proofs.DecimalLaws.{decimal_printable}
use Rattle.cx_text.proofs.PrintLaws.{Printable, AllPrintable, WellEnded, printable_end, printable_word, printable_sign, printable_quoted, printable_kept, again_from}
use Rattle.cx_text.proofs.WrittenLaws.{printable-append, words_printable, words_end, unlined-append, unlined_words, unlined_same}
use Rattle.cx_text.proofs.Blind.{unlined, spelled_blind}
use Rattle.cx_iface.specs.declared.tree.Access.{Access}
use Rattle.cx_iface.specs.declared.tree.Access.TheVariants.{Public, Protected, Private}
use Rattle.cx_iface.specs.declared.tree.GType.{GType}
use Rattle.cx_iface.specs.declared.tree.GType.TheVariants.{Gf, Array, Scalar}
use Rattle.cx_iface.specs.declared.tree.Group.{Group}
use Rattle.cx_iface.specs.declared.tree.Interface.{Interface}
use Rattle.cx_iface.specs.declared.interface.Read.{Read}
use Rattle.cx_iface.specs.Words.{IMPLEMENTS, INHERITS, FRIEND, DIM, TIMELEVELS}
use Rattle.cx_iface.specs.File.{file, interface}
use Rattle.cx_iface.specs.Printed.{access_word, ctype_word, gtype_word, header, headers, opening, copies, numbered, effects, block, group, line, interface_tokens}
use Rattle.cx_iface.proofs.PrintLaws.{CopiesFit}
use Rattle.cx_iface.proofs.FileLaws.{file_good}
use Rattle.cx_iface.proofs.FileAgain.{FitsGroup, FitsLine, Fits, idle_then, behind_name, block_tail, group_tokens, line_tokens, headers_tail, printed_again}
use Rattle.cx_iface.proofs.FitLaws.{fits}
use Rattle.cx_iface.proofs.ShownLaws.{IsPrintable, IsInside, ShownGroup, Shown, shown}
use Rattle.cx_iface.proofs.BlindLaws.{file_same}

-- ---- numbers

number_printable : (n : ℕ) → n ≤ 64 → Printable Ccl (number (decimal n))
number_printable n h = decimal_printable n (omega (arith, h))

-- ---- words

a_keyword : (b : ℕ) (w : List ℕ) → ((f : Bool) → role_of Ccl f b ≡ roles.Word)
    → list_all (has (classes.Word Ccl)) w ≡ true → Printable Ccl (word (b ∷ w))
a_keyword b w role all = printable_word Ccl b w 0 role all

access_printable : (a : Access) → Printable Ccl (word (access_word a))
access_printable Public = a_keyword 80 (codes "UBLIC") (λ f. refl) refl
access_printable Protected = a_keyword 80 (codes "ROTECTED") (λ f. refl) refl
access_printable Private = a_keyword 80 (codes "RIVATE") (λ f. refl) refl

ctype_printable : (c : CType) → Printable Ccl (word (ctype_word c))
ctype_printable Char = a_keyword 67 (codes "CTK_CHAR") (λ f. refl) refl
ctype_printable Byte = a_keyword 67 (codes "CTK_BYTE") (λ f. refl) refl
ctype_printable Int = a_keyword 67 (codes "CTK_INT") (λ f. refl) refl
ctype_printable Int2 = a_keyword 67 (codes "CTK_INT2") (λ f. refl) refl
ctype_printable Int4 = a_keyword 67 (codes "CTK_INT4") (λ f. refl) refl
ctype_printable Int8 = a_keyword 67 (codes "CTK_INT8") (λ f. refl) refl
ctype_printable Real = a_keyword 67 (codes "CTK_REAL") (λ f. refl) refl
ctype_printable Complex = a_keyword 67 (codes "CTK_COMPLEX") (λ f. refl) refl

gtype_printable : (g : GType) → Printable Ccl (word (gtype_word g))
gtype_printable Gf = a_keyword 71 (codes "F") (λ f. refl) refl
gtype_printable Array = a_keyword 65 (codes "RRAY") (λ f. refl) refl
gtype_printable Scalar = a_keyword 83 (codes "CALAR") (λ f. refl) refl

-- ---- the printed tokens

kept_printable : (ts : List Token) → AllByRecursion IsInside ts → AllPrintable Ccl (map kept ts)
kept_printable [] h = tt
kept_printable (t ∷ ts) h = (printable_kept h.0.0, kept_printable ts h.1)

copies_printable : (k : Option ℕ) → CopiesFit k → AllPrintable Ccl (copies k)
copies_printable None h = tt
copies_printable (Some k) h = (
  printable_sign Ccl 91 0 (λ f. refl),
  (number_printable k h.1, (printable_sign Ccl 93 0 (λ f. refl), tt)),
)

numbered_printable : (keyword : List ℕ) → Printable Ccl (word keyword) → (n : ℕ) → n ≤ 64
    → AllPrintable Ccl (numbered keyword n)
numbered_printable keyword k n h =
    (k, (printable_sign Ccl 61 0 (λ f. refl), (number_printable n h, tt)))

effects_printable : (g : Group) → FitsGroup g → AllPrintable Ccl (effects g)
effects_printable g f =
    let d = f.effects.dim.1 in
    let l = f.effects.levels.1 in (
      a_keyword 84 (codes "YPE") (λ h. refl) refl,
      (
        printable_sign Ccl 61 0 (λ h. refl),
        (
          gtype_printable g.gtype,
          printable-append Ccl (numbered DIM g.dim) (numbered TIMELEVELS g.levels)
              (numbered_printable DIM (a_keyword 68 (codes "IM") (λ h. refl) refl) g.dim
              (omega (arith, d))) (numbered_printable TIMELEVELS
              (a_keyword 84 (codes "IMELEVELS") (λ h. refl) refl) g.levels (omega (arith, l))),
        ),
      ),
    )

block_printable : (g : Group) → ShownGroup g → AllPrintable Ccl (block g)
block_printable g s = (
  printable_sign Ccl 123 0 (λ f. refl),
  printable-append Ccl (words g.variables) _ (words_printable Ccl g.variables s.variables) (
    printable_sign Ccl 125 0 (λ f. refl),
    (printable_quoted Ccl (λ f. refl) g.text 0, (printable_end Ccl 0, tt)),
  ),
)

group_printable : (g : Group) → FitsGroup g → ShownGroup g → AllPrintable Ccl (group g)
group_printable g f s = (
  access_printable g.access,
  (
    printable_sign Ccl 58 0 (λ h. refl),
    (
      ctype_printable g.ctype,
      (
        s.name,
        printable-append Ccl (copies g.copies) _ (copies_printable g.copies f.copies)
            (printable-append Ccl (effects g) _ (effects_printable g f)
            (printable-append Ccl (map kept g.rest) (block g) (kept_printable g.rest s.rest)
            (block_printable g s))),
      ),
    ),
  ),
)

groups_printable : (gs : List Group) → AllByRecursion FitsGroup gs → AllByRecursion ShownGroup gs
    → AllPrintable Ccl (flat_map group gs)
groups_printable [] f s = tt
groups_printable (g ∷ gs) f s =
    printable-append Ccl (group g) (flat_map group gs) (group_printable g f.0 s.0)
    (groups_printable gs f.1 s.1)

header_printable : (keyword : List ℕ) → Printable Ccl (word keyword) → (ns : List (List ℕ))
    → AllByRecursion IsPrintable ns → AllPrintable Ccl (header keyword ns)
header_printable keyword k ns h = (
  k,
  (
    printable_sign Ccl 58 0 (λ f. refl),
    printable-append Ccl (words ns) (line_end ∷ []) (words_printable Ccl ns h)
        (printable_end Ccl 0, tt),
  ),
)

headers_printable : (v : Interface) → Shown v → AllPrintable Ccl (headers v)
headers_printable v s =
    printable-append Ccl (header IMPLEMENTS (v.implements ∷ []))
    (header INHERITS v.inherits ++ header FRIEND v.friends)
    (header_printable IMPLEMENTS (a_keyword 73 (codes "MPLEMENTS") (λ f. refl) refl)
    (v.implements ∷ []) (s.implements, tt))
    (printable-append Ccl (header INHERITS v.inherits) (header FRIEND v.friends)
    (header_printable INHERITS (a_keyword 73 (codes "NHERITS") (λ f. refl) refl)
    v.inherits s.inherits)
    (header_printable FRIEND (a_keyword 70 (codes "RIEND") (λ f. refl) refl)
    v.friends s.friends))

lines_printable : (ls : List (List Token)) → AllByRecursion (AllByRecursion IsInside) ls
    → AllPrintable Ccl (flat_map line ls)
lines_printable [] h = tt
lines_printable (ts ∷ ls) h =
    printable-append Ccl (line ts) (flat_map line ls)
    (printable-append Ccl (map kept ts) (line_end ∷ []) (kept_printable ts h.0)
    (printable_end Ccl 0, tt)) (lines_printable ls h.1)

tokens_printable : (v : Interface) → Fits v → Shown v → AllPrintable Ccl (interface_tokens v)
tokens_printable v f s =
    printable-append Ccl (flat_map line v.others) _ (lines_printable v.others s.lines)
    (printable-append Ccl (headers v) (flat_map group v.groups) (headers_printable v s)
    (groups_printable v.groups f.groups s.groups))

-- ---- each line ends once

-- a token that ends no line
inside_ended : (before : Bool) (t : Token) (ts : List Token) → is_line_end t ≡ false
    → WellEnded false ts → WellEnded before (t ∷ ts)
inside_ended before t ts e h =
    (ap (λ (b : Bool). b && before) e, subst (λ (b : Bool). WellEnded b ts) (sym e) h)

kept_ended : (ts rest : List Token) → AllByRecursion IsInside ts → WellEnded false rest
    → WellEnded false (map kept ts ++ rest)
kept_ended [] rest h e = e
kept_ended (t ∷ ts) rest h e =
    inside_ended false (kept t) (map kept ts ++ rest) h.0.1 (kept_ended ts rest h.1 e)

words_inside : (ns : List (List ℕ)) (rest : List Token) → WellEnded false rest
    → WellEnded false (words ns ++ rest)
words_inside [] rest h = h
words_inside (n ∷ ns) rest h = (refl, words_inside ns rest h)

block_ended : (g : Group) (rest : List Token) → WellEnded true rest
    → WellEnded false (block g ++ rest)
block_ended g rest h = subst (λ (ts : List Token). WellEnded false ts) (sym (block_tail g rest))
    (refl, words_inside g.variables _ (refl, (refl, (refl, h))))

copies_ended : (k : Option ℕ) (rest : List Token) → WellEnded false rest
    → WellEnded false (copies k ++ rest)
copies_ended None rest h = h
copies_ended (Some k) rest h = (refl, (refl, (refl, h)))

effects_ended : (g : Group) (rest : List Token) → WellEnded false rest
    → WellEnded false (effects g ++ rest)
effects_ended g rest h = (refl, (refl, (refl, (refl, (refl, (refl, (refl, (refl, (refl, h)))))))))

group_ended : (g : Group) (rest : List Token) → ShownGroup g → WellEnded true rest
    → WellEnded true (group g ++ rest)
group_ended g rest s h =
    let idle : WellEnded false (idle_then g rest) =
    kept_ended g.rest (block g ++ rest) s.rest (block_ended g rest h) in
    let tail : WellEnded false (behind_name g rest) =
    copies_ended g.copies _ (effects_ended g (idle_then g rest) idle) in
    subst (λ (ts : List Token). WellEnded true ts) (sym (group_tokens g rest))
    (refl, (refl, (refl, (refl, tail))))

groups_ended : (gs : List Group) → AllByRecursion ShownGroup gs → WellEnded true (flat_map group gs)
groups_ended [] s = refl
groups_ended (g ∷ gs) s = group_ended g (flat_map group gs) s.0 (groups_ended gs s.1)

header_ended : (keyword : List ℕ) (ns : List (List ℕ)) (rest : List Token) → WellEnded true rest
    → WellEnded true (header keyword ns ++ rest)
header_ended keyword ns rest h = (
  refl,
  (
    refl,
    subst (λ (ts : List Token). WellEnded false ts)
        (sym (append_assoc (words ns) (line_end ∷ []) rest)) (words_end ns rest h),
  ),
)

headers_ended : (v : Interface) (rest : List Token) → WellEnded true rest
    → WellEnded true (headers v ++ rest)
headers_ended v rest h =
    subst (λ (ts : List Token). WellEnded true ts) (sym (headers_tail v rest))
    (header_ended IMPLEMENTS (v.implements ∷ [])
    (header INHERITS v.inherits ++ (header FRIEND v.friends ++ rest))
    (header_ended INHERITS v.inherits (header FRIEND v.friends ++ rest)
    (header_ended FRIEND v.friends rest h)))

lines_ended : (ls : List (List Token)) (rest : List Token) → AllByRecursion FitsLine ls
    → AllByRecursion (AllByRecursion IsInside) ls → WellEnded true rest
    → WellEnded true (flat_map line ls ++ rest)
lines_ended [] rest f s h = h
lines_ended ([] ∷ ls) rest f s h = absurd f.0
lines_ended ((t ∷ ts) ∷ ls) rest f s h =
    let us : List Token = flat_map line ls ++ rest in
    let more = lines_ended ls rest f.1 s.1 h in
    let one : WellEnded true (kept t ∷ (map kept ts ++ line_end ∷ us)) =
    inside_ended true (kept t) (map kept ts ++ line_end ∷ us) s.0.0.1
    (kept_ended ts (line_end ∷ us) s.0.1 (refl, more)) in
    subst (λ (xs : List Token). WellEnded true xs)
    (sym (append_assoc (line (t ∷ ts)) (flat_map line ls) rest ∙ line_tokens t ts us)) one

tokens_ended : (v : Interface) → Fits v → Shown v → WellEnded true (interface_tokens v)
tokens_ended v f s = lines_ended v.others _ f.lines s.lines
    (headers_ended v (flat_map group v.groups) (groups_ended v.groups s.groups))

-- ---- they are on no line

joined_unlined : (ts us : List Token) → unlined ts ≡ ts → unlined us ≡ us
    → unlined (ts ++ us) ≡ ts ++ us
joined_unlined ts us h k = unlined-append ts us ∙ rw (h, k) refl

kept_unlined : (ts : List Token) → unlined (map kept ts) ≡ map kept ts
kept_unlined [] = refl
kept_unlined (t ∷ ts) = ap (λ (us : List Token). kept t ∷ us) (kept_unlined ts)

copies_unlined : (k : Option ℕ) → unlined (copies k) ≡ copies k
copies_unlined None = refl
copies_unlined (Some k) = refl

block_unlined : (g : Group) → unlined (block g) ≡ block g
block_unlined g = ap (λ (ts : List Token). sign 123 ∷ ts)
    (joined_unlined (words g.variables) (sign 125 ∷ quoted g.text ∷ line_end ∷ [])
    (unlined_words g.variables) refl)

group_unlined : (g : Group) → unlined (group g) ≡ group g
group_unlined g =
    joined_unlined (opening g) _ refl
    (joined_unlined (copies g.copies) _ (copies_unlined g.copies)
    (joined_unlined (effects g) _ refl
    (joined_unlined (map kept g.rest) (block g) (kept_unlined g.rest) (block_unlined g))))

groups_unlined : (gs : List Group) → unlined (flat_map group gs) ≡ flat_map group gs
groups_unlined [] = refl
groups_unlined (g ∷ gs) =
    joined_unlined (group g) (flat_map group gs) (group_unlined g) (groups_unlined gs)

header_unlined : (keyword : List ℕ) (ns : List (List ℕ))
    → unlined (header keyword ns) ≡ header keyword ns
header_unlined keyword ns =
    ap (λ (ts : List Token). word keyword ∷ sign 58 ∷ ts)
    (joined_unlined (words ns) (line_end ∷ []) (unlined_words ns) refl)

headers_unlined : (v : Interface) → unlined (headers v) ≡ headers v
headers_unlined v =
    joined_unlined (header IMPLEMENTS (v.implements ∷ [])) _
    (header_unlined IMPLEMENTS (v.implements ∷ []))
    (joined_unlined (header INHERITS v.inherits) (header FRIEND v.friends)
    (header_unlined INHERITS v.inherits) (header_unlined FRIEND v.friends))

lines_unlined : (ls : List (List Token)) → unlined (flat_map line ls) ≡ flat_map line ls
lines_unlined [] = refl
lines_unlined (ts ∷ ls) =
    joined_unlined (line ts) (flat_map line ls)
    (joined_unlined (map kept ts) (line_end ∷ []) (kept_unlined ts) refl) (lines_unlined ls)

tokens_unlined : (v : Interface) → unlined (interface_tokens v) ≡ interface_tokens v
tokens_unlined v =
    joined_unlined (flat_map line v.others) _ (lines_unlined v.others)
    (joined_unlined (headers v) (flat_map group v.groups) (headers_unlined v)
    (groups_unlined v.groups))

-- ---- the text

pub printed_text : (v : Interface) → HasSpelling Ccl interface v
    → TextSpells Ccl interface (printed (interface_tokens v)) v
printed_text v (bytes, (ts, spelling, spelled)) =
    let f = fits ts v spelled in
    let s = shown bytes ts v spelling spelled in
    let again = again_from Ccl (interface_tokens v) (tokens_printable v f s) (tokens_ended v f s) in
    let same : unlined again.0 ≡ interface_tokens v =
    unlined_same again.0 (interface_tokens v) again.2 ∙ tokens_unlined v in
    let r = printed_again v f in
    let read = spelled_blind file_good file_same again.0 r.s (ap file.reads same ∙ r.reads) in (
      again.0,
      again.1,
      (
        read.0,
        read.1,
        ap (λ (x : Read). x.implements) read.2 ∙ r.implements,
        sym (ap (λ (x : Read). x.tree) read.2 ∙ r.tree),
      ),
    )
