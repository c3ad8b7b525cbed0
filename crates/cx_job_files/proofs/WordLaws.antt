-- A word of a text is a name: one or more bytes from 33 to 126.
use Rattle.std.proofs.Common.{◌≡◌, refl, sym, subst, ℕ, ◌+◌, ◌≤◌, nat_eq, nat_le, Bool, true, false, cond, ◌⊎◌, inl, inr, List, [], ◌∷◌, ◌++◌, map, Option, Some, None, if◌then◌else◌, arith}
use Rattle.std.specs.Prelude.{All, not, ◌||◌, ◌&&◌}
use Rattle.std.specs.List.{list_all, AllByRecursion}
use Rattle.std.specs.Char.{is_ascii_digit, is_ascii_alphabetic}
use Rattle.std.specs.Int.{is_in_range}
use Rattle.std.proofs.lemmas.Bool.{eqb-true, leb-true, and_parts, or_cases}
use Rattle.std.proofs.lemmas.List.Elements.{All-nil, All-cons}
use Rattle.cx_text.specs.declared.token.Kind.TheVariants as kinds
use Rattle.cx_text.specs.declared.token.Token.{Token}
use Rattle.cx_text.specs.declared.token.Style.{Style}
use Rattle.cx_text.specs.declared.token.Style.TheVariants.{Ccl, Par, Thorns}
use Rattle.cx_text.specs.declared.byte.Role.{Role}
use Rattle.cx_text.specs.declared.byte.Role.TheVariants as roles
use Rattle.cx_text.specs.declared.byte.Class.TheVariants as classes
use Rattle.cx_text.specs.Bytes.{is_blank, is_printable, begins_name, is_in_name, is_quote, is_par_sign, ignores_lines, ccl_role, par_role, style_role, role_of, goes_on, has}
use Rattle.cx_text.specs.Tokens.{is_word, is_line_end}
use Rattle.cx_text.specs.Grammar.{clean}
use Rattle.cx_text.specs.Pieces.{Piece, Blank, LineFeed, Comment, IgnoredLine, Joint, Word, Number, Quoted, Sign, Pair, bytes_of, Stands, Cut, fresh_after, feeds, own_token, or_nothing, each_token, line_behind, ended, merged, line_end, meaning}
use Rattle.cx_text.specs.Printing.{HasText}
use Rattle.cx_text.specs.Written.{word}
use Rattle.cx_text.proofs.Holds.{Unmarked, each-append}
use Rattle.cx_text.proofs.PrintLaws.{Printable}
use Rattle.cx_plan.specs.Whole.{IsName}

abbrev pub IsNameByte : ℕ → Type 0
IsNameByte b = (33 ≤ b) × (b ≤ 126)

-- ---- bytes

in_range : (l h b : ℕ) → 33 ≤ l → h ≤ 126 → is_in_range l h b ≡ true → IsNameByte b
in_range l h b low high e =
    let k = and_parts (nat_le l b) (nat_le b h) e in
    let p = leb-true l b k.0 in
    let q = leb-true b h k.1 in
    (omega (arith, low, p), omega (arith, high, q))

printable : (b : ℕ) → is_printable b ≡ true → IsNameByte b
printable b e = in_range 33 126 b (omega arith) (omega arith) e

pub digit : (b : ℕ) → is_ascii_digit b ≡ true → IsNameByte b
digit b e = in_range 48 57 b (omega arith) (omega arith) e

letter : (b : ℕ) → is_ascii_alphabetic b ≡ true → IsNameByte b
letter b e = by (or_cases (is_in_range 65 90 b) (is_in_range 97 122 b) e)
  where
    by : (is_in_range 65 90 b ≡ true) ⊎ (is_in_range 97 122 b ≡ true) → IsNameByte b
    by (inl l) = in_range 65 90 b (omega arith) (omega arith) l
    by (inr l) = in_range 97 122 b (omega arith) (omega arith) l

begins : (b : ℕ) → begins_name b ≡ true → IsNameByte b
begins b e = by (or_cases (is_ascii_alphabetic b) (nat_eq b 95) e)
  where
    by : (is_ascii_alphabetic b ≡ true) ⊎ (nat_eq b 95 ≡ true) → IsNameByte b
    by (inl l) = letter b l
    by (inr u) = let same : b ≡ 95 = eqb-true b 95 u in (omega (arith, same), omega (arith, same))

in_name : (b : ℕ) → is_in_name b ≡ true → IsNameByte b
in_name b e = by (or_cases (begins_name b) (is_ascii_digit b) e)
  where
    by : (begins_name b ≡ true) ⊎ (is_ascii_digit b ≡ true) → IsNameByte b
    by (inl l) = begins b l
    by (inr d) = digit b d

goes : (style : Style) (b : ℕ) → goes_on style b ≡ true → IsNameByte b
goes Ccl b e = in_name b e
goes Par b e = printable b
    (and_parts (is_printable b) (not ((nat_eq b 35) || (nat_eq b 34) || is_par_sign b)) e).0
goes Thorns b e = printable b (and_parts (is_printable b) (not (nat_eq b 35)) e).0

all_go : (style : Style) (bs : List ℕ) → list_all (has (classes.Word style)) bs ≡ true
    → All IsNameByte bs
all_go style [] e = All-nil IsNameByte
all_go style (b ∷ bs) e =
    let k = and_parts (goes_on style b) (list_all (has (classes.Word style)) bs) e in
    All-cons IsNameByte b bs (goes style b k.0) (all_go style bs k.1)

-- ---- what begins a word

past : (c : Bool) (x y : Role) → (x ≡ roles.Word → ⊥) → (if c then x else y) ≡ roles.Word
    → y ≡ roles.Word
past true x y other e = absurd (other e)
past false x y other e = e

there : (c : Bool) (y : Role) → (y ≡ roles.Word → ⊥) → (if c then roles.Word else y) ≡ roles.Word
    → c ≡ true
there true y other e = refl
there false y other e = absurd (other e)

neither : (c : Bool) (x y : Role) → (x ≡ roles.Word → ⊥) → (y ≡ roles.Word → ⊥)
    → (if c then x else y) ≡ roles.Word → ⊥
neither true x y one other e = one e
neither false x y one other e = other e

ccl_word : (b : ℕ) → ccl_role b ≡ roles.Word → IsNameByte b
ccl_word b e =
    let others : Role = if is_ascii_digit b then roles.Number
    else (if nat_eq b 92 then roles.Joint
    else (if is_printable b then roles.Sign else roles.Bad)) in
    let named = past (is_quote b) roles.Quote (if begins_name b then roles.Word else others)
    (λ q. absurd cc) e in
    let last = neither (is_printable b) roles.Sign roles.Bad (λ q. absurd cc) (λ q. absurd cc) in
    let later = neither (nat_eq b 92) roles.Joint (if is_printable b then roles.Sign else roles.Bad)
    (λ q. absurd cc) last in
    let none = neither (is_ascii_digit b) roles.Number
    (if nat_eq b 92 then roles.Joint else (if is_printable b then roles.Sign else roles.Bad))
    (λ q. absurd cc) later in
    begins b (there (begins_name b) others none named)

par_word : (b : ℕ) → par_role b ≡ roles.Word → IsNameByte b
par_word b e =
    let last : Role = if is_printable b then roles.Word else roles.Bad in
    let unquoted = past (nat_eq b 34) roles.Quote (if is_par_sign b then roles.Sign else last)
    (λ q. absurd cc) e in
    printable b (there (is_printable b) roles.Bad (λ q. absurd cc)
    (past (is_par_sign b) roles.Sign last (λ q. absurd cc) unquoted))

style_word : (style : Style) (b : ℕ) → style_role style b ≡ roles.Word → IsNameByte b
style_word Ccl b e = ccl_word b e
style_word Par b e = par_word b e
style_word Thorns b e = printable b (there (is_printable b) roles.Bad (λ q. absurd cc) e)

begins_word : (style : Style) (fresh : Bool) (b : ℕ) → role_of style fresh b ≡ roles.Word
    → IsNameByte b
begins_word style fresh b e =
    let own : Role = style_role style b in
    let ignored : Bool = ignores_lines style && (nat_eq b 33) && fresh in
    let line : Role = if ignored then roles.IgnoredLine else own in
    let comment : Role = if nat_eq b 35 then roles.Comment else line in
    let unblank = past (is_blank b) roles.Blank (if nat_eq b 10 then roles.LineFeed else comment)
    (λ q. absurd cc) e in
    let unfed = past (nat_eq b 10) roles.LineFeed comment (λ q. absurd cc) unblank in
    let said = past (nat_eq b 35) roles.Comment line (λ q. absurd cc) unfed in
    style_word style b (past ignored roles.IgnoredLine own (λ q. absurd cc) said)

-- ---- tokens

-- a token whose text is a name if it is a word
abbrev pub NamedWord : Token → Type 0
NamedWord t = is_word t ≡ true → IsName t.text

word_named : (style : Style) (fresh : Bool) (b line : ℕ) (bs rest : List ℕ)
    → Stands style fresh (Word b bs) rest
    → NamedWord (record { kind = kinds.Word; text = b ∷ bs; line = line })
word_named style fresh b line bs rest s =
    λ w. (
      omega arith,
      All-cons IsNameByte b bs (begins_word style fresh b s.0)
          (all_go style bs s.1.0),
    )

own_named : (style : Style) (fresh : Bool) (line : ℕ) (p : Piece) (rest : List ℕ)
    → Stands style fresh p rest → (t : Token) → own_token line p ≡ Some t → NamedWord t
own_named style fresh line (Blank b) rest s t e = absurd cc
own_named style fresh line (LineFeed b) rest s t e = let same : line_end line ≡ t = cc in
    subst NamedWord same (λ w. absurd cc)
own_named style fresh line (Comment b w) rest s t e = absurd cc
own_named style fresh line (IgnoredLine b w) rest s t e = absurd cc
own_named style fresh line (Joint b w) rest s t e = absurd cc
own_named style fresh line (Word b bs) rest s t e =
    let made : Token = record { kind = kinds.Word; text = b ∷ bs; line = line } in
    let same : made ≡ t = cc in
    subst NamedWord same (word_named style fresh b line bs rest s)
own_named style fresh line (Number b bs) rest s t e =
    let made : Token = record { kind = kinds.Number; text = b ∷ bs; line = line } in
    let same : made ≡ t = cc in
    subst NamedWord same (λ w. absurd cc)
own_named style fresh line (Quoted b bs) rest s t e =
    let made : Token = record { kind = kinds.Quoted; text = map meaning bs; line = line } in
    let same : made ≡ t = cc in
    subst NamedWord same (λ w. absurd cc)
own_named style fresh line (Sign b) rest s t e =
    let made : Token = record { kind = kinds.Sign; text = b ∷ []; line = line } in
    let same : made ≡ t = cc in
    subst NamedWord same (λ w. absurd cc)
own_named style fresh line (Pair b c) rest s t e =
    let made : Token = record { kind = kinds.Sign; text = b ∷ c ∷ []; line = line } in
    let same : made ≡ t = cc in
    subst NamedWord same (λ w. absurd cc)

-- a word that can be printed
pub printed_named : (n : List ℕ) → Printable Ccl (word n) → IsName n
printed_named n p = own_named Ccl true 0 p.piece []
    (p.stands true [] (λ e. record { word = refl; number = refl; sign = λ b. refl })) (word n)
    (p.token 0) refl

-- ---- the tokens of a text

maybe_named : (o : Option Token) (ts : List Token) → ((t : Token) → o ≡ Some t → NamedWord t)
    → AllByRecursion NamedWord ts → AllByRecursion NamedWord (or_nothing o ++ ts)
maybe_named None ts h more = more
maybe_named (Some t) ts h more = (h t refl, more)

each_named : (style : Style) (ps : List Piece) (fresh : Bool) (line : ℕ) (bytes rest : List ℕ)
    → Cut style fresh ps bytes rest → AllByRecursion NamedWord (each_token line ps)
each_named style [] fresh line bytes rest c = tt
each_named style (p ∷ ps) fresh line bytes rest (more, parts, stands, c) =
    maybe_named (own_token line p) (each_token (line + feeds (bytes_of p)) ps)
    (λ t e. own_named style fresh line p more stands t e)
    (each_named style ps (fresh_after fresh p) (line + feeds (bytes_of p)) more rest c)

unless_named : (left : Bool) (t : Token) (ts : List Token) → NamedWord t
    → AllByRecursion NamedWord ts → AllByRecursion NamedWord (cond left [] (t ∷ []) ++ ts)
unless_named true t ts h more = more
unless_named false t ts h more = (h, more)

merged_named : (ts : List Token) (before : Bool) → AllByRecursion NamedWord ts
    → AllByRecursion NamedWord (merged before ts)
merged_named [] before all = tt
merged_named (t ∷ ts) before all =
    unless_named (is_line_end t && before) t (merged (is_line_end t) ts) all.0
    (merged_named ts (is_line_end t) all.1)

end_named : (last : Bool) (line : ℕ) → AllByRecursion NamedWord (cond last [] (line_end line ∷ []))
end_named true line = tt
end_named false line = (λ w. absurd cc, tt)

pub all_named : (style : Style) (ts : List Token) → HasText style ts → AllByRecursion NamedWord ts
all_named style ts (bytes, (ps, c, e)) =
    let es : List Token = each_token 1 ps in
    let last : Bool = ended true (merged true es) in
    subst (AllByRecursion NamedWord) (sym e)
    (each-append NamedWord (merged true es) (cond last [] (line_end (line_behind 1 ps) ∷ []))
    (merged_named es true (each_named style ps true 1 bytes [] c))
    (end_named last (line_behind 1 ps)))

pub unmarked_named : (ts : List Token) → AllByRecursion NamedWord ts → Unmarked NamedWord (clean ts)
unmarked_named [] all = tt
unmarked_named (t ∷ ts) all = (refl, all.0, unmarked_named ts all.1)
