-- A printed text has the tokens again.
use Rattle.std.proofs.Common.{◌≡◌, ℕ, ◌+◌, Bool, true, false, ◌&&◌, ◌||◌, cond, ◌⊎◌, inl, inr, List, [], ◌∷◌, ◌++◌, Option, Some, None, refl, sym, ap, subst, ◌∙◌}
use Rattle.std.specs.Prelude.{◌==◌, map}
use Rattle.std.proofs.lemmas.Bool.{eqb-true, or_cases, or_parts, and_left}
use Rattle.std.proofs.lemmas.List.{append_assoc, append-nil}
use Rattle.cx_text.specs.declared.token.Kind.{Kind}
use Rattle.cx_text.specs.declared.token.Kind.TheVariants as kinds
use Rattle.cx_text.specs.declared.token.Token.{Token}
use Rattle.cx_text.specs.declared.token.Style.{Style}
use Rattle.cx_text.specs.declared.token.Style.TheVariants.{Ccl, Par, Thorns}
use Rattle.cx_text.specs.declared.byte.Role.TheVariants as roles
use Rattle.cx_text.specs.declared.byte.Class.TheVariants as classes
use Rattle.cx_text.specs.Bytes.{role_of, has, is_escapable}
use Rattle.cx_text.specs.Tokens.{is_line_end, is_line_end_kind}
use Rattle.cx_text.specs.Pieces.{Piece, Blank, LineFeed, Comment, IgnoredLine, Joint, Word, Number, Quoted, Sign, Pair, QuotedByte, Plain, Escaped, bytes_of, quoted_bytes, starts, Closes, Stands, begins_pair, is_ccl, Cut, fresh_after, feeds, own_token, or_nothing, each_token, line_behind, ended, merged, closed, tokens_of, line_end, meaning, Spelled}
use Rattle.cx_text.specs.Printing.{escaped, spelling, gap, printed_from, printed, HasText, unlined, SpelledAgain}
use Rattle.cx_text.specs.Lexemes.{kept}
use Rattle.std.specs.List.{list_all}
use Rattle.cx_text.proofs.CutLaws.{ended_merged}

-- what follows goes on with no word, number or sign
pub record Apart (style : Style) (rest : List ℕ) : Type 0 where
  pub word : starts (has (classes.Word style)) rest ≡ false
  pub number : starts (has classes.Digit) rest ≡ false
  pub sign : (b : ℕ) → begins_pair style b rest ≡ false

-- a token that some piece of a style is, wherever it is printed
pub record Printable (style : Style) (t : Token) : Type 0 where
  pub piece : Piece
  pub bytes : bytes_of piece ≡ spelling t.kind t.text
  pub token : (line : ℕ) → own_token line piece
      ≡ Some (record { kind = t.kind; text = t.text; line = line })
  pub stands : (fresh : Bool) (rest : List ℕ) → (is_line_end t ≡ false → Apart style rest)
      → Stands style fresh piece rest

-- ---- what is printed apart

and_none : (t : Bool) → t && false ≡ false
and_none true = refl
and_none false = refl

alone : (b c : ℕ) (t : Bool) → (b == c) ≡ t → (c == 58) || (c == 38) || (c == 124) ≡ false
    → t && ((b == 58) || (b == 38) || (b == 124)) ≡ false
alone b c true e h = rw (eqb-true b c e) h
alone b c false e h = refl

no_pair : (style : Style) (t : Bool) → t ≡ false → is_ccl style && t ≡ false
no_pair style t e = rw e (and_none (is_ccl style))

apart_none : (style : Style) → Apart style []
apart_none style = record { word = refl; number = refl; sign = λ b. and_none (is_ccl style) }

no_word_blank : (style : Style) → has (classes.Word style) 32 ≡ false
no_word_blank Ccl = refl
no_word_blank Par = refl
no_word_blank Thorns = refl

no_word_feed : (style : Style) → has (classes.Word style) 10 ≡ false
no_word_feed Ccl = refl
no_word_feed Par = refl
no_word_feed Thorns = refl

apart_blank : (style : Style) (more : List ℕ) → Apart style (32 ∷ more)
apart_blank style more =
    record {
      word = no_word_blank style;
      number = refl;
      sign = λ b. no_pair style _ (alone b 32 (b == 32) refl refl);
    }

apart_feed : (style : Style) (more : List ℕ) → Apart style (10 ∷ more)
apart_feed style more = record {
  word = no_word_feed style;
  number = refl;
  sign = λ b. no_pair style _ (alone b 10 (b == 10) refl refl);
}

-- ---- quoted texts

abbrev quoted_if : Bool → ℕ → QuotedByte
quoted_if true b = Escaped b
quoted_if false b = Plain b

abbrev quoted_byte : ℕ → QuotedByte
quoted_byte b = quoted_if ((b == 34) || (b == 92)) b

meaning_if : (t : Bool) (b : ℕ) → meaning (quoted_if t b) ≡ b
meaning_if true b = refl
meaning_if false b = refl

quoted_meaning : (text : List ℕ) → map meaning (map quoted_byte text) ≡ text
quoted_meaning [] = refl
quoted_meaning (b ∷ text) = λ i. meaning_if ((b == 34) || (b == 92)) b i ∷ quoted_meaning text i

bytes_if : (t : Bool) (b : ℕ) (us : List QuotedByte) (more : List ℕ)
    → quoted_bytes 34 us ≡ more ++ 34 ∷ []
    → quoted_bytes 34 (quoted_if t b ∷ us) ≡ ((cond t (92 ∷ []) [] ++ b ∷ []) ++ more) ++ 34 ∷ []
bytes_if true b us more e = ap (λ l. 92 ∷ b ∷ l) e
bytes_if false b us more e = ap (λ l. b ∷ l) e

quoted_escaped : (text : List ℕ) → quoted_bytes 34 (map quoted_byte text) ≡ escaped text ++ 34 ∷ []
quoted_escaped [] = refl
quoted_escaped (b ∷ text) =
    bytes_if ((b == 34) || (b == 92)) b (map quoted_byte text) (escaped text) (quoted_escaped text)

escapable_if : (b : ℕ) → ((b == 34) ≡ true) ⊎ ((b == 92) ≡ true) → is_escapable b ≡ true
escapable_if b (inl e) = rw (eqb-true b 34 e) refl
escapable_if b (inr e) = rw (eqb-true b 92 e) refl

closes_if : (t : Bool) (b : ℕ) (us : List QuotedByte) → (b == 34) || (b == 92) ≡ t → Closes 34 us
    → Closes 34 (quoted_if t b ∷ us)
closes_if true b us e h = (escapable_if b (or_cases (b == 34) (b == 92) e), h)
closes_if false b us e h =
    let two = or_parts (b == 34) (b == 92) e in
    (two.0, and_left (b == 92) (starts is_escapable (quoted_bytes 34 us)) two.1, h)

quoted_closes : (text : List ℕ) → Closes 34 (map quoted_byte text)
quoted_closes [] = tt
quoted_closes (b ∷ text) =
    closes_if ((b == 34) || (b == 92)) b (map quoted_byte text) refl (quoted_closes text)

-- ---- each token of a text can be printed

feeds_line : (style : Style) (fresh : Bool) → role_of style fresh 10 ≡ roles.LineFeed
feeds_line Ccl fresh = refl
feeds_line Par fresh = refl
feeds_line Thorns fresh = refl

pub printable_end : (style : Style) (line : ℕ) → Printable style (line_end line)
printable_end style line =
    record {
      piece = LineFeed 10;
      bytes = refl;
      token = λ l. refl;
      stands = λ fresh rest apart. feeds_line style fresh;
    }

-- in a style that has quotes
pub printable_quoted : (style : Style) → ((fresh : Bool) → role_of style fresh 34 ≡ roles.Quote)
    → (text : List ℕ) (line : ℕ)
    → Printable style (record { kind = kinds.Quoted; text = text; line = line })
printable_quoted style quote text line = record {
  piece = Quoted 34 (map quoted_byte text);
  bytes = ap (λ l. 34 ∷ l) (quoted_escaped text);
  token = λ l. ap (λ x. Some (record { kind = kinds.Quoted; text = x; line = l }))
      (quoted_meaning text);
  stands = λ fresh rest apart. (quote fresh, quoted_closes text);
}

pub printable_word : (style : Style) (b : ℕ) (w : List ℕ) (line : ℕ)
    → ((fresh : Bool) → role_of style fresh b ≡ roles.Word)
    → list_all (has (classes.Word style)) w ≡ true
    → Printable style (record { kind = kinds.Word; text = b ∷ w; line = line })
printable_word style b w line role all =
    record {
      piece = Word b w;
      bytes = refl;
      token = λ l. refl;
      stands = λ f more apart. (role f, (all, (apart refl).word));
    }

pub printable_sign : (style : Style) (b line : ℕ)
    → ((fresh : Bool) → role_of style fresh b ≡ roles.Sign)
    → Printable style (record { kind = kinds.Sign; text = b ∷ []; line = line })
printable_sign style b line role =
    record {
      piece = Sign b;
      bytes = refl;
      token = λ l. refl;
      stands = λ f more apart. (role f, (apart refl).sign b);
    }

-- its line doesn't matter
pub printable_kept : {style : Style} {t : Token} → Printable style t → Printable style (kept t)
printable_kept p = record { piece = p.piece; bytes = p.bytes; token = p.token; stands = p.stands }

printable_own : (fresh : Bool) (line : ℕ) (p : Piece) (rest : List ℕ) → Stands Ccl fresh p rest
    → (t : Token) → own_token line p ≡ Some t → Printable Ccl t
printable_own fresh line (Blank b) rest s t e = absurd cc
printable_own fresh line (LineFeed b) rest s t e = let same : line_end line ≡ t = cc in
    subst (Printable Ccl) same (printable_end Ccl line)
printable_own fresh line (Comment b w) rest s t e = absurd cc
printable_own fresh line (IgnoredLine b w) rest s t e = absurd cc
printable_own fresh line (Joint b w) rest s t e = absurd cc
printable_own fresh line (Word b w) rest s t e =
    let made : Token = record { kind = kinds.Word; text = b ∷ w; line = line } in
    let same : made ≡ t = cc in
    subst (Printable Ccl) same
    (record {
      piece = Word b w;
      bytes = refl;
      token = λ l. refl;
      stands = λ f more apart. (s.0, (s.1.0, (apart refl).word));
    })
printable_own fresh line (Number b w) rest s t e =
    let made : Token = record { kind = kinds.Number; text = b ∷ w; line = line } in
    let same : made ≡ t = cc in
    subst (Printable Ccl) same
    (record {
      piece = Number b w;
      bytes = refl;
      token = λ l. refl;
      stands = λ f more apart. (s.0, (s.1.0, (apart refl).number));
    })
printable_own fresh line (Quoted b w) rest s t e =
    let made : Token = record { kind = kinds.Quoted; text = map meaning w; line = line } in
    let same : made ≡ t = cc in
    subst (Printable Ccl) same (printable_quoted Ccl (λ f. refl) (map meaning w) line)
printable_own fresh line (Sign b) rest s t e =
    let made : Token = record { kind = kinds.Sign; text = b ∷ []; line = line } in
    let same : made ≡ t = cc in
    subst (Printable Ccl) same
    (record {
      piece = Sign b;
      bytes = refl;
      token = λ l. refl;
      stands = λ f more apart. (s.0, (apart refl).sign b);
    })
printable_own fresh line (Pair b c) rest s t e =
    let made : Token = record { kind = kinds.Sign; text = b ∷ c ∷ []; line = line } in
    let same : made ≡ t = cc in
    subst (Printable Ccl) same
    (record {
      piece = Pair b c;
      bytes = refl;
      token = λ l. refl;
      stands = λ f more apart. (s.0, s.1);
    })

abbrev pub AllPrintable : Style → List Token → Type 0
AllPrintable style [] = Unit {0}
AllPrintable style (t ∷ ts) = Printable style t × AllPrintable style ts

all_maybe : (o : Option Token) (ts : List Token) → ((t : Token) → o ≡ Some t → Printable Ccl t)
    → AllPrintable Ccl ts → AllPrintable Ccl (or_nothing o ++ ts)
all_maybe None ts h more = more
all_maybe (Some t) ts h more = (h t refl, more)

all_each : (ps : List Piece) (fresh : Bool) (line : ℕ) (bytes rest : List ℕ)
    → Cut Ccl fresh ps bytes rest → AllPrintable Ccl (each_token line ps)
all_each [] fresh line bytes rest c = tt
all_each (p ∷ ps) fresh line bytes rest (more, parts, stands, c) =
    all_maybe (own_token line p) (each_token (line + feeds (bytes_of p)) ps)
    (λ t e. printable_own fresh line p more stands t e)
    (all_each ps (fresh_after fresh p) (line + feeds (bytes_of p)) more rest c)

all_if : (left : Bool) (t : Token) (ts : List Token) → Printable Ccl t → AllPrintable Ccl ts
    → AllPrintable Ccl (cond left [] (t ∷ []) ++ ts)
all_if true t ts h more = more
all_if false t ts h more = (h, more)

all_merged : (ts : List Token) (before : Bool) → AllPrintable Ccl ts
    → AllPrintable Ccl (merged before ts)
all_merged [] before all = tt
all_merged (t ∷ ts) before all =
    all_if (is_line_end t && before) t (merged (is_line_end t) ts) all.0
    (all_merged ts (is_line_end t) all.1)

all_more : (ts us : List Token) → AllPrintable Ccl ts → AllPrintable Ccl us
    → AllPrintable Ccl (ts ++ us)
all_more [] us all more = more
all_more (t ∷ ts) us all more = (all.0, all_more ts us all.1 more)

all_end : (last : Bool) (line : ℕ) → AllPrintable Ccl (cond last [] (line_end line ∷ []))
all_end true line = tt
all_end false line = (printable_end Ccl line, tt)

-- ---- no LineEnd follows another, and one stands last

abbrev pub WellEnded : Bool → List Token → Type 0
WellEnded before [] = before ≡ true
WellEnded before (t ∷ ts) = (is_line_end t && before ≡ false) × WellEnded (is_line_end t) ts

well_end : (before : Bool) (line : ℕ) → WellEnded before (cond before [] (line_end line ∷ []))
well_end true line = refl
well_end false line = (refl, refl)

well_if : (left before : Bool) (t : Token) (ts : List Token) → is_line_end t ≡ left
    → WellEnded left ts → WellEnded before (cond (left && before) [] (t ∷ []) ++ ts)
well_if true true t ts e h = h
well_if true false t ts e h = (rw e refl, rw e h)
well_if false before t ts e h = (rw e refl, rw e h)

ended_if : (left before : Bool) (t : Token) (ts : List Token) → is_line_end t ≡ left
    → ended before (cond (left && before) [] (t ∷ []) ++ ts) ≡ ended left ts
ended_if true true t ts e = refl
ended_if true false t ts e = ap (λ b. ended b ts) e
ended_if false before t ts e = ap (λ b. ended b ts) e

well_merged : (ts : List Token) (before : Bool) (line : ℕ)
    → WellEnded before (merged before ts ++ cond (ended before ts) [] (line_end line ∷ []))
well_merged [] before line = well_end before line
well_merged (t ∷ ts) before line =
    rw (append_assoc (cond (is_line_end t && before) [] (t ∷ [])) (merged (is_line_end t) ts)
    (cond (ended (is_line_end t) ts) [] (line_end line ∷ [])))
    (well_if (is_line_end t) before t
    (merged (is_line_end t) ts ++ cond (ended (is_line_end t) ts) [] (line_end line ∷ [])) refl
    (well_merged ts (is_line_end t) line))

-- ---- the pieces of what is printed

abbrev gap_pieces : Bool → List Piece
gap_pieces true = []
gap_pieces false = Blank 32 ∷ []

record Same (before : Bool) (es ts : List Token) : Type 0 where
  pub tokens : map unlined (merged before es) ≡ map unlined ts
  pub last : ended before es ≡ true

same_here : (before : Bool) (t : Token) (line : ℕ) (es ts : List Token)
    → is_line_end t && before ≡ false → Same (is_line_end t) es ts
    → Same before (record { kind = t.kind; text = t.text; line = line } ∷ es) (t ∷ ts)
same_here before t line es ts e same =
    record { tokens = rw e (ap (λ l. (t.kind, t.text) ∷ l) same.tokens); last = same.last }

module _ (style : Style) where
  abbrev pieces_from : Bool → (ts : List Token) → AllPrintable style ts → List Piece
  pieces_from fresh [] all = []
  pieces_from fresh (t ∷ ts) all =
      gap_pieces (fresh || is_line_end t) ++ (all.0.piece ∷ pieces_from (is_line_end t) ts all.1)

  apart_end : (kind : Kind) (text more : List ℕ) → is_line_end_kind kind ≡ true
      → Apart style (spelling kind text ++ more)
  apart_end kinds.LineEnd text more e = apart_feed style more
  apart_end kinds.Word text more e = absurd cc
  apart_end kinds.Number text more e = absurd cc
  apart_end kinds.Quoted text more e = absurd cc
  apart_end kinds.Sign text more e = absurd cc

  apart_if : (left : Bool) (t : Token) (more : List ℕ) → is_line_end t ≡ left
      → Apart style ((cond left [] (32 ∷ []) ++ spelling t.kind t.text) ++ more)
  apart_if false t more e = apart_blank style (spelling t.kind t.text ++ more)
  apart_if true t more e = apart_end t.kind t.text more e

  apart_printed : (ts : List Token) → Apart style (printed_from false ts)
  apart_printed [] = apart_none style
  apart_printed (t ∷ ts) = apart_if (is_line_end t) t (printed_from (is_line_end t) ts) refl

  apart_from : (ts : List Token) (fresh : Bool) → fresh ≡ false
      → Apart style (printed_from fresh ts)
  apart_from ts fresh e = rw e (apart_printed ts)

  cut_gap : (left fresh f : Bool) (p : Piece) (ps : List Piece) (rest : List ℕ)
      → ((g : Bool) → Cut style g (p ∷ ps) rest [])
      → Cut style f (gap_pieces left ++ (p ∷ ps)) (cond left [] (32 ∷ []) ++ rest) []
  cut_gap true fresh f p ps rest h = h f
  cut_gap false fresh f p ps rest h = (rest, refl, refl, h f)

  cut_printed : (ts : List Token) (all : AllPrintable style ts) (fresh f : Bool)
      → Cut style f (pieces_from fresh ts all) (printed_from fresh ts) []
  cut_printed [] all fresh f = refl
  cut_printed (t ∷ ts) all fresh f =
      let p = all.0.piece in
      let more = printed_from (is_line_end t) ts in
      let here : (g : Bool) → Cut style g (p ∷ pieces_from (is_line_end t) ts all.1)
      (spelling t.kind t.text ++ more) [] =
      λ g. (
        more,
        ap (λ l. l ++ more) (sym all.0.bytes),
        all.0.stands g more (λ e. apart_from ts (is_line_end t) e),
        cut_printed ts all.1 (is_line_end t) (fresh_after g p),
      ) in
      rw (append_assoc (gap fresh t) (spelling t.kind t.text) more)
      (cut_gap (fresh || is_line_end t) fresh f p (pieces_from (is_line_end t) ts all.1)
      (spelling t.kind t.text ++ more) here)

  -- ---- their tokens

  same_gap : (left : Bool) (before : Bool) (p : Piece) (ps : List Piece) (line : ℕ)
      (ts : List Token) → ((n : ℕ) → Same before (each_token n (p ∷ ps)) ts)
      → Same before (each_token line (gap_pieces left ++ (p ∷ ps))) ts
  same_gap true before p ps line ts h = h line
  same_gap false before p ps line ts h = h (line + feeds (32 ∷ []))

  same_tokens : (ts : List Token) (all : AllPrintable style ts) (before fresh : Bool) (line : ℕ)
      → WellEnded before ts → Same before (each_token line (pieces_from fresh ts all)) ts
  same_tokens [] all before fresh line w = record { tokens = refl; last = w }
  same_tokens (t ∷ ts) all before fresh line w =
      let p = all.0.piece in
      let here : (n : ℕ) → Same before (each_token n (p ∷ pieces_from (is_line_end t) ts all.1))
      (t ∷ ts) = λ n. rw (all.0.token n)
      (same_here before t n (each_token (n + feeds (bytes_of p))
      (pieces_from (is_line_end t) ts all.1)) ts w.0
      (same_tokens ts all.1 (is_line_end t) (is_line_end t) (n + feeds (bytes_of p)) w.1)) in
      same_gap (fresh || is_line_end t) before p (pieces_from (is_line_end t) ts all.1) line
      (t ∷ ts) here

  closed_same : (line : ℕ) (ts : List Token) → ended true ts ≡ true → closed line ts ≡ ts
  closed_same line ts e = rw e (append-nil ts)

  pub again_from : (ts : List Token) → AllPrintable style ts → WellEnded true ts
      → SpelledAgain style (printed ts) ts
  again_from ts all well =
      let ps = pieces_from true ts all in
      let es = each_token 1 ps in
      let same = same_tokens ts all true true 1 well in
      let end : ended true (merged true es) ≡ true = ended_merged es true ∙ same.last in (
        tokens_of ps,
        (ps, cut_printed ts all true true, refl),
        ap (map unlined) (closed_same (line_behind 1 ps) (merged true es) end) ∙ same.tokens,
      )

pub printed_again : (ts : List Token) → HasText Ccl ts → SpelledAgain Ccl (printed ts) ts
printed_again ts (bytes, (ps, c, e)) =
    let es = each_token 1 ps in
    let line = line_behind 1 ps in
    let all : AllPrintable Ccl (tokens_of ps) =
    all_more (merged true es) (cond (ended true (merged true es)) [] (line_end line ∷ []))
    (all_merged es true (all_each ps true 1 bytes [] c))
    (all_end (ended true (merged true es)) line) in
    let well : WellEnded true (tokens_of ps) =
    rw (ended_merged es true) (well_merged es true line) in
    rw e (again_from Ccl (tokens_of ps) all well)

-- each token of a text in style Ccl can be printed
pub all_printable : (bytes : List ℕ) (ts : List Token) → Spelled bytes Ccl ts → AllPrintable Ccl ts
all_printable bytes ts (ps, c, e) =
    let es = each_token 1 ps in
    subst (AllPrintable Ccl) (sym e)
    (all_more (merged true es)
    (cond (ended true (merged true es)) [] (line_end (line_behind 1 ps) ∷ []))
    (all_merged es true (all_each ps true 1 bytes [] c))
    (all_end (ended true (merged true es)) (line_behind 1 ps)))
