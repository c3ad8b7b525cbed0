-- Blocks that are printed are read again.
use Rattle.std.proofs.Common.{◌≡◌, ◌<◌, ◌^◌, ℕ, suc, Bool, true, false, cond, ◌==◌, List, [], ◌∷◌, ◌++◌, ℤ, pos, negsuc, Option, Some, None, Ok, refl, sym, ap, subst, ◌∙◌, append_assoc, arith}
use Rattle.std.specs.List.{AllByRecursion}
use Rattle.std.proofs.lemmas.List.{append-nil}
use Rattle.cx_text.specs.declared.token.Token.{Token}
use Rattle.cx_text.specs.Tokens.{is_line_end}
use Rattle.cx_text.specs.Grammar.{head, passes}
use Rattle.cx_text.specs.Rules.{loop, is_sign}
use Rattle.cx_text.specs.Lexemes.{is_quoted, is_sign_pair, is_inside, kept, more_kept}
use Rattle.cx_text.specs.Written.{sign, quoted}
use Rattle.cx_text.specs.declared.token.Style.TheVariants.{Ccl}
use Rattle.cx_text.proofs.PrintLaws.{AllPrintable, WellEnded}
use Rattle.cx_text.proofs.Blind.{unlined}
use Rattle.cx_text.proofs.Holds.{each-append}
use Rattle.cx_text.proofs.LexemeLaws.{more_kept_short}
use Rattle.cx_text.proofs.Printing.{loop_step, loop_stop, no_skip}
use Rattle.cx_param.specs.declared.declarations.PType.{PType}
use Rattle.cx_param.specs.declared.declarations.PType.TheVariants.{Boolean, Int, Keyword, String, Real}
use Rattle.cx_param.specs.declared.ranges.Range.{Range}
use Rattle.cx_param.specs.declared.ranges.Range.TheVariants.{Ints, Word, AnyText, SomeText, Other}
use Rattle.cx_param.specs.Blocks.{text_range, more_text, texts, number_block, or_any, text_block, kept_block, block}
use Rattle.cx_param.specs.Printed as printed
use Rattle.cx_param.proofs.BlockLaws.{more_text_short, texts_short, an_inside}
use Rattle.cx_param.proofs.TokenLaws.{InLine, all_printable, all_end, all_same, Calm, calm_end, a_sign, a_quoted, a_number}
use Rattle.cx_param.proofs.NumberAgain.{Skips, IntFits, signed_plain}
use Rattle.cx_param.proofs.RangeAgain.{BoundFits, RangeFits, NumbersFit, starts_ranges, ranges_again}

-- ---- texts

-- it is printed as one text, which is read as it again
abbrev pub TextFits : PType → Range → Type 0
TextFits p r = (t : List ℕ) × (printed.range r ≡ quoted t ∷ []) × (text_range p t ≡ r)

-- what may follow a text
record FollowsText (rest : List Token) : Type 0 where
  ended : passes is_line_end (head rest) ≡ false
  comma : passes (is_sign 44) (head rest) ≡ false
  described : passes (is_sign_pair 58 58) (head rest) ≡ false

texts_again : (p : PType) (old : List Range) (t : List ℕ) (rest : List Token) → FollowsText rest
    → (texts p old).reads (quoted t ∷ rest) ≡ Ok (old ++ text_range p t ∷ [], rest)
texts_again p old t rest f =
    let described = f.described in
    let skip = no_skip rest f.ended in
    let stop = loop_stop (is_sign 44) (more_text p) (more_text_short p) (old ++ text_range p t ∷ [])
    rest f.comma in
    rw (skip, stop, described) refl

text_tokens : (p : PType) (r : Range) (ts : List Token) (f : TextFits p r)
    → printed.range r ++ ts ≡ quoted f.0 ∷ ts
text_tokens p r ts f = ap (λ (us : List Token). us ++ ts) f.1

starts_texts : (p : PType) (rs : List Range) (rest : List Token) → AllByRecursion (TextFits p) rs
    → FollowsText (printed.each_range rs ++ sign 125 ∷ rest)
starts_texts p [] rest h = record { ended = refl; comma = refl; described = refl }
starts_texts p (r ∷ rs) rest h =
    rw (h.0.1) (record { ended = refl; comma = refl; described = refl })

all_texts_again : (p : PType) (rs old : List Range) (rest : List Token)
    → AllByRecursion (TextFits p) rs
    → (loop is_quoted (texts p) old).reads (printed.each_range rs ++ sign 125 ∷ rest)
    ≡ Ok (old ++ rs, sign 125 ∷ rest)
all_texts_again p [] old rest h =
    loop_stop is_quoted (texts p) (texts_short p) old (sign 125 ∷ rest) refl
    ∙ rw (append-nil old) refl
all_texts_again p (r ∷ rs) old rest h =
    let t = h.0.0 in
    let more : List Token = printed.each_range rs ++ sign 125 ∷ rest in
    let parts : printed.each_range (r ∷ rs) ++ sign 125 ∷ rest ≡ quoted t ∷ more =
    append_assoc (printed.range r) (printed.each_range rs) (sign 125 ∷ rest)
    ∙ text_tokens p r more h.0 in
    let one : (texts p old).reads (quoted t ∷ more) ≡ Ok (old ++ r ∷ [], more) =
    texts_again p old t more (starts_texts p rs rest h.1)
    ∙ ap (λ (q : Range). Ok (old ++ q ∷ [], more)) h.0.2 in
    ap (loop is_quoted (texts p) old).reads parts
    ∙ loop_step is_quoted (texts p) (texts_short p) old (old ++ r ∷ []) (quoted t ∷ more)
    more refl one
    ∙ all_texts_again p rs (old ++ r ∷ []) rest h.1
    ∙ ap (λ xs. Ok (xs, sign 125 ∷ rest)) (append_assoc old (r ∷ []) rs)

-- ---- tokens that are kept

abbrev pub InsideFits : Token → Type 0
InsideFits t = (is_inside t ≡ true) × (kept t ≡ t)

kept_again : (ts old rest : List Token) → AllByRecursion InsideFits ts
    → (loop is_inside (more_kept is_inside) old).reads (ts ++ sign 125 ∷ rest)
    ≡ Ok (old ++ ts, sign 125 ∷ rest)
kept_again [] old rest h =
    loop_stop is_inside (more_kept is_inside) (more_kept_short is_inside an_inside) old
    (sign 125 ∷ rest) refl ∙ rw (append-nil old) refl
kept_again (t ∷ ts) old rest h =
    let inside = h.0.0 in
    let us : List Token = ts ++ sign 125 ∷ rest in
    let one : (more_kept is_inside old).reads (t ∷ us) ≡ Ok (old ++ t ∷ [], us) =
    rw inside (ap (λ (x : Token). Ok (old ++ x ∷ [], us)) h.0.1) in
    loop_step is_inside (more_kept is_inside) (more_kept_short is_inside an_inside) old
    (old ++ t ∷ []) (t ∷ us) us inside one
    ∙ kept_again ts (old ++ t ∷ []) rest h.1
    ∙ ap (λ xs. Ok (xs, sign 125 ∷ rest)) (append_assoc old (t ∷ []) ts)

-- ---- blocks

pub record TextsFit (p : PType) (rs : List Range) : Type 0 where
  pub each : AllByRecursion (TextFits p) rs
  pub whole : or_any p rs ≡ rs

pub record KeptFits (rs : List Range) : Type 0 where
  pub tokens : List Token
  pub is : rs ≡ Other tokens ∷ []
  pub each : AllByRecursion InsideFits tokens
  pub printable : AllPrintable Ccl tokens
  pub calm : Calm false tokens

abbrev pub BlockFits : PType → List Range → Type 0
BlockFits Int rs = AllByRecursion NumbersFit rs
BlockFits Real rs = KeptFits rs
BlockFits Boolean rs = TextsFit Boolean rs
BlockFits Keyword rs = TextsFit Keyword rs
BlockFits String rs = TextsFit String rs

pub block_tokens : (rs : List Range) (more : List Token)
    → printed.block rs ++ more ≡ sign 123 ∷ (printed.each_range rs ++ sign 125 ∷ more)
block_tokens rs more = simp append_assoc

number_block_again : (rs : List Range) (more rest : List Token) → AllByRecursion NumbersFit rs
    → Skips more rest → number_block.reads (sign 123 ∷ (printed.each_range rs ++ sign 125 ∷ more))
    ≡ Ok (rs, rest)
number_block_again rs more rest h s =
    let starts = starts_ranges rs more h in
    let first = no_skip (printed.each_range rs ++ sign 125 ∷ more) starts.0 in
    let all = ranges_again rs [] more h in
    let skip = s.reads in
    rw (first, all, skip) refl

text_block_again : (p : PType) (rs : List Range) (more rest : List Token) → TextsFit p rs
    → Skips more rest → (text_block p).reads (sign 123 ∷ (printed.each_range rs ++ sign 125 ∷ more))
    ≡ Ok (rs, rest)
text_block_again p rs more rest h s =
    let starts = starts_texts p rs more h.each in
    let first = no_skip (printed.each_range rs ++ sign 125 ∷ more) starts.ended in
    let all = all_texts_again p rs [] more h.each in
    let skip = s.reads in
    let whole = h.whole in
    rw (first, all, skip, whole) refl

kept_tokens : (ts more : List Token)
    → printed.each_range (Other ts ∷ []) ++ sign 125 ∷ more ≡ ts ++ sign 125 ∷ more
kept_tokens ts more = ap (λ (us : List Token). us ++ sign 125 ∷ more) (append-nil ts)

kept_block_again : (rs : List Range) (more rest : List Token) → KeptFits rs → Skips more rest
    → kept_block.reads (sign 123 ∷ (printed.each_range rs ++ sign 125 ∷ more)) ≡ Ok (rs, rest)
kept_block_again rs more rest h s =
    let ts = h.tokens in
    let all = kept_again ts [] more h.each in
    let skip = s.reads in
    let one : kept_block.reads (sign 123 ∷ (ts ++ sign 125 ∷ more)) ≡ Ok (Other ts ∷ [], rest) =
    rw (all, skip) refl in
    let same = h.is in
    rw (same, kept_tokens ts more) one

pub block_again : (p : PType) (rs : List Range) (more rest : List Token) → BlockFits p rs
    → Skips more rest → (block p).reads (sign 123 ∷ (printed.each_range rs ++ sign 125 ∷ more))
    ≡ Ok (rs, rest)
block_again Int rs more rest h s = number_block_again rs more rest h s
block_again Real rs more rest h s = kept_block_again rs more rest h s
block_again Boolean rs more rest h s = text_block_again Boolean rs more rest h s
block_again Keyword rs more rest h s = text_block_again Keyword rs more rest h s
block_again String rs more rest h s = text_block_again String rs more rest h s

-- ---- what is printed in one can stand in a text

signed_in_line : (z : ℤ) → IntFits z → AllByRecursion InLine (printed.signed z)
signed_in_line (pos k) f =
    subst (λ (ts : List Token). AllByRecursion InLine ts) (sym (signed_plain k))
    (a_number k (omega (arith, f)), tt)
signed_in_line (negsuc k) f = (a_sign 45 (λ g. refl), (a_number (suc k) (omega (arith, f)), tt))

bound_in_line : (b : Option ℤ) → BoundFits b → AllByRecursion InLine (printed.bound b)
bound_in_line None f = (a_sign 42 (λ g. refl), tt)
bound_in_line (Some z) f = signed_in_line z f

step_in_line : (b : Bool) (n : ℕ) → n < 2 ^ 64
    → AllByRecursion InLine (cond b [] (sign 58 ∷ printed.number n ∷ []))
step_in_line true n h = tt
step_in_line false n h = (a_sign 58 (λ g. refl), (a_number n h, tt))

opening_in_line : (b : Bool) → InLine (printed.opening b)
opening_in_line true = a_sign 91 (λ g. refl)
opening_in_line false = a_sign 40 (λ g. refl)

closing_in_line : (b : Bool) → InLine (printed.closing b)
closing_in_line true = a_sign 93 (λ g. refl)
closing_in_line false = a_sign 41 (λ g. refl)

range_in_line : (low high : Option ℤ) (low_in high_in : Bool) (n : ℕ) → RangeFits low high n
    → AllByRecursion InLine (printed.range (Ints low low_in high high_in n))
range_in_line low high low_in high_in n f =
    let most = f.most in
    let ends : List Token =
    (printed.opening low_in ∷ printed.bound low) ++ (sign 58 ∷ printed.bound high) in
    each-append InLine (ends ++ printed.step n) (printed.closing high_in ∷ [])
    (each-append InLine ends (printed.step n)
    (each-append InLine (printed.opening low_in ∷ printed.bound low) (sign 58 ∷ printed.bound high)
    (opening_in_line low_in, bound_in_line low f.low)
    (a_sign 58 (λ g. refl), bound_in_line high f.high))
    (step_in_line (n == 1) n (omega (arith, most))))
    (closing_in_line high_in, tt)

numbers_in_line : (rs : List Range) → AllByRecursion NumbersFit rs
    → AllByRecursion InLine (printed.each_range rs)
numbers_in_line [] h = tt
numbers_in_line (Ints low low_in high high_in n ∷ rs) h =
    each-append InLine (printed.range (Ints low low_in high high_in n)) (printed.each_range rs)
    (range_in_line low high low_in high_in n h.0) (numbers_in_line rs h.1)
numbers_in_line (Word text ∷ rs) h = absurd h.0
numbers_in_line (AnyText ∷ rs) h = absurd h.0
numbers_in_line (SomeText ∷ rs) h = absurd h.0
numbers_in_line (Other ts ∷ rs) h = absurd h.0

texts_in_line : (p : PType) (rs : List Range) → AllByRecursion (TextFits p) rs
    → AllByRecursion InLine (printed.each_range rs)
texts_in_line p [] h = tt
texts_in_line p (r ∷ rs) h =
    subst (λ (ts : List Token). AllByRecursion InLine (ts ++ printed.each_range rs)) (sym h.0.1)
    (a_quoted h.0.0, texts_in_line p rs h.1)

kept_same : (ts : List Token) → AllByRecursion InsideFits ts → unlined ts ≡ ts
kept_same [] h = refl
kept_same (t ∷ ts) h = ap (λ (us : List Token). kept t ∷ us) (kept_same ts h.1)
    ∙ ap (λ (u : Token). u ∷ ts) h.0.1

-- the ranges of a block, behind which its brace stands
pub record Stands (rs : List Range) : Type 0 where
  pub printable : AllPrintable Ccl (printed.each_range rs)
  pub ended : (rest : List Token) → ((b : Bool) → WellEnded b rest)
      → WellEnded false (printed.each_range rs ++ rest)
  pub same : unlined (printed.each_range rs) ≡ printed.each_range rs

in_line_stands : (rs : List Range) → AllByRecursion InLine (printed.each_range rs) → Stands rs
in_line_stands rs h = record {
  printable = all_printable (printed.each_range rs) h;
  ended = λ rest e. all_end (printed.each_range rs) rest h (e false);
  same = all_same (printed.each_range rs) h;
}

kept_stands : (rs : List Range) → KeptFits rs → Stands rs
kept_stands rs f =
    let each : printed.each_range rs ≡ f.tokens =
    ap printed.each_range f.is ∙ append-nil f.tokens in
    record {
      printable = subst (AllPrintable Ccl) (sym each) f.printable;
      ended = λ rest e. subst (λ (ts : List Token). WellEnded false (ts ++ rest)) (sym each)
          (calm_end f.tokens rest false f.calm e);
      same = subst (λ (ts : List Token). unlined ts ≡ ts) (sym each) (kept_same f.tokens f.each);
    }

pub block_stands : (p : PType) (rs : List Range) → BlockFits p rs → Stands rs
block_stands Int rs f = in_line_stands rs (numbers_in_line rs f)
block_stands Real rs f = kept_stands rs f
block_stands Boolean rs f = in_line_stands rs (texts_in_line Boolean rs f.each)
block_stands Keyword rs f = in_line_stands rs (texts_in_line Keyword rs f.each)
block_stands String rs f = in_line_stands rs (texts_in_line String rs f.each)
