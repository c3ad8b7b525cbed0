-- A default that is printed is read again. That of a REAL is printed as it stands, and read as
-- tokens.
use Rattle.std.proofs.Common.{◌≡◌, ℕ, Bool, true, false, List, [], ◌∷◌, ◌++◌, Ok, refl, sym, ap, ◌∙◌, append_assoc}
use Rattle.std.specs.List.{AllByRecursion}
use Rattle.cx_text.specs.declared.token.Token.{Token}
use Rattle.cx_text.specs.declared.token.Style.TheVariants.{Ccl}
use Rattle.cx_text.specs.Tokens.{is_line_end}
use Rattle.cx_text.specs.Grammar.{head, passes}
use Rattle.cx_text.specs.Rules.{loop}
use Rattle.cx_text.specs.Written.{word, quoted, line_end}
use Rattle.cx_text.specs.Printing.{spelling, gap, printed_from}
use Rattle.cx_text.proofs.PrintLaws.{AllPrintable, WellEnded}
use Rattle.cx_text.proofs.Blind.{unlined}
use Rattle.cx_text.proofs.Printing.{loop_step, loop_stop, no_skip}
use Rattle.cx_param.specs.declared.declarations.PType.{PType}
use Rattle.cx_param.specs.declared.declarations.PType.TheVariants.{Boolean, Int, Keyword, String, Real}
use Rattle.cx_param.specs.Defaults.{plain_default, more_printed, real_default, default_of}
use Rattle.cx_param.specs.Printed as printed
use Rattle.cx_param.proofs.DefaultLaws.{more_printed_short}
use Rattle.cx_param.proofs.NumberAgain.{one_skipped}
use Rattle.cx_text.specs.Lexemes.{in_line}
use Rattle.cx_param.proofs.TokenLaws.{InLine, all_printable, all_end, all_same, a_quoted}

-- the tokens as which a default is read again
pub record DefaultAgain (p : PType) (text : List ℕ) : Type 0 where
  pub tokens : List Token
  pub starts : (ts : List Token) → passes is_line_end (head (tokens ++ ts)) ≡ false
  pub reads : (rest : List Token) → passes is_line_end (head rest) ≡ false
      → (default_of p).reads (tokens ++ line_end ∷ rest) ≡ Ok (text, rest)
  pub same : (fresh : Bool) (rest : List Token)
      → printed_from fresh (printed.default p text ∷ rest) ≡ printed_from fresh (tokens ++ rest)
  pub printable : AllPrintable Ccl tokens
  pub ended : (rest : List Token) → WellEnded false rest → WellEnded false (tokens ++ rest)
  pub unlined : unlined tokens ≡ tokens

-- ---- texts

plain_again : (text : List ℕ) (rest : List Token) → passes is_line_end (head rest) ≡ false
    → plain_default.reads (quoted text ∷ line_end ∷ rest) ≡ Ok (text, rest)
plain_again text rest e = let skip = (one_skipped rest e).reads in rw skip refl

-- ---- tokens

-- the text of tokens behind a text, with a blank before each
abbrev pub joined : List ℕ → List Token → List ℕ
joined text [] = text
joined text (t ∷ ts) = joined (text ++ 32 ∷ spelling t.kind t.text) ts

pub joined-push : (text : List ℕ) (ts : List Token) (t : Token)
    → joined text (ts ++ t ∷ []) ≡ joined text ts ++ 32 ∷ spelling t.kind t.text
joined-push text [] t = refl
joined-push text (u ∷ ts) t = joined-push (text ++ 32 ∷ spelling u.kind u.text) ts t

pub record RealFits (text : List ℕ) : Type 0 where
  pub first : Token
  pub more : List Token
  pub is : text ≡ joined (spelling first.kind first.text) more
  pub fits : InLine first
  pub each : AllByRecursion InLine more

more_again : (ts : List Token) (old : List ℕ) (rest : List Token) → AllByRecursion InLine ts
    → (loop in_line more_printed old).reads (ts ++ line_end ∷ rest)
    ≡ Ok (joined old ts, line_end ∷ rest)
more_again [] old rest h =
    loop_stop in_line more_printed more_printed_short old (line_end ∷ rest) refl
more_again (t ∷ ts) old rest h =
    let inside = h.0.stays in
    let us : List Token = ts ++ line_end ∷ rest in
    let next : List ℕ = old ++ 32 ∷ spelling t.kind t.text in
    let go : passes in_line (head (t ∷ us)) ≡ true = rw inside refl in
    let one : (more_printed old).reads (t ∷ us) ≡ Ok (next, us) = rw inside refl in
    loop_step in_line more_printed more_printed_short old next (t ∷ us) us go one
    ∙ more_again ts next rest h.1

real_again : (first : Token) (more : List Token) (rest : List Token) → InLine first
    → AllByRecursion InLine more → passes is_line_end (head rest) ≡ false
    → real_default.reads (first ∷ (more ++ line_end ∷ rest))
    ≡ Ok (joined (spelling first.kind first.text) more, rest)
real_again first more rest f h e =
    let inside = f.stays in
    let all = more_again more (spelling first.kind first.text) rest h in
    rw (inside, all, no_skip rest e) refl

-- the printed text is the same as that of the tokens
joined_printed : (before text : List ℕ) (ts rest : List Token) → AllByRecursion InLine ts
    → (before ++ joined text ts) ++ printed_from false rest
    ≡ (before ++ text) ++ printed_from false (ts ++ rest)
joined_printed before text [] rest h = refl
joined_printed before text (t ∷ ts) rest h =
    let inside = h.0.stays in
    let more : List ℕ = printed_from false (ts ++ rest) in
    let here : printed_from false (t ∷ (ts ++ rest)) ≡ (32 ∷ spelling t.kind t.text) ++ more =
    rw inside refl in
    let parts : (before ++ (text ++ 32 ∷ spelling t.kind t.text)) ++ more
    ≡ (before ++ text) ++ ((32 ∷ spelling t.kind t.text) ++ more) = simp append_assoc in
    joined_printed before (text ++ 32 ∷ spelling t.kind t.text) ts rest h.1
    ∙ parts
    ∙ ap (λ (bytes : List ℕ). (before ++ text) ++ bytes) (sym here)

real_same : (text : List ℕ) (first : Token) (more : List Token)
    → text ≡ joined (spelling first.kind first.text) more → InLine first
    → AllByRecursion InLine more → (fresh : Bool) (rest : List Token)
    → printed_from fresh (word text ∷ rest) ≡ printed_from fresh (first ∷ (more ++ rest))
real_same text first more is f h fresh rest =
    let inside = f.stays in
    let gaps : gap fresh (word text) ≡ gap fresh first = rw inside refl in
    let here : printed_from fresh (first ∷ (more ++ rest))
    ≡ (gap fresh first ++ spelling first.kind first.text) ++ printed_from false (more ++ rest) =
    rw inside refl in
    ap (λ (g : List ℕ). (g ++ text) ++ printed_from false rest) gaps
    ∙ ap (λ (t : List ℕ). (gap fresh first ++ t) ++ printed_from false rest) is
    ∙ joined_printed (gap fresh first) (spelling first.kind first.text) more rest h
    ∙ sym here

-- ---- both

abbrev pub DefaultFits : PType → List ℕ → Type 0
DefaultFits Real text = RealFits text
DefaultFits Boolean text = Unit {0}
DefaultFits Int text = Unit {0}
DefaultFits Keyword text = Unit {0}
DefaultFits String text = Unit {0}

real_default_again : (text : List ℕ) → RealFits text → DefaultAgain Real text
real_default_again text f =
    let all : AllByRecursion InLine (f.first ∷ f.more) = (f.fits, f.each) in
    record {
      tokens = f.first ∷ f.more;
      starts = λ ts. f.fits.stays;
      reads = λ rest e. real_again f.first f.more rest f.fits f.each e
          ∙ ap (λ (t : List ℕ). Ok (t, rest)) (sym f.is);
      same = real_same text f.first f.more f.is f.fits f.each;
      printable = all_printable (f.first ∷ f.more) all;
      ended = λ rest e. all_end (f.first ∷ f.more) rest all e;
      unlined = all_same (f.first ∷ f.more) all;
    }

pub default_again : (p : PType) (text : List ℕ) → DefaultFits p text → DefaultAgain p text
default_again Real text f = real_default_again text f
default_again Boolean text f =
    record {
      tokens = quoted text ∷ [];
      starts = λ ts. refl;
      reads = plain_again text;
      same = λ fresh rest. refl;
      printable = ((a_quoted text).printable, tt);
      ended = λ rest e. (refl, e);
      unlined = refl;
    }
default_again Int text f =
    record {
      tokens = quoted text ∷ [];
      starts = λ ts. refl;
      reads = plain_again text;
      same = λ fresh rest. refl;
      printable = ((a_quoted text).printable, tt);
      ended = λ rest e. (refl, e);
      unlined = refl;
    }
default_again Keyword text f =
    record {
      tokens = quoted text ∷ [];
      starts = λ ts. refl;
      reads = plain_again text;
      same = λ fresh rest. refl;
      printable = ((a_quoted text).printable, tt);
      ended = λ rest e. (refl, e);
      unlined = refl;
    }
default_again String text f =
    record {
      tokens = quoted text ∷ [];
      starts = λ ts. refl;
      reads = plain_again text;
      same = λ fresh rest. refl;
      printable = ((a_quoted text).printable, tt);
      ended = λ rest e. (refl, e);
      unlined = refl;
    }
