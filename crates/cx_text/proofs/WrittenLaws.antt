-- Tokens as printers write them can be printed.
use Rattle.std.proofs.Common.{◌≡◌, ℕ, true, false, List, [], ◌∷◌, ◌++◌, map, Some, refl, sym, ap, subst, ◌∙◌}
use Rattle.std.specs.List.{AllByRecursion}
use Rattle.cx_text.specs.declared.token.Kind.{Kind}
use Rattle.cx_text.specs.declared.token.Kind.TheVariants as kinds
use Rattle.cx_text.specs.declared.token.Token.{Token}
use Rattle.cx_text.specs.declared.token.Style.{Style}
use Rattle.cx_text.specs.Tokens.{is_word_kind}
use Rattle.cx_text.specs.Grammar.{clean}
use Rattle.cx_text.specs.Rules.{name_of}
use Rattle.cx_text.specs.Printing as print
use Rattle.cx_text.specs.Lexemes.{kept}
use Rattle.cx_text.specs.Written.{word, words, line_end}
use Rattle.cx_text.proofs.PrintLaws.{Printable, AllPrintable, WellEnded, printable_kept}
use Rattle.cx_text.proofs.Holds.{Unmarked, name_is_word}
use Rattle.cx_text.proofs.Blind.{unlined}

pub printable-append : (style : Style) (ts us : List Token) → AllPrintable style ts
    → AllPrintable style us → AllPrintable style (ts ++ us)
printable-append style [] us all more = more
printable-append style (t ∷ ts) us all more = (all.0, printable-append style ts us all.1 more)

pub words_printable : (style : Style) (ns : List (List ℕ))
    → AllByRecursion (λ n. Printable style (word n)) ns → AllPrintable style (words ns)
words_printable style [] h = tt
words_printable style (n ∷ ns) h = (h.0, words_printable style ns h.1)

-- a line that ends behind words
pub words_end : (ns : List (List ℕ)) (rest : List Token) → WellEnded true rest
    → WellEnded false (words ns ++ line_end ∷ rest)
words_end [] rest h = (refl, h)
words_end (n ∷ ns) rest h = (refl, words_end ns rest h)

pub unmarked_printable : (style : Style) (ts : List Token) → AllPrintable style ts
    → Unmarked (Printable style) (clean ts)
unmarked_printable style [] all = tt
unmarked_printable style (t ∷ ts) all = (refl, all.0, unmarked_printable style ts all.1)

word_kind : (k : Kind) → is_word_kind k ≡ true → k ≡ kinds.Word
word_kind kinds.Word e = refl
word_kind kinds.Number e = absurd cc
word_kind kinds.Quoted e = absurd cc
word_kind kinds.Sign e = absurd cc
word_kind kinds.LineEnd e = absurd cc

-- a name is a word that can be printed
pub printable_name : (style : Style) (t : Token) (n : List ℕ) → Printable style t
    → name_of t ≡ Some n → Printable style (word n)
printable_name style t n p e =
    let w = name_is_word t n e in
    let same : kept t ≡ word n =
    ap (λ (k : Kind). record { kind = k; text = t.text; line = 0 }) (word_kind t.kind w.0)
    ∙ ap (λ (text : List ℕ). word text) w.1 in
    subst (Printable style) same (printable_kept p)

pub unlined-append : (ts us : List Token) → unlined (ts ++ us) ≡ unlined ts ++ unlined us
unlined-append [] us = refl
unlined-append (t ∷ ts) us = ap (λ (vs : List Token). kept t ∷ vs) (unlined-append ts us)

pub unlined_words : (ns : List (List ℕ)) → unlined (words ns) ≡ words ns
unlined_words [] = refl
unlined_words (n ∷ ns) = ap (λ (ts : List Token). word n ∷ ts) (unlined_words ns)

abbrev made : Kind × List ℕ → Token
made p = record { kind = p.0; text = p.1; line = 0 }

made_unlined : (ts : List Token) → map made (map print.unlined ts) ≡ unlined ts
made_unlined [] = refl
made_unlined (t ∷ ts) = ap (λ (us : List Token). kept t ∷ us) (made_unlined ts)

-- tokens that are the same but for their lines
pub unlined_same : (us ts : List Token) → map print.unlined us ≡ map print.unlined ts
    → unlined us ≡ unlined ts
unlined_same us ts e = sym (made_unlined us) ∙ ap (map made) e ∙ made_unlined ts
