-- Tokens that are printed within a line.
use Rattle.std.proofs.Common.{◌≡◌, ◌<◌, ◌^◌, ℕ, Bool, true, false, ◌&&◌, List, [], ◌∷◌, ◌++◌, refl, ap, ◌∙◌}
use Rattle.std.specs.List.{AllByRecursion, list_all}
use Rattle.cx_text.specs.declared.token.Token.{Token}
use Rattle.cx_text.specs.declared.token.Style.TheVariants.{Ccl}
use Rattle.cx_text.specs.declared.byte.Role.TheVariants as roles
use Rattle.cx_text.specs.declared.byte.Class.TheVariants as classes
use Rattle.cx_text.specs.Bytes.{role_of, has}
use Rattle.cx_text.specs.Tokens.{is_line_end}
use Rattle.cx_text.specs.Lexemes.{kept}
use Rattle.cx_text.specs.Written.{word, quoted, sign}
use Rattle.cx_text.proofs.DecimalLaws.{decimal_printable}
use Rattle.cx_text.proofs.PrintLaws.{Printable, AllPrintable, WellEnded, printable_word, printable_sign, printable_quoted}
use Rattle.cx_text.proofs.Blind.{unlined}
use Rattle.cx_param.specs.Printed as printed

-- one that is no LineEnd, is on no line, and can be printed
pub record InLine (t : Token) : Type 0 where
  pub stays : is_line_end t ≡ false
  pub same : kept t ≡ t
  pub printable : Printable Ccl t

pub all_printable : (ts : List Token) → AllByRecursion InLine ts → AllPrintable Ccl ts
all_printable [] h = tt
all_printable (t ∷ ts) h = (h.0.printable, all_printable ts h.1)

pub all_end : (ts rest : List Token) → AllByRecursion InLine ts → WellEnded false rest
    → WellEnded false (ts ++ rest)
all_end [] rest h e = e
all_end (t ∷ ts) rest h e = let stays = h.0.stays in
    (rw stays refl, rw stays (all_end ts rest h.1 e))

pub all_same : (ts : List Token) → AllByRecursion InLine ts → unlined ts ≡ ts
all_same [] h = refl
all_same (t ∷ ts) h = ap (λ (us : List Token). kept t ∷ us) (all_same ts h.1)
    ∙ ap (λ (u : Token). u ∷ ts) h.0.same

-- ---- where no LineEnd follows another

abbrev pub Calm : Bool → List Token → Type 0
Calm before [] = Unit {0}
Calm before (t ∷ ts) = (is_line_end t && before ≡ false) × Calm (is_line_end t) ts

pub calm_end : (ts rest : List Token) (before : Bool) → Calm before ts
    → ((b : Bool) → WellEnded b rest) → WellEnded before (ts ++ rest)
calm_end [] rest before h e = e before
calm_end (t ∷ ts) rest before h e = (h.0, calm_end ts rest (is_line_end t) h.1 e)

-- ---- words, signs and quoted texts

pub a_name : (n : List ℕ) → Printable Ccl (word n) → InLine (word n)
a_name n p = record { stays = refl; same = refl; printable = p }

pub a_word : (b : ℕ) (w : List ℕ) → ((f : Bool) → role_of Ccl f b ≡ roles.Word)
    → list_all (has (classes.Word Ccl)) w ≡ true → InLine (word (b ∷ w))
a_word b w role all = a_name (b ∷ w) (printable_word Ccl b w 0 role all)

pub a_sign : (b : ℕ) → ((f : Bool) → role_of Ccl f b ≡ roles.Sign) → InLine (sign b)
a_sign b role = record { stays = refl; same = refl; printable = printable_sign Ccl b 0 role }

pub a_quoted : (t : List ℕ) → InLine (quoted t)
a_quoted t = record { stays = refl; same = refl; printable = printable_quoted Ccl (λ f. refl) t 0 }

-- ---- numbers

pub a_number : (n : ℕ) → n < 2 ^ 64 → InLine (printed.number n)
a_number n h = record { stays = refl; same = refl; printable = decimal_printable n h }
