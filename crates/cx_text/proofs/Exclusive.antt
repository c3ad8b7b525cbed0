-- What is spelled is one value and has no fault, and a text has one cause.
use Rattle.std.proofs.Common.{◌≡◌, ℕ, ◌≤◌, List, [], ◌∷◌, ◌++◌, length, Option, None, refl, inl, inr, sym, subst, ◌∙◌, arith}
use Rattle.std.specs.Prelude.{◌⊎◌}
use Rattle.cx_text.specs.declared.stop.Mark.TheVariants as marks
use Rattle.cx_text.specs.declared.stop.Why.{Why}
use Rattle.cx_text.specs.declared.stop.Why.TheVariants.{Unexpected, Marked}
use Rattle.cx_text.specs.declared.fault.CclFault.{CclFault}
use Rattle.cx_text.specs.declared.fault.CclFault.TheVariants as faults
use Rattle.cx_text.specs.declared.fault.TextFault.{TextFault}
use Rattle.cx_text.specs.declared.fault.TextFault.TheVariants as texts
use Rattle.cx_text.specs.declared.token.Token.{Token}
use Rattle.cx_text.specs.declared.token.Style.{Style}
use Rattle.cx_text.specs.Grammar.{Item, clean, head, next_of, Grammar, Spells, IsWrong, IsFault}
use Rattle.cx_text.specs.Pieces.{Spelled, IsCause, max_text}
use Rattle.cx_text.specs.Reading.{Read}
use Rattle.cx_text.proofs.Laws.{Reads, ok_is, clean-append, tokens-clean}
use Rattle.cx_text.proofs.Whole.{whole_only}
use Rattle.cx_text.proofs.CutLaws.{not_both, faulty_one}

-- ---- tokens

next_clean : (ts : List Token) → next_of (clean ts) None ≡ head ts
next_clean [] = refl
next_clean (t ∷ ts) = refl

none_wrong : {A : Type 0} (S : Grammar A) (before : List Token) (w : Why) (rest : List Token)
    (x : A) → Spells S (before ++ rest) x → IsWrong S before w rest → ⊥
none_wrong S before Unexpected rest x s (begins, none) =
    none x (clean (before ++ rest)) rest s (tokens-clean (before ++ rest)) refl
none_wrong S before (Marked m) [] x s f = f
none_wrong S before (Marked m) (t ∷ rest) x s (begins, none) =
    none x (clean rest) (subst (λ (ms : List Item). S x ms None) (clean-append before (t ∷ rest)) s)
    (next_clean rest)

no_fault : {A : Type 0} (S : Grammar A) (ts : List Token) (x : A) (w : Why)
    (before rest : List Token) → Spells S ts x → ts ≡ before ++ rest → IsWrong S before w rest → ⊥
no_fault S ts x w before rest s parts f =
    none_wrong S before w rest x (subst (λ (us : List Token). Spells S us x) parts s) f

-- what a list spells excludes each fault but want of memory
pub no_fault_spelled : {A : Type 0} (S : Grammar A) (ts : List Token) (x : A) (fault : CclFault)
    → Spells S ts x → IsFault S ts fault → fault ≡ faults.Memory
no_fault_spelled S ts x faults.Memory s f = refl
no_fault_spelled S ts x (faults.Unexpected line) s (before, rest, parts, first, at) =
    absurd (no_fault S ts x Unexpected before rest s parts first.0)
no_fault_spelled S ts x (faults.Repeated line) s (before, rest, parts, first, at) =
    absurd (no_fault S ts x (Marked marks.Repeated) before rest s parts first.0)
no_fault_spelled S ts x (faults.BadNumber line) s (before, rest, parts, first, at) =
    absurd (no_fault S ts x (Marked marks.BadNumber) before rest s parts first.0)
no_fault_spelled S ts x (faults.Limit line) s (before, rest, parts, first, at) =
    absurd (no_fault S ts x (Marked marks.Limit) before rest s parts first.0)

-- a list spells one value, where it is read
pub one_spelled : {A : Type 0} (p : Read A) (S : Grammar A) (G : Option Token → Type 0)
    → Reads p S G → G None → (ts : List Token) (x y : A) → Spells S ts x → Spells S ts y → x ≡ y
one_spelled p S G r g ts x y s t =
    (ok_is x y [] [] (sym (whole_only p S G r g ts x s) ∙ whole_only p S G r g ts y t)).0

-- ---- bytes

-- a text that has tokens has no fault but want of memory
pub no_cause_spelled : (bytes : List ℕ) (style : Style) (ts : List Token) (fault : TextFault)
    → length bytes ≤ max_text → Spelled bytes style ts → IsCause bytes style fault
    → fault ≡ texts.Memory
no_cause_spelled bytes style ts texts.Memory short s c = refl
no_cause_spelled bytes style ts texts.TooLong short s c = absurd (omega (arith, short, c))
no_cause_spelled bytes style ts (texts.BadByte line) short s c =
    absurd (not_both bytes style ts (texts.BadByte line) s c.1)
no_cause_spelled bytes style ts (texts.OpenQuote line) short s c =
    absurd (not_both bytes style ts (texts.OpenQuote line) s c.1)

-- a text that isn't read has one cause beside want of memory
pub one_cause : (bytes : List ℕ) (style : Style) (a b : TextFault) → IsCause bytes style a
    → IsCause bytes style b → (a ≡ texts.Memory) ⊎ (b ≡ texts.Memory) ⊎ (a ≡ b)
one_cause bytes style texts.Memory b c d = inl refl
one_cause bytes style texts.TooLong texts.Memory c d = inr (inl refl)
one_cause bytes style (texts.BadByte k) texts.Memory c d = inr (inl refl)
one_cause bytes style (texts.OpenQuote k) texts.Memory c d = inr (inl refl)
one_cause bytes style texts.TooLong texts.TooLong c d = inr (inr refl)
one_cause bytes style texts.TooLong (texts.BadByte l) c d =
    absurd (let short = d.0 in omega (arith, short, c))
one_cause bytes style texts.TooLong (texts.OpenQuote l) c d =
    absurd (let short = d.0 in omega (arith, short, c))
one_cause bytes style (texts.BadByte k) texts.TooLong c d =
    absurd (let short = c.0 in omega (arith, short, d))
one_cause bytes style (texts.BadByte k) (texts.BadByte l) c d =
    inr (inr (faulty_one bytes style (texts.BadByte l) (texts.BadByte k) d.1 c.1))
one_cause bytes style (texts.BadByte k) (texts.OpenQuote l) c d =
    inr (inr (faulty_one bytes style (texts.OpenQuote l) (texts.BadByte k) d.1 c.1))
one_cause bytes style (texts.OpenQuote k) texts.TooLong c d =
    absurd (let short = c.0 in omega (arith, short, d))
one_cause bytes style (texts.OpenQuote k) (texts.BadByte l) c d =
    inr (inr (faulty_one bytes style (texts.BadByte l) (texts.OpenQuote k) d.1 c.1))
one_cause bytes style (texts.OpenQuote k) (texts.OpenQuote l) c d =
    inr (inr (faulty_one bytes style (texts.OpenQuote l) (texts.OpenQuote k) d.1 c.1))
