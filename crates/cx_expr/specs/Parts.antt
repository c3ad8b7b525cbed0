-- What is read of a list from a place on: the longest part that begins what a grammar derives.
use Rattle.std.specs.Prelude.{◌≡◌, ℕ, ◌+◌, List, [], ◌∷◌, ◌++◌, length, drop, None, Result, Ok, Err, MatchResult}
use Rattle.cx_text.specs.declared.fault.CclFault.{CclFault}
use Rattle.cx_text.specs.declared.fault.CclFault.TheVariants as faults
use Rattle.cx_text.specs.declared.stop.Mark.TheVariants as marks
use Rattle.cx_text.specs.declared.stop.Stop.{Stop}
use Rattle.cx_text.specs.declared.stop.Why.{Why}
use Rattle.cx_text.specs.declared.stop.Why.TheVariants.{Unexpected, Marked}
use Rattle.cx_text.specs.declared.token.Token.{Token}
use Rattle.cx_text.specs.Grammar.{Item, Grammar, tokens, clean, head, Spells, IsFirstFault, line_at}
use Rattle.cx_text.specs.Reading.{Read, Fails, fault_of}

-- the tokens begin a derived list, whatever its marks
abbrev pub IsBeginning : {A : Type 0} → Grammar A → List Token → Type 0
IsBeginning {A} S ts = (x : A) × (ms : List Item) × (more : List Token) × S x ms None
    × (tokens ms ≡ ts ++ more)

-- the longest part of a list that begins a derived list, and what is left behind it
pub record IsLongest {A : Type 0} (S : Grammar A) (ts : List Token) (part : List Token)
    (rest : List Token) : Type 0 where
  pub parts : ts ≡ part ++ rest
  pub begins : IsBeginning S part
  pub longest : (t : Token) (more : List Token) → rest ≡ t ∷ more → IsBeginning S (part ++ t ∷ [])
      → ⊥

-- that part is spelled as a value, and ends before a place
pub record IsSpelledFrom {A : Type 0} (S : Grammar A) (ts : List Token) (at : ℕ) (x : A)
    (place : ℕ) : Type 0 where
  pub part : List Token
  pub rest : List Token
  pub longest : IsLongest S (drop at ts) part rest
  pub spelled : Spells S part x
  pub ends : place ≡ at + length part

-- the first fault from a place on, and its line: that of the list's last token where the list ends
-- too early
abbrev pub HasFaultFrom : {A : Type 0} → Grammar A → List Token → ℕ → Why → ℕ → Type 0
HasFaultFrom S ts at why line =
    (before : List Token) × (rest : List Token) × (drop at ts ≡ before ++ rest)
    × IsFirstFault S before why rest × (line ≡ line_at ts rest)

abbrev pub IsFaultFrom : {A : Type 0} → Grammar A → List Token → ℕ → CclFault → Type 0
IsFaultFrom S ts at faults.Memory = Unit {0}
IsFaultFrom S ts at (faults.Unexpected line) = HasFaultFrom S ts at Unexpected line
IsFaultFrom S ts at (faults.Repeated line) = HasFaultFrom S ts at (Marked marks.Repeated) line
IsFaultFrom S ts at (faults.BadNumber line) = HasFaultFrom S ts at (Marked marks.BadNumber) line
IsFaultFrom S ts at (faults.Limit line) = HasFaultFrom S ts at (Marked marks.Limit) line

-- A reader from a place on answers what the longest part spells, and the place behind it, else the
-- first fault.
abbrev pub AnswersFrom : {A : Type 0} → Grammar A → List Token → ℕ → Result (A × ℕ) CclFault
    → Type 0
AnswersFrom S ts at (Ok v) = IsSpelledFrom S ts at v.0 v.1
AnswersFrom S ts at (Err e) = IsFaultFrom S ts at e

-- what is derived, unmarked and before the token that stands behind it, is answered, unless memory
-- runs out
abbrev pub AnswersDerived : {A : Type 0} → Grammar A → List Token → ℕ → Result (A × ℕ) CclFault
    → Type 0
AnswersDerived {A} S ts at result = (x : A) (part rest : List Token) → drop at ts ≡ part ++ rest
    → S x (clean part) (head rest)
    → MatchResult result (λ v. (v.0 ≡ x) × (v.1 ≡ at + length part)) (λ e. e ≡ faults.Memory)

-- where the longest part is spelled, that is answered, unless memory runs out
abbrev pub AnswersFromOnly : {A : Type 0} → Grammar A → List Token → ℕ → Result (A × ℕ) CclFault
    → Type 0
AnswersFromOnly {A} S ts at result = (x : A) (place : ℕ) → IsSpelledFrom S ts at x place
    → MatchResult result (λ v. (v.0 ≡ x) × (v.1 ≡ place)) (λ e. e ≡ faults.Memory)

-- what reading gives from a place on
abbrev pub ReadsFrom : {A : Type 0} → Read A → List Token → ℕ → Result (A × ℕ) CclFault → Type 0
ReadsFrom p ts at (Ok v) =
    (rest : List Token) × (p (drop at ts) ≡ Ok (v.0, rest)) × (v.1 + length rest ≡ length ts)
ReadsFrom p ts at (Err e) =
    (stop : Stop) × (rest : List Token) × Fails stop rest (p (drop at ts))
    × (e ≡ fault_of stop (line_at ts rest))
