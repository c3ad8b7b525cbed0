-- Grammars over tokens. Each token of a derived list carries the mark that it has there, if any.
use Rattle.std.specs.Prelude.{◌≡◌, ℕ, Bool, true, false, List, [], ◌∷◌, ◌++◌, map, Option, Some, None, MatchBool, Result, Ok, Err, MatchResult}
use Rattle.cx_text.specs.declared.stop.Mark.{Mark}
use Rattle.cx_text.specs.declared.stop.Why.{Why}
use Rattle.cx_text.specs.declared.stop.Why.TheVariants.{Unexpected, Marked}
use Rattle.cx_text.specs.declared.fault.CclFault.{CclFault}
use Rattle.cx_text.specs.declared.fault.CclFault.TheVariants as faults
use Rattle.cx_text.specs.declared.stop.Mark.TheVariants as marks
use Rattle.cx_text.specs.declared.token.Token.{Token}

abbrev pub Item : Type 0
Item = Token × Option Mark

abbrev pub tokens : List Item → List Token
tokens ms = map (λ m. m.0) ms

abbrev pub clean : List Token → List Item
clean ts = map (λ t. (t, None)) ts

abbrev pub head : List Token → Option Token
head [] = None
head (t ∷ ts) = Some t

-- the token that comes next: the first of these, or where there is none the one that follows them
abbrev pub next_of : List Item → Option Token → Option Token
next_of [] next = next
next_of (m ∷ ms) next = Some m.0

abbrev pub passes : (Token → Bool) → Option Token → Bool
passes test None = false
passes test (Some t) = test t

-- A grammar says which lists of marked tokens, before which next token, are derived as which value.
abbrev pub Grammar : Type 0 → Type 1
Grammar A = A → List Item → Option Token → Type 0

-- one token that means a value, with its mark
abbrev pub token : {A : Type 0} → (Token → Option A) → (Token → Option Mark) → Grammar A
token value mark x ms next = (t : Token) × (value t ≡ Some x) × (ms ≡ (t, mark t) ∷ [])

-- no token
abbrev pub nothing : {A : Type 0} → A → Grammar A
nothing x y ms next = (y ≡ x) × (ms ≡ [])

-- one part, and then another
abbrev pub also : {A B : Type 0} → Grammar A → (A → Grammar B) → Grammar B
also S R y ms next = (x : _) × (front : List Item) × (back : List Item) × (ms ≡ front ++ back)
    × S x front (next_of back next) × R x y back next

-- one token that means a value, with a mark that depends on whether the token behind it passes, and
-- then a part
abbrev pub lookahead : {A B : Type 0} → (Token → Option A) → (Token → Bool)
    → (Bool → Token → Option Mark) → (A → Grammar B) → Grammar B
lookahead value test mark R y ms next =
    (x : _) × (t : Token) × (back : List Item) × (value t ≡ Some x)
    × (ms ≡ (t, mark (passes test (next_of back next)) t) ∷ back) × R x y back next

-- the one where the next token passes, else the other
abbrev pub choice : {A : Type 0} → (Token → Bool) → Grammar A → Grammar A → Grammar A
choice test S R x ms next = MatchBool (passes test (next_of ms next)) (S x ms next) (R x ms next)

-- One after the other, for as long as the next token passes. What an item may be depends on those
-- before it: it is derived in a context, which it changes for those after it.
abbrev pub many : {A C : Type 0} → (Token → Bool) → (C → Grammar A) → (C → A → C) → C
    → Grammar (List A)
many test S step c [] ms next = (passes test (next_of ms next) ≡ false) × (ms ≡ [])
many test S step c (x ∷ xs) ms next =
    (passes test (next_of ms next) ≡ true) × (front : List Item) × (back : List Item)
    × (ms ≡ front ++ back) × S c x front (next_of back next)
    × many test S step (step c x) xs back next

-- a whole list of tokens that is derived as a value, with no mark
abbrev pub Spells : {A : Type 0} → Grammar A → List Token → A → Type 0
Spells S ts x = S x (clean ts) None

-- the tokens begin a derived list, and none of them has a mark
abbrev pub Begins : {A : Type 0} → Grammar A → List Token → Type 0
Begins {A} S ts = (x : A) × (more : List Item) × S x (clean ts ++ more) None

-- no derived list, whatever its marks, goes on from `before` with the next token, or ends there
-- where there is none
abbrev pub NoneBegins : {A : Type 0} → Grammar A → List Token → Option Token → Type 0
NoneBegins {A} S before next = (x : A) (ms : List Item) (more : List Token) → S x ms None
    → tokens ms ≡ before ++ more → head more ≡ next → ⊥

-- some derived list goes on from `before`, unmarked, with this token, which has this mark
abbrev pub BeginsMarked : {A : Type 0} → Grammar A → List Token → Token → Mark → Type 0
BeginsMarked {A} S before t mark =
    (x : A) × (more : List Item) × S x (clean before ++ (t, Some mark) ∷ more) None

-- no derived list goes on from `before`, unmarked, with this token unmarked too and then this one
-- behind it, or ends behind the token where there is none
abbrev pub NoneUnmarked : {A : Type 0} → Grammar A → List Token → Token → Option Token → Type 0
NoneUnmarked {A} S before t behind = (x : A) (more : List Item)
    → S x (clean before ++ (t, None) ∷ more) None → next_of more None ≡ behind → ⊥

-- What is wrong after `before`, with the first of the rest: no list goes on with it, or it has a
-- mark. A mark counts where the list can't go on without it, with this token and the one behind it.
abbrev pub IsWrong : {A : Type 0} → Grammar A → List Token → Why → List Token → Type 0
IsWrong S before Unexpected rest = Begins S before × NoneBegins S before (head rest)
IsWrong S before (Marked mark) [] = ⊥
IsWrong S before (Marked mark) (t ∷ rest) =
    BeginsMarked S before t mark × NoneUnmarked S before t (head rest)

-- what is wrong first: after no shorter beginning anything is
abbrev pub IsFirstFault : {A : Type 0} → Grammar A → List Token → Why → List Token → Type 0
IsFirstFault S before why rest =
    IsWrong S before why rest
    × ((early : List Token) (t : Token) (late : List Token) (other : Why)
    → before ≡ early ++ t ∷ late → IsWrong S early other (t ∷ late ++ rest) → ⊥)

-- the line of the last token, or 1 where there is none
abbrev pub last_line : List Token → ℕ
last_line [] = 1
last_line (t ∷ []) = t.line
last_line (t ∷ u ∷ ts) = last_line (u ∷ ts)

-- the line of the next token, or at the end that of the last token
abbrev pub line_at : List Token → List Token → ℕ
line_at ts [] = last_line ts
line_at ts (t ∷ rest) = t.line

-- the first fault of a list, and its line
abbrev pub HasFault : {A : Type 0} → Grammar A → List Token → Why → ℕ → Type 0
HasFault S ts why line =
    (before : List Token) × (rest : List Token) × (ts ≡ before ++ rest)
    × IsFirstFault S before why rest × (line ≡ line_at ts rest)

abbrev pub IsFault : {A : Type 0} → Grammar A → List Token → CclFault → Type 0
IsFault S ts faults.Memory = Unit {0}
IsFault S ts (faults.Unexpected line) = HasFault S ts Unexpected line
IsFault S ts (faults.Repeated line) = HasFault S ts (Marked marks.Repeated) line
IsFault S ts (faults.BadNumber line) = HasFault S ts (Marked marks.BadNumber) line
IsFault S ts (faults.Limit line) = HasFault S ts (Marked marks.Limit) line

-- A reader answers the value that is spelled, else the first fault, unless memory runs out.
abbrev pub ReadsBy : {X A : Type 0} → Grammar A → (X → A) → List Token → Result X CclFault → Type 0
ReadsBy S view ts (Ok x) = Spells S ts (view x)
ReadsBy S view ts (Err e) = IsFault S ts e

-- what is spelled is answered, unless memory runs out
abbrev pub AnswersOnly : {X A : Type 0} → Grammar A → (X → A) → List Token → Result X CclFault
    → Type 0
AnswersOnly {X} {A} S view ts result = (x : A) → Spells S ts x
    → MatchResult result (λ v. view v ≡ x) (λ e. e ≡ faults.Memory)
