-- Tokens as text.
use Rattle.std.specs.Prelude.{◌≡◌, ℕ, Bool, true, ◌||◌, ◌==◌, if◌then◌else◌, List, [], ◌∷◌, ◌++◌, map}
use Rattle.cx_text.specs.declared.token.Kind.{Kind}
use Rattle.cx_text.specs.declared.token.Kind.TheVariants.{Word, Number, Quoted, Sign, LineEnd}
use Rattle.cx_text.specs.declared.token.Token.{Token}
use Rattle.cx_text.specs.declared.token.Style.{Style}
use Rattle.cx_text.specs.Tokens.{is_line_end}
use Rattle.cx_text.specs.Pieces.{Spelled}
use Rattle.cx_text.specs.Grammar.{Grammar, Spells}

-- with a backslash before " and before a backslash
abbrev pub escaped_byte : ℕ → List ℕ
escaped_byte b = (if (b == 34) || (b == 92) then (92 ∷ []) else []) ++ b ∷ []

abbrev pub escaped : List ℕ → List ℕ
escaped [] = []
escaped (b ∷ bs) = escaped_byte b ++ escaped bs

-- a token as it is written
abbrev pub spelling : Kind → List ℕ → List ℕ
spelling Word text = text
spelling Number text = text
spelling Quoted text = 34 ∷ escaped text ++ 34 ∷ []
spelling Sign text = text
spelling LineEnd text = 10 ∷ []

-- what stands before a token: a blank where the line has a token already
abbrev pub gap : Bool → Token → List ℕ
gap fresh t = if fresh || is_line_end t then [] else (32 ∷ [])

abbrev pub printed_from : Bool → List Token → List ℕ
printed_from fresh [] = []
printed_from fresh (t ∷ ts) =
    (gap fresh t ++ spelling t.kind t.text) ++ printed_from (is_line_end t) ts

-- each token as it is written, one blank between two of a line, and a line feed at a line's end
abbrev pub printed : List Token → List ℕ
printed ts = printed_from true ts

-- some text has these tokens
abbrev pub HasText : Style → List Token → Type 0
HasText style ts = (bytes : List ℕ) × Spelled bytes style ts

abbrev pub unlined : Token → Kind × List ℕ
unlined t = (t.kind, t.text)

-- a text has these tokens but for their lines
abbrev pub SpelledAgain : Style → List ℕ → List Token → Type 0
SpelledAgain style text ts =
    (us : List Token) × Spelled text style us × (map unlined us ≡ map unlined ts)

-- a text whose tokens spell a value
abbrev pub TextSpells : {A : Type 0} → Style → Grammar A → List ℕ → A → Type 0
TextSpells style S text x = (ts : List Token) × Spelled text style ts × Spells S ts x

-- some text spells a value
abbrev pub HasSpelling : {A : Type 0} → Style → Grammar A → A → Type 0
HasSpelling style S x = (text : List ℕ) × TextSpells style S text x
