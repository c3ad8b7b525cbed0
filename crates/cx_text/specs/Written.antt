-- Tokens as printers write them: on no line.
use Rattle.std.specs.Prelude.{ℕ, List, [], ◌∷◌, map}
use Rattle.cx_text.specs.declared.token.Kind.TheVariants.{Word, Number, Quoted, Sign, LineEnd}
use Rattle.cx_text.specs.declared.token.Token.{Token}

abbrev pub word : List ℕ → Token
word text = record { kind = Word; text = text; line = 0 }

abbrev pub number : List ℕ → Token
number digits = record { kind = Number; text = digits; line = 0 }

abbrev pub quoted : List ℕ → Token
quoted text = record { kind = Quoted; text = text; line = 0 }

abbrev pub sign : ℕ → Token
sign b = record { kind = Sign; text = b ∷ []; line = 0 }

abbrev pub sign_pair : ℕ → ℕ → Token
sign_pair a b = record { kind = Sign; text = a ∷ b ∷ []; line = 0 }

abbrev pub line_end : Token
line_end = record { kind = LineEnd; text = []; line = 0 }

-- names in a row
abbrev pub words : List (List ℕ) → List Token
words ns = map word ns
