-- The defaults of parameters.
use Rattle.std.specs.Prelude.{ℕ, cond, List, ◌∷◌, ◌++◌, Option, Some, None}
use Rattle.cx_text.specs.declared.token.Token.{Token}
use Rattle.cx_text.specs.Tokens.{is_word}
use Rattle.cx_text.specs.Rules.{Rule, token, nothing, ◌>>=◌, choice, loop, unmarked, line_end}
use Rattle.cx_text.specs.Lexemes.{word, is_quoted, quoted, in_line}
use Rattle.cx_param.specs.declared.declarations.PType.{PType}
use Rattle.cx_param.specs.declared.declarations.PType.TheVariants.{Boolean, Int, Keyword, String, Real}
use Rattle.cx_param.specs.Numbers.{begins_number, number, number_text}
use Rattle.cx_text.specs.Printing.{spelling}

-- Quoted | Word | number
abbrev pub plain_default : Rule (List ℕ)
plain_default = choice is_quoted quoted (choice is_word word number_text)

-- a token that isn't LineEnd, as printing writes it
abbrev pub printed_of : Token → Option (List ℕ)
printed_of t = cond (in_line t) (Some (spelling t.kind t.text)) None

abbrev pub printed : Rule (List ℕ)
printed = token printed_of unmarked

-- another token, behind a blank
abbrev pub more_printed : List ℕ → Rule (List ℕ)
more_printed text = do
  t ← printed
  nothing (text ++ 32 ∷ t)

-- one token or more, up to LineEnd, as printing writes them
abbrev pub real_default : Rule (List ℕ)
real_default = do
  t ← printed
  text ← loop in_line more_printed t
  u ← line_end
  nothing text

abbrev pub default_of : PType → Rule (List ℕ)
default_of Real = real_default
default_of Boolean = plain_default
default_of Int = plain_default
default_of Keyword = plain_default
default_of String = plain_default

-- [ Quoted | number ], without effect
abbrev pub unused_default : Rule (Unit {0})
unused_default = choice is_quoted (quoted >>= λ t. nothing tt)
    (choice begins_number (number >>= λ n. nothing tt) (nothing tt))
