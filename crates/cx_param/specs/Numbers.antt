-- Numbers of ranges and of defaults: `-` or nothing, and a run of digits.
use Rattle.std.specs.Prelude.{ℕ, ◌-◌, ◌^◌, Bool, cond, not, ◌||◌, nat_lt, List, [], ◌∷◌, ◌++◌, ℤ, pos, neg_ℤ, Option, Some, None, is_some}
use Rattle.cx_text.specs.declared.stop.Mark.{Mark}
use Rattle.cx_text.specs.declared.stop.Mark.TheVariants.{BadNumber}
use Rattle.cx_text.specs.declared.token.Token.{Token}
use Rattle.cx_text.specs.Rules.{Rule, nothing, ◌>>=◌, choice, is_sign, lexeme, sign}
use Rattle.cx_text.specs.Lexemes.{first_mark, decimal_from, is_number, number_of, number_mark}

-- how far a number of 64 signed bits reaches below 0, and above it
abbrev pub lowest : ℕ
lowest = 2 ^ 63

abbrev pub highest : ℕ
highest = 2 ^ 63 - 1

abbrev pub too_high : ℕ → Token → Option Mark
too_high high t = first_mark (nat_lt high (decimal_from 0 t.text)) BadNumber None

abbrev pub positive_of : Token → Option ℤ
positive_of t = cond (is_number t) (Some (pos (decimal_from 0 t.text))) None

abbrev pub negative_of : Token → Option ℤ
negative_of t = cond (is_number t) (Some (neg_ℤ (pos (decimal_from 0 t.text)))) None

abbrev pub digits_of : Token → Option (List ℕ)
digits_of t = cond (is_number t) (Some t.text) None

abbrev pub begins_number : Token → Bool
begins_number t = is_sign 45 t || is_number t

-- number = [ "-" ] Number, of 64 signed bits
abbrev pub number : Rule ℤ
number = choice (is_sign 45) (sign 45 >>= λ u. lexeme negative_of (too_high lowest))
    (lexeme positive_of (too_high highest))

-- a number as it is written
abbrev pub below_zero : Rule (List ℕ)
below_zero = do
  u ← sign 45
  digits ← lexeme digits_of (too_high lowest)
  nothing ((45 ∷ []) ++ digits)

abbrev pub number_text : Rule (List ℕ)
number_text = choice (is_sign 45) below_zero (lexeme digits_of (too_high highest))

-- a step, from 1 on and of 64 bits, which needs a low end from which it counts
abbrev pub step_mark : Option ℤ → Token → Option Mark
step_mark low t = first_mark (not (is_some low)) BadNumber (number_mark 1 (2 ^ 64 - 1) t)

abbrev pub step : Option ℤ → Rule ℕ
step low = lexeme number_of (step_mark low)
