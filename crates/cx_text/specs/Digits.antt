-- Numbers in texts: digits and nothing else.
use Rattle.std.specs.Prelude.{ℕ, Bool, false, ◌&&◌, nat_le, List, [], ◌∷◌, Option, Some, None, if◌then◌else◌}
use Rattle.std.specs.List.{list_all}
use Rattle.std.specs.Char.{is_ascii_digit}
use Rattle.cx_text.specs.Lexemes.{decimal_from}

-- one digit or more, and nothing else
abbrev pub is_digits : List ℕ → Bool
is_digits [] = false
is_digits (b ∷ bs) = list_all is_ascii_digit (b ∷ bs)

-- the number that a text of digits is, if it isn't above `high`
abbrev pub natural_in : ℕ → List ℕ → Option ℕ
natural_in high text = if is_digits text && nat_le (decimal_from 0 text) high
    then Some (decimal_from 0 text) else None
