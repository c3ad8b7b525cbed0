-- Numbers are read as their grammar derives them.
use Rattle.std.proofs.Common.{[], ◌∷◌, ℤ, pos, neg_ℤ, Option, Some, refl}
use Rattle.cx_text.specs.declared.token.Kind.TheVariants.{Number}
use Rattle.cx_text.specs.declared.token.Token.{Token}
use Rattle.cx_text.specs.Rules.{is_sign}
use Rattle.cx_param.specs.Numbers.{positive_of, negative_of, digits_of, number, below_zero, number_text, step}
use Rattle.cx_text.proofs.Laws.{Means}
use Rattle.cx_text.proofs.RuleLaws.{Part, Any, Not, lexeme_then, lexeme_last, lexeme_alone, part_choice}
use Rattle.cx_text.proofs.LexemeLaws.{Ended, a_number, a_sign, sign_is}

abbrev pub a_one : Token
a_one = record { kind = Number; text = 49 ∷ []; line = 0 }

abbrev a_positive : Means positive_of
a_positive = record { tok = a_one; x = pos 1; is = refl }

abbrev a_negative : Means negative_of
a_negative = record { tok = a_one; x = neg_ℤ (pos 1); is = refl }

abbrev some_digits : Means digits_of
some_digits = record { tok = a_one; x = 49 ∷ []; is = refl }

-- what begins a number may be asked for by any test that a number passes
pub number_part : {F : Option Token → Type 0} → F (Some a_one)
    → ((n : Option Token) → F n → Not (is_sign 45) n) → Part number F Ended
number_part f other = part_choice
    (lexeme_then {F = Any} (sign_is 45 refl) tt (λ u. lexeme_alone a_negative refl))
    (lexeme_alone a_positive f) other

pub below_zero_part : {F : Option Token → Type 0} → F (Some (a_sign 45)) → Part below_zero F Ended
below_zero_part f = lexeme_then (sign_is 45 refl) f (λ u. lexeme_last some_digits refl)

pub number_text_part : {F : Option Token → Type 0} → F (Some a_one)
    → ((n : Option Token) → F n → Not (is_sign 45) n) → Part number_text F Ended
number_text_part f other =
    part_choice (below_zero_part {F = Any} tt) (lexeme_alone some_digits f) other

pub step_part : (low : Option ℤ) → Part (step low) Any Ended
step_part low = lexeme_alone a_number tt
