-- The value of an expression: a number of 64 signed bits, or its first fault from the left.
use Rattle.std.specs.Prelude.{ℕ, ◌-◌, ◌^◌, Bool, true, false, not, ◌&&◌, ℤ, pos, negsuc, neg_ℤ, ◌+ℤ◌, ◌-ℤ◌, ◌*ℤ◌, int_lt, int_le, int_div, int_rem, List, Option, Some, None, Result, Ok, Err, if◌then◌else◌}
use Rattle.std.specs.Ordering.{int_eq}
use Rattle.cx_text.specs.Lexemes.{same_name}
use Rattle.cx_expr.specs.declared.tree.ExprFault.{ExprFault}
use Rattle.cx_expr.specs.declared.tree.ExprFault.TheVariants.{UnknownName, NotNumber, NotText, Range}
use Rattle.cx_expr.specs.declared.tree.Sign.{Sign}
use Rattle.cx_expr.specs.declared.tree.Sign.TheVariants.{Or, And, Equal, Differs, Below, AtMost, Above, AtLeast, Plus, Minus, Times, Over, Rest}
use Rattle.cx_expr.specs.declared.tree.Expr.{Expr, Number, Named, Equals, Not', Negative', Pair', Row_of-Expr, end_of-Expr, more_of-Expr}
use Rattle.cx_expr.specs.Signs.{sign_text}
use Rattle.cx_expr.specs.Known.{Known, NumberOf, TextOf, Nothing, Names}
use Rattle.cx_text.specs.Numbers.{is_not_zero}

abbrev pub Number_or : Type 0
Number_or = Result ℤ ExprFault

-- 1 for yes, 0 for no; what is not 0 is true
abbrev pub truth : Bool → ℤ
truth true = pos 1
truth false = pos 0

-- the numbers of 64 signed bits
abbrev pub fits_64 : ℤ → Bool
fits_64 n = int_le (negsuc (2 ^ 63 - 1)) n && int_le n (pos (2 ^ 63 - 1))

abbrev pub within_64 : Sign → ℤ → Number_or
within_64 sign n = if fits_64 n then Ok n else Err (Range (sign_text sign))

-- a divisor of 0 has no result
abbrev pub unless_zero : Sign → ℤ → ℤ → Number_or
unless_zero sign divisor n = if int_eq divisor (pos 0) then Err (Range (sign_text sign))
    else within_64 sign n

-- the two sides of an operator that takes both; `/` cuts toward 0, and `%` has the sign of the left
-- side
abbrev pub combined : Sign → ℤ → ℤ → Number_or
combined Or a b = Ok (truth (is_not_zero b))
combined And a b = Ok (truth (is_not_zero b))
combined Equal a b = Ok (truth (int_eq a b))
combined Differs a b = Ok (truth (not (int_eq a b)))
combined Below a b = Ok (truth (int_lt a b))
combined AtMost a b = Ok (truth (int_le a b))
combined Above a b = Ok (truth (int_lt b a))
combined AtLeast a b = Ok (truth (int_le b a))
combined Plus a b = within_64 Plus (a +ℤ b)
combined Minus a b = within_64 Minus (a -ℤ b)
combined Times a b = within_64 Times (a *ℤ b)
combined Over a b = unless_zero Over b (int_div a b)
combined Rest a b = unless_zero Rest b (int_rem a b)

-- whether the left side decides alone, and as what
abbrev pub decided : Sign → ℤ → Option ℤ
decided Or a = if is_not_zero a then Some (pos 1) else None
decided And a = if is_not_zero a then None else Some (pos 0)
decided Equal a = None
decided Differs a = None
decided Below a = None
decided AtMost a = None
decided Above a = None
decided AtLeast a = None
decided Plus a = None
decided Minus a = None
decided Times a = None
decided Over a = None
decided Rest a = None

abbrev pub number_of : List ℕ → Known → Number_or
number_of name (NumberOf n) = Ok n
number_of name (TextOf t) = Err (NotNumber name)
number_of name Nothing = Err (UnknownName name)

-- whether a name's text is this one, without regard to case
abbrev pub equals : List ℕ → List ℕ → Known → Number_or
equals name text (TextOf t) = Ok (truth (same_name t text))
equals name text (NumberOf n) = Err (NotText name)
equals name text Nothing = Err (UnknownName name)

abbrev pub not_of : Number_or → Number_or
not_of (Ok n) = Ok (truth (not (is_not_zero n)))
not_of (Err e) = Err e

abbrev pub negative_of : Sign → Number_or → Number_or
negative_of sign (Ok n) = within_64 sign (neg_ℤ n)
negative_of sign (Err e) = Err e

abbrev pub both : Sign → ℤ → Number_or → Number_or
both sign a (Ok b) = combined sign a b
both sign a (Err e) = Err e

abbrev pub unless_decided : Option ℤ → Number_or → Number_or
unless_decided None right = right
unless_decided (Some n) right = Ok n

abbrev pub pair_of : Sign → Number_or → Number_or → Number_or
pair_of sign (Ok a) right = unless_decided (decided sign a) (both sign a right)
pair_of sign (Err e) right = Err e

abbrev mutual
  pub eval : Names → Expr → Number_or
  eval names (Number n) = Ok n
  eval names (Named name index) = number_of name (names name index)
  eval names (Equals name text) = equals name text (names name None)
  eval names (Not' shape one) = not_of (eval_one names one)
  eval names (Negative' sign shape one) = negative_of sign (eval_one names one)
  eval names (Pair' sign shape left shape2 right) =
      pair_of sign (eval_one names left) (eval_one names right)

  -- of the one expression in a box
  pub eval_one : {m : _} → Names → Row_of-Expr m → Number_or
  eval_one names end_of-Expr = Ok (pos 0)
  eval_one names (more_of-Expr e rest) = eval names e
