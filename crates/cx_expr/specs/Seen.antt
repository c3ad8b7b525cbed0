-- A result whose fault is lent, with what is lent.
use Rattle.std.specs.Prelude.{ℤ, Option, Some, None, Result, Ok, Err}
use Rattle.std.specs.Borrow.{Bor}
use Rattle.cx_expr.specs.declared.tree.ExprFault.{ExprFault}
use Rattle.cx_expr.specs.declared.tree.ExprFault.TheVariants.{Range}
use Rattle.cx_expr.specs.declared.tree.Sign.{Sign}
use Rattle.cx_expr.specs.Signs.{sign_text}

abbrev pub seen : Result ℤ (Bor ExprFault) → Result ℤ ExprFault
seen (Ok n) = Ok n
seen (Err e) = Err e.now

-- a number, or where none is there the operator's fault
abbrev pub or_range : Sign → Option ℤ → Result ℤ ExprFault
or_range sign (Some n) = Ok n
or_range sign None = Err (Range (sign_text sign))
