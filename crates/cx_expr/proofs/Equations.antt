-- The value of an operator's expression by those of its parts.
use Rattle.std.proofs.Common.{sym, ◌∙◌, ap}
use Rattle.std.specs.Prelude.{◌≡◌, refl, ℤ, Option, Some, None, Ok, Err}
use Rattle.cx_expr.specs.declared.tree.ExprFault.{ExprFault}
use Rattle.cx_expr.specs.declared.tree.Sign.{Sign}
use Rattle.cx_expr.specs.declared.tree.Expr.{Expr, Not, Negative, Pair}
use Rattle.cx_expr.specs.Known.{Names}
use Rattle.cx_expr.specs.Evaluation.{Number_or, eval, not_of, negative_of, pair_of, both, decided}

pub eval-not : (names : Names) (one : Expr) → eval names (Not one) ≡ not_of (eval names one)
unfolding Rattle.cx_expr.specs.declared.tree.Expr.TheBlock.hidden-the_row-Expr-0
    denote.Hole.Carrier.hidden
eval-not names one = refl

pub eval-negative : (names : Names) (sign : Sign) (one : Expr)
    → eval names (Negative sign one) ≡ negative_of sign (eval names one)
unfolding Rattle.cx_expr.specs.declared.tree.Expr.TheBlock.hidden-the_row-Expr-0
    denote.Hole.Carrier.hidden
eval-negative names sign one = refl

pub eval-pair : (names : Names) (sign : Sign) (left right : Expr)
    → eval names (Pair sign left right) ≡ pair_of sign (eval names left) (eval names right)
unfolding Rattle.cx_expr.specs.declared.tree.Expr.TheBlock.hidden-the_row-Expr-0
    denote.Hole.Carrier.hidden
eval-pair names sign left right = refl

-- what the left side decides alone, and what it does not
pub pair-fault : (sign : Sign) (e : ExprFault) (left right : Number_or) → left ≡ Err e
    → pair_of sign left right ≡ Err e
pair-fault sign e (Ok a) right is = cc is
pair-fault sign e (Err f) right is = is

pub pair-decided : (sign : Sign) (a n : ℤ) (left right : Number_or) → left ≡ Ok a
    → decided sign a ≡ Some n → pair_of sign left right ≡ Ok n
pair-decided sign a n left right is d = rw (is, d) refl

pub pair-both : (sign : Sign) (a : ℤ) (left right : Number_or) → left ≡ Ok a → decided sign a ≡ None
    → pair_of sign left right ≡ both sign a right
pair-both sign a left right is d = rw (is, d) refl

-- ---- the cases of a pair

pub pair-some : (names : Names) (e left right left_now : Expr) (sign told_sign : Sign) (a n : ℤ)
    (told : Number_or) (d : Option ℤ) → e ≡ Pair sign left right → told ≡ Ok a
    → told ≡ eval names left_now → left_now ≡ left → told_sign ≡ sign → d ≡ decided told_sign a
    → d ≡ Some n → Ok n ≡ eval names e
pair-some names e left right left_now sign told_sign a n told d is ok value same s by some =
    sym (pair-decided sign a n (eval names left) (eval names right)
    (sym (value ∙ ap (eval names) same) ∙ ok) (ap (λ x. decided x a) (sym s) ∙ sym by ∙ some))
    ∙ sym (eval-pair names sign left right) ∙ ap (eval names) (sym is)

pub pair-none : (names : Names) (e left right left_now right_now : Expr) (sign told_sign : Sign)
    (a : ℤ) (told answer told_right : Number_or) (d : Option ℤ) → e ≡ Pair sign left right
    → told ≡ Ok a → told ≡ eval names left_now → left_now ≡ left → told_sign ≡ sign
    → d ≡ decided told_sign a → d ≡ None → told_right ≡ eval names right_now → right_now ≡ right
    → answer ≡ both sign a told_right → answer ≡ eval names e
pair-none names e left right left_now right_now sign told_sign a told answer told_right d is ok
    value same s by none value_right same_right result =
    result ∙ ap (both sign a) (value_right ∙ ap (eval names) same_right)
    ∙ sym (pair-both sign a (eval names left) (eval names right)
    (sym (value ∙ ap (eval names) same) ∙ ok) (ap (λ x. decided x a) (sym s) ∙ sym by ∙ none))
    ∙ sym (eval-pair names sign left right) ∙ ap (eval names) (sym is)

pub pair-err : (names : Names) (e left right left_now : Expr) (sign : Sign) (f : ExprFault)
    (told : Number_or) → e ≡ Pair sign left right → told ≡ Err f → told ≡ eval names left_now
    → left_now ≡ left → Err f ≡ eval names e
pair-err names e left right left_now sign f told is err value same =
    sym (pair-fault sign f (eval names left) (eval names right)
    (sym (value ∙ ap (eval names) same) ∙ err)) ∙ sym (eval-pair names sign left right)
    ∙ ap (eval names) (sym is)
