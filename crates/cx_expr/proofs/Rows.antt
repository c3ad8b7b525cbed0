-- Worked rows of expressions.
use Rattle.std.specs.Prelude.{◌≡◌, refl, pos, codes, None, Ok, Err}
use Rattle.cx_expr.specs.declared.tree.ExprFault.TheVariants.{NotNumber, Range}
use Rattle.cx_expr.specs.declared.tree.Sign.TheVariants.{Equal, Plus, Times, Over}
use Rattle.cx_expr.specs.declared.tree.Expr.{Expr, Number, Named, Equals, Pair}
use Rattle.cx_expr.specs.Known.{TextOf, Names}
use Rattle.cx_expr.specs.Evaluation.{eval}

abbrev names : Names
names name index = TextOf (codes "point")

-- 1 + 2 * 3 == 7
row_sum : eval names (Pair Equal
    (Pair Plus (Number (pos 1)) (Pair Times (Number (pos 2)) (Number (pos 3)))) (Number (pos 7)))
    ≡ Ok (pos 1)
unfolding Rattle.cx_expr.specs.declared.tree.Expr.TheBlock.hidden-the_row-Expr-0
    denote.Hole.Carrier.hidden
row_sum = refl

row_zero : eval names (Pair Over (Number (pos 7)) (Number (pos 0))) ≡ Err (Range (codes "/"))
unfolding Rattle.cx_expr.specs.declared.tree.Expr.TheBlock.hidden-the_row-Expr-0
    denote.Hole.Carrier.hidden
row_zero = refl

row_equals : eval names (Equals (codes "pattern") (codes "POINT")) ≡ Ok (pos 1)
row_equals = refl

row_text : eval names (Pair Plus (Named (codes "pattern") None) (Number (pos 1)))
    ≡ Err (NotNumber (codes "pattern"))
unfolding Rattle.cx_expr.specs.declared.tree.Expr.TheBlock.hidden-the_row-Expr-0
    denote.Hole.Carrier.hidden
row_text = refl
