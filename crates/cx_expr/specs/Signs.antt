-- The signs of operators.
use Rattle.std.specs.Prelude.{ℕ, List, codes}
use Rattle.cx_expr.specs.declared.tree.Sign.{Sign}
use Rattle.cx_expr.specs.declared.tree.Sign.TheVariants.{Or, And, Equal, Differs, Below, AtMost, Above, AtLeast, Plus, Minus, Times, Over, Rest}

abbrev pub sign_text : Sign → List ℕ
sign_text Or = codes "||"
sign_text And = codes "&&"
sign_text Equal = codes "=="
sign_text Differs = codes "!="
sign_text Below = codes "<"
sign_text AtMost = codes "<="
sign_text Above = codes ">"
sign_text AtLeast = codes ">="
sign_text Plus = codes "+"
sign_text Minus = codes "-"
sign_text Times = codes "*"
sign_text Over = codes "/"
sign_text Rest = codes "%"
