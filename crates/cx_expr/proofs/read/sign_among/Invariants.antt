use Rattle.std.proofs.Common.{◌≡◌, drop}
use Rattle.cx_expr.specs.Exprs.{sign_among}
use Rattle.cx_expr.proofs.read.sign_among.Given as goal

abbrev pub invariant-loop-sign : goal.invariant-loop-sign
invariant-loop-sign l = sign_among (drop l.sign-index l.signs) l.token ≡ sign_among l.signs l.token
