-- An expression, as tokens: parentheses stand only where the grammar needs them.
use Rattle.std.specs.Prelude.{ℕ, ◌-◌, Bool, true, false, nat_lt, List, [], ◌∷◌, ◌++◌, codes, Option, Some, None}
use Rattle.std.specs.Fmt.{decimal, signed_decimal}
use Rattle.cx_text.specs.declared.token.Token.{Token}
use Rattle.cx_text.specs.declared.token.Kind.TheVariants as kinds
use Rattle.cx_text.specs.Written.{word, number, quoted, sign, line_end}
use Rattle.cx_expr.specs.declared.tree.Sign.{Sign}
use Rattle.cx_expr.specs.declared.tree.Sign.TheVariants.{Or, And, Equal, Differs, Below, AtMost, Above, AtLeast, Plus, Minus, Times, Over, Rest}
use Rattle.cx_expr.specs.declared.tree.Expr.{Expr, Number, Named, Equals, Not', Negative', Pair', Row_of-Expr, end_of-Expr, more_of-Expr}
use Rattle.cx_expr.specs.Signs.{sign_text}

-- The levels of the grammar by number: 0 for what stands between operators, 1 for products, 2 for
-- sums, 3 for tests, 4 for `&&` and 5 for `||`.
abbrev pub level_of : Sign → ℕ
level_of Or = 5
level_of And = 4
level_of Equal = 3
level_of Differs = 3
level_of Below = 3
level_of AtMost = 3
level_of Above = 3
level_of AtLeast = 3
level_of Plus = 2
level_of Minus = 2
level_of Times = 1
level_of Over = 1
level_of Rest = 1

abbrev pub level : Expr → ℕ
level (Number n) = 0
level (Named name index) = 0
level (Equals name text) = 0
level (Not' shape one) = 0
level (Negative' sign shape one) = 0
level (Pair' sign shape left shape2 right) = level_of sign

-- what may stand at an operator's left side: operators of its own level, but of tests only one
-- stands
abbrev pub left_level : Sign → ℕ
left_level Or = 5
left_level And = 4
left_level Equal = 2
left_level Differs = 2
left_level Below = 2
left_level AtMost = 2
left_level Above = 2
left_level AtLeast = 2
left_level Plus = 2
left_level Minus = 2
left_level Times = 1
left_level Over = 1
left_level Rest = 1

-- what may stand at its right side
abbrev pub right_level : Sign → ℕ
right_level s = level_of s - 1

-- an operator as a token
abbrev pub operator_token : Sign → Token
operator_token s = record { kind = kinds.Sign; text = sign_text s; line = 0 }

-- [ "[" Number "]" ]
abbrev pub index_tokens : Option ℕ → List Token
index_tokens None = []
index_tokens (Some k) = sign 91 ∷ number (decimal k) ∷ sign 93 ∷ []

-- Word "(" Word "," Quoted ")"
abbrev pub call_tokens : List ℕ → List ℕ → List ℕ → List Token
call_tokens keyword name text =
    word keyword ∷ sign 40 ∷ word name ∷ sign 44 ∷ quoted text ∷ sign 41 ∷ []

-- CCTK_Equals "(" Word "," Quoted ")"
abbrev pub equals_tokens : List ℕ → List ℕ → List Token
equals_tokens name text = call_tokens (codes "CCTK_Equals") name text

-- in parentheses or not
abbrev pub in_parens : Bool → List Token → List Token
in_parens true ts = sign 40 ∷ (ts ++ sign 41 ∷ [])
in_parens false ts = ts

abbrev mutual
  pub expr_tokens : Expr → List Token
  expr_tokens (Number n) = number (signed_decimal n) ∷ []
  expr_tokens (Named name index) = word name ∷ index_tokens index
  expr_tokens (Equals name text) = equals_tokens name text
  expr_tokens (Not' shape one) = sign 33 ∷ side_tokens 0 one
  expr_tokens (Negative' s shape one) = sign 45 ∷ side_tokens 0 one
  expr_tokens (Pair' s shape left shape2 right) =
      side_tokens (left_level s) left ++ (operator_token s ∷ side_tokens (right_level s) right)

  -- of the one expression in a box, where operators up to a level may stand without parentheses
  pub side_tokens : {m : _} → ℕ → Row_of-Expr m → List Token
  side_tokens most end_of-Expr = []
  side_tokens most (more_of-Expr e rest) = in_parens (nat_lt most (level e)) (expr_tokens e)

-- an expression on a line of its own
abbrev pub expr_line : Expr → List Token
expr_line e = expr_tokens e ++ line_end ∷ []
