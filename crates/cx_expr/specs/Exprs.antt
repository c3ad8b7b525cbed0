-- Expressions, as they are spelled. LineEnds are skipped.
use Rattle.std.specs.Prelude.{ℕ, zero, suc, ◌-◌, ◌^◌, pos, Bool, cond, is_some, ◌&&◌, ◌||◌, List, [], ◌∷◌, codes, Option, Some, None}
use Rattle.std.specs.Str.{bytes_eq}
use Rattle.cx_text.specs.declared.token.Token.{Token}
use Rattle.cx_text.specs.Rules.{Rule, nothing, ◌>>=◌, choice, loop, unmarked, is_sign_kind, is_sign, lexeme, sign, name}
use Rattle.cx_text.specs.Lexemes.{same_name, beyond, is_number, number_in, quoted}
use Rattle.cx_expr.specs.declared.tree.Sign.{Sign}
use Rattle.cx_expr.specs.declared.tree.Sign.TheVariants.{Or, And, Equal, Differs, Below, AtMost, Above, AtLeast, Plus, Minus, Times, Over, Rest}
use Rattle.cx_expr.specs.declared.read.Level.{Level}
use Rattle.cx_expr.specs.declared.read.Level.TheVariants.{Or as OrLevel, And as AndLevel, Test as TestLevel, Sum as SumLevel, Product as ProductLevel}
use Rattle.cx_expr.specs.declared.tree.Expr.{Expr, Number, Named, Equals, Not, Negative, Pair}
use Rattle.cx_expr.specs.Signs.{sign_text}
use Rattle.cx_expr.specs.AtMost.{at_most}

-- ---- operators

-- whether a token is an operator's sign
abbrev pub is_written : Sign → Token → Bool
is_written s t = is_sign_kind t.kind && bytes_eq t.text (sign_text s)

-- which of these signs a token is
abbrev pub sign_among : List Sign → Token → Option Sign
sign_among [] t = None
sign_among (s ∷ ss) t = cond (is_written s t) (Some s) (sign_among ss t)

abbrev pub is_among : List Sign → Token → Bool
is_among signs t = is_some (sign_among signs t)

abbrev pub operator : List Sign → Rule Sign
operator signs = lexeme (sign_among signs) unmarked

-- one of the signs and a part, behind what they join
abbrev pub joined : List Sign → Rule Expr → Expr → Rule Expr
joined signs part left = do
  s ← operator signs
  right ← part
  nothing (Pair s left right)

-- part { sign part }: the first two are joined first
unfoldable pub chain : List Sign → Rule Expr → Rule Expr
chain signs part = do
  e ← part
  loop (is_among signs) (joined signs part) e

-- part [ sign part ]
unfoldable pub once_joined : List Sign → Rule Expr → Rule Expr
once_joined signs part = do
  e ← part
  choice (is_among signs) (joined signs part e) (nothing e)

abbrev pub products : List Sign
products = Times ∷ Over ∷ Rest ∷ []

abbrev pub sums : List Sign
sums = Plus ∷ Minus ∷ []

abbrev pub tests : List Sign
tests = Equal ∷ Differs ∷ Below ∷ AtMost ∷ Above ∷ AtLeast ∷ []

abbrev pub ands : List Sign
ands = And ∷ []

abbrev pub ors : List Sign
ors = Or ∷ []

-- ---- atoms

-- Number
abbrev pub number : Rule Expr
number = do
  n ← number_in 0 (2 ^ 63 - 1)
  nothing (Number (pos n))

-- "[" Number "]", behind a name
abbrev pub index : List ℕ → Rule Expr
index n = do
  u ← sign 91
  k ← number_in 0 (2 ^ 32 - 1)
  v ← sign 93
  nothing (Named n (Some k))

-- "(" Word "," Quoted ")", behind CCTK_Equals
abbrev pub equals : Rule Expr
equals = do
  u ← sign 40
  n ← name
  v ← sign 44
  text ← quoted
  w ← sign 41
  nothing (Equals n text)

-- the keyword CCTK_Equals in any case, where "(" stands behind it
abbrev pub opens_equals : List ℕ → Token → Bool
opens_equals n t = same_name n (codes "CCTK_Equals") && is_sign 40 t

-- what stands behind a word
abbrev pub behind : List ℕ → Rule Expr
behind n = choice (opens_equals n) equals (choice (is_sign 91) (index n) (nothing (Named n None)))

-- Word [ "[" Number "]" ] | CCTK_Equals "(" Word "," Quoted ")"
abbrev pub named : Rule Expr
named = do
  n ← name
  behind n

-- "(" expr ")"
abbrev pub parens : Rule Expr → Rule Expr
parens expr = do
  u ← sign 40
  e ← expr
  v ← sign 41
  nothing e

abbrev pub zero_ : Expr
zero_ = Number (pos 0)

-- atom = Number | Word [ "[" Number "]" ] | "(" expr ")" | CCTK_Equals "(" Word "," Quoted ")",
-- with what may stand at a parenthesis
abbrev pub atom : Rule Expr → Rule Expr
atom inner = choice (is_sign 40) inner (choice is_number number named)

-- ---- signs before an expression

abbrev pub is_unary : Token → Bool
is_unary t = is_sign 33 t || is_sign 45 t

abbrev pub negation : Rule Expr → Rule Expr
negation inner = do
  u ← sign 33
  e ← inner
  nothing (Not e)

abbrev pub negative : Rule Expr → Rule Expr
negative inner = do
  u ← sign 45
  e ← inner
  nothing (Negative Minus e)

-- un = ("!" | "-") un | atom, where so many signs may still stand round one another; what may stand
-- at a parenthesis depends on how many are left
unfoldable pub unary : (ℕ → Rule Expr) → ℕ → Rule Expr
unary inner zero = choice is_unary (beyond is_unary zero_) (atom (inner zero))
unary inner (suc signs) =
    choice (is_sign 33) (negation (unary inner signs))
    (choice (is_sign 45) (negative (unary inner signs)) (atom (inner (suc signs))))

-- ---- the levels, over what stands between operators

-- prod = un { ("*" | "/" | "%") un }
abbrev pub product : Rule Expr → Rule Expr
product un = chain products un

-- sum = prod { ("+" | "-") prod }
abbrev pub sum_ : Rule Expr → Rule Expr
sum_ un = chain sums (product un)

-- cmp = sum [ ("==" | "!=" | "<" | "<=" | ">" | ">=") sum ]
abbrev pub comparison : Rule Expr → Rule Expr
comparison un = once_joined tests (sum_ un)

-- and = cmp { "&&" cmp }
abbrev pub conjunction : Rule Expr → Rule Expr
conjunction un = chain ands (comparison un)

-- expr = and { "||" and }
abbrev pub disjunction : Rule Expr → Rule Expr
disjunction un = chain ors (conjunction un)

-- un, where so many parentheses and so many signs may still stand round one another, each counted
-- by itself
unfoldable pub operand : ℕ → ℕ → Rule Expr
operand zero signs = unary (λ s. beyond (is_sign 40) zero_) signs
operand (suc depth) signs = unary (λ s. parens (disjunction (operand depth s))) signs

abbrev pub expr : ℕ → ℕ → Rule Expr
expr depth signs = disjunction (operand depth signs)

-- at most 1,024 tokens, with at most 32 parentheses and at most 32 signs round one another
abbrev pub expression : Rule Expr
expression = at_most 1024 (expr 32 32)

-- ---- the levels by their operators

abbrev pub signs_of : Level → List Sign
signs_of OrLevel = ors
signs_of AndLevel = ands
signs_of TestLevel = tests
signs_of SumLevel = sums
signs_of ProductLevel = products

-- what a level's operators join
abbrev pub under : Level → Rule Expr → Rule Expr
under OrLevel un = conjunction un
under AndLevel un = comparison un
under TestLevel un = sum_ un
under SumLevel un = product un
under ProductLevel un = un
