-- Expressions that are read again where they are printed.
use Rattle.std.proofs.Common.{◌≡◌, ℕ, suc, ◌-◌, ◌^◌, ◌<◌, ◌≤◌, true, false, List, [], ◌∷◌, ◌++◌, Option, Some, None, refl, ap, ◌∙◌, inl, inr, arith}
use Rattle.std.specs.Prelude.{pos, nat_lt, ◌⊎◌}
use Rattle.cx_text.specs.declared.token.Token.{Token}
use Rattle.cx_text.specs.Written.{sign}
use Rattle.cx_expr.specs.declared.tree.Sign.{Sign}
use Rattle.cx_expr.specs.declared.tree.Sign.TheVariants.{Or, And, Equal, Differs, Below, AtMost, Above, AtLeast, Plus, Minus, Times, Over, Rest}
use Rattle.cx_expr.specs.declared.tree.Expr.{Expr, Number, Named, Equals, Not, Negative, Pair, Not', Negative', Pair', Row_of-Expr}
use Rattle.cx_expr.specs.Printed.{level_of, level, left_level, right_level, operator_token, in_parens, expr_tokens}

-- an expression where operators up to a level may stand without parentheses
abbrev pub side : ℕ → Expr → List Token
side most e = in_parens (nat_lt most (level e)) (expr_tokens e)

-- ---- the tokens of an operator's expression

pub not_tokens : (one : Expr) → expr_tokens (Not one) ≡ sign 33 ∷ side 0 one
unfolding Rattle.cx_expr.specs.declared.tree.Expr.TheBlock.hidden-the_row-Expr-0
    denote.Hole.Carrier.hidden
not_tokens one = refl

pub negative_tokens : (s : Sign) (one : Expr) → expr_tokens (Negative s one) ≡ sign 45 ∷ side 0 one
unfolding Rattle.cx_expr.specs.declared.tree.Expr.TheBlock.hidden-the_row-Expr-0
    denote.Hole.Carrier.hidden
negative_tokens s one = refl

pub pair_tokens : (s : Sign) (left right : Expr)
    → expr_tokens (Pair s left right)
    ≡ side (left_level s) left ++ (operator_token s ∷ side (right_level s) right)
unfolding Rattle.cx_expr.specs.declared.tree.Expr.TheBlock.hidden-the_row-Expr-0
    denote.Hole.Carrier.hidden
pair_tokens s left right = refl

pub not_level : (one : Expr) → level (Not one) ≡ 0
unfolding Rattle.cx_expr.specs.declared.tree.Expr.TheBlock.hidden-the_row-Expr-0
    denote.Hole.Carrier.hidden
not_level one = refl

pub negative_level : (s : Sign) (one : Expr) → level (Negative s one) ≡ 0
unfolding Rattle.cx_expr.specs.declared.tree.Expr.TheBlock.hidden-the_row-Expr-0
    denote.Hole.Carrier.hidden
negative_level s one = refl

pub pair_level : (s : Sign) (left right : Expr) → level (Pair s left right) ≡ level_of s
unfolding Rattle.cx_expr.specs.declared.tree.Expr.TheBlock.hidden-the_row-Expr-0
    denote.Hole.Carrier.hidden
pair_level s left right = refl

-- ---- levels

sign_most : (s : Sign) → level_of s ≤ 5
sign_most Or = omega arith
sign_most And = omega arith
sign_most Equal = omega arith
sign_most Differs = omega arith
sign_most Below = omega arith
sign_most AtMost = omega arith
sign_most Above = omega arith
sign_most AtLeast = omega arith
sign_most Plus = omega arith
sign_most Minus = omega arith
sign_most Times = omega arith
sign_most Over = omega arith
sign_most Rest = omega arith

pub level_most : (e : Expr) → level e ≤ 5
level_most (Number n) = omega arith
level_most (Named name index) = omega arith
level_most (Equals name text) = omega arith
level_most (Not' shape one) = omega arith
level_most (Negative' s shape one) = omega arith
level_most (Pair' s shape left shape2 right) = sign_most s

pub lt_false : (a b : ℕ) → b ≤ a → nat_lt a b ≡ false
lt_false a b h = grind (arith, h)

pub lt_true : (a b : ℕ) → a < b → nat_lt a b ≡ true
lt_true a b h = grind (arith, h)

lt_cases : (a b : ℕ) → (a < b) ⊎ (b ≤ a)
lt_cases a b = search (arith)

pub side_bare : (p : ℕ) (e : Expr) → level e ≤ p → side p e ≡ expr_tokens e
side_bare p e h = rw (lt_false p (level e) h) refl

pub side_inside : (p : ℕ) (e : Expr) → p < level e
    → side p e ≡ sign 40 ∷ (expr_tokens e ++ sign 41 ∷ [])
side_inside p e h = rw (lt_true p (level e) h) refl

-- ---- what can stand where operators up to a level may stand without parentheses, and so many
-- parentheses and signs round one another

abbrev pub IsPlace : Option ℕ → Type 0
IsPlace None = Unit {0}
IsPlace (Some k) = k ≤ 2 ^ 32 - 1

-- W holds of each name
pub data Fits (W : List ℕ → Type 0) : ℕ → ℕ → ℕ → Expr → Type 0 where
  number_fits : {depth signs most : ℕ} {e : Expr} (n : ℕ) → e ≡ Number (pos n) → n ≤ 2 ^ 63 - 1
      → Fits W depth signs most e
  named_fits : {depth signs most : ℕ} {e : Expr} (name : List ℕ) (place : Option ℕ)
      → e ≡ Named name place → W name → IsPlace place → Fits W depth signs most e
  equals_fits : {depth signs most : ℕ} {e : Expr} (name text : List ℕ) → e ≡ Equals name text
      → W name → Fits W depth signs most e
  not_fits : {depth signs most : ℕ} {e : Expr} (one : Expr) → e ≡ Not one → Fits W depth signs 0 one
      → Fits W depth (suc signs) most e
  negative_fits : {depth signs most : ℕ} {e : Expr} (one : Expr) → e ≡ Negative Minus one
      → Fits W depth signs 0 one → Fits W depth (suc signs) most e
  pair_fits : {depth signs most : ℕ} {e : Expr} (s : Sign) (left right : Expr)
      → e ≡ Pair s left right → level_of s ≤ most → Fits W depth signs (left_level s) left
      → Fits W depth signs (right_level s) right → Fits W depth signs most e
  inside_fits : {depth signs most : ℕ} {e : Expr} → most < level e → Fits W depth signs 5 e
      → Fits W (suc depth) signs most e

pub deeper : {W : List ℕ → Type 0} {depth signs most : ℕ} {e : Expr} → Fits W depth signs most e
    → Fits W (suc depth) signs most e
deeper (number_fits n is h) = number_fits n is h
deeper (named_fits name place is h k) = named_fits name place is h k
deeper (equals_fits name text is h) = equals_fits name text is h
deeper (not_fits one is f) = not_fits one is (deeper f)
deeper (negative_fits one is f) = negative_fits one is (deeper f)
deeper (pair_fits s left right is h f g) = pair_fits s left right is h (deeper f) (deeper g)
deeper (inside_fits h f) = inside_fits h (deeper f)

-- without parentheses
bare : {W : List ℕ → Type 0} {depth signs all : ℕ} {e : Expr} → Fits W depth signs all e
    → (most : ℕ) → 5 ≤ all → level e ≤ most → Fits W depth signs most e
bare (number_fits n is h) most whole fits = number_fits n is h
bare (named_fits name place is h k) most whole fits = named_fits name place is h k
bare (equals_fits name text is h) most whole fits = equals_fits name text is h
bare (not_fits one is f) most whole fits = not_fits one is f
bare (negative_fits one is f) most whole fits = negative_fits one is f
bare (pair_fits s left right is h f g) most whole fits =
    let same : level _ ≡ level_of s = ap level is ∙ pair_level s left right in
    pair_fits s left right is (omega (arith, same, fits)) f g
bare {e = e} (inside_fits h f) most whole fits =
    absurd (let top = level_most e in omega (arith, top, h, whole))

-- where one level more may stand
pub wider : {W : List ℕ → Type 0} {depth signs most : ℕ} {e : Expr} → Fits W depth signs most e
    → Fits W depth signs (suc most) e
wider (number_fits n is h) = number_fits n is h
wider (named_fits name place is h k) = named_fits name place is h k
wider (equals_fits name text is h) = equals_fits name text is h
wider (not_fits one is f) = not_fits one is f
wider (negative_fits one is f) = negative_fits one is f
wider (pair_fits s left right is h f g) = pair_fits s left right is (omega (arith, h)) f g
wider {most = most} {e = e} (inside_fits h f) =
    elim (lt_cases (suc most) (level e)) [
      | inl k ↦ inside_fits k f
      | inr k ↦ deeper (bare f (suc most) (omega arith) k)
    ]

-- in parentheses, where they are needed
pub enclosed : {W : List ℕ → Type 0} {depth signs : ℕ} {e : Expr} → Fits W depth signs 5 e
    → Fits W (suc depth) signs 0 e
enclosed {e = e} f =
    elim (lt_cases 0 (level e)) [
      | inl k ↦ inside_fits k f
      | inr k ↦ deeper (bare f 0 (omega arith) k)
    ]
