-- An expression's tokens are those of its parts.
use Rattle.std.proofs.Common.{ℕ, ◌≡◌, ◌∙◌, ◌++◌, ◌∷◌, [], List, Result, Ok, Err, ap, sym, append_assoc}
use Rattle.std.specs.Prelude.{OnOk}
use Rattle.cx_text.specs.declared.token.Token.{Token}
use Rattle.cx_text.specs.Written.{sign}
use Rattle.cx_expr.specs.declared.tree.Sign.{Sign}
use Rattle.cx_expr.specs.declared.tree.Expr.{Expr, Pair}
use Rattle.cx_expr.specs.Printed.{expr_tokens, left_level, right_level, operator_token}
use Rattle.cx_expr.proofs.Trees.{side, not_tokens, negative_tokens, pair_tokens}
use Rattle.cx_expr.proofs.printer.+print.Goals as goal

-- what was there, and what a part adds
joined : {E : Type 0} (r : Result (Unit {0}) E) (old mid new front back whole : List Token)
    → mid ≡ old ++ front → front ++ back ≡ whole → OnOk r (new ≡ mid ++ back)
    → OnOk r (new ≡ old ++ whole)
joined (Ok u) old mid new front back whole h e k =
    k ∙ ap (λ (ts : List Token). ts ++ back) h ∙ append_assoc old front back
    ∙ ap (λ (ts : List Token). old ++ ts) e
joined (Err x) old mid new front back whole h e k = tt

pub expr_tokens-returns-in_ok-push_sign-in-Not : goal.expr_tokens-returns-in_ok-push_sign-in-Not
expr_tokens-returns-in_ok-push_sign-in-Not t c =
    let whole : sign 33 ∷ side 0 c.get.result.now ≡ expr_tokens c.args.e.now =
    ap (λ (x : Expr). sign 33 ∷ side 0 x) c.get.ensures ∙ sym (not_tokens c.in-Not.one)
    ∙ ap expr_tokens (sym c.in-Not.is) in
    joined c.side.result c.args.tokens.now c.push_sign.new.self c.side.new.tokens (sign 33 ∷ [])
    (side 0 c.get.result.now) (expr_tokens c.args.e.now) (c.in_ok-push_sign-in-Not.ensures.ok)
    whole c.side.ensures

pub expr_tokens-returns-in_ok-push_sign-in-Negative : goal.expr_tokens-returns-in_ok-push_sign-in-Negative
expr_tokens-returns-in_ok-push_sign-in-Negative t c =
    let whole : sign 45 ∷ side 0 c.get-in-Negative.result.now ≡ expr_tokens c.args.e.now =
    ap (λ (x : Expr). sign 45 ∷ side 0 x) c.get-in-Negative.ensures
    ∙ sym (negative_tokens c.in-Negative.field-0 c.in-Negative.one)
    ∙ ap expr_tokens (sym c.in-Negative.is) in
    joined c.side-in-Negative.result c.args.tokens.now c.push_sign-in-Negative.new.self
    c.side-in-Negative.new.tokens (sign 45 ∷ []) (side 0 c.get-in-Negative.result.now)
    (expr_tokens c.args.e.now) (c.in_ok-push_sign-in-Negative.ensures.ok)
    whole c.side-in-Negative.ensures

pair_whole : (e left right left_now right_now : Expr) (s o : Sign) (a b : ℕ) → e ≡ Pair s left right
    → left_now ≡ left → right_now ≡ right → o ≡ s → a ≡ left_level o → b ≡ right_level o
    → (side a left_now ++ operator_token o ∷ []) ++ side b right_now ≡ expr_tokens e
pair_whole e left right left_now right_now s o a b is l r same at_left at_right =
    append_assoc (side a left_now) (operator_token o ∷ []) (side b right_now)
    ∙ rw (at_left, at_right, l, r, same, is) (sym (pair_tokens s left right))

pub expr_tokens-returns-in_ok-push_operator-in-Pair : goal.expr_tokens-returns-in_ok-push_operator-in-Pair
expr_tokens-returns-in_ok-push_operator-in-Pair t c =
    let old = c.args.tokens.now in
    let left = side c.left_level.result c.get-in-Pair.result.now in
    let before : c.push_operator.new.tokens
    ≡ old ++ (left ++ operator_token c.sign-sign.result ∷ []) =
    c.in_ok-push_operator-in-Pair.ensures
    ∙ ap (λ (ts : List Token). ts ++ operator_token c.sign-sign.result ∷ [])
    c.in_ok-side-in-Pair.ensures
    ∙ append_assoc old left (operator_token c.sign-sign.result ∷ []) in
    let whole = pair_whole c.args.e.now c.in-Pair.left c.in-Pair.right c.get-in-Pair.result.now
    c.get-in-Pair-2.result.now c.in-Pair.operator c.sign-sign.result c.left_level.result
    c.right_level.result c.in-Pair.is c.get-in-Pair.ensures c.get-in-Pair-2.ensures
    c.sign-sign.ensures c.left_level.ensures c.right_level.ensures in
    joined c.side-in-Pair-2.result old c.push_operator.new.tokens c.side-in-Pair-2.new.tokens
    (left ++ operator_token c.sign-sign.result ∷ [])
    (side c.right_level.result c.get-in-Pair-2.result.now) (expr_tokens c.args.e.now)
    before whole c.side-in-Pair-2.ensures
