use Rattle.std.proofs.Common.{◌≡◌, ◌<◌, ◌+◌, ◌-◌, length, List, [], take, drop, refl, sym, ap, ◌∙◌, arith, true, false, ◌∷◌, Bool}
use Rattle.std.specs.Bool.{◌==◌}
use Rattle.cx_text.specs.declared.token.Token.{Token}
use Rattle.cx_text.specs.Reading.{Gives}
use Rattle.cx_expr.specs.Exprs.{expr}
use Rattle.cx_expr.proofs.ExprLaws.{AfterExpr, expr_part, expr_never}
use Rattle.cx_expr.specs.AtMost.{past}
use Rattle.cx_expr.proofs.AtMostLaws.{past_short}
use Rattle.cx_expr.proofs.WindowLaws.{windowed}
use Rattle.cx_expr.proofs.part.expression.Goals as goal

pub overflow_sub-tokens : goal.overflow_sub-tokens
overflow_sub-tokens c = rw c.past-over.ensures (past_short 1024 c.args.reader.now.rest.now)

some_of : (xs : List Token) (b : Bool) → b ≡ (length xs == 0) → b ≡ false → 0 < length xs
some_of xs b e h = let g : (length xs == 0) ≡ false = sym e ∙ h in grind (arith, g)

none_of : (xs : List Token) (b : Bool) → b ≡ (length xs == 0) → b ≡ true → xs ≡ []
none_of [] b e h = refl
none_of (x ∷ xs) b e h =
    absurd (let g : (length (x ∷ xs) == 0) ≡ true = sym e ∙ h in
    let l : length (x ∷ xs) ≡ 0 = grind (arith, g) in omega (arith, l))

pub returns-then-is_empty-2 : goal.returns-then-is_empty-2
returns-then-is_empty-2 c =
    let ts = c.args.reader.now.rest.now in
    let k = length ts - length c.past-over.result.now + 1 in
    let given : Gives (λ x. x) c.chain_at-answer.result c.chain_at-answer.new.reader.rest.now
    ((expr 32 32).reads (take k ts)) =
    rw (← c.split_at.ensures.front) c.chain_at-answer.ensures in
    let some : 0 < length (past 1024 ts) =
    rw (← c.past-over.ensures)
    (some_of c.past-over.result.now c.is_empty.result c.is_empty.ensures c.if-is_empty.false) in
    let w = windowed 1024 (expr 32 32) AfterExpr (expr_part 32 32).good (expr_never 32 32) ts k some
    (rw c.past-over.ensures refl)
    c.chain_at-answer.result c.chain_at-answer.new.reader.rest.now given in
    rw (c.cut_short.ensures, c.past-over.ensures)
    (w.whole (none_of c.chain_at-answer.new.reader.rest.now c.is_empty-2.result
    c.is_empty-2.ensures c.if-is_empty-2.true))

pub returns : goal.returns
returns c =
    let ts = c.args.reader.now.rest.now in
    let k = length ts - length c.past-over.result.now + 1 in
    let given : Gives (λ x. x) c.chain_at-answer.result c.chain_at-answer.new.reader.rest.now
    ((expr 32 32).reads (take k ts)) =
    rw (← c.split_at.ensures.front) c.chain_at-answer.ensures in
    let some : 0 < length (past 1024 ts) =
    rw (← c.past-over.ensures)
    (some_of c.past-over.result.now c.is_empty.result c.is_empty.ensures c.if-is_empty.false) in
    let w = windowed 1024 (expr 32 32) AfterExpr (expr_part 32 32).good (expr_never 32 32) ts k some
    (rw c.past-over.ensures refl)
    c.chain_at-answer.result c.chain_at-answer.new.reader.rest.now given in
    let place : c.saturating_sub.result
    ≡ length ts - length (drop k ts) - length c.chain_at-answer.new.reader.rest.now =
    c.saturating_sub.ensures
    ∙ ap (λ n. n - length c.chain_at-answer.new.reader.rest.now)
    (c.saturating_sub-read.ensures
    ∙ ap (λ (us : List Token). length ts - length us) c.split_at.ensures.back) in
    rw (c.split_at-2.ensures.back, place)
    (w.part (some_of c.chain_at-answer.new.reader.rest.now c.is_empty-2.result
    c.is_empty-2.ensures c.if-is_empty-2.false))
