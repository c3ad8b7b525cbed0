use Rattle.std.proofs.Common.{◌<◌, ◌≤◌, length, refl, sym, subst, ◌∙◌, arith}
use Rattle.cx_text.specs.Reading.{Gives, Answer}
use Rattle.cx_text.proofs.Loops.{begun, turned, fewer, stopped, ended_at}
use Rattle.cx_expr.specs.declared.tree.Expr.{Expr}
use Rattle.cx_expr.specs.declared.read.Level.TheVariants as level
use Rattle.cx_expr.proofs.ExprLaws.{rank, rank_most, sign_short, operator_short, under_short, joined_short, not_limit, minus_limit, not_goes, minus_goes, open_limit, open_goes, number_goes, named_goes}
use Rattle.cx_expr.proofs.read.+expr.Goals as goal

-- ---- a token is taken before the next call

pub parens-chain_at-requires : goal.parens-chain_at-requires
parens-chain_at-requires t c =
    let less : length c.sign.new.self.rest.now < length c.args.reader.now.rest.now =
    (sign_short 40 refl).law c.args.reader.now.rest.now tt c.sign.new.self.rest.now
    c.in_ok-sign.ensures in
    (omega arith, tt)

pub negation-operand-requires : goal.negation-operand-requires
negation-operand-requires t c =
    let less : length c.sign.new.self.rest.now < length c.args.reader.now.rest.now =
    (sign_short 33 refl).law c.args.reader.now.rest.now tt c.sign.new.self.rest.now
    c.in_ok-sign.ensures in
    (omega arith, tt)

pub negative-operand-requires : goal.negative-operand-requires
negative-operand-requires t c =
    let less : length c.sign.new.self.rest.now < length c.args.reader.now.rest.now =
    (sign_short 45 refl).law c.args.reader.now.rest.now tt c.sign.new.self.rest.now
    c.in_ok-sign.ensures in
    (omega arith, tt)

pub joined-under-requires : goal.joined-under-requires
joined-under-requires t c =
    let less : length c.operator.new.reader.rest.now < length c.args.reader.now.rest.now =
    (operator_short c.args.level).law c.args.reader.now.rest.now c.in_ok-sign.sign
    c.operator.new.reader.rest.now c.in_ok-sign.ensures in
    let most : rank c.args.level ≤ 8 = rank_most c.args.level in
    (omega arith, tt)

pub chain_at-more-requires : goal.chain_at-more-requires
chain_at-more-requires t c =
    let less : length c.under.new.reader.rest.now < length c.args.reader.now.rest.now =
    (under_short c.args.level c.args.depth c.args.signs).law c.args.reader.now.rest.now
    c.in_ok-first.first c.under.new.reader.rest.now c.in_ok-first.ensures in
    (omega arith, tt)

pub compared-joined-requires : goal.compared-joined-requires
compared-joined-requires t c =
    let less : length c.under.new.reader.rest.now < length c.args.reader.now.rest.now =
    (under_short level.Test c.args.depth c.args.signs).law c.args.reader.now.rest.now
    c.in_ok-left.left c.under.new.reader.rest.now c.in_ok-left.ensures in
    (omega arith, tt)

-- ---- a level's operators

pub more-more-init : goal.more-more-init
more-more-init t c = record { so_far = begun; fewer = omega arith }

pub more-more-preserved : goal.more-more-preserved
more-more-preserved t c =
    let less : length c.joined.new.reader.rest.now < length c.more.reader.rest.now =
    fewer (joined_short c.args.level c.args.depth c.args.signs) c.in_ok-left.ensures in
    let before : length c.more.reader.rest.now ≤ length c.args.reader.now.rest.now =
    c.more.invariant.fewer in
    record {
      so_far = turned (joined_short c.args.level c.args.depth c.args.signs)
          c.more.invariant.so_far c.at_operator.ensures c.more-test.true c.in_ok-left.ensures;
      fewer = omega (arith, less, before);
    }

pub more-more-smaller : goal.more-more-smaller
more-more-smaller t c = fewer (joined_short c.args.level c.args.depth c.args.signs)
    c.in_ok-left.ensures

pub more-returns-in_err-left : goal.more-returns-in_err-left
more-returns-in_err-left t c =
    stopped _ _ _ _ (joined_short c.args.level c.args.depth c.args.signs)
    c.more.invariant.so_far c.at_operator.ensures c.more-test.true c.in_err-left.ensures
    c.from_residual.ensures.1

pub more-returns : goal.more-returns
more-returns t c = ended_at (joined_short c.args.level c.args.depth c.args.signs)
    c.more.invariant.so_far c.at_operator.ensures c.more-test.false

-- ---- an operand, by its first token

pub operand-returns-then-signs-eq0 : goal.operand-returns-then-signs-eq0
operand-returns-then-signs-eq0 t c =
    not_limit c.args.depth c.args.signs c.args.reader.now.rest.now c.if-signs-eq0.true
    (sym c.at_sign.ensures ∙ c.if-at_sign.true)

pub operand-returns-then-signs-eq0-2 : goal.operand-returns-then-signs-eq0-2
operand-returns-then-signs-eq0-2 t c =
    minus_limit c.args.depth c.args.signs c.args.reader.now.rest.now c.if-signs-eq0-2.true
    (sym c.at_sign.ensures ∙ c.if-at_sign.false)
    (sym c.at_sign-else-at_sign.ensures ∙ c.if-at_sign-2.true)

pub operand-returns-then-depth-eq0 : goal.operand-returns-then-depth-eq0
operand-returns-then-depth-eq0 t c =
    open_limit c.args.depth c.args.signs c.args.reader.now.rest.now c.if-depth-eq0.true
    (sym c.at_sign.ensures ∙ c.if-at_sign.false)
    (sym c.at_sign-else-at_sign.ensures ∙ c.if-at_sign-2.false)
    (sym c.at_sign-else-at_sign-2.ensures ∙ c.if-at_sign-3.true)

pub operand-returns-else-signs-eq0 : goal.operand-returns-else-signs-eq0
operand-returns-else-signs-eq0 t c =
    subst (λ (a : Answer Expr). Gives (λ x. x) c.negation.result c.negation.new.reader.rest.now a)
    (sym (not_goes c.args.depth c.args.signs c.args.reader.now.rest.now c.if-signs-eq0.false
    (sym c.at_sign.ensures ∙ c.if-at_sign.true))) c.negation.ensures

pub operand-returns-else-signs-eq0-2 : goal.operand-returns-else-signs-eq0-2
operand-returns-else-signs-eq0-2 t c =
    subst (λ (a : Answer Expr). Gives (λ x. x) c.negative.result c.negative.new.reader.rest.now a)
    (sym (minus_goes c.args.depth c.args.signs c.args.reader.now.rest.now c.if-signs-eq0-2.false
    (sym c.at_sign.ensures ∙ c.if-at_sign.false)
    (sym c.at_sign-else-at_sign.ensures ∙ c.if-at_sign-2.true))) c.negative.ensures

pub operand-returns-else-depth-eq0 : goal.operand-returns-else-depth-eq0
operand-returns-else-depth-eq0 t c =
    subst (λ (a : Answer Expr). Gives (λ x. x) c.parens.result c.parens.new.reader.rest.now a)
    (sym (open_goes c.args.depth c.args.signs c.args.reader.now.rest.now c.if-depth-eq0.false
    (sym c.at_sign.ensures ∙ c.if-at_sign.false)
    (sym c.at_sign-else-at_sign.ensures ∙ c.if-at_sign-2.false)
    (sym c.at_sign-else-at_sign-2.ensures ∙ c.if-at_sign-3.true))) c.parens.ensures

pub operand-returns-then-at_number : goal.operand-returns-then-at_number
operand-returns-then-at_number t c =
    subst (λ (a : Answer Expr). Gives (λ x. x) c.number.result c.number.new.reader.rest.now a)
    (sym (number_goes c.args.depth c.args.signs c.args.reader.now.rest.now
    (sym c.at_sign.ensures ∙ c.if-at_sign.false)
    (sym c.at_sign-else-at_sign.ensures ∙ c.if-at_sign-2.false)
    (sym c.at_sign-else-at_sign-2.ensures ∙ c.if-at_sign-3.false)
    (sym c.at_number.ensures ∙ c.if-at_number.true))) c.number.ensures

pub operand-returns-else-at_number : goal.operand-returns-else-at_number
operand-returns-else-at_number t c =
    subst (λ (a : Answer Expr). Gives (λ x. x) c.named.result c.named.new.reader.rest.now a)
    (sym (named_goes c.args.depth c.args.signs c.args.reader.now.rest.now
    (sym c.at_sign.ensures ∙ c.if-at_sign.false)
    (sym c.at_sign-else-at_sign.ensures ∙ c.if-at_sign-2.false)
    (sym c.at_sign-else-at_sign-2.ensures ∙ c.if-at_sign-3.false)
    (sym c.at_number.ensures ∙ c.if-at_number.false))) c.named.ensures
