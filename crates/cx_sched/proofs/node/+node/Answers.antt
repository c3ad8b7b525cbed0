use Rattle.std.proofs.Common.{◌<◌, ◌≤◌, length, refl, sym, subst, ◌∙◌, arith}
use Rattle.cx_text.specs.Reading.{Gives, Answer}
use Rattle.cx_text.proofs.Loops.{begun, turned, fewer, stopped, ended_at}
use Rattle.cx_sched.specs.declared.node.Read.{Read}
use Rattle.cx_sched.proofs.NodeLaws.{sign_short, else_short, condition_short, body_short, node_short, beyond_limit, beyond_none, braced_goes, single_goes}
use Rattle.cx_sched.proofs.node.+node.Goals as goal

-- ---- a token is taken before the next call

pub otherwise-body-requires : goal.otherwise-body-requires
otherwise-body-requires t c =
    let less : length c.keyword.new.self.rest.now < length c.args.reader.now.rest.now =
    else_short.law c.args.reader.now.rest.now tt c.keyword.new.self.rest.now
    c.in_ok-keyword.ensures in
    (omega arith, tt)

pub conditional-body-requires : goal.conditional-body-requires
conditional-body-requires t c =
    let less : length c.condition.new.reader.rest.now < length c.args.reader.now.rest.now =
    (condition_short _).law c.args.reader.now.rest.now c.in_ok-test.test
    c.condition.new.reader.rest.now c.in_ok-test.ensures in
    (omega arith, tt)

pub conditional-otherwise-requires : goal.conditional-otherwise-requires
conditional-otherwise-requires t c =
    let less : length c.condition.new.reader.rest.now < length c.args.reader.now.rest.now =
    (condition_short _).law c.args.reader.now.rest.now c.in_ok-test.test
    c.condition.new.reader.rest.now c.in_ok-test.ensures in
    let fewer : length c.body.new.reader.rest.now < length c.condition.new.reader.rest.now =
    (body_short _ _ _).law c.condition.new.reader.rest.now c.in_ok-yes.yes
    c.body.new.reader.rest.now c.in_ok-yes.ensures in
    (omega arith, tt)

pub braced-nodes-requires : goal.braced-nodes-requires
braced-nodes-requires t c =
    let less : length c.sign.new.self.rest.now < length c.args.reader.now.rest.now =
    (sign_short 123 refl).law c.args.reader.now.rest.now tt c.sign.new.self.rest.now
    c.in_ok-sign.ensures in
    (omega arith, tt)

-- ---- nodes

pub nodes-nodes-init : goal.nodes-nodes-init
nodes-nodes-init t c = record { so_far = begun; fewer = omega arith }

pub nodes-nodes-preserved : goal.nodes-nodes-preserved
nodes-nodes-preserved t c =
    let less : length c.node.new.reader.rest.now < length c.nodes.reader.rest.now =
    fewer (node_short c.args.depth) c.in_ok-node.ensures in
    let before : length c.nodes.reader.rest.now ≤ length c.args.reader.now.rest.now =
    c.nodes.invariant.fewer in
    record {
      so_far = turned (node_short c.args.depth)
          c.nodes.invariant.so_far c.at_node.ensures c.nodes-test.true c.in_ok-node.ensures;
      fewer = omega (arith, less, before);
    }

pub nodes-nodes-smaller : goal.nodes-nodes-smaller
nodes-nodes-smaller t c = fewer (node_short c.args.depth) c.in_ok-node.ensures

pub nodes-returns-in_err-node : goal.nodes-returns-in_err-node
nodes-returns-in_err-node t c =
    stopped _ _ _ _ (node_short c.args.depth)
    c.nodes.invariant.so_far c.at_node.ensures c.nodes-test.true c.in_err-node.ensures
    c.from_residual.ensures.1

pub nodes-returns : goal.nodes-returns
nodes-returns t c = ended_at (node_short c.args.depth)
    c.nodes.invariant.so_far c.at_node.ensures c.nodes-test.false

-- ---- a body, by its first token

pub body-returns-then-at_sign : goal.body-returns-then-at_sign
body-returns-then-at_sign t c =
    subst (λ (a : Answer Read). Gives (λ x. x) c.braced.result c.braced.new.reader.rest.now a)
    (sym (braced_goes c.args.depth c.args.left c.args.lines c.args.reader.now.rest.now
    c.if-depth-eq0.false (sym c.at_sign.ensures ∙ c.if-at_sign.true))) c.braced.ensures

pub body-returns-else-at_sign : goal.body-returns-else-at_sign
body-returns-else-at_sign t c =
    subst (λ (a : Answer Read). Gives (λ x. x) c.single.result c.single.new.reader.rest.now a)
    (sym (single_goes c.args.depth c.args.left c.args.lines c.args.reader.now.rest.now
    c.if-depth-eq0.false (sym c.at_sign.ensures ∙ c.if-at_sign.false))) c.single.ensures

pub body-returns-then-at_body : goal.body-returns-then-at_body
body-returns-then-at_body t c =
    beyond_limit c.args.depth c.args.left c.args.lines c.args.reader.now.rest.now
    c.if-depth-eq0.true (sym c.at_body.ensures ∙ c.if-at_body.true)

pub body-returns-then-depth-eq0 : goal.body-returns-then-depth-eq0
body-returns-then-depth-eq0 t c =
    beyond_none c.args.depth c.args.left c.args.lines c.args.reader.now.rest.now c.if-depth-eq0.true
    (sym c.at_body.ensures ∙ c.if-at_body.false)
