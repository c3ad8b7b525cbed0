use Rattle.std.proofs.Common.{◌∙◌, ap, ◌||◌, ◌&&◌, eqb, ltb, get_or}
use Rattle.cx_order_least.proofs.GraphLaws.{pair_more}
use Rattle.cx_order_least.proofs.graph.Graph.new.Goals as goal

pub pairs-preserved : goal.pairs-preserved
pairs-preserved c =
    let pairs = c.args.pairs.now in
    let i = c.pairs.first-index in
    let n = c.args.count in
    let p = get_or pairs i (0, 0) in
    let told = c.in_ok-add_within.ensures in
    record {
      before_length = told.before_length;
      after_length = told.after_length;
      before = λ a b. told.before a b
          ∙ ap (λ t. t || ((eqb p.0 a && eqb p.1 b) && (ltb a n && ltb b n)))
          (c.pairs.invariant.before a b)
          ∙ pair_more pairs i (ltb a n && ltb b n) a b c.pairs-test.true;
      after = λ a b. told.after a b
          ∙ ap (λ t. t || ((eqb p.0 a && eqb p.1 b) && (ltb a n && ltb b n)))
          (c.pairs.invariant.after a b)
          ∙ pair_more pairs i (ltb a n && ltb b n) a b c.pairs-test.true;
    }
