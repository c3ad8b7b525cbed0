-- Only a marked number is taken off.
use Rattle.std.proofs.Common.{◌∙◌, sym, ap, subst, length, ◌<◌}
use Rattle.std.proofs.lemmas.List.{length-set}
use Rattle.cx_order_least.specs.Links.{links}
use Rattle.cx_order_least.proofs.LinkLaws.{links-last, differ, links-pop_fewer, links-pop_other}
use Rattle.cx_order_least.proofs.candidates.blocker.Goals as goal

pub returns-then-is_left-clause-found : goal.returns-then-is_left-clause-found
returns-then-is_left-clause-found c =
    c.taken.invariant.fewer c.in-Some.last c.args.number
    (links-last c.taken.before c.args.number c.in-Some.last
    (sym c.last_of.ensures ∙ c.in-Some.is))

pub taken-preserved : goal.taken-preserved
taken-preserved c =
    let is = sym c.last_of.ensures ∙ c.in-Some.is in
    let rows = c.taken.before in
    let at = c.args.number in
    let l = c.in-Some.last in
    let h = subst (λ n. at < n) (sym c.taken.invariant.same) c.requires in
    record {
      same = ap length c.pop.ensures ∙ length-set rows at _ ∙ c.taken.invariant.same;
      kept = λ a b left. ap (λ r. links r b a) c.pop.ensures
          ∙ links-pop_other rows at l h is b a
          (differ c.args.marks.now l a (sym c.is_left.ensures ∙ c.if-is_left.false) left)
          ∙ c.taken.invariant.kept a b left;
      fewer = λ a b t. c.taken.invariant.fewer a b
          (links-pop_fewer rows at l h is b a (ap (λ r. links r b a) (sym c.pop.ensures) ∙ t));
    }
