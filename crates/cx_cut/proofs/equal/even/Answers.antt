use Rattle.std.proofs.Common.{rules, ◌≡◌}
use Rattle.cx_cut.specs.Equal.{even}
use Rattle.cx_cut.proofs.EqualLaws.{one_width, all_points}
use Rattle.cx_cut.proofs.equal.even.Goals as goal

pub parts-preserved : goal.parts-preserved
parts-preserved c = one_width c.args.points c.args.parts c.parts.part c.width_of.result
    c.parts.widths c.push.new.self c.parts.invariant c.width_of.ensures c.in_ok-push.ensures.ok

pub returns-clause-total : goal.returns-clause-total
returns-clause-total c =
    let e : c.parts.widths ≡ even c.args.points c.args.parts = search rules in
    rw e (all_points c.args.points c.args.parts c.requires)
