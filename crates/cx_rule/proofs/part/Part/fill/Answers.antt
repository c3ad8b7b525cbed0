use Rattle.std.proofs.Common.{rules, ◌<◌, length}
use Rattle.cx_rule.proofs.FillLaws.{vars_none, are_alike, vars_filled}
use Rattle.cx_rule.proofs.part.Part.fill.Goals as goal

pub vars-init : goal.vars-init
vars-init c = vars_none c.args.self.now c.args.vars.now c.args.b.now c.args.values.now

pub fill_box-requires-clause-level : goal.fill_box-requires-clause-level
fill_box-requires-clause-level c =
    let h : c.vars.i < length c.args.vars.now = search rules in
    are_alike c.args.self.now c.vars.self c.args.vars.now c.vars.invariant.alike c.requires.vars
    c.vars.i h

pub vars-preserved : goal.vars-preserved
vars-preserved c =
    let h : c.vars.i < length c.args.vars.now = search rules in
    let g = rw (c.piece.ensures.value, c.count-n.ensures) at c.fill_box.ensures in
    vars_filled c.args.self.now c.vars.self c.fill_box.new.self c.args.vars.now c.args.b.now
    c.args.values.now c.vars.i h c.requires.vars.differ c.vars.invariant g
