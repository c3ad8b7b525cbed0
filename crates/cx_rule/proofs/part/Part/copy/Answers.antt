use Rattle.std.proofs.Common.{rules, ◌<◌, length}
use Rattle.cx_grid.specs.Boxes.{numbers_in}
use Rattle.cx_rule.specs.Patches.{values_in}
use Rattle.cx_rule.proofs.FillLaws.{vars_more}
use Rattle.cx_rule.proofs.part.Part.copy.Goals as goal

pub vars-preserved : goal.vars-preserved
vars-preserved c =
    let h : c.vars.v-index < length c.args.vars.now = search rules in
    vars_more (λ v. numbers_in c.args.b.now (values_in c.args.self.now v 0))
    c.args.vars.now c.vars.v-index _ _ h c.vars.invariant c.in_ok-copy_box.ensures
