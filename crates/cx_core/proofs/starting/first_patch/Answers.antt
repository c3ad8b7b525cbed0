use Rattle.std.proofs.Common.{sym, subst}
use Rattle.std.specs.Option.{option_copied}
use Rattle.cx_core.specs.Starts.{HasFirst}
use Rattle.cx_core.proofs.PatchLaws.{first_is}
use Rattle.cx_core.proofs.starting.first_patch.Goals as goal

pub returns : goal.returns
returns c =
    subst (HasFirst c.args.job.now c.args.cut.now (option_copied c.args.state) c.args.k)
    (sym c.fill.ensures)
    (first_is c.args.job.now c.args.cut.now c.requires.cut.parts c.args.k c.in_ok-patch.patch
    c.in_ok-patch.ensures.part c.in_ok-patch.ensures.numbers
    (option_copied c.args.state))
