use Rattle.std.proofs.Common.{◌∙◌, ap, sym}
use Rattle.cx_plan.specs.Setups.{setup_of}
use Rattle.cx_core_part.specs.Copies.{Copies}
use Rattle.cx_core_part.proofs.NextLaws.{still}
use Rattle.cx_core_part.proofs.copies.Items.set.Goals as goal

pub returns-then-are_of : goal.returns-then-are_of
returns-then-are_of c =
    ap (λ (d : Copies). record d { iteration = c.args.iteration }) c.self.view_is
    ∙ still (setup_of c.args.job.now) c.requires.0 c.args.iteration c.args.self.now c.requires.1
    (sym c.are_of.ensures ∙ c.if-are_of.true)
