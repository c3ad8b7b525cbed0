use Rattle.std.proofs.Common.{◌∙◌, sym}
use Rattle.cx_core_part.proofs.CopyLaws.{the_copy}
use Rattle.cx_core_part.proofs.copies.set_item.Goals as goal

pub set_copy-requires-clause-same : goal.set_copy-requires-clause-same
set_copy-requires-clause-same c =
    (the_copy c.args.steers.now c.args.number c.requires.0 c.args.iteration c.args.of.now
    c.in-Some.copy (sym c.in-Some.is ∙ c.requires.1)).0.same

pub set_copy-requires-clause-count : goal.set_copy-requires-clause-count
set_copy-requires-clause-count c =
    (the_copy c.args.steers.now c.args.number c.requires.0 c.args.iteration c.args.of.now
    c.in-Some.copy (sym c.in-Some.is ∙ c.requires.1)).0.count
