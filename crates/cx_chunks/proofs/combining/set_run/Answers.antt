use Rattle.std.proofs.Common.{◌∙◌, length}
use Rattle.cx_chunks.proofs.SetLaws.{none_set}
use Rattle.cx_chunks.proofs.combining.set_run.Goals as goal

pub returns-in-None : goal.returns-in-None
returns-in-None c =
    rw c.in-None.is
    (c.fill.ensures.after (λ y e. e) ∙ none_set c.args.from (length c.args.row.now))
