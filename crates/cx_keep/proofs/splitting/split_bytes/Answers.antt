use Rattle.std.proofs.Common.{◌∙◌, List, ℕ, ap, sym}
use Rattle.cx_ascii_read.specs.Splitting.{split_of}
use Rattle.cx_keep.proofs.Naming.{split_many}
use Rattle.cx_keep.proofs.splitting.split_bytes.Goals as goal

pub returns-in-Some-clause-many : goal.returns-in-Some-clause-many
returns-in-Some-clause-many c =
    split_many c.args.job.now c.args.bytes.now c.in-Some.texts
    (ap (λ (ns : List (List ℕ)). split_of c.args.bytes.now ns) (sym c.in_ok-names.ensures)
    ∙ sym c.in_ok-texts.ensures ∙ c.in-Some.is)
