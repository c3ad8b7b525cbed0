use Rattle.std.proofs.Common.{Some, ◌++◌, ◌∙◌, ap, inr, sym}
use Rattle.std.specs.Prelude.{codes}
use Rattle.cx_chunks.specs.declared.fault.ChunkFault.TheVariants.{NotOutput}
use Rattle.cx_run_chunks.specs.Commands.{fault_unless}
use Rattle.cx_run_chunks.proofs.outputs.cut_file.Goals as goal

pub returns-in-Ok-clause-told : goal.returns-in-Ok-clause-told
returns-in-Ok-clause-told c =
    ap (fault_unless (NotOutput (c.args.info.now.full ++ codes ".asc"))) c.in-Ok.ensures.told

pub returns-in_ok-other_file-in-Err-Other-clause-told : goal.returns-in_ok-other_file-in-Err-Other-clause-told
returns-in_ok-other_file-in-Err-Other-clause-told c =
    let none = rw c.in-Err-Other.field-0-is at c.in-Err-Other.ensures.told in
    inr (ap (fault_unless (NotOutput (c.args.info.now.full ++ codes ".asc"))) none
    ∙ ap (λ f. Some f) (sym c.in_ok-other_file-in-Err-Other.ensures))
