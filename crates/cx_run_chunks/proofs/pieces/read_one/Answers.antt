use Rattle.std.proofs.Common.{◌∙◌, ap, sym}
use Rattle.std.proofs.lemmas.Result.{err_from_is_err_and}
use Rattle.cx_run_chunks.specs.Commands.{fault_unless}
use Rattle.cx_run_chunks.specs.Entries.{found, pieces_of}
use Rattle.cx_chunks.specs.declared.fault.ChunkFault.TheVariants.{Bad}
use Rattle.cx_run_chunks.proofs.LoopLaws.{disk_fault, same_fault}
use Rattle.cx_run_chunks.proofs.pieces.read_one.Goals as goal

pub returns-in_err-bytes-clause-told : goal.returns-in_err-bytes-clause-told
returns-in_err-bytes-clause-told g c = λ tells.
    let p = err_from_is_err_and c.from_residual.result c.from_residual.ensures.1 in
    rw (p.1, p.2) (disk_fault _ c.in_err-bytes.field-0.0)

pub returns-in_err-pieces_of-clause-told : goal.returns-in_err-pieces_of-clause-told
returns-in_err-pieces_of-clause-told g c = λ tells.
    let files = (g.D.Disk.view c.args.disk.now).seen in
    let read = c.as_slice.ensures ∙ c.in_ok-bytes.ensures.bytes tells ∙ ap files c.chunk.ensures in
    let p = err_from_is_err_and c.from_residual-in_err-pieces_of.result
    c.from_residual-in_err-pieces_of.ensures.1 in
    rw (p.1, p.2) (same_fault _ _ c.in_err-pieces_of.field-0.0
    (ap (λ bytes. fault_unless (Bad c.args.part) (pieces_of bytes)) read)
    c.in_err-pieces_of.ensures.told)

pub returns-clause-told : goal.returns-clause-told
returns-clause-told g c = λ tells.
    let files = (g.D.Disk.view c.args.disk.now).seen in
    sym (ap (λ bytes. fault_unless (Bad c.args.part) (pieces_of bytes))
    (c.as_slice.ensures ∙ c.in_ok-bytes.ensures.bytes tells ∙ ap files c.chunk.ensures))
    ∙ c.in_ok-pieces_of.ensures.told

pub returns-clause-pieces : goal.returns-clause-pieces
returns-clause-pieces g c = λ tells.
    let files = (g.D.Disk.view c.args.disk.now).seen in
    c.in_ok-pieces_of.ensures.pieces
    ∙ ap (λ bytes. found (pieces_of bytes))
    (c.as_slice.ensures ∙ c.in_ok-bytes.ensures.bytes tells ∙ ap files c.chunk.ensures)
