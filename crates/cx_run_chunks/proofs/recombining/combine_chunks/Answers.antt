use Rattle.std.proofs.Common.{◌∙◌, inl, refl, subst}
use Rattle.std.proofs.lemmas.Result.{err_from_is_err_and}
use Rattle.cx_chunks.specs.Combining.{chunk_fault}
use Rattle.cx_cut.specs.Cuts.{Parts}
use Rattle.cx_plan.specs.Setups.{setup_of}
use Rattle.cx_run_chunks.specs.Commands.{all_pieces, files_fault, parts_in}
use Rattle.cx_run_chunks.specs.Faults.{IsFaultOf}
use Rattle.cx_run_chunks.proofs.CombineLaws.{combine_fault, no_fault, records_are, whole_is}
use Rattle.cx_run_chunks.proofs.LoopLaws.{first_fault}
use Rattle.cx_run_chunks.proofs.OutputLaws.{outputs_are}
use Rattle.cx_run_chunks.proofs.recombining.combine_chunks.Goals as goal

pub combine-requires-clause-outputs : goal.combine-requires-clause-outputs
combine-requires-clause-outputs g c = outputs_are c.args.job.now c.requires.whole

pub returns-in_err-chunks-clause-told : goal.returns-in_err-chunks-clause-told
returns-in_err-chunks-clause-told g c = λ tells.
    let files = (g.D.Disk.view c.args.disk.now).seen in
    let p = err_from_is_err_and c.from_residual.result c.from_residual.ensures.1 in
    rw (p.1, p.2) (first_fault (files_fault (parts_in c.args.job.now) files)
    (chunk_fault (setup_of c.args.job.now) (parts_in c.args.job.now)
    (all_pieces (parts_in c.args.job.now) files)) c.in_err-chunks.field-0.0
    (subst (λ (k : Parts). IsFaultOf (files_fault k files) c.in_err-chunks.field-0.0)
    c.requires.parts (c.in_err-chunks.ensures.told tells)))

pub returns-in_err-texts-clause-told : goal.returns-in_err-texts-clause-told
returns-in_err-texts-clause-told g c = λ tells.
    let p = err_from_is_err_and c.from_residual-in_err-texts.result
    c.from_residual-in_err-texts.ensures.1 in
    rw (p.1, p.2) (combine_fault c.args.job.now (g.D.Disk.view c.args.disk.now).seen
    c.args.cut.now c.in_ok-chunks.chunks c.requires.parts (c.in_ok-chunks.ensures.pieces tells)
    (c.in_ok-chunks.ensures.told tells) c.in_err-texts.field-0.0 c.in_err-texts.ensures)

pub returns-in_err-records-clause-told : goal.returns-in_err-records-clause-told
returns-in_err-records-clause-told g c = λ tells.
    let p = err_from_is_err_and c.from_residual-in_err-records.result
    c.from_residual-in_err-records.ensures.1 in
    rw (p.1, p.2) (inl refl)

pub returns-clause-told : goal.returns-clause-told
returns-clause-told g c = λ tells.
    no_fault c.args.job.now (g.D.Disk.view c.args.disk.now).seen c.args.cut.now
    c.in_ok-chunks.chunks c.requires.parts (c.in_ok-chunks.ensures.pieces tells)
    (c.in_ok-chunks.ensures.told tells) c.in_ok-texts.texts c.in_ok-texts.ensures

pub returns-clause-records : goal.returns-clause-records
returns-clause-records g c = λ tells.
    records_are c.args.job.now (g.D.Disk.view c.args.disk.now).seen c.args.cut.now
    c.as_slice.result.now c.requires.parts
    (c.as_slice.ensures ∙ c.in_ok-chunks.ensures.pieces tells)
    (c.in_ok-chunks.ensures.told tells) c.in_ok-records.records c.requires.whole
    c.in_ok-records.ensures

pub returns-clause-texts : goal.returns-clause-texts
returns-clause-texts g c = λ tells.
    whole_is c.args.job.now (g.D.Disk.view c.args.disk.now).seen c.args.cut.now
    c.in_ok-chunks.chunks c.requires.parts (c.in_ok-chunks.ensures.pieces tells)
    (c.in_ok-chunks.ensures.told tells) c.in_ok-texts.texts c.in_ok-texts.ensures
