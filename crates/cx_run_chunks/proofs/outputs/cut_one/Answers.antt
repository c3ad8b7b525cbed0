use Rattle.std.proofs.Common.{◌∙◌, ◌-◌, ◌^◌, List, ℕ, ap, length, min, sym, subst}
use Rattle.std.proofs.lemmas.Result.{err_from_is_err_and}
use Rattle.cx_plan.specs.Setups.{setup_of}
use Rattle.cx_chunks.specs.Cutting.{AddsVariable}
use Rattle.cx_run_chunks.specs.Entries.{found, records_of}
use Rattle.cx_run_chunks.proofs.LoopLaws.{disk_fault, same_fault, told_one}
use Rattle.cx_run_chunks.proofs.outputs.cut_one.Goals as goal

pub returns-in_err-bytes-clause-told : goal.returns-in_err-bytes-clause-told
returns-in_err-bytes-clause-told g c = λ tells.
    let p = err_from_is_err_and c.from_residual.result c.from_residual.ensures.1 in
    rw (p.1, p.2) (disk_fault _ c.in_err-bytes.field-0.0)

pub returns-in_err-cut_file-clause-told : goal.returns-in_err-cut_file-clause-told
returns-in_err-cut_file-clause-told g c = λ tells.
    let files = (g.D.Disk.view c.args.disk.now).seen in
    let read = c.as_slice.ensures ∙ c.in_ok-bytes.ensures.bytes tells
    ∙ ap files c.named_output.ensures in
    let p = err_from_is_err_and c.from_residual-in_err-cut_file.result
    c.from_residual-in_err-cut_file.ensures.1 in
    rw (p.1, p.2) (same_fault _ _ c.in_err-cut_file.field-0.0
    (told_one (setup_of c.args.job.now) files c.args.place c.args.v
    c.info_of.result.now c.as_slice.result.now c.info_of.ensures read)
    c.in_err-cut_file.ensures.told)

pub returns-clause-told : goal.returns-clause-told
returns-clause-told g c = λ tells.
    let files = (g.D.Disk.view c.args.disk.now).seen in
    let read = c.as_slice.ensures ∙ c.in_ok-bytes.ensures.bytes tells
    ∙ ap files c.named_output.ensures in
    sym (told_one (setup_of c.args.job.now) files c.args.place c.args.v
    c.info_of.result.now c.as_slice.result.now c.info_of.ensures read)
    ∙ c.in_ok-cut_file.ensures.told

pub returns-clause-count : goal.returns-clause-count
returns-clause-count g c = λ tells.
    c.in_ok-cut_file.ensures.count
    ∙ ap (λ (bytes : List ℕ). min (length (found (records_of bytes))) (2 ^ 64 - 1))
    (c.as_slice.ensures ∙ c.in_ok-bytes.ensures.bytes tells
    ∙ ap (g.D.Disk.view c.args.disk.now).seen c.named_output.ensures)

pub returns-clause-texts : goal.returns-clause-texts
returns-clause-texts g c = λ tells.
    subst (λ (bytes : List ℕ). AddsVariable c.args.cut.now (found (records_of bytes))
    c.args.texts.now c.cut_file.new.texts)
    (c.as_slice.ensures ∙ c.in_ok-bytes.ensures.bytes tells
    ∙ ap (g.D.Disk.view c.args.disk.now).seen c.named_output.ensures)
    c.in_ok-cut_file.ensures.texts
