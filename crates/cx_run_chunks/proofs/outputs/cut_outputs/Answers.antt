use Rattle.std.proofs.Common.{◌≡◌, ◌∙◌, ap, inl, refl, sym, subst}
use Rattle.std.specs.Prelude.{None}
use Rattle.std.proofs.lemmas.Result.{err_from_is_err_and}
use Rattle.cx_disk.specs.Disk.{Files}
use Rattle.cx_disk.proofs.Moments.{quiet_more}
use Rattle.cx_plan.specs.Lists.{or_else}
use Rattle.cx_plan.specs.Setups.{setup_of}
use Rattle.cx_chunks.specs.Cutting.{chunk_texts}
use Rattle.cx_run_chunks.specs.Faults.{IsFaultOf}
use Rattle.cx_run_chunks.specs.Commands.{first_by_place, not_output, output_files, output_records, too_long}
use Rattle.cx_run_chunks.specs.Next.{total_of}
use Rattle.cx_run_chunks.proofs.LoopLaws.{first_fault, output_length, second_fault, seen_same}
use Rattle.cx_run_chunks.proofs.outputs.cut_outputs.Goals as goal

pub returns-in_err-check_length-clause-told : goal.returns-in_err-check_length-clause-told
returns-in_err-check_length-clause-told g c = λ tells.
    let p = err_from_is_err_and c.from_residual.result c.from_residual.ensures.1 in
    rw (p.1, p.2) (first_fault _ _ c.in_err-check_length.field-0.0
    (subst (λ o. IsFaultOf o c.in_err-check_length.field-0.0)
    (output_length (setup_of c.args.job.now) (g.D.Disk.view c.args.disk.now).seen _ _
    c.named_output.ensures c.count_outputs-count.ensures.value)
    (c.in_err-check_length.ensures.told tells)))

pub returns-in_err-texts-clause-told : goal.returns-in_err-texts-clause-told
returns-in_err-texts-clause-told g c = λ tells.
    let p = err_from_is_err_and c.from_residual-in_err-texts.result
    c.from_residual-in_err-texts.ensures.1 in
    rw (p.1, p.2) (inl refl)

pub returns-in_err-records-clause-told : goal.returns-in_err-records-clause-told
returns-in_err-records-clause-told g c = λ tells.
    let files = (g.D.Disk.view c.args.disk.now).seen in
    let setup = setup_of c.args.job.now in
    let e = c.in_err-records.field-0.0 in
    let none = sym (output_length setup files _ _ c.named_output.ensures
    c.count_outputs-count.ensures.value) ∙ c.in_ok-check_length.ensures.told tells in
    let p = err_from_is_err_and c.from_residual-in_err-records.result
    c.from_residual-in_err-records.ensures.1 in
    rw (p.1, p.2) (second_fault (too_long files (output_files setup))
    (first_by_place (not_output setup files) 0 c.args.job.now.out_vars) e none
    (subst (λ (now : Files).
    IsFaultOf (first_by_place (not_output setup now) 0 c.args.job.now.out_vars) e)
    (seen_same (c.check_length.ensures.quiet tells)) (c.in_err-records.ensures.told tells)))

pub returns-clause-told : goal.returns-clause-told
returns-clause-told g c = λ tells.
    let files = (g.D.Disk.view c.args.disk.now).seen in
    let setup = setup_of c.args.job.now in
    let none = sym (output_length setup files _ _ c.named_output.ensures
    c.count_outputs-count.ensures.value) ∙ c.in_ok-check_length.ensures.told tells in
    ap (λ o. or_else o (first_by_place (not_output setup files) 0 c.args.job.now.out_vars)) none
    ∙ subst (λ (now : Files).
    first_by_place (not_output setup now) 0 c.args.job.now.out_vars ≡ None)
    (seen_same (c.check_length.ensures.quiet tells)) (c.in_ok-records.ensures.told tells)

pub returns-clause-count : goal.returns-clause-count
returns-clause-count g c = λ tells.
    subst (λ (now : Files).
    c.in_ok-records.records ≡ total_of (output_records (setup_of c.args.job.now) now))
    (seen_same (c.check_length.ensures.quiet tells)) (c.in_ok-records.ensures.count tells)

pub returns-clause-texts : goal.returns-clause-texts
returns-clause-texts g c = λ tells.
    subst (λ (now : Files). c.cut_each.new.texts
    ≡ chunk_texts c.args.cut.now (output_records (setup_of c.args.job.now) now))
    (seen_same (c.check_length.ensures.quiet tells)) (c.in_ok-records.ensures.texts tells)

pub returns-in_err-records-clause-quiet : goal.returns-in_err-records-clause-quiet
returns-in_err-records-clause-quiet g c = λ tells.
    quiet_more (c.check_length.ensures.quiet tells) (c.cut_each.ensures.quiet tells)

pub returns-clause-quiet : goal.returns-clause-quiet
returns-clause-quiet g c = λ tells.
    quiet_more (c.check_length.ensures.quiet tells) (c.cut_each.ensures.quiet tells)
