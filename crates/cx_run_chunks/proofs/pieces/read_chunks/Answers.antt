use Rattle.std.proofs.Common.{◌≡◌, ◌∙◌, ℕ, IfOk, map, refl, sym, subst}
use Rattle.std.specs.List.{range_with_len}
use Rattle.std.proofs.lemmas.Result.{err_from_is_err_and}
use Rattle.cx_cut.specs.Cuts.{part_count}
use Rattle.cx_disk.specs.Disk.{Files}
use Rattle.cx_disk.proofs.Moments.{quiet_more}
use Rattle.cx_plan.specs.Lists.{first_of_each}
use Rattle.cx_run_chunks.specs.Commands.{bad, chunk_files, pieces_in, too_long}
use Rattle.cx_run_chunks.specs.Faults.{Finds, IsFaultOf}
use Rattle.cx_run_chunks.proofs.LoopLaws.{chunk_length, first_fault, second_finds, seen_same}
use Rattle.cx_run_chunks.proofs.pieces.read_chunks.Goals as goal

pub returns-in_err-check_length-clause-told : goal.returns-in_err-check_length-clause-told
returns-in_err-check_length-clause-told g c = λ tells.
    let p = err_from_is_err_and c.from_residual.result c.from_residual.ensures.1 in
    rw (p.1, p.2) (first_fault _ _ c.in_err-check_length.field-0.0
    (subst (λ o. IsFaultOf o c.in_err-check_length.field-0.0)
    (chunk_length c.args.cut.now (g.D.Disk.view c.args.disk.now).seen 1024 c.count-count.result
    refl c.count-count.ensures.value) (c.in_err-check_length.ensures.told tells)))

pub returns-clause-told : goal.returns-clause-told
returns-clause-told g c = λ tells.
    let files = (g.D.Disk.view c.args.disk.now).seen in
    let none = sym (chunk_length c.args.cut.now files 1024 c.count-count.result refl
    c.count-count.ensures.value) ∙ c.in_ok-check_length.ensures.told tells in
    second_finds (too_long files (chunk_files c.args.cut.now))
    (first_of_each (bad files) (range_with_len 0 (part_count c.args.cut.now)))
    c.read_each.result none
    (subst (λ (n : ℕ). Finds (first_of_each (bad files) (range_with_len 0 n)) c.read_each.result)
    c.count-count.ensures.value
    (subst (λ (now : Files). Finds (first_of_each (bad now)
    (range_with_len 0 c.count-count.result)) c.read_each.result)
    (seen_same (c.check_length.ensures.quiet tells)) (c.read_each.ensures.told tells)))

pub returns-clause-pieces : goal.returns-clause-pieces
returns-clause-pieces g c = λ tells.
    subst (λ (n : ℕ). IfOk c.read_each.result (λ chunks. chunks
    ≡ map (pieces_in (g.D.Disk.view c.args.disk.now).seen) (range_with_len 0 n)))
    c.count-count.ensures.value
    (subst (λ (now : Files). IfOk c.read_each.result (λ chunks. chunks
    ≡ map (pieces_in now) (range_with_len 0 c.count-count.result)))
    (seen_same (c.check_length.ensures.quiet tells)) (c.read_each.ensures.pieces tells))

pub returns-clause-quiet : goal.returns-clause-quiet
returns-clause-quiet g c = λ tells.
    quiet_more (c.check_length.ensures.quiet tells) (c.read_each.ensures.quiet tells)
