use Rattle.std.proofs.Common.{◌≡◌, None, ap₂, sym, ◌∙◌}
use Rattle.cx_keep.specs.Agreement.{first_apart, lines_to}
use Rattle.cx_keep.proofs.AgreementLaws.{same_lines}
use Rattle.cx_keep.proofs.judge.test_key.Goals as goal

pub returns-in-None-clause-agrees : goal.returns-in-None-clause-agrees
returns-in-None-clause-agrees c =
    let found = c.args.found.now in
    let own = c.args.job.now.key in
    let none : first_apart (lines_to found.iteration found.key) (lines_to found.iteration own)
    ≡ None =
    ap₂ (λ x y. first_apart (lines_to found.iteration x) (lines_to found.iteration y))
    (sym c.as_slice.ensures) (sym c.as_slice-2.ensures) ∙ c.in-None.ensures in
    same_lines (lines_to found.iteration found.key) (lines_to found.iteration own) none
