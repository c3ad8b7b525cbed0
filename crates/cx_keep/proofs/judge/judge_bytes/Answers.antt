use Rattle.std.proofs.Common.{◌∙◌, ap, sym}
use Rattle.cx_keep.specs.Tests.{judged}
use Rattle.cx_keep.proofs.Tested.{unfit}
use Rattle.cx_keep.proofs.judge.judge_bytes.Goals as goal

pub returns-then-not-fits-clause-fault : goal.returns-then-not-fits-clause-fault
returns-then-not-fits-clause-fault c = λ files.
    let job = c.args.job.now in
    let found = c.in-Some.found in
    ap (judged job files c.args.slot)
    (sym c.in_ok-found.ensures.exact ∙ c.in-Some.is)
    ∙ unfit job files c.args.slot found c.in_ok-test_key.ensures.agrees
    (sym c.fits.ensures ∙ c.if-not-fits.true)
