use Rattle.std.proofs.Common.{◌≡◌, IfOk, sym, subst}
use Rattle.cx_run_batch.specs.Members.{jobs_of}
use Rattle.cx_text.specs.Numbers.{in_64_bits}
use Rattle.cx_several.specs.Cells.{local_by_all}
use Rattle.cx_several.proofs.cells.+local_by_all.Goals as goal

pub returns : goal.returns
returns t c =
    subst (λ ms. IfOk c.local_with.result
    (λ n. n ≡ in_64_bits (local_by_all (jobs_of ms))))
    (sym c.in-Some.ensures.cases.0)
    (c.local_with.ensures (jobs_of c.in-Some.others.now) c.in_ok-more.ensures)
