use Rattle.std.proofs.Common.{true, sym, subst}
use Rattle.cx_plan.specs.Whole.{IsWhole}
use Rattle.cx_plan.specs.declared.job.Recover.TheVariants as recovers
use Rattle.keep_tests.proofs.SampleLaws.{sample-whole}
use Rattle.keep_tests.proofs.saves.start_on.Goals as goal

pub begin_words-requires : goal.begin_words-requires
begin_words-requires g c =
    subst IsWhole (sym c.in_ok-job.ensures) (sample-whole true recovers.Auto)
