use Rattle.std.proofs.Common.{true, sym, subst}
use Rattle.cx_plan.specs.Whole.{IsWhole}
use Rattle.cx_plan.specs.declared.job.Recover.TheVariants as recovers
use Rattle.keep_tests.proofs.SampleLaws.{sample-whole}
use Rattle.keep_tests.proofs.saves.run.Goals as goal

pub begin-requires : goal.begin-requires
begin-requires g c =
    record { whole = subst IsWhole (sym c.requires.job) (sample-whole true recovers.Autoprobe) }
