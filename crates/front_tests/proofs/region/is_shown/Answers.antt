use Rattle.std.proofs.Common.{sym, subst}
use Rattle.cx_plan.specs.Whole.{IsWhole}
use Rattle.front_tests.proofs.region.is_shown.Goals as goal

pub check-requires : goal.check-requires
check-requires c = subst IsWhole (sym c.in_ok-job.ensures) c.requires
