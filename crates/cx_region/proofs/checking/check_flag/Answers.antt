use Rattle.std.proofs.Common.{inr}
use Rattle.cx_plan.specs.Setups.{setup_of}
use Rattle.cx_region.proofs.CheckLaws.{unset-told}
use Rattle.cx_region.proofs.checking.check_flag.Goals as goal

pub returns-in_ok-unset-in-Err-Unset : goal.returns-in_ok-unset-in-Err-Unset
returns-in_ok-unset-in-Err-Unset c =
    inr
    (unset-told (setup_of c.args.job.now)
    c.in-Err-Unset.letters _ c.in-Err-Unset.unmet _ c.in_ok-unset-in-Err-Unset.field-0
    c.in-Err-Unset.letters-is c.in-Err-Unset.unmet-is c.in_ok-unset-in-Err-Unset.ensures
    (rw c.in-Err-Unset.field-0-is at c.in-Err-Unset.ensures))
