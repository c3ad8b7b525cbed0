use Rattle.cx_plan.specs.Setups.{setup_of}
use Rattle.cx_plan.specs.declared.flag.Flag.{Flag}
use Rattle.cx_plan.specs.declared.flag.Flag.TheVariants.{S}
use Rattle.cx_region.proofs.CheckLaws.{Met, each-flag, finds-from}
use Rattle.cx_region.proofs.checking.check_flags.Goals as goal

pub returns : goal.returns
returns c =
    let setup = setup_of c.args.job.now in
    let v = c.args.variable in
    finds-from setup (Met setup v S) ((f : Flag) → Met setup v f) c.check_flag-4.result
    (each-flag setup v c.in_ok-check_flag.ensures c.in_ok-check_flag-2.ensures
    c.in_ok-check_flag-3.ensures) c.check_flag-4.ensures
