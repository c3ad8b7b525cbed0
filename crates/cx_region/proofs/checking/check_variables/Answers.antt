use Rattle.std.proofs.Common.{◌≤◌, length, arith}
use Rattle.cx_plan.specs.Setups.{setup_of}
use Rattle.cx_region.proofs.CheckLaws.{one-more, sound-at-end}
use Rattle.cx_region.proofs.checking.check_variables.Goals as goal

pub numbers-init : goal.numbers-init
numbers-init c = λ v f below. absurd (omega arith)

pub numbers-preserved : goal.numbers-preserved
numbers-preserved c = one-more (setup_of c.args.job.now)
    c.numbers.number c.numbers.invariant c.in_ok-check_flags.ensures

pub returns : goal.returns
returns c =
    let past : length c.args.job.now.vars ≤ c.numbers.number = omega arith in
    sound-at-end c.args.job.now c.numbers.number c.requires past c.numbers.invariant
