use Rattle.std.proofs.Common.{◌≡◌, suc, ◌≤◌, ◌-◌, arith}
use Rattle.cx_plan.specs.Setups.{setup_of}
use Rattle.cx_flat.proofs.PlaceLaws.{operations-met}
use Rattle.cx_flat.proofs.law.operation_needs_met.Goals as goal

pub returns : goal.returns
returns c = λ rules.
    let dims = c.args.job.now.shape.dims in
    let some : 1 ≤ dims = c.requires.whole.shape.some in
    let is : dims ≡ suc (dims - 1) = omega (arith, some) in
    operations-met (setup_of c.args.job.now) rules (dims - 1) is c.requires.sound
