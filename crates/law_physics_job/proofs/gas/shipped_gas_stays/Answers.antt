use Rattle.cx_plan.specs.Setups.{setup_of}
use Rattle.law_physics.specs.Constant.{IsConstant}
use Rattle.law_physics_job.proofs.Constants.{gas_holds}
use Rattle.law_physics_job.proofs.gas.shipped_gas_stays.Goals as goal

pub returns : goal.returns
returns c = λ rules specs name files total hands runs made is.
    let stays = c.gas_stays.ensures rules in
    gas_holds c.args.job.now c.requires.whole rules specs name files made c.requires.shapes hands
    runs (IsConstant (setup_of c.args.job.now) rules) (λ vars job. (stays vars job).particles)
    (λ vars job. (stays vars job).total_x) (λ vars job. (stays vars job).total_y) total is
