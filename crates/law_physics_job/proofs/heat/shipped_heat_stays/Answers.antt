use Rattle.cx_plan.specs.Setups.{setup_of}
use Rattle.law_physics.specs.Constant.{IsConstant}
use Rattle.law_physics_job.proofs.Constants.{heat_holds}
use Rattle.law_physics_job.proofs.heat.shipped_heat_stays.Goals as goal

pub returns : goal.returns
returns c = λ rules specs name files total hands runs made named.
    heat_holds c.args.job.now c.requires.whole rules specs name files made c.requires.shapes hands
    runs (IsConstant (setup_of c.args.job.now) rules) (c.heat_stays.ensures rules) total named
