use Rattle.std.specs.Prelude.{◌≡◌, IfOk}
use Rattle.cx_plan.specs.Setups.{setup_of}
use Rattle.cx_model.specs.Runs.{output}
use Rattle.law_physics_read.specs.Reread.{AreOfOneValue}
use Rattle.law_physics_job.proofs.Constants.{heat_holds}
use Rattle.law_physics_job.proofs.bytes.reread_shipped_heat.Goals as goal

pub returns : goal.returns
returns c = λ rules specs name files total hands runs made named.
    heat_holds c.args.job.now c.requires.whole rules specs name files made c.requires.shapes hands
    runs (λ v. c.args.bytes.now ≡ output (setup_of c.args.job.now) rules v
    → IfOk c.reread_heat.result AreOfOneValue) (c.reread_heat.ensures rules) total named
