use Rattle.cx_plan.specs.Setups.{setup_of}
use Rattle.cx_model.proofs.CheckpointLaws.{run-continues}
use Rattle.cx_model.proofs.run_continues.Goals as goal

pub returns : goal.returns
returns c = λ rules. run-continues (setup_of c.args.job.now) rules
