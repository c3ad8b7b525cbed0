use Rattle.cx_plan.specs.Setups.{setup_of}
use Rattle.cx_run_loop.proofs.SumLaws as laws
use Rattle.cx_run_loop.proofs.laws.sums_add.Goals as goal

pub returns : goal.returns
returns c = laws.sums_add (setup_of c.args.job.now)
