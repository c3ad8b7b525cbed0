use Rattle.std.proofs.Common.{IsTrue}
use Rattle.cx_plan.specs.Setups.{setup_of}
use Rattle.law_parts.specs.Beginnings.{run_of}
use Rattle.law_parts.specs.Totals.{undivided_from}
use Rattle.cx_core.proofs.GatherLaws as laws
use Rattle.cx_core.proofs.laws.cores_gather.Goals as goal

pub returns : goal.returns
returns c = λ told rules b.
    laws.cores_gather (IsTrue told) (run_of c.args.job.now rules b)
    (undivided_from (setup_of c.args.job.now) rules b)
