use Rattle.std.proofs.Common.{sym}
use Rattle.std.specs.Prelude.{IsTrue}
use Rattle.law_parts.specs.Beginnings.{run_of}
use Rattle.law_parts.specs.Totals.{undivided_from}
use Rattle.cx_plan.specs.Setups.{setup_of}
use Rattle.cx_core.proofs.StepLaws.{enabled_list, some_before, some_event}
use Rattle.cx_core.proofs.HandLaws.{scalar_there, tells_all}
use Rattle.cx_core.proofs.laws.core_stands.Goals as goal

pub returns : goal.returns
returns c = λ told rules b begins first is at.
    let tells = IsTrue told in
    let r = run_of c.args.job.now rules b in
    let trace = undivided_from (setup_of c.args.job.now) rules b in
    let laws = c.run_laws.ensures told rules b begins in
    let list = enabled_list tells r trace laws first is.core is.queue is.now at in
    record {
      events = list.0;
      enabled = list.1;
      count = sym list.2;
      some_event = some_event tells r trace laws first is.core is.queue is.now at;
      ahead = λ k l. list.3 k;
      some_before = some_before tells r trace laws first is.core is.queue is.now at;
      way = λ t. laws.way t at.oracle at.world at.reached;
      scalars = scalar_there tells r trace laws first is at;
      told = λ t. tells_all tells t r trace laws first is at;
    }
