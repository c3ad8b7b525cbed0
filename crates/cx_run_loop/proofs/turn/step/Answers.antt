use Rattle.std.proofs.Common.{[], IsTrue}
use Rattle.cx_core_part.proofs.MoveLaws.{is_run}
use Rattle.law_parts.specs.Beginnings.{Afresh, run_of}
use Rattle.cx_core.specs.Steps.{counts, stands_at}
use Rattle.cx_run_loop.proofs.StartLaws.{some_before}
use Rattle.cx_run_loop.proofs.WaitMore.{steps_below}
use Rattle.cx_run_loop.proofs.WithinLaws.{steps_within}
use Rattle.cx_run_loop.proofs.turn.step.Goals as goal

pub pick-k-requires : goal.pick-k-requires
pick-k-requires g c = record {
  some = some_before g.W.Wire.tells c.args.job.now _
      (stands_at c.args.core.now (g.W.Wire.queue c.args.wire.now) c.args.meter.now
      (g.W.Wire.received c.args.wire.now) (g.W.Wire.sum c.args.wire.now))
      c.core_stands.ensures c.requires.running c.requires.outcome;
}

pub returns-clause-turn : goal.returns-clause-turn
returns-clause-turn g c = record {
  k = c.pick-k.result;
  picked = c.pick-k.ensures.picks;
  does = λ b begins first at. c.in_ok-step.ensures.does b begins first at;
  rises = c.step.ensures.rises;
}

pub returns-clause-picked : goal.returns-clause-picked
returns-clause-picked g c = (c.pick-k.result, c.pick-k.ensures.picks)

pub returns-in_err-step-clause-picked : goal.returns-in_err-step-clause-picked
returns-in_err-step-clause-picked g c = (c.pick-k.result, c.pick-k.ensures.picks)

pub returns-in_err-step-clause-points : goal.returns-in_err-step-clause-points
returns-in_err-step-clause-points g c =
    (c.step.ensures.rises (run_of c.args.job.now [] Afresh)
    (is_run c.args.job.now [] Afresh)).points.least

pub returns-in_err-step-clause-values : goal.returns-in_err-step-clause-values
returns-in_err-step-clause-values g c =
    (c.step.ensures.rises (run_of c.args.job.now [] Afresh)
    (is_run c.args.job.now [] Afresh)).values.least

pub returns-in_err-step-clause-within : goal.returns-in_err-step-clause-within
returns-in_err-step-clause-within g c =
    steps_within (IsTrue g.W.Wire.tells) c.args.job.now _
    (c.drive_laws.ensures g.W.Wire.tells _).counts
    (stands_at c.args.core.now (g.W.Wire.queue c.args.wire.now) c.args.meter.now
    (g.W.Wire.received c.args.wire.now) (g.W.Wire.sum c.args.wire.now)) c.pick-k.result
    (counts c.step.new.meter (g.W.Wire.received c.step.new.wire) (g.W.Wire.sum c.step.new.wire))
    c.step.ensures.rises

pub returns-clause-points : goal.returns-clause-points
returns-clause-points g c =
    (c.step.ensures.rises (run_of c.args.job.now [] Afresh)
    (is_run c.args.job.now [] Afresh)).points.least

pub returns-clause-values : goal.returns-clause-values
returns-clause-values g c =
    (c.step.ensures.rises (run_of c.args.job.now [] Afresh)
    (is_run c.args.job.now [] Afresh)).values.least

pub returns-clause-within : goal.returns-clause-within
returns-clause-within g c =
    steps_within (IsTrue g.W.Wire.tells) c.args.job.now _
    (c.drive_laws.ensures g.W.Wire.tells _).counts
    (stands_at c.args.core.now (g.W.Wire.queue c.args.wire.now) c.args.meter.now
    (g.W.Wire.received c.args.wire.now) (g.W.Wire.sum c.args.wire.now)) c.pick-k.result
    (counts c.step.new.meter (g.W.Wire.received c.step.new.wire) (g.W.Wire.sum c.step.new.wire))
    c.step.ensures.rises

pub returns-in_err-step-clause-below : goal.returns-in_err-step-clause-below
returns-in_err-step-clause-below g c = λ same.
    steps_below (IsTrue g.W.Wire.tells) c.args.job.now _
    (c.cores_wait.ensures g.W.Wire.tells _)
    (stands_at c.args.core.now (g.W.Wire.queue c.args.wire.now) c.args.meter.now
    (g.W.Wire.received c.args.wire.now) (g.W.Wire.sum c.args.wire.now)) c.pick-k.result
    (c.pick-k.ensures.waits same)
    (counts c.step.new.meter (g.W.Wire.received c.step.new.wire) (g.W.Wire.sum c.step.new.wire))
    c.step.ensures.rises

pub returns-clause-below : goal.returns-clause-below
returns-clause-below g c = λ same.
    steps_below (IsTrue g.W.Wire.tells) c.args.job.now _
    (c.cores_wait.ensures g.W.Wire.tells _)
    (stands_at c.args.core.now (g.W.Wire.queue c.args.wire.now) c.args.meter.now
    (g.W.Wire.received c.args.wire.now) (g.W.Wire.sum c.args.wire.now)) c.pick-k.result
    (c.pick-k.ensures.waits same)
    (counts c.step.new.meter (g.W.Wire.received c.step.new.wire) (g.W.Wire.sum c.step.new.wire))
    c.step.ensures.rises
