use Rattle.std.proofs.Common.{◌∙◌, refl}
use Rattle.cx_run_batch.proofs.MemberLaws.{served_again, turned_twice, unturned}
use Rattle.cx_run_batch.specs.Turns.{batch}
use Rattle.cx_run_batch.proofs.TurnLaws.{no_turns, turns_more}
use Rattle.cx_run_batch.proofs.running.take_turns.Goals as goal

pub rounds-init : goal.rounds-init
rounds-init g c = record {
  turned = unturned g.D.Disk g.W.Wire _ _ c.args.members.now c.args.disks.now c.args.wires.now
      c.args.meter.now c.requires.able;
  served = c.requires.served;
  turns = no_turns g.W.Wire g.T.Turns _
      (batch c.args.members.now c.args.wires.now c.args.meter.now c.args.turns.now);
  begun = refl;
}

pub rounds-preserved : goal.rounds-preserved
rounds-preserved g c = record {
  turned = turned_twice g.D.Disk g.W.Wire _ _ c.args.members.now c.rounds.members
      c.round.new.members c.args.disks.now c.rounds.disks c.round.new.disks c.args.wires.now
      c.rounds.wires c.round.new.wires c.args.meter.now c.rounds.meter c.round.new.meter
      c.rounds.invariant.turned c.round.ensures.turned;
  served = served_again _ c.rounds.members c.round.new.members c.round.ensures.turned.jobs
      c.rounds.invariant.served;
  turns = turns_more g.W.Wire g.T.Turns _
      (batch c.args.members.now c.args.wires.now c.args.meter.now c.args.turns.now)
      (batch c.rounds.members c.rounds.wires c.rounds.meter c.rounds.turns)
      (batch c.round.new.members c.round.new.wires c.round.new.meter c.round.new.turns)
      c.rounds.invariant.turns c.round.ensures.turns;
  begun = c.round.ensures.begun ∙ c.rounds.invariant.begun;
}
