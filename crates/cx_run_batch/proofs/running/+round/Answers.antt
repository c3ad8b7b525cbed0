use Rattle.std.proofs.Common.{◌<◌, length, rules, arith}
use Rattle.cx_run_batch.proofs.MemberLaws.{fewer_left, next_able, next_served, round_turned}
use Rattle.cx_run_batch.proofs.TurnLaws.{turns_beside}
use Rattle.cx_run_batch.proofs.running.+round.Goals as goal

pub round-requires : goal.round-requires
round-requires g t c κs within =
    let served = next_served _ c.args.members.now c.in-Some.member.now c.in-Some.others.now
    c.in-Some.ensures.cases.0 c.requires.served in
    let able = next_able g.D.Disk g.W.Wire _ _ c.args.members.now c.in-Some.member.now
    c.take_turn.new.member c.in-Some.others.now c.args.disks.now
    c.in-Some-split_first_mut.disk.now c.take_turn.new.disk
    c.in-Some-split_first_mut.more_disks.now c.args.wires.now
    c.in-Some-split_first_mut-2.wire.now c.take_turn.new.wire
    c.in-Some-split_first_mut-2.more_wires.now c.args.meter.now c.take_turn.new.meter
    c.in-Some.ensures.cases.0 c.in-Some-split_first_mut.ensures.cases.0
    c.in-Some-split_first_mut-2.ensures.cases.0 c.requires.able c.take_turn.ensures.turned in
    let smaller : length c.in-Some.others.now < length c.args.members.now =
    omega (arith, c.in-Some.ensures.cases.1) in
    search rules

pub returns-in-Some-split_first_mut-2-clause-turned :
    goal.returns-in-Some-split_first_mut-2-clause-turned
returns-in-Some-split_first_mut-2-clause-turned g t c =
    round_turned g.D.Disk g.W.Wire _ _ c.args.members.now c.in-Some.member.now c.take_turn.new.member
    c.in-Some.others.now c.round.new.members c.args.disks.now c.in-Some-split_first_mut.disk.now
    c.take_turn.new.disk c.in-Some-split_first_mut.more_disks.now c.round.new.disks
    c.args.wires.now c.in-Some-split_first_mut-2.wire.now c.take_turn.new.wire
    c.in-Some-split_first_mut-2.more_wires.now c.round.new.wires c.args.meter.now
    c.take_turn.new.meter c.round.new.meter c.in-Some.ensures.cases.0
    c.in-Some-split_first_mut.ensures.cases.0 c.in-Some-split_first_mut-2.ensures.cases.0
    c.take_turn.ensures.turned c.round.ensures.turned

pub returns-in-Some-split_first_mut-2-clause-turns :
    goal.returns-in-Some-split_first_mut-2-clause-turns
returns-in-Some-split_first_mut-2-clause-turns g t c =
    turns_beside g.W.Wire g.T.Turns _ c.args.members.now c.in-Some.member.now
    c.take_turn.new.member c.in-Some.others.now c.round.new.members c.args.wires.now
    c.in-Some-split_first_mut-2.wire.now c.take_turn.new.wire
    c.in-Some-split_first_mut-2.more_wires.now c.round.new.wires c.args.meter.now
    c.take_turn.new.meter c.round.new.meter c.args.turns.now c.take_turn.new.turns
    c.round.new.turns c.in-Some.ensures.cases.0 c.in-Some-split_first_mut-2.ensures.cases.0
    c.take_turn.ensures.turns c.round.ensures.turns

pub returns-in-Some-split_first_mut-2-clause-less :
    goal.returns-in-Some-split_first_mut-2-clause-less
returns-in-Some-split_first_mut-2-clause-less g t c =
    fewer_left c.args.members.now c.in-Some.member.now c.take_turn.new.member
    c.in-Some.others.now c.round.new.members c.in-Some.ensures.cases.0 c.take_turn.ensures.less
    c.take_turn.ensures.left c.round.ensures.less c.round.ensures.left
