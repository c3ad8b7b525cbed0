use Rattle.std.proofs.Common.{◌≡◌, ◌+◌, ◌∙◌, [], arith, sym}
use Rattle.cx_run_batch.specs.Members.{spent_by}
use Rattle.cx_run_batch.proofs.MemberLaws.{all_over, none_spent, over_jobs, started_able, started_at, started_jobs, started_served}
use Rattle.cx_run_batch.proofs.running.run_all.Goals as goal

pub take_turns-requires-clause-served : goal.take_turns-requires-clause-served
take_turns-requires-clause-served g c =
    started_served g.D.Disk _ c.args.members.now c.start_all.new.members c.args.disks.now
    c.start_all.new.disks c.start_all.ensures c.requires.served

pub take_turns-requires-clause-able : goal.take_turns-requires-clause-able
take_turns-requires-clause-able g c =
    started_able g.D.Disk g.W.Wire _ _ g.met.W.Wire.sum_fits c.args.meter.now c.args.members.now
    c.start_all.new.members c.args.disks.now c.start_all.new.disks c.args.wires.now
    c.requires.waiting c.requires.wires c.start_all.ensures

pub returns-clause-jobs : goal.returns-clause-jobs
returns-clause-jobs g c =
    sym (over_jobs g.D.Disk g.W.Wire [] [] c.take_turns.new.members c.take_turns.ensures.over)
    ∙ c.take_turns.ensures.turned.jobs
    ∙ started_jobs g.D.Disk _ c.args.members.now c.start_all.new.members c.args.disks.now
    c.start_all.new.disks c.start_all.ensures

pub returns-clause-ran : goal.returns-clause-ran
returns-clause-ran g c =
    all_over g.D.Disk g.W.Wire _ _ c.take_turns.new.members c.args.disks.now
    c.take_turns.new.disks c.args.wires.now c.take_turns.new.wires c.take_turns.new.meter
    c.take_turns.ensures.over
    (c.take_turns.ensures.turned.at c.args.disks.now c.args.wires.now
    (started_at g.D.Disk g.W.Wire _ _ g.met.W.Wire.sum_fits c.args.meter.now c.args.members.now
    c.start_all.new.members c.args.disks.now c.start_all.new.disks c.args.wires.now
    c.requires.waiting c.requires.wires c.start_all.ensures))

pub returns-clause-meter : goal.returns-clause-meter
returns-clause-meter g c =
    let none : spent_by c.start_all.new.members ≡ 0 =
    none_spent g.D.Disk _ c.args.members.now c.start_all.new.members c.args.disks.now
    c.start_all.new.disks c.requires.waiting c.start_all.ensures in
    let all : c.take_turns.new.meter + spent_by c.start_all.new.members
    ≡ c.args.meter.now + spent_by c.take_turns.new.members = c.take_turns.ensures.turned.counts in
    omega (arith, none, all)

pub returns-clause-turns : goal.returns-clause-turns
returns-clause-turns g c = record {
  begun = c.start_all.new.members;
  disks_begun = c.start_all.new.disks;
  starts = c.start_all.ensures;
  turns = c.take_turns.ensures.turns;
}
