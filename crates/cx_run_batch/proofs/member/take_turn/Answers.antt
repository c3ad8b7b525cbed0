use Rattle.std.proofs.Common.{◌≡◌, ◌+◌, ◌-◌, ◌<◌, ◌≤◌, ◌^◌, map, subst, sym, arith}
use Rattle.cx_run_batch.specs.Stages.{IsAt, lot, own_job, turns_left}
use Rattle.cx_run_batch.specs.Turns.{TakesTurn}
use Rattle.cx_run_batch.specs.declared.stage.Stage.{Stage}
use Rattle.cx_run_batch.proofs.MemberLaws.{one_turned}
use Rattle.cx_run_batch.proofs.WaitLaws.{rises_within}
use Rattle.cx_run_batch.proofs.member.take_turn.Goals as goal

pub returns-clause-turned : goal.returns-clause-turned
returns-clause-turned g c =
    let before : c.count-before.result ≡ c.args.meter.now = c.count-before.ensures in
    let after : c.count.result ≡ c.go_on.new.meter = c.count.ensures in
    let later : c.args.meter.now ≤ c.go_on.new.meter = c.go_on.ensures.later in
    let more : c.go_on.new.meter
    ≡ c.args.meter.now + (c.count.result - c.count-before.result) =
    omega (arith, before, after, later) in
    let within : c.args.member.now.spent ≤ c.args.meter.now = c.requires.able.within in
    let fits : c.count.result < 2 ^ 128 = c.count.type_inv in
    one_turned g.D.Disk g.W.Wire _ _ c.args.member.now _ c.args.disk.now c.go_on.new.disk
    c.args.wire.now c.go_on.new.wire c.args.meter.now c.go_on.new.meter
    (subst (λ (stage : Stage).
    own_job c.go_on.new.job c.go_on.result ≡ own_job c.args.member.now.job stage)
    c.replace-stage.ensures.value c.go_on.ensures.job)
    (λ disk_lent wire_lent h.
    c.go_on.ensures.at disk_lent wire_lent c.args.member.now.spent
    (c.count.result - c.count-before.result) more
    (subst (λ (stage : Stage). IsAt g.D.Disk g.W.Wire
    (map (λ r. (goal.Routine-dyn g (r.vtable, r.value)).rule r.value) c.args.routines.now)
    (map (λ r. (goal.Routine-dyn g (r.vtable, r.value)).spec_of r.value) c.args.routines.now)
    c.args.member.now.job (lot disk_lent c.args.disk.now wire_lent c.args.wire.now
    c.args.meter.now c.args.member.now.spent) stage) (sym c.replace-stage.ensures.value) h))
    (record {
      able = c.go_on.ensures.able;
      within = omega (arith, before, after, later, within);
    }) (omega (arith, before, after, later))
    (rises_within (2 ^ 128 - 1) c.args.meter.now c.go_on.new.meter later
    (omega (arith, after, fits)))

pub returns-clause-left : goal.returns-clause-left
returns-clause-left g c =
    subst (λ (stage : Stage). turns_left c.go_on.new.job c.go_on.result
    ≤ turns_left c.args.member.now.job stage) c.replace-stage.ensures.value
    c.go_on.ensures.left

pub returns-clause-turns : goal.returns-clause-turns
returns-clause-turns g c =
    subst (λ (stage : Stage). TakesTurn g.W.Wire g.T.Turns
    (map (λ r. (goal.Routine-dyn g (r.vtable, r.value)).rule r.value) c.args.routines.now)
    c.args.member.now.job c.go_on.new.job
    c.args.wire.now c.go_on.new.wire c.args.meter.now c.go_on.new.meter c.args.turns.now
    c.go_on.new.turns stage c.go_on.result) c.replace-stage.ensures.value c.go_on.ensures.turns
