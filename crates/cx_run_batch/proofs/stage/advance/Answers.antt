use Rattle.std.proofs.Common.{◌+◌, ◌-◌, ◌*◌, ◌∙◌, ap, subst}
use Rattle.cx_plan.specs.Setups.{setup_of}
use Rattle.cx_core.specs.Left.{steps_left}
use Rattle.cx_core.specs.Starts.{begins_in}
use Rattle.cx_run_loop.specs.Advances.{FitsOutcome}
use Rattle.cx_run_loop.specs.Cores.{is_cut_anew}
use Rattle.cx_run_loop.specs.Recuts.{with_cut}
use Rattle.cx_run_loop.specs.declared.turn.Advance.{Advance}
use Rattle.cx_run_batch.specs.Stages.{most_steps}
use Rattle.cx_run_batch.proofs.ComeLaws.{more_stays, over_stays}
use Rattle.cx_run_batch.proofs.FreshLaws.{fewer_steps, some_left}
use Rattle.cx_run_batch.proofs.OverLaws.{finished_on, stopped_on}
use Rattle.cx_run_batch.proofs.SaveLaws.{able_after, able_same, at_after, at_same, comes_same, empty_after, less_after, own_after}
use Rattle.cx_run_batch.proofs.TurnLaws.{turn_after, turn_ends, turn_same}
use Rattle.cx_run_batch.proofs.stage.advance.Goals as goal

pub after_save-requires-clause-holds : goal.after_save-requires-clause-holds
after_save-requires-clause-holds g c = c.in-Ok.ensures.holds c.in-Saved.is

-- ---- it goes on with the same core

pub returns-in-More-clause-at : goal.returns-in-More-clause-at
returns-in-More-clause-at g c = λ disk_lent wire_lent spent more metered o.
    at_same g.D.Disk g.W.Wire _ _ c.args.job.now c.args.x c.advance.new.self c.args.disk.now
    c.advance.new.disk c.args.wire.now c.advance.new.wire c.args.meter.now c.advance.new.meter
    c.in-Ok.ensures.keeps c.in-Ok.came c.in-Ok.ensures.advances.moves c.in-Ok.ensures.waits
    c.in-Ok.ensures.advances.going disk_lent wire_lent spent more metered o
    c.in-Ok.ensures.stops.disk_later c.in-Ok.ensures.stops.wire_later
    (ap (λ (a : Advance).
    is_cut_anew c.args.job.now c.args.x.next a c.advance.new.self.core) c.in-More.is
    ∙ more_stays c.args.job.now c.args.x.next c.advance.new.self.core)

pub returns-in-More-clause-able : goal.returns-in-More-clause-able
returns-in-More-clause-able g c =
    able_same g.D.Disk g.W.Wire _ _ c.args.job.now c.args.x c.advance.new.self c.args.disk.now
    c.advance.new.disk c.args.wire.now c.advance.new.wire c.args.meter.now c.advance.new.meter
    c.in-Ok.ensures.keeps c.in-Ok.came c.in-Ok.ensures.advances.moves c.in-Ok.ensures.waits
    c.in-Ok.ensures.advances.going c.requires.able
    (ap (λ (a : Advance).
    is_cut_anew c.args.job.now c.args.x.next a c.advance.new.self.core) c.in-More.is
    ∙ more_stays c.args.job.now c.args.x.next c.advance.new.self.core)
    (subst (λ (a : Advance). FitsOutcome a c.advance.new.self.core.outcome) c.in-More.is
    c.in-Ok.ensures.advances.over)

pub returns-in-More-clause-less : goal.returns-in-More-clause-less
returns-in-More-clause-less g c =
    fewer_steps ((c.args.job.now.itlast + 1 - c.args.x.next)
    * (1 + most_steps (with_cut c.args.job.now c.args.x.own)))
    (steps_left (setup_of c.args.job.now) c.advance.new.self.core.pace)
    (steps_left (setup_of c.args.job.now) c.args.x.run.core.pace)
    c.in-Ok.ensures.advances.less

-- ---- a checkpoint was saved

pub returns-in-Saved-clause-job : goal.returns-in-Saved-clause-job
returns-in-Saved-clause-job g c =
    own_after _ c.args.job.now c.after_save.new.job (record c.args.x { run = c.advance.new.self })
    c.after_save.result c.after_save.ensures.goes

pub returns-in-Saved-clause-at : goal.returns-in-Saved-clause-at
returns-in-Saved-clause-at g c = λ disk_lent wire_lent spent more metered o.
    at_after g.D.Disk g.W.Wire _ _ c.args.job.now c.args.x c.advance.new.self c.args.disk.now
    c.advance.new.disk c.args.wire.now c.advance.new.wire c.args.meter.now c.advance.new.meter
    c.in-Ok.ensures.keeps c.in-Ok.came c.in-Ok.ensures.advances.moves c.in-Ok.ensures.waits
    c.in-Ok.ensures.advances.going disk_lent wire_lent spent more metered o
    c.in-Ok.ensures.stops.disk_later c.in-Ok.ensures.stops.wire_later c.in-Saved.is
    (c.drive_laws.ensures g.W.Wire.tells _) (c.in-Ok.ensures.holds c.in-Saved.is)
    (g.met.W.Wire.sum_fits c.advance.new.wire) (λ t. (g.met.D.Disk.sound disk_lent t).reads)
    c.in-Ok.ensures.below c.after_save.new.job c.after_save.result c.after_save.ensures.goes

pub returns-in-Saved-clause-able : goal.returns-in-Saved-clause-able
returns-in-Saved-clause-able g c =
    able_after g.D.Disk g.W.Wire _ _ c.args.job.now c.args.x c.advance.new.self c.args.disk.now
    c.advance.new.disk c.args.wire.now c.advance.new.wire c.args.meter.now c.advance.new.meter
    c.in-Ok.ensures.keeps c.in-Ok.came c.in-Ok.ensures.advances.moves c.in-Ok.ensures.waits
    c.in-Ok.ensures.advances.going c.requires.able c.in-Saved.is
    (c.in-Ok.ensures.holds c.in-Saved.is)
    (subst (λ (a : Advance). FitsOutcome a c.advance.new.self.core.outcome) c.in-Saved.is
    c.in-Ok.ensures.advances.over)
    (g.met.W.Wire.sum_fits c.advance.new.wire) c.after_save.new.job c.after_save.result
    c.after_save.ensures.goes

pub returns-in-Saved-clause-less : goal.returns-in-Saved-clause-less
returns-in-Saved-clause-less g c =
    less_after _ c.args.job.now c.args.x c.advance.new.self c.after_save.new.job
    c.after_save.result c.after_save.ensures.goes c.in-Ok.ensures.advances.less

-- ---- it is over

pub returns-in-Over-clause-at : goal.returns-in-Over-clause-at
returns-in-Over-clause-at g c = λ disk_lent wire_lent spent more metered o.
    finished_on g.D.Disk g.W.Wire _ _ c.args.job.now c.args.x c.finish.new.job c.finish.ensures.job
    (c.finish.ensures.laws g.W.Wire.tells _) disk_lent c.args.disk.now c.advance.new.disk
    c.finish.new.disk wire_lent c.args.wire.now c.advance.new.wire c.args.meter.now
    c.advance.new.meter spent more metered c.advance.new.self o
    (c.drive_laws.ensures g.W.Wire.tells _) c.requires.able.able c.in-Ok.ensures.keeps
    c.in-Ok.ensures.advances.moves c.in-Ok.ensures.advances.going
    c.in-Ok.ensures.stops.disk_later c.in-Ok.ensures.stops.wire_later c.finish.ensures.quiet
    c.finish.ensures.mounted c.finish.ensures.files c.finish.ensures.folders
    (subst (λ (a : Advance). FitsOutcome a c.advance.new.self.core.outcome) c.in-Over.is
    c.in-Ok.ensures.advances.over)
    (λ found first y. c.core_stands.ensures g.W.Wire.tells _
    (begins_in (setup_of c.args.job.now) found) y.begins first _ y.at)
    (comes_same g.D.Disk g.W.Wire _ _ c.args.job.now c.args.x c.advance.new.self c.args.disk.now
    c.advance.new.disk c.args.wire.now c.advance.new.wire c.args.meter.now c.advance.new.meter
    c.in-Ok.ensures.keeps c.in-Ok.came c.in-Ok.ensures.advances.moves c.in-Ok.ensures.waits
    c.in-Ok.ensures.advances.going disk_lent wire_lent spent more metered o
    c.in-Ok.ensures.stops.disk_later c.in-Ok.ensures.stops.wire_later
    (ap (λ (a : Advance).
    is_cut_anew c.args.job.now c.args.x.next a c.advance.new.self.core) c.in-Over.is
    ∙ over_stays c.args.job.now c.args.x.next c.advance.new.self.core))
    (λ t. (g.met.D.Disk.sound disk_lent t).reads) c.finish.result c.finish.ensures.core
    c.finish.ensures.settled c.finish.ensures.stops c.in-Ok.ensures.below

pub returns-in-Over-clause-less : goal.returns-in-Over-clause-less
returns-in-Over-clause-less g c =
    some_left ((c.args.job.now.itlast + 1 - c.args.x.next)
    * (1 + most_steps (with_cut c.args.job.now c.args.x.own)))
    (steps_left (setup_of c.args.job.now) c.args.x.run.core.pace)

pub returns-in-Err-clause-at : goal.returns-in-Err-clause-at
returns-in-Err-clause-at g c = λ disk_lent wire_lent spent more metered o.
    stopped_on g.D.Disk g.W.Wire _ _ c.args.job.now c.args.x c.give_back.new.job
    c.give_back.ensures.job (c.give_back.ensures.laws g.W.Wire.tells _) disk_lent
    c.args.disk.now c.advance.new.disk wire_lent c.args.wire.now c.advance.new.wire
    c.args.meter.now c.advance.new.meter spent more metered o c.in-Err.ensures.keeps
    (λ t. (g.met.D.Disk.sound disk_lent t).reads) c.in-Err.fault c.in-Err.ensures.stops
    c.in-Err.ensures.below

pub returns-in-Err-clause-less : goal.returns-in-Err-clause-less
returns-in-Err-clause-less g c =
    some_left ((c.args.job.now.itlast + 1 - c.args.x.next)
    * (1 + most_steps (with_cut c.args.job.now c.args.x.own)))
    (steps_left (setup_of c.args.job.now) c.args.x.run.core.pace)

-- ---- its events

pub returns-in-More-clause-turns : goal.returns-in-More-clause-turns
returns-in-More-clause-turns g c =
    turn_same g.W.Wire g.T.Turns _ c.args.job.now c.args.x c.advance.new.self c.args.wire.now
    c.advance.new.wire c.args.meter.now c.advance.new.meter c.args.turns.now c.advance.new.turns
    c.in-Ok.ensures.advances.events c.in-Ok.ensures.advances.steps

pub returns-in-Saved-clause-turns : goal.returns-in-Saved-clause-turns
returns-in-Saved-clause-turns g c =
    turn_after g.W.Wire g.T.Turns _ c.args.job.now c.args.x c.advance.new.self c.args.wire.now
    c.advance.new.wire c.args.meter.now c.advance.new.meter c.args.turns.now c.advance.new.turns
    c.in-Ok.ensures.advances.events c.in-Ok.ensures.advances.steps _ c.after_save.new.job
    c.after_save.result
    (empty_after g.D.Disk g.W.Wire _ _ c.args.job.now c.args.x c.advance.new.self c.args.disk.now
    c.advance.new.disk c.args.wire.now c.advance.new.wire c.args.meter.now c.advance.new.meter
    c.in-Ok.ensures.keeps c.in-Ok.came c.in-Ok.ensures.advances.moves c.in-Ok.ensures.waits
    c.in-Ok.ensures.advances.going c.requires.able c.in-Saved.is)
    (g.met.W.Wire.sum_fits c.advance.new.wire) c.after_save.ensures.goes

pub returns-in-Over-clause-turns : goal.returns-in-Over-clause-turns
returns-in-Over-clause-turns g c =
    turn_ends g.W.Wire g.T.Turns _ c.args.job.now c.args.x c.advance.new.self c.args.wire.now
    c.advance.new.wire c.args.meter.now c.advance.new.meter c.args.turns.now c.advance.new.turns
    c.in-Ok.ensures.advances.events c.in-Ok.ensures.advances.steps c.finish.new.job
    c.finish.result c.finish.ensures.core
