use Rattle.std.proofs.Common.{◌≡◌}
use Rattle.std.specs.Prelude.{true, false}
use Rattle.cx_run.specs.Clauses.{Obeys}
use Rattle.cx_run.specs.Turned.{FollowsTurns}
use Rattle.cx_run.specs.Calls.{called_with, lent_shelf, lent_sink}
use Rattle.cx_several.specs.Batches.{batch_with}
use Rattle.cx_several.specs.Clauses.{ObeysAll, OnFirst}
use Rattle.cx_several.specs.Words.{begins_batch}
use Rattle.cx_program.specs.Samples.{sample_rules, sample_specs}
use Rattle.cx_program.proofs.Statuses.{with_samples}
use Rattle.cx_program.proofs.routines.answer_with.Goals as goal

pub returns-clause-several : goal.returns-clause-several
returns-clause-several g c =
    with_samples
    (λ rules specs. begins_batch c.args.line.words.now ≡ true → ObeysAll c.args.line.words.now
    (batch_with rules specs g.D.Disk g.W.Wire
    (lent_shelf g.H.Shelf c.args.shelf.now c.cactus_all.new.shelf)
    c.args.disks.now.items c.cactus_all.new.disks.items
    c.args.wires.now.items c.cactus_all.new.wires.items
    c.args.meter.now c.cactus_all.new.meter (g.T.Turns.begun c.cactus_all.new.turns)
    (c.cactus_all.new.turns ≡ c.args.turns.now))
    (lent_sink g.O.Sink c.args.out.now c.cactus_all.new.out) c.cactus_all.result)
    _ sample_rules _ sample_specs c.requires.rules c.requires.specs c.cactus_all.ensures.several

pub returns-clause-one : goal.returns-clause-one
returns-clause-one g c =
    with_samples
    (λ rules specs. begins_batch c.args.line.words.now ≡ false → OnFirst
    (λ a b v u. Obeys
    (called_with rules specs g.H.Shelf g.D.Disk g.W.Wire c.args.line.words.now c.args.shelf.now
    c.cactus_all.new.shelf a b v u c.args.meter.now c.cactus_all.new.meter
    (g.T.Turns.begun c.cactus_all.new.turns))
    (lent_sink g.O.Sink c.args.out.now c.cactus_all.new.out) c.cactus_all.result)
    c.args.disks.now.items c.cactus_all.new.disks.items
    c.args.wires.now.items c.cactus_all.new.wires.items)
    _ sample_rules _ sample_specs c.requires.rules c.requires.specs c.cactus_all.ensures.one

pub returns-clause-turned : goal.returns-clause-turned
returns-clause-turned g c =
    with_samples
    (λ rules specs. begins_batch c.args.line.words.now ≡ false → OnFirst
    (λ a b v u. FollowsTurns g.T.Turns
    (called_with rules specs g.H.Shelf g.D.Disk g.W.Wire c.args.line.words.now c.args.shelf.now
    c.cactus_all.new.shelf a b v u c.args.meter.now c.cactus_all.new.meter
    (g.T.Turns.begun c.cactus_all.new.turns))
    c.args.turns.now c.cactus_all.new.turns c.cactus_all.result)
    c.args.disks.now.items c.cactus_all.new.disks.items
    c.args.wires.now.items c.cactus_all.new.wires.items)
    _ sample_rules _ sample_specs c.requires.rules c.requires.specs c.cactus_all.ensures.turned
