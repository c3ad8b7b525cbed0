use Rattle.cx_several.proofs.FirstLaws.{first_served, on_first}
use Rattle.cx_several.proofs.several.on_first.Goals as goal

pub cactus-requires-clause-parts : goal.cactus-requires-clause-parts
cactus-requires-clause-parts g c =
    (first_served g.W.Wire c.args.wires.now c.in-Some-split_first_mut._more_wires.now
    c.in-Some-split_first_mut.wire.now c.in-Some-split_first_mut.ensures.cases.0
    c.requires.empty).0

pub cactus-requires-clause-empty : goal.cactus-requires-clause-empty
cactus-requires-clause-empty g c =
    (first_served g.W.Wire c.args.wires.now c.in-Some-split_first_mut._more_wires.now
    c.in-Some-split_first_mut.wire.now c.in-Some-split_first_mut.ensures.cases.0
    c.requires.empty).1

pub returns-clause-one : goal.returns-clause-one
returns-clause-one g c =
    on_first _ c.args.disks.now c.in-Some._more_disks.now c.args.wires.now
    c.in-Some-split_first_mut._more_wires.now c.in-Some.disk.now c.cactus.new.disk
    c.in-Some-split_first_mut.wire.now c.cactus.new.wire c.in-Some.ensures.cases.0
    c.in-Some-split_first_mut.ensures.cases.0 c.cactus.ensures.obeys

pub returns-clause-turned : goal.returns-clause-turned
returns-clause-turned g c =
    on_first _ c.args.disks.now c.in-Some._more_disks.now c.args.wires.now
    c.in-Some-split_first_mut._more_wires.now c.in-Some.disk.now c.cactus.new.disk
    c.in-Some-split_first_mut.wire.now c.cactus.new.wire c.in-Some.ensures.cases.0
    c.in-Some-split_first_mut.ensures.cases.0 c.cactus.ensures.turned
