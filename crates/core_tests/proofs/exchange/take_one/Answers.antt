use Rattle.cx_cut.specs.Cuts.{part_count}
use Rattle.core_tests.specs.Parts.{told_queue}
use Rattle.core_tests.proofs.PartLaws.{can, part_at, one_changed, still}
use Rattle.core_tests.proofs.QueueLaws.{ready}
use Rattle.core_tests.proofs.exchange.take_one.Goals as goal

pub take-requires-clause-can : goal.take-requires-clause-can
take-requires-clause-can c =
    rw c.in_ok-names.ensures
    (can c.args.cut.now c.requires.whole c.args.k c.requires.part c.index_mut.result.now
    (part_at c.args.cut.now (part_count c.args.cut.now)
    c.args.patches.now.items c.requires.parts c.args.k c.requires.part c.index_mut.result.now
    c.index_mut.ensures.value)
    c.args.dir c.requires.dir)

pub take-requires-clause-ready : goal.take-requires-clause-ready
take-requires-clause-ready c =
    rw c.in_ok-names.ensures
    (ready c.args.cut.now c.requires.whole c.args.dir c.args.k c.requires.dir c.requires.part
    (told_queue c.args.wire.now) c.requires.posted)

pub returns-in-Ok-clause-parts : goal.returns-in-Ok-clause-parts
returns-in-Ok-clause-parts c =
    one_changed c.args.cut.now (part_count c.args.cut.now)
    c.args.k c.args.patches.now.items c.take.new.patch c.requires.parts
    (still c.args.cut.now c.args.k c.index_mut.result.now c.take.new.patch
    c.in-Ok.ensures.kept.frame
    (part_at c.args.cut.now (part_count c.args.cut.now)
    c.args.patches.now.items c.requires.parts c.args.k c.requires.part c.index_mut.result.now
    c.index_mut.ensures.value))

pub returns-in-Err-NotYet-clause-parts : goal.returns-in-Err-NotYet-clause-parts
returns-in-Err-NotYet-clause-parts c =
    one_changed c.args.cut.now (part_count c.args.cut.now)
    c.args.k c.args.patches.now.items c.take.new.patch c.requires.parts
    (still c.args.cut.now c.args.k c.index_mut.result.now c.take.new.patch
    c.in-Err-NotYet.ensures.kept.frame
    (part_at c.args.cut.now (part_count c.args.cut.now)
    c.args.patches.now.items c.requires.parts c.args.k c.requires.part c.index_mut.result.now
    c.index_mut.ensures.value))
