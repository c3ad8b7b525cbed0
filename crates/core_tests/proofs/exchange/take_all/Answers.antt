use Rattle.std.proofs.Common.{◌<◌, ◌∙◌, sym, rules}
use Rattle.cx_cut.specs.Cuts.{part_count}
use Rattle.core_tests.specs.Parts.{told_queue}
use Rattle.core_tests.proofs.PartLaws.{none_gives}
use Rattle.core_tests.proofs.QueueLaws.{taken, still_holds}
use Rattle.core_tests.proofs.exchange.take_all.Goals as goal

pub takers-preserved : goal.takers-preserved
takers-preserved c =
    let inv = c.takers.invariant in
    let below : c.takers.k < part_count c.args.cut.now = search rules in
    let takes = none_gives c.in_ok-take_one.field-0 (sym c.is_some.ensures ∙ c.if-is_some.false)
    c.in_ok-take_one.ensures.taken in
    let empty = taken c.args.cut.now c.requires.whole c.args.dir c.takers.k c.requires.dir below
    (told_queue c.takers.wire) (told_queue c.take_one.new.wire) inv.1 inv.2 takes in (
      c.in_ok-take_one.ensures.parts,
      still_holds c.args.cut.now c.args.dir c.takers.k (told_queue c.takers.wire)
          (told_queue c.take_one.new.wire) inv.1 empty takes,
      empty,
      c.in_ok-take_one.ensures.wire ∙ inv.3,
    )
