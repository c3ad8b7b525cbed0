use Rattle.cx_core_part.proofs.CopyLaws.{below, still, one_more, all_set}
use Rattle.cx_core_part.proofs.copies.set_copies.Goals as goal

pub items-init : goal.items-init
items-init c = (c.requires.0, c.requires.1, c.requires.1)

pub bounds-items-k : goal.bounds-items-k
bounds-items-k c =
    let i = c.items.invariant in
    below c.args.steers.now c.args.items.now i.0 c.args.iteration c.items.k
    c.args.copies.now c.items.copies i.1 c.items-test.true i.2

pub set_item-requires : goal.set_item-requires
set_item-requires c =
    let i = c.items.invariant in (
      i.0,
      still c.args.steers.now c.args.items.now i.0 c.args.iteration c.items.k
          c.args.copies.now c.items.copies i.1 c.items-test.true i.2
          c.index-items-k.result c.index-items-k.is c.index-copies-k.result,
    )

pub items-preserved : goal.items-preserved
items-preserved c =
    let i = c.items.invariant in (
      i.0,
      i.1,
      one_more c.args.steers.now c.args.items.now i.0 c.args.iteration c.items.k
          c.args.copies.now c.items.copies i.1 c.items-test.true i.2
          c.index-items-k.result c.index-items-k.is c.set_item.new.copy c.set_item.ensures,
    )

pub returns : goal.returns
returns c =
    let i = c.items.invariant in
    all_set c.args.steers.now c.args.items.now i.0 c.args.iteration c.items.k
    c.args.copies.now c.items.copies i.1 i.2 c.items-test.false
