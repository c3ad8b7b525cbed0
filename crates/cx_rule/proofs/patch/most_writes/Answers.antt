use Rattle.std.proofs.Common.{rules, ◌<◌, ◌∙◌, sym, length}
use Rattle.cx_rule.specs.Patches.{write_count}
use Rattle.cx_rule.proofs.BufferLaws.{capped_next}
use Rattle.cx_rule.proofs.patch.most_writes.Goals as goal

pub items-preserved : goal.items-preserved
items-preserved c =
    let h : c.items.item-index < length c.args.items.now = search rules in
    let e = rw (← c.item-item.is) at
    (capped_next write_count c.args.items.now c.items.item-index c.item-item.result h) in
    c.larger-most.ensures ∙ rw (c.items.invariant, c.capped.ensures, c.len.ensures) (sym e)
