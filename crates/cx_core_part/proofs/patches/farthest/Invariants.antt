-- the reads of the items that were passed look at most this far
use Rattle.std.proofs.Common.{◌≤◌}
use Rattle.std.specs.Prelude.{All}
use Rattle.cx_plan.specs.declared.item.Item.{Item}
use Rattle.cx_plan.specs.declared.item.Touch.{Touch}
use Rattle.cx_core_part.proofs.ReachLaws.{AllBefore}
use Rattle.cx_core_part.proofs.patches.farthest.Given as goal

abbrev pub invariant-items : goal.invariant-items
invariant-items l = AllBefore (λ (x : Item). All (λ (r : Touch). r.reach ≤ l.most) x.reads)
    l.items l.item-index
