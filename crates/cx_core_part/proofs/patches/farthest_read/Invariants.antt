-- the reads that were passed look at most this far
use Rattle.std.proofs.Common.{◌≤◌}
use Rattle.cx_plan.specs.declared.item.Touch.{Touch}
use Rattle.cx_core_part.proofs.ReachLaws.{AllBefore}
use Rattle.cx_core_part.proofs.patches.farthest_read.Given as goal

abbrev pub invariant-reads : goal.invariant-reads
invariant-reads l = (l.others ≤ l.most)
    × AllBefore (λ (r : Touch). r.reach ≤ l.most) l.reads l.read-index
