use Rattle.std.proofs.Common.{◌≡◌, ◌≤◌, length}
use Rattle.cx_scope.specs.Chains.{FindsFirsts, FindsNexts}
use Rattle.cx_scope.proofs.groups.link_all.Given as goal

abbrev pub invariant-groups : goal.invariant-groups
invariant-groups l = FindsFirsts l.firsts l.place l.groups
    × FindsNexts l.nexts.items l.place l.groups × (length l.nexts.items ≡ length l.groups)
    × (l.place ≤ length l.groups)

abbrev pub decreases-groups : goal.decreases-groups
decreases-groups l = l.place
