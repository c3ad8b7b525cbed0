use Rattle.cx_text.specs.Lexemes.{same_name}
use Rattle.cx_scope.specs.Tabled.{has_group}
use Rattle.cx_scope.proofs.ChainLaws.{Ahead, left}
use Rattle.cx_scope.proofs.sought.group_in.Given as goal

abbrev pub invariant-same : goal.invariant-same
invariant-same l = Ahead (has_group l.tables l.thorn l.tier l.name)
    (λ g. same_name l.name.name g.name) l.tables.groups l.next

abbrev pub decreases-same : goal.decreases-same
decreases-same l = left (λ g. same_name l.name.name g.name) l.tables.groups l.next
