use Rattle.std.proofs.Common.{drop}
use Rattle.cx_scope.specs.Closures.{sight_in}
use Rattle.cx_order.proofs.StorageLaws.{Sofar}
use Rattle.cx_order.proofs.storage.raise_lines.Given as goal

abbrev pub invariant-lines : goal.invariant-lines
invariant-lines l = Sofar l.bound (sight_in l.scope) l.fn.stored l.stored l.lines
    (drop l.line-index l.lines)
