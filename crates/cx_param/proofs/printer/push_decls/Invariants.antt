use Rattle.std.proofs.Common.{◌≡◌, ◌++◌, drop}
use Rattle.cx_param.specs.Printed.{decls}
use Rattle.cx_param.proofs.printer.push_decls.Given as goal

abbrev pub invariant-loop-item : goal.invariant-loop-item
invariant-loop-item l = l.tokens ++ decls (drop l.item-index l.items) ≡ l.fn.tokens ++ decls l.items
