use Rattle.std.proofs.Common.{◌≡◌, ◌++◌, take, map}
use Rattle.cx_text.specs.Lexemes.{kept}
use Rattle.cx_iface.proofs.printer.push_kept.Given as goal

abbrev pub invariant-loop-other : goal.invariant-loop-other
invariant-loop-other l = l.tokens ≡ l.fn.tokens ++ map kept (take l.other-index l.others)
