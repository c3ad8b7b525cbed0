-- so many times two blanks are there
use Rattle.std.proofs.Common.{◌≡◌, ◌++◌}
use Rattle.cx_order.specs.Texts.{blanks}
use Rattle.cx_order.proofs.planning.push_blanks.Given as goal

abbrev pub invariant-blanks : goal.invariant-blanks
invariant-blanks l = l.text ≡ l.fn.text ++ blanks l.counter
