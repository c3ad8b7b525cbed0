use Rattle.std.proofs.Common.{◌≡◌, drop}
use Rattle.cx_text.specs.Lexemes.{among}
use Rattle.cx_text.proofs.lexemes.among.Given as goal

abbrev pub invariant-loop-other : goal.invariant-loop-other
invariant-loop-other l = among (drop l.other-index l.names) l.name ≡ among l.names l.name
