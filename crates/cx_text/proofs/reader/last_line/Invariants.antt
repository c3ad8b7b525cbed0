use Rattle.std.proofs.Common.{◌≡◌, take}
use Rattle.cx_text.specs.Grammar.{last_line}
use Rattle.cx_text.proofs.reader.last_line.Given as goal

abbrev pub invariant-loop-token : goal.invariant-loop-token
invariant-loop-token l = l.line ≡ last_line (take l.token-index l.tokens)
