use Rattle.std.proofs.Common.{◌≡◌, ◌++◌, drop}
use Rattle.cx_text.specs.Printing.{printed_from, printed}
use Rattle.cx_text.proofs.printer.write_tokens.Given as goal

abbrev pub invariant-loop-token : goal.invariant-loop-token
invariant-loop-token l =
    l.text ++ printed_from l.fresh (drop l.token-index l.tokens) ≡ printed l.tokens
