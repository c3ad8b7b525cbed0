use Rattle.std.proofs.Common.{length}
use Rattle.cx_text.proofs.ReadLaws.{Going}
use Rattle.cx_text.proofs.lexer.read.Given as goal

abbrev pub invariant-pieces : goal.invariant-pieces
invariant-pieces l = Going l.style l.bytes l.gathered.tokens.items l.gathered.ended l.scanner.fresh
    l.scanner.line l.scanner.rest.now

abbrev pub decreases-pieces : goal.decreases-pieces
decreases-pieces l = length l.scanner.rest.now
