use Rattle.std.proofs.Common.{length}
use Rattle.cx_text.specs.Rules.{loop}
use Rattle.cx_text.specs.Lexemes.{is_inside, more_kept}
use Rattle.cx_text.proofs.Loops.{SoFar}
use Rattle.cx_param.proofs.blocks.keep_all.Given as goal

abbrev pub invariant-turns : goal.invariant-turns
invariant-turns l = SoFar is_inside (more_kept is_inside) l.tokens l.reader.rest.now
    ((loop is_inside (more_kept is_inside) l.fn.tokens).reads l.fn.reader.rest.now)

abbrev pub decreases-turns : goal.decreases-turns
decreases-turns l = length l.reader.rest.now
