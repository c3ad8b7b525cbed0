use Rattle.std.proofs.Common.{length}
use Rattle.cx_text.specs.Rules.{loop}
use Rattle.cx_text.specs.Rules.{is_sign}
use Rattle.cx_param.specs.Blocks.{more_text}
use Rattle.cx_text.proofs.Loops.{SoFar}
use Rattle.cx_param.proofs.blocks.more_texts.Given as goal

abbrev pub invariant-turns : goal.invariant-turns
invariant-turns l = SoFar (is_sign 44) (more_text l.fn.ptype) l.ranges l.reader.rest.now
    ((loop (is_sign 44) (more_text l.fn.ptype) l.fn.ranges).reads l.fn.reader.rest.now)

abbrev pub decreases-turns : goal.decreases-turns
decreases-turns l = length l.reader.rest.now
