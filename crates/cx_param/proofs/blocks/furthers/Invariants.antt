use Rattle.std.proofs.Common.{length}
use Rattle.cx_text.specs.Rules.{loop}
use Rattle.cx_param.specs.Blocks.{opened, is_colon, further}
use Rattle.cx_text.proofs.Loops.{SoFar}
use Rattle.cx_param.proofs.blocks.furthers.Given as goal

abbrev pub invariant-turns : goal.invariant-turns
invariant-turns l = SoFar is_colon further (opened l.ranges l.span) l.reader.rest.now
    ((loop is_colon further (opened l.fn.ranges l.fn.span)).reads l.fn.reader.rest.now)

abbrev pub decreases-turns : goal.decreases-turns
decreases-turns l = length l.reader.rest.now
