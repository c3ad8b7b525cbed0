use Rattle.std.proofs.Common.{length}
use Rattle.cx_text.specs.Rules.{loop}
use Rattle.cx_param.specs.Blocks.{is_ints, number_range}
use Rattle.cx_text.proofs.Loops.{SoFar}
use Rattle.cx_param.proofs.blocks.number_ranges.Given as goal

abbrev pub invariant-turns : goal.invariant-turns
invariant-turns l = SoFar is_ints number_range l.ranges l.reader.rest.now
    ((loop is_ints number_range l.fn.ranges).reads l.fn.reader.rest.now)

abbrev pub decreases-turns : goal.decreases-turns
decreases-turns l = length l.reader.rest.now
