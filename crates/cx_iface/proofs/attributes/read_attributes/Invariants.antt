use Rattle.std.proofs.Common.{length}
use Rattle.cx_text.specs.Rules.{loop}
use Rattle.cx_iface.specs.Attributes.{is_attribute, attribute}
use Rattle.cx_text.proofs.Loops.{SoFar}
use Rattle.cx_iface.proofs.attributes.read_attributes.Given as goal

abbrev pub invariant-attributes : goal.invariant-attributes
invariant-attributes l =
    SoFar is_attribute attribute l.attributes l.reader.rest.now
    ((loop is_attribute attribute l.fn.attributes).reads l.fn.reader.rest.now)

abbrev pub decreases-attributes : goal.decreases-attributes
decreases-attributes l = length l.reader.rest.now
