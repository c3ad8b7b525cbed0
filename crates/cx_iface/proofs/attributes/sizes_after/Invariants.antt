use Rattle.std.proofs.Common.{length}
use Rattle.cx_text.specs.Rules.{loop, is_sign}
use Rattle.cx_iface.specs.Attributes.{more_sizes}
use Rattle.cx_text.proofs.Loops.{SoFar}
use Rattle.cx_iface.proofs.attributes.sizes_after.Given as goal

abbrev pub invariant-sizes : goal.invariant-sizes
invariant-sizes l = SoFar (is_sign 44) more_sizes l.tokens l.reader.rest.now
    ((loop (is_sign 44) more_sizes l.fn.tokens).reads l.fn.reader.rest.now)

abbrev pub decreases-sizes : goal.decreases-sizes
decreases-sizes l = length l.reader.rest.now
