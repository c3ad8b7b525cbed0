use Rattle.std.proofs.Common.{length}
use Rattle.cx_text.specs.Rules.{loop}
use Rattle.cx_text.specs.Tokens.{is_word}
use Rattle.cx_iface.specs.File.{item}
use Rattle.cx_text.proofs.Loops.{SoFar}
use Rattle.cx_iface.proofs.interface.items.Given as goal

abbrev pub invariant-items : goal.invariant-items
invariant-items l = SoFar is_word item l.read l.reader.rest.now
    ((loop is_word item l.fn.read).reads l.fn.reader.rest.now)

abbrev pub decreases-items : goal.decreases-items
decreases-items l = length l.reader.rest.now
