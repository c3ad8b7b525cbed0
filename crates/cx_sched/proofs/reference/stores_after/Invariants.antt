use Rattle.std.proofs.Common.{length}
use Rattle.cx_text.specs.Rules.{loop}
use Rattle.cx_text.specs.Tokens.{is_word}
use Rattle.cx_sched.specs.Refs.{more_stores}
use Rattle.cx_text.proofs.Loops.{SoFar}
use Rattle.cx_sched.proofs.reference.stores_after.Given as goal

abbrev pub invariant-groups : goal.invariant-groups
invariant-groups l = SoFar is_word more_stores l.groups l.reader.rest.now
    ((loop is_word more_stores l.fn.groups).reads l.fn.reader.rest.now)

abbrev pub decreases-groups : goal.decreases-groups
decreases-groups l = length l.reader.rest.now
