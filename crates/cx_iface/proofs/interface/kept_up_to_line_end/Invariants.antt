use Rattle.std.proofs.Common.{length}
use Rattle.cx_text.specs.Rules.{loop}
use Rattle.cx_text.specs.Lexemes.{more_kept, in_line}
use Rattle.cx_text.proofs.Loops.{SoFar}
use Rattle.cx_iface.proofs.interface.kept_up_to_line_end.Given as goal

abbrev pub invariant-kept : goal.invariant-kept
invariant-kept l = SoFar in_line (more_kept in_line) l.tokens l.reader.rest.now
    ((loop in_line (more_kept in_line) l.fn.tokens).reads l.fn.reader.rest.now)

abbrev pub decreases-kept : goal.decreases-kept
decreases-kept l = length l.reader.rest.now
