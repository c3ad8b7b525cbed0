use Rattle.std.proofs.Common.{◌≡◌, length}
use Rattle.cx_text.specs.Rules.{line_ends}
use Rattle.cx_text.proofs.reader.Reader.skip_line_ends.Given as goal

abbrev pub invariant-skipped : goal.invariant-skipped
invariant-skipped l = line_ends.reads l.self.rest.now ≡ line_ends.reads l.fn.self.rest.now

abbrev pub decreases-skipped : goal.decreases-skipped
decreases-skipped l = length l.self.rest.now
