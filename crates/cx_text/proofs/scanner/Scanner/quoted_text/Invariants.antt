use Rattle.std.proofs.Common.{◌≡◌, length}
use Rattle.cx_text.proofs.QuotedLaws.{Within}
use Rattle.cx_text.proofs.scanner.Scanner.quoted_text.Given as goal

abbrev pub invariant-bytes : goal.invariant-bytes
invariant-bytes l =
    record {
      within : Within l.quote l.fn.self.rest.now l.fn.self.line l.text.items l.self.rest.now
          l.self.line;
      fresh : l.self.fresh ≡ l.fn.self.fresh;
    }

abbrev pub decreases-bytes : goal.decreases-bytes
decreases-bytes l = length l.self.rest.now
