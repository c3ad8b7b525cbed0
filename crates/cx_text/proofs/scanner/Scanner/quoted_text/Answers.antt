use Rattle.std.proofs.Common.{◌-◌, length, get_or, take, drop}
use Rattle.std.proofs.lemmas.Bool.{eq-eqb}
use Rattle.cx_text.proofs.QuotedLaws.{first_and_rest, no_first, within_next, within_end, within_open}
use Rattle.cx_text.proofs.scanner.Scanner.quoted_text.Goals as goal

pub returns-then-first-quote-clause-text : goal.returns-then-first-quote-clause-text
returns-then-first-quote-clause-text c =
    let rest = c.bytes.self.rest.now in
    rw c.new.ensures
    (within_end c.args.quote c.args.self.now.rest.now c.args.self.now.line c.bytes.text.items rest
    c.bytes.self.line (get_or rest 0 0) (take (length rest - 1) (drop 1 rest))
    c.bytes.invariant.within (first_and_rest rest c.in-len1-up.len_at_least)
    (eq-eqb (get_or rest 0 0) c.args.quote c.if-first-quote.true))

pub bytes-preserved : goal.bytes-preserved
bytes-preserved c =
    let rest = c.bytes.self.rest.now in
    record {
      within = within_next c.args.quote c.args.self.now.rest.now c.args.self.now.line
          c.bytes.text.items rest c.bytes.self.line (get_or rest 0 0)
          (take (length rest - 1) (drop 1 rest)) c.bytes.invariant.within
          (first_and_rest rest c.in-len1-up.len_at_least) c.if-first-quote.false
          c.push.new.self.items c.unescaped-byte.result.0 c.unescaped-byte.result.1.now
          c.from.result (c.in_ok-push.ensures.items)
          c.unescaped-byte.ensures.byte c.unescaped-byte.ensures.rest c.from.ensures;
      fresh = c.bytes.invariant.fresh;
    }

pub returns-clause-text : goal.returns-clause-text
returns-clause-text c = within_open c.args.quote c.args.self.now.rest.now c.args.self.now.line
    c.bytes.text.items c.bytes.self.rest.now c.bytes.self.line c.bytes.invariant.within
    (no_first c.bytes.self.rest.now c.in_default.len_below)
