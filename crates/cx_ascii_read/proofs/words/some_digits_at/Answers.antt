use Rattle.std.proofs.Common.{arith, sym, ◌∙◌}
use Rattle.cx_ascii_read.proofs.ShortLaws.{front_field}
use Rattle.cx_ascii_read.proofs.words.some_digits_at.Goals as goal

pub returns-clause-number : goal.returns-clause-number
returns-clause-number c = λ high most.
    let digits = c.in_ok-number.ensures in
    let begins = rw c.split_at.ensures.front at
    (c.begins_number.ensures c.if-not-begins_number.false) in
    let end = c.in_ok-rest.ensures in
    front_field c.args.bytes.now c.in_ok-rest.rest.now c.in_ok-number.len c.args.byte
    c.in_ok-number.number high digits.digits begins.0 begins.1 digits.number
    (omega (arith, most, digits.short)) end.0 (sym c.split_at.ensures.back ∙ end.1)
