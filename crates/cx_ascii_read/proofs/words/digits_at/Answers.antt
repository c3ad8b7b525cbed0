use Rattle.std.proofs.Common.{◌≡◌, ◌<◌, true, get_or, arith, rules}
use Rattle.std.specs.Char.{is_ascii_digit}
use Rattle.cx_ascii_read.proofs.ShortLaws.{digit_range, more_digits, more_is}
use Rattle.cx_ascii_read.proofs.words.digits_at.Goals as goal

pub digits-preserved : goal.digits-preserved
digits-preserved c =
    let bytes = c.args.bytes.now in
    let i = c.digits.index in
    let v = c.digits.invariant in
    let digit : is_ascii_digit (get_or bytes i 0) ≡ true = search rules in
    let range = digit_range (get_or bytes i 0) digit in
    let step = more_is bytes i c.digits-test.true in
    let byte = c.from.ensures in
    let few = c.if-number-ge100000000000000000.false in (
      more_digits bytes i c.digits-test.true v.0 digit,
      omega (arith, step, v.1, byte),
      omega (arith, byte, range, few),
    )
