use Rattle.std.proofs.Common.{◌^◌, w64, SFits, arith, rules}
use Rattle.std.proofs.lemmas.Int.{to_z-of_z}
use Rattle.cx_ascii_read.proofs.ShortLaws.{negative_field}
use Rattle.cx_ascii_read.proofs.words.short_negative_at.Goals as goal

pub returns : goal.returns
returns c =
    let found = c.in_ok-size.ensures in
    let fits : SFits w64 c.negative.result = search rules in
    rw (to_z-of_z w64 c.negative.result fits, c.negative.ensures)
    (negative_field c.args.byte c.args.digits.now c.in_ok-size.rest.now c.in_ok-size.size
    (omega arith) (found.number (2 ^ 63) (omega arith)))
