use Rattle.std.proofs.Common.{◌-◌, ◌^◌, w64, arith}
use Rattle.std.proofs.lemmas.Int.{to_z_pos}
use Rattle.cx_ascii_read.proofs.ShortLaws.{positive_field}
use Rattle.cx_ascii_read.proofs.words.short_positive_at.Goals as goal

pub returns : goal.returns
returns c =
    let found = c.in_ok-number.ensures in
    rw (to_z_pos w64 c.in_ok-number.number (omega (arith, found.short)))
    (positive_field c.args.byte c.args.bytes.now c.in_ok-number.rest.now c.in_ok-number.number
    (found.number (2 ^ 63 - 1) (omega arith)))
