use Rattle.std.proofs.Common.{◌<◌, arith, length}
use Rattle.cx_rule.proofs.BufferLaws.{buffer_length}
use Rattle.cx_rule.proofs.RunLaws.{local_wide}
use Rattle.cx_rule.proofs.part.Part.fit.Goals as goal

pub fits_zone-requires-clause-wide : goal.fits_zone-requires-clause-wide
fits_zone-requires-clause-wide c =
    rw c.local.ensures.value (local_wide c.args.self.now c.local.ensures.patch)

pub fits_zone-requires-clause-size : goal.fits_zone-requires-clause-size
fits_zone-requires-clause-size c =
    let below : c.writes.k < length c.args.staged.now =
    omega (arith, c.writes-test.true, c.requires.writes) in
    rw (c.writes.invariant.0, c.local.ensures.value)
    (buffer_length c.args.self.now.local c.args.staged.now c.requires.buffers c.writes.k below)
