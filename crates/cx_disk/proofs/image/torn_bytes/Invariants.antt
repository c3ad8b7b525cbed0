use Rattle.std.proofs.Common.{◌≡◌, vec_len}
use Rattle.cx_disk.proofs.image.torn_bytes.Given as goal

abbrev pub invariant-places : goal.invariant-places
invariant-places l = vec_len l.made ≡ l.k
