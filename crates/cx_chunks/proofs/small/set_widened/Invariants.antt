use Rattle.std.proofs.Common.{◌≡◌, length, take}
use Rattle.cx_chunks.proofs.small.set_widened.Given as goal

abbrev pub invariant-numbers : goal.invariant-numbers
invariant-numbers l = (length l.row ≡ length l.initial.row)
    × (take l.place l.row ≡ take l.place l.small)
