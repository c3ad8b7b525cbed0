-- A number below the divisor is its own remainder.
use Rattle.std.proofs.Common.{◌≡◌, ◌<◌, arith, ap, ℤ, pos, negsuc, ◌≤ℤ◌, ◌<ℤ◌}
use Rattle.std.specs.Int.{int_rem_euclid}
use Rattle.std.proofs.lemmas.Int.{ints}
use Rattle.std.proofs.Math.Nat.{mod-eq_of_lt}

pub own_remainder : (c n : ℤ) → pos 0 ≤ℤ c → c <ℤ n → int_rem_euclid c n ≡ c
own_remainder (pos a) (pos b) h below = let small : a < b = omega (arith, ints) in
    ap pos (mod-eq_of_lt small)
own_remainder (pos a) (negsuc b) h below = absurd (omega (arith, ints))
own_remainder (negsuc a) n h below = absurd (omega (arith, ints))
