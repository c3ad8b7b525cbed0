-- Mixed numbers: the published first outputs of SplitMix64, for the seeds 0 and 1234567.
use Rattle.std.proofs.Common.{◌≡◌, pos, negsuc, [], ◌∷◌, map, refl}
use Rattle.cx_rule.specs.Numbers.{mix, bit_of}

from_zero : map (mix 0) (1 ∷ 2 ∷ 3 ∷ [])
    ≡ 0xE220A8397B1DCDAF ∷ 0x6E789E6AA1B965F4 ∷ 0x06C45D188009454F ∷ []
from_zero = refl

from_another : map (mix 1234567) (1 ∷ 2 ∷ 3 ∷ [])
    ≡ 6457827717110365317 ∷ 3203168211198807973 ∷ 9817491932198370423 ∷ []
from_another = refl

bits_of_ninety : map (bit_of (pos 90)) (0 ∷ 1 ∷ 2 ∷ 3 ∷ 4 ∷ 5 ∷ 6 ∷ 7 ∷ [])
    ≡ 0 ∷ 1 ∷ 0 ∷ 1 ∷ 1 ∷ 0 ∷ 1 ∷ 0 ∷ []
bits_of_ninety = refl

-- below 0 in two's complement: -2 ends in 1 1 0
bits_below_zero : map (bit_of (negsuc 1)) (0 ∷ 1 ∷ 2 ∷ []) ≡ 0 ∷ 1 ∷ 1 ∷ []
bits_below_zero = refl
