-- A table of bits, by the counts along a row of a sheet.
use Rattle.std.proofs.Common.{◌≡◌, ℕ, ◌+◌, ◌-◌, ◌*◌, ◌≤◌, arith, ap, ◌∙◌, ℤ, pos, List, Bool, true, false, nat_lt, nat_eq}
use Rattle.std.specs.Prelude.{if◌then◌else◌, unsigned_abs}
use Rattle.cx_rule.specs.Numbers.{bit_of}
use Rattle.cx_thorn_ca.specs.Rows.{cell_at, AreBy, bit_at, life_bit, living_at, count_at, counted_at, next_amid}
use Rattle.cx_thorn_ca.proofs.LaneLaws.{count_few, living_few}

below : (n : ℕ) → n ≤ 8 → nat_lt (n + 0) 16 ≡ true
below n h = grind (arith, h)

above : (n : ℕ) → nat_lt (n + 16) 16 ≡ false
above n = grind arith

nothing : (n : ℕ) → n + 0 ≡ n
nothing n = omega arith

sixteen : (n : ℕ) → n + 16 - 16 ≡ n
sixteen n = omega arith

at_count : (survive born : ℤ) (n : ℕ) (none : Bool) → n ≤ 8
    → life_bit survive born (n + 16 * (if none then 0 else 1))
    ≡ pos (bit_of (if nat_eq (if none then 0 else 1) 1 then survive else born) n)
at_count survive born n true h =
    ap (λ b. if b then bit_at born (n + 0) else bit_at survive (n + 0 - 16)) (below n h)
    ∙ ap (bit_at born) (nothing n)
at_count survive born n false h =
    ap (λ b. if b then bit_at born (n + 16) else bit_at survive (n + 16 - 16)) (above n)
    ∙ ap (bit_at survive) (sixteen n)

pub counted_is_next : (survive born : ℤ) (table below cells above : List ℤ) (i : ℕ)
    → AreBy (life_bit survive born) table 25
    → counted_at table below cells above i ≡ next_amid survive born below cells above i
counted_is_next survive born table below cells above i bits =
    bits (count_at below cells above i) (count_few below cells above i)
    ∙ at_count survive born (living_at below cells above i)
    (nat_eq (unsigned_abs (cell_at cells (i + 1))) 0) (living_few below cells above i)
