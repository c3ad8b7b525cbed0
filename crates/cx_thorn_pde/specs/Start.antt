-- The patterns that a field starts with.
use Rattle.std.specs.Prelude.{ℕ, ℤ, pos, negsuc, ◌+◌, ◌%◌, ◌+ℤ◌, neg_ℤ, Option, nat_eq, unsigned_abs, if◌then◌else◌}
use Rattle.cx_grid.specs.declared.boxes.Point.{Point}
use Rattle.cx_rule.specs.Numbers.{mix_from}
use Rattle.cx_rule.specs.Place.{global_index, param_of, is_place}
use Rattle.cx_rule.specs.declared.place.Place.{Place}
use Rattle.cx_thorn_pde.specs.Exact.{in_64_bits}

-- the amount at one place, and 0 elsewhere
abbrev pub point_start : ℤ → ℤ → ℕ → ℤ
point_start amount start index = if is_place start index then amount else pos 0

-- the amount where the sum of the coordinates is even, and its negative elsewhere
abbrev pub alternate_start : ℤ → Point → ℤ
alternate_start amount p = if nat_eq (unsigned_abs (p.x +ℤ p.y +ℤ p.z) % 2) 0 then amount
    else neg_ℤ amount

-- mixed from a seed, from 0 to the amount, which may be 0; and 0 for an amount below 0
abbrev pub random_start : ℤ → ℤ → ℕ → ℤ
random_start (pos amount) seed index = pos (mix_from seed index % (amount + 1))
random_start (negsuc _) seed index = pos 0

-- by the pattern's number: 0 point, 1 uniform, 2 alternate, every other one random
abbrev pub start_number : ℤ → ℤ → ℤ → ℤ → Point → ℕ → ℤ
start_number pattern amount start seed p index =
    if is_place pattern 0 then point_start amount start index
    else if is_place pattern 1 then amount
    else if is_place pattern 2 then alternate_start amount p
    else random_start amount seed index

-- by the parameters pattern, amount, start and seed
abbrev pub start_at : Place → Option ℤ
start_at at = in_64_bits
    (start_number (param_of at 0) (param_of at 1) (param_of at 2) (param_of at 3) at.at
    (global_index at))
