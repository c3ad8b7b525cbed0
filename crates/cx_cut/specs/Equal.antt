-- An equal cut of a direction.
use Rattle.std.specs.Prelude.{ℕ, ◌+◌, ◌/◌, ◌%◌, nat_lt, List, map, if◌then◌else◌}
use Rattle.std.specs.List.{range_with_len}

-- n points cut into p parts: the first n mod p parts have one point more
abbrev pub even_width : ℕ → ℕ → ℕ → ℕ
even_width n p k = n / p + (if nat_lt k (n % p) then 1 else 0)

abbrev pub even : ℕ → ℕ → List ℕ
even n p = map (even_width n p) (range_with_len 0 p)
