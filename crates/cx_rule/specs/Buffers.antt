-- Buffers whose numbers count up to a place, and are 0 from there on.
use Rattle.std.specs.Prelude.{ℕ, zero, suc, ℤ, List, [], ◌∷◌}
use Rattle.cx_rule.specs.Staging.{no_numbers}

-- the first so many of some numbers, and 0 in place of all others
abbrev pub counted : ℕ → List ℤ → List ℤ
counted zero ns = no_numbers ns
counted (suc n) [] = []
counted (suc n) (m ∷ ns) = m ∷ counted n ns
