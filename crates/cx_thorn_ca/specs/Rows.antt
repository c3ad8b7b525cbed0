-- Cells that stand in a row along x, and the next ones.
use Rattle.std.specs.Prelude.{ℕ, ℤ, pos, ◌+◌, ◌-◌, ◌*◌, ◌/◌, ◌%◌, ◌^◌, ◌<◌, ◌≡◌, List, slice_index_or, nat_eq, nat_lt, if◌then◌else◌}
use Rattle.cx_rule.specs.Numbers.{bit_of}
use Rattle.cx_thorn_ca.specs.Automaton.{alive_of}
use Rattle.cx_thorn_ca.specs.Life.{counts_of}

-- the number at a place of a row
abbrev pub cell_at : List ℤ → ℕ → ℤ
cell_at cells i = slice_index_or cells i (pos 0)

-- the first so many numbers of a row are a function's
abbrev pub AreBy : (ℕ → ℤ) → List ℤ → ℕ → Type 0
AreBy f cells n = (i : ℕ) → i < n → cell_at cells i ≡ f i

-- a bit of a number
abbrev pub bit_at : ℤ → ℕ → ℤ
bit_at number k = pos (bit_of number k)

-- ---- Wolfram's automaton: the cells begin one before the next ones

-- a left, a middle and a right cell as a number from 0 to 7
abbrev pub pattern : ℤ → ℤ → ℤ → ℕ
pattern left middle right = 4 * alive_of left + 2 * alive_of middle + alive_of right

-- the next cell between these three
abbrev pub next_cell : ℤ → ℤ → ℤ → ℤ → ℤ
next_cell rule left middle right = pos (bit_of rule (pattern left middle right))

abbrev pub next_at : ℤ → List ℤ → ℕ → ℤ
next_at rule cells i = next_cell rule (cell_at cells i) (cell_at cells (i + 1))
    (cell_at cells (i + 2))

-- four bits of a number
abbrev pub four_at : ℕ → ℕ → ℕ
four_at bits k = bits / 2 ^ (2 * k) % 16

-- three bits, the last one first
abbrev pub turned : ℕ → ℕ
turned three = 4 * (three % 2) + 2 * (three / 2 % 2) + three / 4

-- a table of the two cells that follow between four, at twice the number whose bits these four are:
-- the three that tell the one at a place, and the one
abbrev pub three_of : ℕ → ℕ
three_of k = if nat_eq (k % 2) 0 then k / 2 % 8 else k / 4

abbrev pub pair_bit : ℤ → ℕ → ℤ
pair_bit rule k = bit_at rule (turned (three_of k))

-- ---- Conway's automaton: the rows below, here and above begin one cell before the next ones

-- how many of three cells in a row are not 0
abbrev pub three_at : List ℤ → ℕ → ℕ
three_at cells i = alive_of (cell_at cells i) + alive_of (cell_at cells (i + 1))
    + alive_of (cell_at cells (i + 2))

-- how many neighbours in the row are not 0
abbrev pub beside_at : List ℤ → ℕ → ℕ
beside_at cells i = alive_of (cell_at cells i) + alive_of (cell_at cells (i + 2))

-- the next cell of a row without neighbours above and below
abbrev pub next_alone : ℤ → ℤ → List ℤ → ℕ → ℤ
next_alone survive born cells i =
    pos (bit_of (counts_of (cell_at cells (i + 1)) survive born) (beside_at cells i))

-- the next cell of a row of a sheet
abbrev pub living_at : List ℤ → List ℤ → List ℤ → ℕ → ℕ
living_at below cells above i = beside_at cells i + three_at below i + three_at above i

abbrev pub next_amid : ℤ → ℤ → List ℤ → List ℤ → List ℤ → ℕ → ℤ
next_amid survive born below cells above i =
    pos (bit_of (counts_of (cell_at cells (i + 1)) survive born) (living_at below cells above i))

-- the bits of two numbers one behind the other: those of `born`, and from 16 on those of `survive`
abbrev pub life_bit : ℤ → ℤ → ℕ → ℤ
life_bit survive born k = if nat_lt k 16 then bit_at born k else bit_at survive (k - 16)

-- how many neighbours are not 0, and 16 more where the cell itself is not 0
abbrev pub count_at : List ℤ → List ℤ → List ℤ → ℕ → ℕ
count_at below cells above i = living_at below cells above i + 16 * alive_of (cell_at cells (i + 1))

-- the number in a table at this count
abbrev pub counted_at : List ℤ → List ℤ → List ℤ → List ℤ → ℕ → ℤ
counted_at table below cells above i = cell_at table (count_at below cells above i)
