-- Keys of jobs that are steered alike up to an iteration.
use Rattle.std.specs.Prelude.{ℕ, suc, ◌==◌, ◌&&◌, ◌≡◌, nat_lt, bytes_eq, Bool, false, not, List, [], ◌∷◌, length, filter, codes, Option, Some, None, if◌then◌else◌}
use Rattle.std.specs.List.{slice_split}
use Rattle.cx_text.specs.Digits.{is_digits}
use Rattle.cx_text.specs.Lexemes.{decimal_from}

-- ---- lines

-- the parts of a text before, between and after the bytes of one value
abbrev pub split_at_byte : ℕ → List ℕ → List (List ℕ)
split_at_byte byte text = slice_split (λ b. b == byte) text

-- the lines of a key, and the words of a line
abbrev pub lines : List ℕ → List (List ℕ)
lines key = split_at_byte 10 key

abbrev pub words : List ℕ → List (List ℕ)
words line = split_at_byte 32 line

-- the iteration of a steer line, such as `steer 2 wave::factor = "0"`; any other line has none
abbrev pub steered_in : List (List ℕ) → Option ℕ
steered_in (word ∷ number ∷ more ∷ rest) =
    if bytes_eq word (codes "steer") && is_digits number then Some (decimal_from 0 number) else None
steered_in _ = None

abbrev pub steered_at : List ℕ → Option ℕ
steered_at line = steered_in (words line)

-- ---- agreement

abbrev pub is_later : ℕ → Option ℕ → Bool
is_later c None = false
is_later c (Some n) = nat_lt c n

-- a key's lines but for steer lines of later iterations than c
abbrev pub counts_to : ℕ → List ℕ → Bool
counts_to c line = not (is_later c (steered_at line))

abbrev pub lines_to : ℕ → List ℕ → List (List ℕ)
lines_to c key = filter (counts_to c) (lines key)

-- two keys agree up to an iteration
abbrev pub Agree : ℕ → List ℕ → List ℕ → Type 0
Agree c a b = lines_to c a ≡ lines_to c b

-- the first lines that differ, if any do; a list that has ended has an empty one
abbrev pub first_apart : List (List ℕ) → List (List ℕ) → Option (List ℕ × List ℕ)
first_apart [] [] = None
first_apart [] (y ∷ ys) = Some ([], y)
first_apart (x ∷ xs) [] = Some (x, [])
first_apart (x ∷ xs) (y ∷ ys) = if bytes_eq x y then first_apart xs ys else Some (x, y)

-- ---- from the front on

-- the further parts of a text, if there are any
abbrev pub parts_in : ℕ → Option (List ℕ) → List (List ℕ)
parts_in byte None = []
parts_in byte (Some rest) = split_at_byte byte rest

-- those of its lines that count
abbrev pub lines_from : ℕ → Option (List ℕ) → List (List ℕ)
lines_from c left = filter (counts_to c) (parts_in 10 left)

-- how much is left
abbrev pub left_length : Option (List ℕ) → ℕ
left_length None = 0
left_length (Some text) = suc (length text)
