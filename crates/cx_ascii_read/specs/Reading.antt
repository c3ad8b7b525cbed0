-- Reading the text of the output file from left to right.
use Rattle.std.specs.Prelude.{◌≡◌, ℕ, zero, suc, ◌-◌, ◌*◌, ◌^◌, Bool, true, false, ◌||◌, ◌==◌, ℤ, pos, negsuc, List, [], ◌∷◌, ◌++◌, length, take, drop, slice_index_or, codes, nat_eq, Option, Some, None, Result, Ok, Err, if◌then◌else◌}
use Rattle.std.specs.List.{position_or_len, starts_with}
use Rattle.cx_text.specs.Digits.{natural_in}
use Rattle.cx_ascii_read.specs.Records.{is_name}
use Rattle.cx_ascii_read.specs.Spelling.{SpellsAll}
use Rattle.cx_ascii_read.specs.declared.record.Record.{Record}
use Rattle.cx_ascii_read.specs.declared.words.Stop.{Stop}
use Rattle.cx_ascii_read.specs.declared.words.Stop.TheVariants as stops

infixl 10 ◌>>=◌
abbrev pub ◌>>=◌ : {A B : Type 0} → Option A → (A → Option B) → Option B
(Some x) >>= f = f x
None >>= f = None

-- What a call returned, seen by view, is what reading gives, unless memory is wanting.
abbrev pub Stops : {Y : Type 0} → Stop → Option Y → Type 0
Stops stops.Memory read = Unit {0}
Stops stops.Other read = read ≡ None

abbrev pub Gives : {X Y : Type 0} → (X → Y) → Result X Stop → Option Y → Type 0
Gives view (Ok x) read = read ≡ Some (view x)
Gives view (Err e) read = Stops e read

-- ---- words

-- a word ends before a blank or the end of the line
abbrev pub is_end : ℕ → Bool
is_end b = (b == 32) || (b == 10)

abbrev pub word_len : List ℕ → ℕ
word_len bytes = position_or_len is_end bytes

abbrev pub word : List ℕ → List ℕ
word bytes = take (word_len bytes) bytes

abbrev pub behind : List ℕ → List ℕ
behind bytes = drop (word_len bytes) bytes

-- what stands behind a byte, and behind a text
abbrev pub skip : ℕ → List ℕ → Option (List ℕ)
skip byte [] = None
skip byte (b ∷ bs) = if b == byte then Some bs else None

abbrev pub skip_text : List ℕ → List ℕ → Option (List ℕ)
skip_text text bytes = if starts_with nat_eq bytes text then Some (drop (length text) bytes)
    else None

-- ---- numbers in their shortest spelling

abbrev pub has_leading_zero : List ℕ → Bool
has_leading_zero [] = false
has_leading_zero (b ∷ []) = false
has_leading_zero (b ∷ c ∷ bs) = b == 48

abbrev pub number_of : ℕ → List ℕ → Option ℕ
number_of high text = if has_leading_zero text then None else natural_in high text

abbrev pub above_zero : ℕ → Option ℕ
above_zero zero = None
above_zero (suc n) = Some (suc n)

abbrev pub below_zero : ℕ → Option ℤ
below_zero zero = None
below_zero (suc n) = Some (negsuc n)

abbrev pub size_of : List ℕ → Option ℕ
size_of text = number_of 16777216 text >>= above_zero

abbrev pub negative_of : List ℕ → Option ℤ
negative_of digits = number_of (2 ^ 63) digits >>= below_zero

abbrev pub value_of : List ℕ → Option ℤ
value_of [] = None
value_of (b ∷ bs) =
    if b == 45 then negative_of bs
    else (number_of (2 ^ 63 - 1) (b ∷ bs) >>= λ n. Some (pos n))

-- ---- fields, each with the byte behind it

-- a word that means something, and a byte
abbrev pub field_at : {A : Type 0} → (List ℕ → Option A) → ℕ → List ℕ → Option (A × List ℕ)
field_at meaning byte bytes = do
  x ← meaning (word bytes)
  rest ← skip byte (behind bytes)
  Some (x, rest)

abbrev pub name_of : List ℕ → Option (List ℕ)
name_of text = if is_name text then Some text else None

abbrev pub name_at : List ℕ → Option (List ℕ × List ℕ)
name_at = field_at name_of 32

abbrev pub number_at : ℕ → List ℕ → Option (ℕ × List ℕ)
number_at high = field_at (number_of high) 32

abbrev pub value_at : ℕ → List ℕ → Option (ℤ × List ℕ)
value_at = field_at value_of

-- ---- what a section has

-- what stands behind a size: whether it is the last one, and the bytes behind
abbrev pub size_end : List ℕ → Option (Bool × List ℕ)
size_end [] = None
size_end (b ∷ bs) = if b == 10 then Some (true, bs)
    else (if b == 32 then Some (false, bs) else None)

abbrev pub size_at : List ℕ → Option (ℕ × Bool × List ℕ)
size_at bytes = do
  n ← size_of (word bytes)
  end ← size_end (behind bytes)
  Some (n, end.0, end.1)

-- the sizes of at most so many directions, blanks between and the end of the line behind
unfoldable pub sizes_at : ℕ → List ℕ → Option (List ℕ × List ℕ)
sizes_at zero bytes = None
sizes_at (suc more) bytes = do
  size ← size_at bytes
  if size.1 then Some (size.0 ∷ [], size.2)
      else (sizes_at more size.2 >>= λ others. Some (size.0 ∷ others.0, others.1))

-- a row of so many values and one more
unfoldable pub row_at : ℕ → List ℕ → Option (List ℤ × List ℕ)
row_at zero bytes = value_at 10 bytes >>= λ v. Some (v.0 ∷ [], v.1)
row_at (suc more) bytes = do
  value ← value_at 32 bytes
  others ← row_at more value.1
  Some (value.0 ∷ others.0, others.1)

-- so many rows
unfoldable pub rows_at : ℕ → ℕ → List ℕ → Option (List ℤ × List ℕ)
rows_at more zero bytes = Some ([], bytes)
rows_at more (suc count) bytes = do
  row ← row_at more bytes
  others ← rows_at more count row.1
  Some (row.0 ++ others.0, others.1)

-- how many values a row has behind its first one, and how many rows there are
abbrev pub more_in_row : List ℕ → ℕ
more_in_row size = slice_index_or size 0 1 - 1

abbrev pub row_count : List ℕ → ℕ
row_count size = slice_index_or size 1 1 * slice_index_or size 2 1

-- the values of a level with these sizes
abbrev pub level_at : List ℕ → List ℕ → Option (List ℤ × List ℕ)
level_at size = rows_at (more_in_row size) (row_count size)

-- sizes, the values of a level with these sizes, and an empty line
unfoldable pub grid_at : List ℕ → Option ((List ℕ × List ℤ) × List ℕ)
grid_at bytes = do
  size ← sizes_at 3 bytes
  values ← level_at size.0 size.1
  rest ← skip 10 values.1
  Some ((size.0, values.0), rest)

-- ---- records

-- what sections and lines begin with: a variable's name and an iteration
unfoldable pub head_at : List ℕ → Option ((List ℕ × ℕ) × List ℕ)
head_at bytes = do
  start ← skip_text (codes "# ") bytes
  name ← name_at start
  rest ← skip_text (codes "iteration ") name.1
  iteration ← number_at (2 ^ 64 - 1) rest
  Some ((name.0, iteration.0), iteration.1)

unfoldable pub section_at : List ℕ → ℕ → List ℕ → Option (Record × List ℕ)
section_at name iteration bytes = do
  grid ← grid_at bytes
  Some (record { full = name; iteration = iteration; size = grid.0.0; values = grid.0.1 }, grid.1)

unfoldable pub line_at : List ℕ → ℕ → List ℕ → Option (Record × List ℕ)
line_at name iteration bytes = do
  value ← value_at 10 bytes
  Some (record { full = name; iteration = iteration; size = []; values = value.0 ∷ [] }, value.1)

-- behind the iteration: a section's sizes or a line's value
abbrev pub body_at : List ℕ → ℕ → List ℕ → Option (List ℕ) → Option (Record × List ℕ)
body_at name iteration bytes None = skip_text (codes "value ") bytes >>= line_at name iteration
body_at name iteration bytes (Some sizes) = section_at name iteration sizes

unfoldable pub record_at : List ℕ → Option (Record × List ℕ)
record_at bytes = do
  head ← head_at bytes
  body_at head.0.0 head.0.1 head.1 (skip_text (codes "size ") head.1)

-- ---- growing lists

-- what was read before, and what is still read
abbrev pub with_front : {A : Type 0} → List A → Option (List A × List ℕ) → Option (List A × List ℕ)
with_front front read = read >>= λ x. Some (front ++ x.0, x.1)

-- ---- one entry after another

-- Reading all entries gave what the bytes spell, or nothing where they spell none, unless memory is
-- wanting.
abbrev pub GivesAll : {E : Type 0} → (E → List ℕ) → (E → Type 0) → List ℕ → Result (List E) Stop
    → Type 0
GivesAll text Fits bytes (Ok es) = SpellsAll text Fits bytes es
GivesAll text Fits bytes (Err stops.Memory) = Unit {0}
GivesAll {E} text Fits bytes (Err stops.Other) = (es : List E) → SpellsAll text Fits bytes es → ⊥
