-- Names and values of a parameter file.
use Rattle.std.specs.Prelude.{ℕ, ◌+◌, ◌-◌, Bool, cond, not, ◌&&◌, ◌||◌, nat_eq, List, [], ◌∷◌, ◌++◌, length, take, drop, position, filter, Option, Some, None, codes}
use Rattle.std.specs.List.{list_all, slice_split, ends_with, after_last}
use Rattle.std.specs.Char.{is_ascii_alphanumeric}
use Rattle.std.specs.Str.{bytes_eq}
use Rattle.cx_text.specs.Lexemes.{among}
use Rattle.cx_text.specs.Bytes.{is_slash}

-- ---- names

-- a letter, a digit or `_`
abbrev pub is_name_byte : ℕ → Bool
is_name_byte b = is_ascii_alphanumeric b || nat_eq b 95

abbrev pub is_empty : List ℕ → Bool
is_empty text = nat_eq (length text) 0

abbrev pub is_name : List ℕ → Bool
is_name text = not (is_empty text) && list_all is_name_byte text

abbrev pub is_colon : ℕ → Bool
is_colon b = nat_eq b 58

-- an owner, if there is one, and a name
abbrev pub Named : Type 0
Named = Option (List ℕ) × List ℕ

abbrev pub alone : List ℕ → Option Named
alone text = cond (is_name text) (Some (None, text)) None

-- what stands before the first colon, and behind it: an owner, another colon and a name
abbrev pub owned : List ℕ → List ℕ → Option Named
owned owner [] = None
owned owner (b ∷ name) =
    cond (is_colon b && (is_name owner && is_name name)) (Some (Some owner, name)) None

abbrev pub named_at : List ℕ → Option ℕ → Option Named
named_at text None = alone text
named_at text (Some i) = owned (take i text) (drop (i + 1) text)

-- `name` or `owner::name`
abbrev pub named_in : List ℕ → Option Named
named_in text = named_at text (position is_colon text)

-- ---- values

abbrev pub PARFILE : List ℕ
PARFILE = codes "$parfile"

-- a value that is wholly `$parfile` stands for the base name of the file
abbrev pub value_in : List ℕ → List ℕ → List ℕ
value_in base text = cond (bytes_eq text PARFILE) base text

-- a blank, a comma or a line feed
abbrev pub is_separator : ℕ → Bool
is_separator b = nat_eq b 32 || nat_eq b 9 || nat_eq b 13 || nat_eq b 10 || nat_eq b 44

-- the thorns that a value names
abbrev pub thorns_in : List ℕ → List (List ℕ)
thorns_in text = filter (λ n. not (is_empty n)) (slice_split is_separator text)

-- a thorn that is named again is ignored
abbrev pub activate : List (List ℕ) → List ℕ → List (List ℕ)
activate active thorn = cond (among active thorn) active (active ++ thorn ∷ [])

abbrev pub activate_all : List (List ℕ) → List (List ℕ) → List (List ℕ)
activate_all active [] = active
activate_all active (n ∷ ns) = activate_all (activate active n) ns

-- ---- the base name of a file

abbrev pub PAR : List ℕ
PAR = codes ".par"

-- without a last `.par`
abbrev pub without_par : List ℕ → List ℕ
without_par name = cond (ends_with nat_eq name PAR) (take (length name - 4) name) name

-- what follows the last `/`, without a last `.par`
abbrev pub base_of : List ℕ → List ℕ
base_of file = without_par (after_last is_slash file)
