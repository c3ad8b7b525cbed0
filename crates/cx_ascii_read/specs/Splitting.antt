-- An output that holds the records of several variables, split into one text for each name.
use Rattle.std.specs.Prelude.{ℕ, zero, suc, ◌≡◌, Bool, true, List, [], ◌∷◌, ◌++◌, length, map, bytes_eq, Option, Some, None, if◌then◌else◌}
use Rattle.std.specs.List.{flat_map, list_all, list_any}
use Rattle.cx_ascii_read.specs.declared.record.Record.{Record}
use Rattle.cx_ascii_read.specs.Records.{record_text, Spells}
use Rattle.cx_ascii_read.specs.Reading.{◌>>=◌, record_at}

-- a record has one of these names
abbrev pub is_named : List (List ℕ) → Record → Bool
is_named names r = list_any (λ (name : List ℕ). bytes_eq r.full name) names

-- for each name the texts of its records, in their order
abbrev pub text_named : List ℕ → Record → List ℕ
text_named name r = if bytes_eq r.full name then record_text r else []

abbrev pub texts_named : List (List ℕ) → List Record → List (List ℕ)
texts_named names records =
    map (λ (name : List ℕ). flat_map (text_named name) records) names

-- the records that the bytes are, at most so many
unfoldable pub records_at : ℕ → List ℕ → Option (List Record)
records_at count [] = Some []
records_at zero (b ∷ bytes) = None
records_at (suc count) (b ∷ bytes) = do
  first ← record_at (b ∷ bytes)
  others ← records_at count first.1
  Some (first.0 ∷ others)

abbrev pub all_records : List ℕ → Option (List Record)
all_records bytes = records_at (length bytes) bytes

-- a text for each name, or none where the bytes aren't records or one of them has another name
unfoldable pub split_of : List ℕ → List (List ℕ) → Option (List (List ℕ))
split_of bytes names = do
  records ← all_records bytes
  if list_all (is_named names) records then Some (texts_named names records) else None

-- ---- the law

-- records that all have one of the names are split
abbrev pub SpelledIsSplit : Type 0
SpelledIsSplit =
    (bytes : List ℕ) (names : List (List ℕ)) (rs : List Record) → Spells bytes rs
    → list_all (is_named names) rs ≡ true → split_of bytes names ≡ Some (texts_named names rs)

-- what is split is such records
abbrev pub SplitIsSpelled : Type 0
SplitIsSpelled =
    (bytes : List ℕ) (names texts : List (List ℕ)) → split_of bytes names ≡ Some texts
    → (rs : List Record) × Spells bytes rs × (list_all (is_named names) rs ≡ true)
    × (texts ≡ texts_named names rs)

-- ---- one record after another

-- bytes added to the text of each name that is this one
abbrev pub appended : List ℕ → List ℕ → List (List ℕ) → List (List ℕ) → List (List ℕ)
appended full bytes [] texts = texts
appended full bytes (name ∷ names) [] = []
appended full bytes (name ∷ names) (text ∷ texts) =
    (if bytes_eq full name then text ++ bytes else text) ∷ appended full bytes names texts

-- the texts with that of the record in front, and the bytes after it
unfoldable pub next_of :
    List (List ℕ) → List (List ℕ) → List ℕ → Option (List (List ℕ) × List ℕ)
next_of names texts bytes = do
  first ← record_at bytes
  if is_named names first.0
      then Some (appended first.0.full (record_text first.0) names texts, first.1) else None
