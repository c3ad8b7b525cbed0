-- The words of a batch.
use Rattle.std.specs.Prelude.{ℕ, Bool, false, ◌&&◌, nat_le, List, [], ◌∷◌, length, codes, bytes_eq, Option, Some, None, if◌then◌else◌}
use Rattle.std.specs.List.{list_all}
use Rattle.cx_run.specs.Words.{is_file}

-- the first word is `batch`
abbrev pub begins_batch : List (List ℕ) → Bool
begins_batch [] = false
begins_batch (word ∷ words) = bytes_eq word (codes "batch")

-- two to eight files
abbrev pub are_files : List (List ℕ) → Bool
are_files words = nat_le 2 (length words) && nat_le (length words) 8 && list_all is_file words

-- the files after the first word
abbrev pub files_asked : List (List ℕ) → Option (List (List ℕ))
files_asked [] = None
files_asked (word ∷ words) = if are_files words then Some words else None
