-- Which of a disk's files is which, and how many there are.
use Rattle.std.specs.Prelude.{ℕ, ◌+◌, ◌<◌, ◌≤◌, ◌⊎◌}

-- The slots of checkpoints are the files below this number.
abbrev pub slot_count : ℕ
slot_count = 8

-- The one output of a run whose outputs have no names.
abbrev pub old_output_file : ℕ
old_output_file = 8

-- The j-th of the outputs that a mount names.
abbrev pub named_output_file : ℕ → ℕ
named_output_file j = 9 + j

-- How many outputs a mount can name at most for a run.
abbrev pub output_limit : ℕ
output_limit = 256

-- How many files there are below the chunks, where a mount names so many outputs.
abbrev pub count_with : ℕ → ℕ
count_with names = named_output_file names

-- How many parts can have a chunk each, the chunk of part k, and the file of all parts together.
abbrev pub chunk_count : ℕ
chunk_count = 512

abbrev pub chunk_file : ℕ → ℕ
chunk_file k = 1024 + k

abbrev pub recombined_file : ℕ
recombined_file = chunk_file chunk_count

-- One of the files of a disk that has so many below the chunks.
abbrev pub IsFile : ℕ → ℕ → Type 0
IsFile count file = (file < count) ⊎ ((chunk_file 0 ≤ file) × (file ≤ recombined_file))
