-- What the two commands come to, by how the files read.
use Rattle.std.specs.Prelude.{ℕ, ◌+◌, ◌-◌, ◌^◌, nat_lt, min, Bool, true, ◌&&◌, bytes_eq, codes, List, [], ◌∷◌, ◌++◌, length, map, Option, Some, None, if◌then◌else◌}
use Rattle.std.specs.List.{concat, flat_map, list_all, range_with_len}
use Rattle.cx_plan.specs.declared.variable.VarId.{VarId}
use Rattle.cx_plan.specs.declared.variable.VarInfo.{VarInfo}
use Rattle.cx_plan.specs.declared.job.Job.{Job}
use Rattle.cx_plan.specs.Lists.{or_else, first_of_each}
use Rattle.cx_plan.specs.Lookups.{variable}
use Rattle.cx_plan.specs.Setups.{Setup, setup_of}
use Rattle.cx_cut.specs.Cuts.{Parts, part_count}
use Rattle.cx_cut.specs.Faults.{parts_of}
use Rattle.cx_disk.specs.Disk.{Files}
use Rattle.cx_disk.specs.Files.{named_output_file, chunk_file}
use Rattle.cx_outputs.specs.Names.{output_count}
use Rattle.cx_ascii_read.specs.declared.record.Record.{Record}
use Rattle.cx_ascii_read.specs.Reading.{◌>>=◌}
use Rattle.cx_chunks.specs.declared.fault.ChunkFault.{ChunkFault}
use Rattle.cx_chunks.specs.declared.fault.ChunkFault.TheVariants.{NotOutput, TooLong, Bad}
use Rattle.cx_chunks.specs.declared.piece.Piece.{Piece}
use Rattle.cx_chunks.specs.Cutting.{sizes_in, chunk_texts}
use Rattle.cx_chunks.specs.Combining.{chunk_fault, iterations_of, whole_texts}
use Rattle.cx_run_chunks.specs.declared.summary.Chunked.{Chunked}
use Rattle.cx_run_chunks.specs.declared.summary.Recombined.{Recombined}
use Rattle.cx_run_chunks.specs.Entries.{records_of, pieces_of, found}

-- ---- the files that a command reads

-- the parts of a job's cut
abbrev pub parts_in : Job → Parts
parts_in job = parts_of job.shape job.cut

-- its output files, and the chunks of its parts
abbrev pub output_files : Setup → List ℕ
output_files setup = range_with_len (named_output_file 0) (output_count setup)

abbrev pub chunk_files : Parts → List ℕ
chunk_files c = range_with_len (chunk_file 0) (part_count c)

-- the most bytes that they may have together
abbrev pub greatest_length : ℕ
greatest_length = 268435456

-- How many bytes files have together. A sum that 64 bits don't hold counts as the greatest number
-- that they hold.
abbrev pub length_of : Files → List ℕ → ℕ
length_of files numbers = min (length (flat_map files numbers)) (2 ^ 64 - 1)

abbrev pub long_fault : ℕ → Option ChunkFault
long_fault bytes =
    if nat_lt greatest_length bytes then Some (TooLong bytes greatest_length) else None

abbrev pub too_long : Files → List ℕ → Option ChunkFault
too_long files numbers = long_fault (length_of files numbers)

-- a fault where something isn't there
abbrev pub fault_unless : {X : Type 0} → ChunkFault → Option X → Option ChunkFault
fault_unless fault None = Some fault
fault_unless fault (Some x) = None

-- what a test tells first of items, each with its place, from this place on
abbrev pub first_by_place : {X F : Type 0} → (ℕ → X → Option F) → ℕ → List X → Option F
first_by_place test j [] = None
first_by_place test j (x ∷ xs) = or_else (test j x) (first_by_place test (j + 1) xs)

-- ---- output files

-- a record has the name and the sizes of a variable
abbrev pub is_record_of : Setup → VarInfo → Record → Bool
is_record_of setup v r = bytes_eq r.full v.full && bytes_eq r.size (sizes_in setup v)

-- each number is above the one before it
abbrev pub is_rising_from : ℕ → List ℕ → Bool
is_rising_from n [] = true
is_rising_from n (m ∷ ms) = nat_lt n m && is_rising_from m ms

abbrev pub is_rising : List ℕ → Bool
is_rising [] = true
is_rising (n ∷ ns) = is_rising_from n ns

-- records are the output of a variable: they are of it, in rising iterations
abbrev pub is_output_of : Setup → VarInfo → List Record → Bool
is_output_of setup v rs =
    list_all (is_record_of setup v) rs && is_rising (map (λ (r : Record). r.iteration) rs)

abbrev pub if_output : Setup → VarInfo → List Record → Option (List Record)
if_output setup v rs = if is_output_of setup v rs then Some rs else None

-- the records of an output file that is the output of this variable
abbrev pub output_in : Setup → VarInfo → List ℕ → Option (List Record)
output_in setup v bytes = records_of bytes >>= if_output setup v

-- the output file of a variable, by its place, isn't its output
abbrev pub not_output : Setup → Files → ℕ → VarId → Option ChunkFault
not_output setup files j v =
    fault_unless (NotOutput ((variable setup v).full ++ codes ".asc"))
    (output_in setup (variable setup v) (files (named_output_file j)))

-- the records of the output file at a place
abbrev pub records_at : Files → ℕ → List Record
records_at files j = found (records_of (files (named_output_file j)))

-- the records of all outputs, or the first fault
abbrev pub outputs_fault : Setup → Files → Option ChunkFault
outputs_fault setup files =
    or_else (too_long files (output_files setup))
    (first_by_place (not_output setup files) 0 setup.out_vars)

abbrev pub output_records : Setup → Files → List (List Record)
output_records setup files = map (records_at files) (range_with_len 0 (output_count setup))

-- ---- what `chunk` comes to

-- the texts of all chunks
abbrev pub chunks_to_write : Job → Files → List (List ℕ)
chunks_to_write job files = chunk_texts (parts_in job) (output_records (setup_of job) files)

abbrev pub chunked_of : Job → Files → Chunked
chunked_of job files = record {
  parts = part_count (parts_in job);
  records = length (flat_map (λ (rs : List Record). rs) (output_records (setup_of job) files));
}

-- ---- chunks

-- a chunk isn't made of pieces
abbrev pub bad : Files → ℕ → Option ChunkFault
bad files k = fault_unless (Bad k) (pieces_of (files (chunk_file k)))

-- the pieces of a chunk, and of each chunk
abbrev pub pieces_in : Files → ℕ → List Piece
pieces_in files k = found (pieces_of (files (chunk_file k)))

abbrev pub all_pieces : Parts → Files → List (List Piece)
all_pieces c files = map (pieces_in files) (range_with_len 0 (part_count c))

-- the first fault of the files, and the first of all
abbrev pub files_fault : Parts → Files → Option ChunkFault
files_fault c files =
    or_else (too_long files (chunk_files c))
    (first_of_each (bad files) (range_with_len 0 (part_count c)))

abbrev pub recombine_fault : Job → Files → Option ChunkFault
recombine_fault job files =
    or_else (files_fault (parts_in job) files)
    (chunk_fault (setup_of job) (parts_in job) (all_pieces (parts_in job) files))

-- ---- what `recombine` comes to

-- how many records there are of all variables that are written
abbrev pub record_count : Setup → List (List Piece) → ℕ
record_count setup chunks =
    length (flat_map (λ (v : VarId). iterations_of chunks (variable setup v).full) setup.out_vars)

-- the texts of all variables one after another
abbrev pub whole_output : Job → Files → List ℕ
whole_output job files =
    concat (whole_texts (setup_of job) (parts_in job) (all_pieces (parts_in job) files))

abbrev pub recombined_of : Job → Files → Recombined
recombined_of job files = record {
  records = record_count (setup_of job) (all_pieces (parts_in job) files);
  bytes = length (whole_output job files);
}
