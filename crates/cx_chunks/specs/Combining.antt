-- The whole output from the pieces of all parts, or the first fault.
use Rattle.std.specs.Prelude.{ℕ, ◌+◌, ◌==◌, nat_lt, Bool, true, false, ◌&&◌, not, ℤ, pos, List, [], ◌∷◌, map, filter, find, slice_index_or, Option, Some, None, Result, Ok, Err, if◌then◌else◌}
use Rattle.std.specs.List.{flat_map, list_any, range_with_len, position_or_len}
use Rattle.std.specs.Str.{bytes_eq}
use Rattle.cx_ascii.specs.Output.{section, line}
use Rattle.cx_grid.specs.declared.boxes.Point.{Point}
use Rattle.cx_grid.specs.Boxes.{has_point, index_in, numbers_in}
use Rattle.cx_grid.specs.Grid.{whole}
use Rattle.cx_plan.specs.declared.variable.VarId.{VarId}
use Rattle.cx_plan.specs.declared.variable.VarInfo.{VarInfo}
use Rattle.cx_plan.specs.Lists.{or_else, first_again, first_of_each}
use Rattle.cx_plan.specs.Lookups.{variable}
use Rattle.cx_plan.specs.Setups.{Setup}
use Rattle.cx_cut.specs.Cuts.{Parts, part_count, owned}
use Rattle.cx_chunks.specs.declared.fault.ChunkFault.{ChunkFault}
use Rattle.cx_chunks.specs.declared.fault.ChunkFault.TheVariants.{Stranger, Double, Missing}
use Rattle.cx_chunks.specs.declared.own_box.OwnBox.{OwnBox}
use Rattle.cx_chunks.specs.declared.piece.Piece.{Piece}
use Rattle.cx_chunks.specs.declared.piece.Piece.TheVariants.{Line, Box}
use Rattle.cx_chunks.specs.Cutting.{own_of}

-- ---- what a piece says

abbrev pub full_of : Piece → List ℕ
full_of (Line r) = r.full
full_of (Box name iteration part parts from size values) = name

abbrev pub iteration_of : Piece → ℕ
iteration_of (Line r) = r.iteration
iteration_of (Box name iteration part parts from size values) = iteration

abbrev pub values_of : Piece → List ℤ
values_of (Line r) = r.values
values_of (Box name iteration part parts from size values) = values

-- it is of this variable; of this iteration too; of the same two as another one
abbrev pub is_of : List ℕ → Piece → Bool
is_of full p = bytes_eq (full_of p) full

abbrev pub is_at : List ℕ → ℕ → Piece → Bool
is_at full iteration p = is_of full p && (iteration_of p == iteration)

abbrev pub is_twin : Piece → Piece → Bool
is_twin p q = is_at (full_of q) (iteration_of q) p

-- ---- faults

-- a variable has this name, and is a scalar or isn't; one that is written does
abbrev pub is_output_of : Bool → List ℕ → VarInfo → Bool
is_output_of scalar full v = bytes_eq v.full full && (if v.scalar then scalar else not scalar)

abbrev pub is_output : Setup → Bool → List ℕ → Bool
is_output setup scalar full =
    list_any (λ (v : VarId). is_output_of scalar full (variable setup v)) setup.out_vars

-- these numbers, first point and sizes are a part's
abbrev pub is_own : OwnBox → ℕ → ℕ → List ℕ → List ℕ → Bool
is_own own part parts from size =
    (part == own.place.part)
    && ((parts == own.place.parts) && (bytes_eq from own.place.from && bytes_eq size own.size))

-- a piece that the chunk of a part doesn't hold
abbrev pub is_stranger : Setup → OwnBox → Piece → Bool
is_stranger setup own (Line r) = not (is_output setup true r.full && (own.place.part == 0))
is_stranger setup own (Box name iteration part parts from size values) =
    not (is_output setup false name && is_own own part parts from size)

-- the fault that a chunk's piece is
abbrev pub by_piece : (ℕ → List ℕ → ℕ → ChunkFault) → ℕ → Option Piece → Option ChunkFault
by_piece fault k None = None
by_piece fault k (Some p) = Some (fault k (full_of p) (iteration_of p))

abbrev pub stranger_in : Setup → Parts → ℕ → List Piece → Option ChunkFault
stranger_in setup c k pieces = by_piece Stranger k (find (is_stranger setup (own_of c k)) pieces)

-- the first piece of which one before it in its chunk is a twin
abbrev pub double_in : ℕ → List Piece → Option ChunkFault
double_in k pieces = by_piece Double k (first_again is_twin pieces)

-- the first chunk's that has one, from chunk k on
abbrev pub first_of_chunks : (ℕ → List Piece → Option ChunkFault) → ℕ → List (List Piece)
    → Option ChunkFault
first_of_chunks fault k [] = None
first_of_chunks fault k (pieces ∷ others) =
    or_else (fault k pieces) (first_of_chunks fault (k + 1) others)

-- numbers in rising order, each once
abbrev pub with_number : ℕ → List ℕ → List ℕ
with_number n [] = n ∷ []
with_number n (m ∷ ms) = if n == m then m ∷ ms
    else (if nat_lt n m then n ∷ m ∷ ms else m ∷ with_number n ms)

abbrev pub rising : List ℕ → List ℕ
rising [] = []
rising (n ∷ ns) = with_number n (rising ns)

-- the iterations of a variable's pieces, and those of all chunks in rising order
abbrev pub iterations_in : List ℕ → List Piece → List ℕ
iterations_in full pieces = map iteration_of (filter (is_of full) pieces)

abbrev pub iterations_of : List (List Piece) → List ℕ → List ℕ
iterations_of chunks full = rising (flat_map (iterations_in full) chunks)

-- the chunk of a part, and the first part whose chunk lacks a piece that another one has
abbrev pub chunk : List (List Piece) → ℕ → List Piece
chunk chunks k = slice_index_or chunks k []

abbrev pub missing_in : List (List Piece) → List ℕ → ℕ → ℕ → Option ChunkFault
missing_in chunks full iteration k =
    if list_any (is_at full iteration) (chunk chunks k) then None
    else Some (Missing k full iteration)

abbrev pub missing_at : Parts → List (List Piece) → List ℕ → ℕ → Option ChunkFault
missing_at c chunks full iteration =
    first_of_each (missing_in chunks full iteration) (range_with_len 0 (part_count c))

abbrev pub missing_of : Parts → List (List Piece) → VarInfo → Option ChunkFault
missing_of c chunks v =
    if v.scalar then None else first_of_each (missing_at c chunks v.full)
    (iterations_of chunks v.full)

abbrev pub missing : Setup → Parts → List (List Piece) → Option ChunkFault
missing setup c chunks =
    first_of_each (λ (v : VarId). missing_of c chunks (variable setup v)) setup.out_vars

-- the first fault of all
abbrev pub chunk_fault : Setup → Parts → List (List Piece) → Option ChunkFault
chunk_fault setup c chunks =
    or_else (first_of_chunks (stranger_in setup c) 0 chunks)
    (or_else (first_of_chunks double_in 0 chunks) (missing setup c chunks))

-- ---- the whole

-- the part that owns a point
abbrev pub owner_of : Parts → Point → ℕ
owner_of c p = position_or_len (λ k. has_point (owned c k) p) (range_with_len 0 (part_count c))

-- the value of a part at a point, and a whole level, each point from the part that owns it
abbrev pub joined_at : Parts → (ℕ → List ℤ) → Point → ℕ → ℤ
joined_at c values p k = slice_index_or (values k) (index_in (owned c k) p) (pos 0)

abbrev pub joined : Parts → (ℕ → List ℤ) → List ℤ
joined c values = numbers_in (whole c.shape) (λ p. joined_at c values p (owner_of c p))

-- the values that the chunk of a part has
abbrev pub found_values : Option Piece → List ℤ
found_values None = []
found_values (Some p) = values_of p

abbrev pub values_in : List (List Piece) → List ℕ → ℕ → ℕ → List ℤ
values_in chunks full iteration k = found_values (find (is_at full iteration) (chunk chunks k))

-- a variable's text at an iteration: its line in chunk 0, or the section of the level of all parts
abbrev pub text_at : Setup → Parts → List (List Piece) → VarInfo → ℕ → List ℕ
text_at setup c chunks v iteration =
    if v.scalar then line v.full iteration
    (slice_index_or (values_in chunks v.full iteration 0) 0 (pos 0))
    else section v.full iteration setup.shape (joined c (values_in chunks v.full iteration))

abbrev pub whole_text : Setup → Parts → List (List Piece) → VarInfo → List ℕ
whole_text setup c chunks v = flat_map (text_at setup c chunks v) (iterations_of chunks v.full)

-- the text of each variable that is written
abbrev pub whole_texts : Setup → Parts → List (List Piece) → List (List ℕ)
whole_texts setup c chunks =
    map (λ (v : VarId). whole_text setup c chunks (variable setup v)) setup.out_vars

-- the texts, unless there is a fault
abbrev pub unless : {A : Type 0} → A → Option ChunkFault → Result A ChunkFault
unless whole None = Ok whole
unless whole (Some fault) = Err fault

abbrev pub combined : Setup → Parts → List (List Piece) → Result (List (List ℕ)) ChunkFault
combined setup c chunks = unless (whole_texts setup c chunks) (chunk_fault setup c chunks)
