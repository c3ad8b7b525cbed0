-- Records of the whole output, cut into pieces by parts.
use Rattle.std.specs.Prelude.{ℕ, ◌+◌, ◌<◌, ◌≡◌, ◌==◌, ℤ, pos, unsigned_abs, List, [], ◌∷◌, ◌++◌, map, slice_index_or, if◌then◌else◌}
use Rattle.std.specs.List.{flat_map, range_with_len, AllByRecursion}
use Rattle.cx_grid.specs.declared.boxes.Box3.{Box3}
use Rattle.cx_grid.specs.Boxes.{along, extent, index_in, numbers_in}
use Rattle.cx_grid.specs.Grid.{whole}
use Rattle.cx_plan.specs.declared.variable.VarId.{VarId}
use Rattle.cx_plan.specs.declared.variable.VarInfo.{VarInfo}
use Rattle.cx_plan.specs.Setups.{Setup}
use Rattle.cx_plan.specs.Lookups.{variable}
use Rattle.cx_cut.specs.Cuts.{Parts, part_count, owned}
use Rattle.cx_ascii_read.specs.declared.record.Record.{Record}
use Rattle.cx_ascii_read.specs.Records.{IsRecord}
use Rattle.cx_ascii_read.specs.Printed.{sizes_of}
use Rattle.cx_chunks.specs.declared.own_box.OwnBox.{OwnBox}
use Rattle.cx_chunks.specs.declared.piece.Piece.{Piece}
use Rattle.cx_chunks.specs.declared.piece.Piece.TheVariants.{Line, Box}
use Rattle.cx_chunks.specs.Pieces.{piece_text}

-- ---- the records that are asked for

-- the sizes in the records of a variable: those of the grid, and none for a scalar
abbrev pub sizes_in : Setup → VarInfo → List ℕ
sizes_in setup v = if v.scalar then [] else sizes_of setup.shape.dims setup.shape.n

-- a record of a variable
pub record IsRecordOf (setup : Setup) (v : VarInfo) (r : Record) : Type 0 where
  pub is : IsRecord r
  pub full : r.full ≡ v.full
  pub size : r.size ≡ sizes_in setup v

-- iterations that rise
abbrev pub IsRising : List ℕ → Type 0
IsRising [] = Unit {0}
IsRising (i ∷ is) = AllByRecursion (λ j. i < j) is × IsRising is

-- the output of a variable, record by record
pub record IsOutputOf (setup : Setup) (v : VarInfo) (rs : List Record) : Type 0 where
  pub records : AllByRecursion (IsRecordOf setup v) rs
  pub rising : IsRising (map (λ (r : Record). r.iteration) rs)

-- the output of several variables
abbrev pub AreOutputs : Setup → List VarId → List (List Record) → Type 0
AreOutputs setup [] [] = Unit {0}
AreOutputs setup [] (rs ∷ others) = ⊥
AreOutputs setup (v ∷ vs) [] = ⊥
AreOutputs setup (v ∷ vs) (rs ∷ others) =
    IsOutputOf setup (variable setup v) rs × AreOutputs setup vs others

-- ---- their pieces

-- a box's first point and its sizes, in the directions of the grid
abbrev pub low_of : ℕ → Box3 → List ℕ
low_of dims b = map (λ d. unsigned_abs (along b.low d)) (range_with_len 0 dims)

abbrev pub size_of : ℕ → Box3 → List ℕ
size_of dims b = map (extent b) (range_with_len 0 dims)

-- the box of the points that a part owns
abbrev pub own_of : Parts → ℕ → OwnBox
own_of c k =
    record {
      place = record { part = k; parts = part_count c; from = low_of c.shape.dims (owned c k) };
      size = size_of c.shape.dims (owned c k);
    }

-- the values of a whole level at the points that a part owns, x fastest
abbrev pub own_values : Parts → ℕ → List ℤ → List ℤ
own_values c k level = numbers_in (owned c k)
    (λ p. slice_index_or level (index_in (whole c.shape) p) (pos 0))

-- what a part has of a record: a scalar's line in chunk 0 alone, or its section of a level
abbrev pub line_in : ℕ → Record → List Piece
line_in k r = if k == 0 then Line r ∷ [] else []

abbrev pub section_in : Parts → ℕ → Record → Piece
section_in c k r =
    Box r.full r.iteration k (part_count c) (own_of c k).place.from (own_of c k).size
    (own_values c k r.values)

abbrev pub pieces_by : Parts → ℕ → List ℕ → Record → List Piece
pieces_by c k [] r = line_in k r
pieces_by c k (n ∷ ns) r = section_in c k r ∷ []

abbrev pub pieces_in : Parts → ℕ → Record → List Piece
pieces_in c k r = pieces_by c k r.size r

-- and of the records of all variables, variable by variable
abbrev pub pieces_of : Parts → List (List Record) → ℕ → List Piece
pieces_of c records k = flat_map (flat_map (pieces_in c k)) records

-- the text of a part's chunk
abbrev pub chunk_text : Parts → List (List Record) → ℕ → List ℕ
chunk_text c records k = flat_map piece_text (pieces_of c records k)

abbrev pub chunk_texts : Parts → List (List Record) → List (List ℕ)
chunk_texts c records = map (chunk_text c records) (range_with_len 0 (part_count c))

-- texts of parts, from part k on, to each of which what its part has of one more record is added
abbrev pub with_record : Parts → Record → ℕ → List (List ℕ) → List (List ℕ)
with_record c r k [] = []
with_record c r k (text ∷ texts) =
    (text ++ flat_map piece_text (pieces_in c k r)) ∷ with_record c r (k + 1) texts

-- Texts of chunks are added the records of one more variable, or one more record of the last one.
abbrev pub AddsVariable : Parts → List Record → List (List ℕ) → List (List ℕ) → Type 0
AddsVariable c records old new =
    (done : List (List Record)) → old ≡ chunk_texts c done
    → new ≡ chunk_texts c (done ++ records ∷ [])

abbrev pub AddsRecord : Parts → Record → List (List ℕ) → List (List ℕ) → Type 0
AddsRecord c r old new =
    (done : List (List Record)) (records : List Record)
    → old ≡ chunk_texts c (done ++ records ∷ [])
    → new ≡ chunk_texts c (done ++ (records ++ r ∷ []) ∷ [])
