-- What is cut into chunks comes together again.
use Rattle.std.specs.Prelude.{ℕ, ◌<◌, ◌≡◌, ℤ, pos, List, map, slice_index_or, Ok}
use Rattle.std.specs.List.{flat_map, range_with_len}
use Rattle.cx_grid.specs.declared.boxes.Point.{Point}
use Rattle.cx_grid.specs.Boxes.{IsIn, index_in}
use Rattle.cx_grid.specs.Grid.{whole}
use Rattle.cx_plan.specs.declared.job.Job.{Job}
use Rattle.cx_plan.specs.Setups.{setup_of}
use Rattle.cx_cut.specs.Cuts.{Parts, IsWhole as IsWholeCut, part_count, owned}
use Rattle.cx_ascii_read.specs.declared.record.Record.{Record}
use Rattle.cx_ascii_read.specs.Records.{record_text}
use Rattle.cx_chunks.specs.Pieces.{SpellsChunk}
use Rattle.cx_chunks.specs.Cutting.{AreOutputs, pieces_of, chunk_text}
use Rattle.cx_chunks.specs.Combining.{combined, joined}

-- a cut of a job's grid
pub record IsCutOf (job : Job) (c : Parts) : Type 0 where
  pub shape : c.shape ≡ job.shape
  pub whole : IsWholeCut c

-- the text of a part's chunk is read as its pieces
abbrev pub ChunksAreRead : Job → Type 0
ChunksAreRead job =
    (c : Parts) (records : List (List Record)) (k : ℕ) → IsCutOf job c
    → AreOutputs (setup_of job) job.out_vars records
    → k < part_count c → SpellsChunk (chunk_text c records k) (pieces_of c records k)

-- the pieces of all parts are combined into the text of the records
abbrev pub PiecesJoin : Job → Type 0
PiecesJoin job =
    (c : Parts) (records : List (List Record)) → IsCutOf job c
    → AreOutputs (setup_of job) job.out_vars records
    → combined (setup_of job) c (map (pieces_of c records) (range_with_len 0 (part_count c)))
    ≡ Ok (map (flat_map record_text) records)

-- a level that is joined has at each point the value of the part that owns it
abbrev pub OwnersCount : Job → Type 0
OwnersCount job =
    (c : Parts) (values : ℕ → List ℤ) (k : ℕ) (p : Point) → IsCutOf job c → k < part_count c
    → IsIn (owned c k) p
    → slice_index_or (joined c values) (index_in (whole c.shape) p) (pos 0)
    ≡ slice_index_or (values k) (index_in (owned c k) p) (pos 0)
