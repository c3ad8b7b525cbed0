use Rattle.std.proofs.Common.{◌≡◌, refl, pos, [], ◌∷◌, ◌++◌, codes, true, false, List, Ok, Err}
use Rattle.std.specs.Fmt.{digits}
use Rattle.cx_text.specs.declared.ctype.CType.TheVariants.{Byte}
use Rattle.cx_grid.specs.declared.shapes.Shape.{Shape}
use Rattle.cx_plan.specs.Setups.{Setup}
use Rattle.cx_cut.specs.Cuts.{Parts}
use Rattle.cx_ascii_read.specs.declared.record.Record.{Record}
use Rattle.cx_chunks.specs.declared.fault.ChunkFault.TheVariants.{Stranger, Double, Missing}
use Rattle.cx_chunks.specs.declared.piece.Piece.{Piece}
use Rattle.cx_chunks.specs.Cutting.{chunk_text, pieces_of}
use Rattle.cx_chunks.specs.Combining.{combined}

-- eight points of an automaton in a ring, in parts of 3 and 5 points
abbrev ring : Shape
ring = record {
  dims = 1;
  n = record { x = pos 8; y = pos 1; z = pos 1 };
  ghost_ = record { x = pos 1; y = pos 0; z = pos 0 };
  periodic = true ∷ false ∷ false ∷ [];
}

abbrev setup : Setup
setup = record {
  shape = ring;
  vars = record { full = codes "ca::cell"; ctype = Byte; scalar = false; levels = 1 }
      ∷ record { full = codes "ca::live"; ctype = Byte; scalar = true; levels = 1 } ∷ [];
  items = [];
  steers = [];
  bins = [];
  itlast = 2;
  while_limit = 1;
  out_every = pos 1;
  out_vars = record { 0 = 0 } ∷ record { 0 = 1 } ∷ [];
  chk_every = pos 0;
  on_end = false;
}

abbrev parts : Parts
parts = record { shape = ring; x = 3 ∷ 5 ∷ []; y = 1 ∷ []; z = 1 ∷ [] }

abbrev cells : Record
cells = record {
  full = codes "ca::cell";
  iteration = 2;
  size = 8 ∷ [];
  values = pos 0 ∷ pos 1 ∷ pos 0 ∷ pos 0 ∷ pos 0 ∷ pos 1 ∷ pos 0 ∷ pos 0 ∷ [];
}

abbrev live : Record
live = record { full = codes "ca::live"; iteration = 2; size = []; values = pos 2 ∷ [] }

abbrev records : List (List Record)
records = (cells ∷ []) ∷ (live ∷ []) ∷ []

abbrev chunks : List (List Piece)
chunks = pieces_of parts records 0 ∷ pieces_of parts records 1 ∷ []

first_part : chunk_text parts records 0
    ≡ codes
    "# ca::cell iteration 2 part 0 of 2 from 0 size 3\n0 1 0\n\n# ca::live iteration 2 value 2\n"
unfolding digits
first_part = refl

second_part : chunk_text parts records 1
    ≡ codes "# ca::cell iteration 2 part 1 of 2 from 3 size 5\n0 0 1 0 0\n\n"
unfolding digits
second_part = refl

together : combined setup parts chunks
    ≡ Ok (codes "# ca::cell iteration 2 size 8\n0 1 0 0 0 1 0 0\n\n"
    ∷ codes "# ca::live iteration 2 value 2\n" ∷ [])
unfolding digits
together = refl

one_missing : combined setup parts (pieces_of parts records 0 ∷ [] ∷ [])
    ≡ Err (Missing 1 (codes "ca::cell") 2)
one_missing = refl

one_copied : combined setup parts (pieces_of parts records 1 ∷ pieces_of parts records 1 ∷ [])
    ≡ Err (Stranger 0 (codes "ca::cell") 2)
one_copied = refl

one_twice : combined setup parts
    (pieces_of parts (records ++ records) 0 ∷ pieces_of parts records 1 ∷ [])
    ≡ Err (Double 0 (codes "ca::cell") 2)
one_twice = refl

none_at_all : combined setup parts ([] ∷ [] ∷ []) ≡ Ok ([] ∷ [] ∷ [])
none_at_all = refl
