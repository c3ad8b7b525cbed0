-- Parts of one field, the cell, and what stands in the queues between them.
use Rattle.std.specs.Prelude.{ℕ, ◌<◌, ◌≤◌, ◌≡◌, ◌⊎◌, true, false, IsTrue, ℤ, pos, List, [], ◌∷◌, length, slice_index_or, codes}
use Rattle.cx_text.specs.declared.ctype.CType.TheVariants.{Int}
use Rattle.cx_grid.specs.declared.shapes.Shape.{Shape}
use Rattle.cx_grid.specs.declared.shapes.Side.{Side}
use Rattle.cx_plan.specs.declared.variable.VarId.{VarId}
use Rattle.cx_plan.specs.declared.variable.VarInfo.{VarInfo}
use Rattle.cx_cut.specs.Cuts.{Parts, part_count, owned, local}
use Rattle.cx_field.specs.Patches.{PatchValue, with_numbers}
use Rattle.cx_wire.specs.Messages.{Sent}
use Rattle.cx_wire.specs.Memory.{Carried, sent_queue}
use Rattle.cx_ghost.specs.Posts.{posted_faces, Adds}

-- a ring of eight points, and a block that is open in y
abbrev pub ring : Shape
ring =
    record {
      dims = 1;
      n = record { x = pos 8; y = pos 1; z = pos 1 };
      ghost_ = record { x = pos 1; y = pos 0; z = pos 0 };
      periodic = true ∷ false ∷ false ∷ [];
    }

abbrev pub block : Shape
block =
    record {
      dims = 3;
      n = record { x = pos 4; y = pos 5; z = pos 6 };
      ghost_ = record { x = pos 1; y = pos 1; z = pos 1 };
      periodic = true ∷ false ∷ true ∷ [];
    }

-- one variable of 64 bits
abbrev pub cell_vars : List VarInfo
cell_vars = record { full = codes "cell"; ctype = Int; scalar = false; levels = 1 } ∷ []

abbrev pub cell : List VarId
cell = record { 0 = 0 } ∷ []

-- a part's patch, but for its numbers
abbrev pub bare_part : Parts → ℕ → PatchValue
bare_part c k =
    record {
      shape = c.shape;
      owned = owned c k;
      local = local c k;
      vars = cell_vars;
      numbers = [];
      staged = [];
      room = 0;
    }

abbrev pub IsPartOf : Parts → ℕ → PatchValue → Type 0
IsPartOf c k p = with_numbers p [] ≡ bare_part c k

-- the patches of the first n parts
pub record AreParts (c : Parts) (n : ℕ) (ps : List PatchValue) : Type 0 where
  pub count : length ps ≡ n
  pub each : (k : ℕ) (d : PatchValue) → k < n → IsPartOf c k (slice_index_or ps k d)

abbrev pub HaveCells : List PatchValue → Type 0
HaveCells ps = (k : ℕ) (d : PatchValue) → k < length ps → (slice_index_or ps k d).vars ≡ cell_vars

-- ---- queues

abbrev pub Told : Type 0
Told = Sent (IsTrue true)

abbrev pub told_queue : Carried → ℕ → ℕ → List Told
told_queue w = sent_queue w

-- a queue from part a to part b is empty, or holds what part a posts in a direction
abbrev pub HoldsFaces : Parts → ℕ → ℕ → ℕ → List Told → Type 0
HoldsFaces c d a b q =
    (q ≡ [])
    ⊎ ((a < part_count c) × (values : Side → IsTrue true → List ℤ)
    × (q ≡ posted_faces c a d cell 0 values b))

abbrev pub Holds : Parts → ℕ → (ℕ → ℕ → List Told) → Type 0
Holds c d q = (a b : ℕ) → b < part_count c → HoldsFaces c d a b (q a b)

-- the queues to the first parts are empty, and those from the parts from one on
abbrev pub EmptyTo : Parts → ℕ → (ℕ → ℕ → List Told) → Type 0
EmptyTo c n q = (a b : ℕ) → b < part_count c → b < n → q a b ≡ []

abbrev pub EmptyFrom : Parts → ℕ → (ℕ → ℕ → List Told) → Type 0
EmptyFrom c n q = (a b : ℕ) → b < part_count c → n ≤ a → q a b ≡ []

-- part k posts its faces
abbrev pub Posts : Parts → ℕ → ℕ → (old new : ℕ → ℕ → List Told) → Type 0
Posts c d k old new =
    (values : Side → IsTrue true → List ℤ) × Adds k (posted_faces c k d cell 0 values) old new
