-- What a part posts in a direction: its faces, each to the neighbour at that side.
use Rattle.std.specs.Prelude.{ℕ, ◌*◌, ◌<◌, ◌≡◌, ◌==◌, ◌^◌, Bool, true, false, ℤ, List, [], ◌∷◌, ◌++◌, length, Option, Some, None, if◌then◌else◌, ⊤}
use Rattle.cx_grid.specs.declared.shapes.Side.{Side}
use Rattle.cx_grid.specs.declared.shapes.Side.TheVariants.{Low, High}
use Rattle.cx_grid.specs.Boxes.{point_count}
use Rattle.cx_plan.specs.declared.variable.VarId.{VarId}
use Rattle.cx_cut.specs.Cuts.{Parts, IsWhole, part_count, owned, local, face_of}
use Rattle.cx_cut.specs.Neighbours.{partner}
use Rattle.cx_field.specs.Patches.{PatchValue}
use Rattle.cx_field.specs.Faces.{AreGrid, box_numbers}
use Rattle.cx_wire.specs.declared.mail.Head.{Head}
use Rattle.cx_wire.specs.declared.mail.Mail.{Mail}
use Rattle.cx_wire.specs.Messages.{Sent, sent, IsCounted}
use Rattle.cx_plan.specs.Lists.{only, is_at}

-- how many values a face of these variables has
abbrev pub face_count : Parts → ℕ → ℕ → List VarId → Side → ℕ
face_count c k d vars side = length vars * point_count (face_of c k d side)

-- a part with its patch, a direction of the grid, and stored grid variables whose faces have fewer
-- than 2^32 values
pub record CanExchange (c : Parts) (k d : ℕ) (vars : List VarId) (p : PatchValue) : Type 0 where
  pub whole : IsWhole c
  pub part : k < part_count c
  pub shape_is : p.shape ≡ c.shape
  pub owned_is : p.owned ≡ owned c k
  pub local_is : p.local ≡ local c k
  pub direction : d < c.shape.dims
  pub stored : AreGrid p vars
  pub few : (side : Side) → face_count c k d vars side < 2 ^ 32

-- ---- messages

abbrev pub face_head : Parts → ℕ → ℕ → List VarId → ℕ → Side → Head
face_head c k d vars op side =
    record { op = op; dir = d; side = side; count = face_count c k d vars side }

-- a face for part b
abbrev pub posted_face : {tells : Type 0} → Parts → ℕ → ℕ → List VarId → ℕ → (Side → tells → List ℤ)
    → ℕ → Side → List (Sent tells)
posted_face c k d vars op values b side =
    only (is_at (partner c k d side) b)
    (record { head = face_head c k d vars op side; values = values side } ∷ [])

abbrev pub low_face : {tells : Type 0} → Parts → ℕ → ℕ → List VarId → ℕ → (Side → tells → List ℤ)
    → ℕ → List (Sent tells)
low_face c k d vars op values b = posted_face c k d vars op values b Low

-- what part b is sent: the low face, where it is the low neighbour, and then the high face, where
-- it is the high one
abbrev pub posted_faces : {tells : Type 0} → Parts → ℕ → ℕ → List VarId → ℕ
    → (Side → tells → List ℤ) → ℕ → List (Sent tells)
posted_faces c k d vars op values b =
    posted_face c k d vars op values b Low ++ posted_face c k d vars op values b High

-- the faces of a patch
abbrev pub own_faces : {tells : Type 0} → Parts → ℕ → ℕ → List VarId → PatchValue → Side → tells
    → List ℤ
own_faces c k d vars p side told = box_numbers p (face_of c k d side) vars

-- ---- queues

-- one part has added to its queues
abbrev pub Adds : {M : Type 0} → ℕ → (ℕ → List M) → (old new : ℕ → ℕ → List M) → Type 0
Adds k sent old new = (a b : ℕ) → new a b ≡ old a b ++ (if a == k then sent b else [])

-- a post that fails has sent nothing, or its low face
abbrev pub AddsSome : {M : Type 0} → ℕ → (ℕ → List M) → (old new : ℕ → ℕ → List M) → Type 0
AddsSome k first old new = (some : Bool) × Adds k (λ b. only some (first b)) old new

-- ---- in the code's terms

abbrev pub IsBelow : ℕ → Option ℕ → Type 0
IsBelow n None = ⊤
IsBelow n (Some j) = j < n

-- a mail with these values
abbrev pub face_mail : ℕ → ℕ → Side → List ℤ → Mail
face_mail op d side values =
    record {
      head = record { op = op; dir = d; side = side; count = length values };
      values = values;
    }

abbrev pub mail_to : Option ℕ → Mail → Option (ℕ × Mail)
mail_to None mail = None
mail_to (Some j) mail = Some (j, mail)

-- it goes to a part below n, and has as many values as its head says
abbrev pub IsCountedTo : ℕ → Option (ℕ × Mail) → Type 0
IsCountedTo n None = ⊤
IsCountedTo n (Some m) = (m.0 < n) × IsCounted m.1

-- what part b is sent
abbrev pub sent_to : {tells : Type 0} → Option (ℕ × Mail) → ℕ → List (Sent tells)
sent_to None b = []
sent_to (Some m) b = only (m.0 == b) (sent m.1 ∷ [])
