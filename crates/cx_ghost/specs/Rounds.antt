-- What the rounds of an exchange give together, over all parts. A round is one direction: each part
-- posts its faces, and takes those of its neighbours.
use Rattle.std.specs.Prelude.{ℕ, suc, ◌<◌, ◌≤◌, ◌≡◌, ◌++◌, true, IsTrue, ℤ, List, length, drop}
use Rattle.cx_grid.specs.declared.boxes.Point.{Point}
use Rattle.cx_grid.specs.declared.shapes.Side.{Side}
use Rattle.cx_grid.specs.Boxes.{IsIn}
use Rattle.cx_plan.specs.declared.variable.VarId.{VarId}
use Rattle.cx_cut.specs.Cuts.{Parts, IsWhole, part_count, local}
use Rattle.cx_cut.specs.Exchange.{IsWrapped, AgreesBelow}
use Rattle.cx_field.specs.Patches.{PatchValue, values_in}
use Rattle.cx_field.specs.Faces.{variable_at}
use Rattle.cx_wire.specs.Messages.{Sent}
use Rattle.cx_ghost.specs.Posts.{posted_faces, own_faces}
use Rattle.cx_ghost.specs.Takes.{needed, BeginsWith, Fills, Keeps}

-- a message that is told
abbrev pub Told : Type 0
Told = Sent (IsTrue true)

-- the undivided numbers of the current levels; a point beyond a periodic end stands for one of the
-- grid
abbrev pub Truth : Type 0
Truth = VarId → Point → ℤ

abbrev pub IsTruth : Parts → Truth → Type 0
IsTruth c truth = (v : VarId) → IsWrapped c.shape (truth v)

-- these variables have the undivided numbers at the points that the rounds of the directions below
-- d have come to
abbrev pub AgreeBelow : Parts → ℕ → ℕ → List VarId → Truth → PatchValue → Type 0
AgreeBelow c k d vars truth p =
    (i : ℕ) → i < length vars
    → AgreesBelow c k d (truth (variable_at vars i)) (values_in p (variable_at vars i) 0)

-- what each part has posted in a round, before what else is in the queues
abbrev pub in_queues : Parts → ℕ → List VarId → (ℕ → PatchValue) → (ℕ → ℕ) → (ℕ → ℕ → List Told) → ℕ
    → ℕ → List Told
in_queues c d vars old op behind a b =
    posted_faces c a d vars (op a) (own_faces c a d vars (old a)) b ++ behind a b

-- a round: each part takes what its neighbours posted of their patches as they were before
pub record IsRound (c : Parts) (d : ℕ) (vars : List VarId) (old new : ℕ → PatchValue) : Type 0 where
  pub op : ℕ → ℕ
  pub behind : ℕ → ℕ → List Told
  pub fills : (k : ℕ) → k < part_count c
      → Fills (IsTrue true) c k d vars (in_queues c d vars old op behind) (new k)
  pub keeps : (k : ℕ) → k < part_count c → Keeps c k d vars (old k) (new k)

-- the patches of all parts before an exchange, and after each of its rounds
pub record IsExchange (c : Parts) (vars : List VarId) (after : ℕ → ℕ → PatchValue) : Type 0 where
  pub whole : IsWhole c
  pub parts : (k : ℕ) → k < part_count c → (after 0 k).local ≡ local c k
  pub rounds : (d : ℕ) → d < c.shape.dims → IsRound c d vars (after d) (after (suc d))

-- the owned points have the undivided numbers as it begins
abbrev pub BeginsTrue : Parts → List VarId → Truth → (ℕ → ℕ → PatchValue) → Type 0
BeginsTrue c vars truth after = (k : ℕ) → k < part_count c → AgreeBelow c k 0 vars truth (after 0 k)

-- ---- the laws

-- after the rounds of the directions below d each local point whose coordinates outside the owned
-- box lie in those directions alone has the undivided number
abbrev pub RoundsReach : Type 0
RoundsReach = (c : Parts) (vars : List VarId) (after : ℕ → ℕ → PatchValue) → IsExchange c vars after
    → (truth : Truth) → IsTruth c truth → BeginsTrue c vars truth after
    → (d : ℕ) → d ≤ c.shape.dims → (k : ℕ) → k < part_count c
    → AgreeBelow c k d vars truth (after d k)

-- after all rounds each local point has it, the corners too
abbrev pub AllReached : Type 0
AllReached = (c : Parts) (vars : List VarId) (after : ℕ → ℕ → PatchValue) → IsExchange c vars after
    → (truth : Truth) → IsTruth c truth → BeginsTrue c vars truth after
    → (k : ℕ) → k < part_count c → (i : ℕ) → i < length vars → (y : Point) → IsIn (local c k) y
    → values_in (after c.shape.dims k) (variable_at vars i) 0 y ≡ truth (variable_at vars i) y

-- what part a posts for part k is what part k needs of it: no other head stands in front, and all
-- of it is taken
pub record Meets (c : Parts) (a k d : ℕ) (vars : List VarId)
    (sent behind : List Told) : Type 0 where
  pub begins : BeginsWith c a d vars (needed c k d a) (sent ++ behind)
  pub leaves : drop (length (needed c k d a)) (sent ++ behind) ≡ behind

abbrev pub PostsAreNeeded : Type 0
PostsAreNeeded = (c : Parts) → IsWhole c → (d : ℕ) → d < c.shape.dims → (a k : ℕ) → a < part_count c
    → k < part_count c
    → (vars : List VarId) (op : ℕ) (values : Side → IsTrue true → List ℤ) (behind : List Told)
    → Meets c a k d vars (posted_faces c a d vars op values k) behind
