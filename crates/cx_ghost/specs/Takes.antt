-- What a part needs in a direction, and what taking it leaves.
use Rattle.std.specs.Prelude.{ℕ, ◌+◌, ◌*◌, ◌%◌, ◌^◌, ◌≡◌, ◌≢◌, ◌==◌, ◌&&◌, IsTrue, ◌⊎◌, true, ℤ, List, [], ◌∷◌, ◌++◌, length, map, drop, Option, Some, None, Result, Ok, Err, if◌then◌else◌, ⊤}
use Rattle.cx_grid.specs.declared.boxes.Point.{Point}
use Rattle.cx_grid.specs.declared.boxes.Box3.{Box3}
use Rattle.cx_grid.specs.declared.shapes.Side.{Side}
use Rattle.cx_grid.specs.declared.shapes.Side.TheVariants.{Low, High}
use Rattle.cx_grid.specs.Boxes.{IsIn, point_count}
use Rattle.cx_plan.specs.declared.variable.VarId.{VarId}
use Rattle.cx_plan.specs.Lists.{or_else, only, is_at}
use Rattle.cx_plan.specs.Lookups.{is_scalar}
use Rattle.cx_plan.specs.Regions.{is_among}
use Rattle.cx_rule.specs.States.{scalar_of}
use Rattle.cx_cut.specs.Cuts.{Parts, halo_of}
use Rattle.cx_cut.specs.Neighbours.{partner}
use Rattle.cx_field.specs.Patches.{PatchValue, setup_in, values_in, with_numbers}
use Rattle.cx_field.specs.Faces.{IsFilled, Filled}
use Rattle.cx_wire.specs.Messages.{Sent}
use Rattle.cx_wire.specs.Received.{counted}
use Rattle.cx_wire.specs.declared.wire.Wire.{Ghosts}
use Rattle.cx_ghost.specs.declared.faults.TakeFault.{TakeFault}
use Rattle.cx_ghost.specs.declared.faults.TakeFault.TheVariants.{NotYet, Wire}
use Rattle.cx_ghost.specs.Posts.{face_count}
use Rattle.cx_text.specs.Numbers.{word_sum}

-- ---- what is needed

-- the faces that part k needs of part a: the low one of its high neighbour, then the high one of
-- its low neighbour
abbrev pub needed : Parts → ℕ → ℕ → ℕ → List Side
needed c k d a = only (is_at (partner c k d High) a) (Low ∷ [])
    ++ only (is_at (partner c k d Low) a) (High ∷ [])

-- a message with a face of part a
pub record IsFace {tells : Type 0} (c : Parts) (a d : ℕ) (vars : List VarId) (side : Side)
    (m : Sent tells) : Type 0 where
  pub direction : m.head.dir ≡ d
  pub side_is : m.head.side ≡ side
  pub count : m.head.count ≡ face_count c a d vars side

-- a queue begins with these faces
abbrev pub BeginsWith : {tells : Type 0} → Parts → ℕ → ℕ → List VarId → List Side
    → List (Sent tells) → Type 0
BeginsWith c a d vars [] q = ⊤
BeginsWith c a d vars (side ∷ sides) [] = ⊥
BeginsWith c a d vars (side ∷ sides) (m ∷ q) =
    IsFace c a d vars side m × BeginsWith c a d vars sides q

-- each queue to part k is empty, or begins with all that is needed of it
abbrev pub IsReady : {tells : Type 0} → Parts → ℕ → ℕ → List VarId → (ℕ → ℕ → List (Sent tells))
    → Type 0
IsReady c k d vars q = (a : ℕ) → (q a k ≡ []) ⊎ BeginsWith c a d vars (needed c k d a) (q a k)

-- ---- what is missing

abbrev pub missing_of : {M : Type 0} → List M → ℕ → ℕ → Option TakeFault
missing_of [] a k = Some (NotYet a k)
missing_of (m ∷ q) a k = None

abbrev pub missing_from : {M : Type 0} → Option ℕ → ℕ → (ℕ → ℕ → List M) → Option TakeFault
missing_from None k q = None
missing_from (Some a) k q = missing_of (q a k) a k

-- the first message that is needed and isn't there, the high neighbour's sought first
abbrev pub missing : {M : Type 0} → Parts → ℕ → ℕ → (ℕ → ℕ → List M) → Option TakeFault
missing c k d q = or_else (missing_from (partner c k d High) k q)
    (missing_from (partner c k d Low) k q)

-- this is told where something is missing, and else nothing is said to be missing
abbrev pub TellsMissing : {A : Type 0} → Option TakeFault → Result A TakeFault → Type 0
TellsMissing (Some fault) result = result ≡ Err fault
TellsMissing None (Ok x) = ⊤
TellsMissing None (Err (NotYet a k)) = ⊥
TellsMissing None (Err Wire) = ⊤

abbrev pub IsNotYet : {A : Type 0} → Result A TakeFault → Type 0
IsNotYet (Ok x) = ⊥
IsNotYet (Err (NotYet a k)) = ⊤
IsNotYet (Err Wire) = ⊥

-- one message is sought
abbrev pub FindsMissing : {A : Type 0} → Option TakeFault → Result A TakeFault → Type 0
FindsMissing fault (Ok x) = fault ≡ None
FindsMissing fault (Err e) = fault ≡ Some e

-- ---- what is taken

abbrev pub front_values : {tells : Type 0} → tells → List (Sent tells) → List ℤ
front_values told [] = []
front_values told (m ∷ q) = m.values told

-- the queue of a neighbour behind what the high one sent: where both neighbours are one part, its
-- second message is the low one's
abbrev pub behind_high : {M : Type 0} → Parts → ℕ → ℕ → (ℕ → ℕ → List M) → ℕ → List M
behind_high c k d q a = drop (if is_at (partner c k d High) a then 1 else 0) (q a k)

-- the queues to part k have lost what was needed of them, and the others are as before
abbrev pub TakesNeeded : {M : Type 0} → Parts → ℕ → ℕ → (old new : ℕ → ℕ → List M) → Type 0
TakesNeeded c k d old new = (a b : ℕ)
    → new a b ≡ (if b == k then drop (length (needed c k d a)) (old a b) else old a b)

-- the ghosts at each side have the values of the neighbour's message
pub record Fills (tells : Type 0) (c : Parts) (k d : ℕ) (vars : List VarId)
    (q : ℕ → ℕ → List (Sent tells)) (new : PatchValue) : Type 0 where
  pub high : (told : tells) (a : ℕ) → partner c k d High ≡ Some a
      → IsFilled new vars (halo_of c k d High) (front_values told (q a k))
  pub low : (told : tells) (a : ℕ) → partner c k d Low ≡ Some a
      → IsFilled new vars (halo_of c k d Low) (front_values told (behind_high c k d q a))

-- a number that no message is for: of another variable or level, or of a point that isn't a ghost
-- with a neighbour
abbrev pub IsKept : Parts → ℕ → ℕ → List VarId → VarId → ℕ → Point → Type 0
IsKept c k d vars v level y =
    (is_among v vars && level == 0 ≡ true) → (side : Side) → IsIn (halo_of c k d side) y
    → partner c k d side ≡ None

-- all but the ghosts of a direction is as before
pub record Keeps (c : Parts) (k d : ℕ) (vars : List VarId) (old new : PatchValue) : Type 0 where
  pub frame : with_numbers new old.numbers ≡ old
  pub sized : map (map length) new.numbers ≡ map (map length) old.numbers
  pub kept : (v : VarId) (level : ℕ) (y : Point) → IsIn old.local y → IsKept c k d vars v level y
      → values_in new v level y ≡ values_in old v level y
  pub scalars : (v : VarId) → is_scalar (setup_in old) v ≡ true
      → scalar_of new.numbers v ≡ scalar_of old.numbers v

-- ---- the received numbers

abbrev pub count_from : Option ℕ → ℕ → ℕ
count_from None n = 0
count_from (Some a) n = n

-- how many values come from a side
abbrev pub side_count : Parts → ℕ → ℕ → List VarId → Side → ℕ
side_count c k d vars side =
    count_from (partner c k d side) (length vars * point_count (halo_of c k d side))

abbrev pub taken_count : Parts → ℕ → ℕ → List VarId → ℕ
taken_count c k d vars = side_count c k d vars High + side_count c k d vars Low

abbrev pub sum_from : {tells : Type 0} → tells → Option ℕ → (ℕ → List (Sent tells)) → ℕ
sum_from told None q = 0
sum_from told (Some a) q = word_sum (front_values told (q a))

-- the sum of the values taken
abbrev pub taken_sum : {tells : Type 0} → tells → Parts → ℕ → ℕ → (ℕ → ℕ → List (Sent tells)) → ℕ
taken_sum told c k d q =
    sum_from told (partner c k d High) (λ a. q a k)
    + sum_from told (partner c k d Low) (behind_high c k d q)

-- ---- one side

-- the queue of a part begins with a message of so many values
abbrev pub StartsWith : {tells : Type 0} → List (Sent tells) → ℕ → Type 0
StartsWith [] n = ⊥
StartsWith (m ∷ q) n = m.head.count ≡ n

abbrev pub IsFronted : {tells : Type 0} → Option ℕ → (ℕ → List (Sent tells)) → ℕ → Type 0
IsFronted None q n = ⊤
IsFronted (Some a) q n = StartsWith (q a) n

-- the ghosts of a box are filled from the message in front, where there is a part that it comes
-- from
abbrev pub FilledFrom : (tells : Type 0) → Option ℕ → (ℕ → List (Sent tells)) → List VarId → Box3
    → (old new : PatchValue) → Type 0
FilledFrom tells None q vars b old new = new ≡ old
FilledFrom tells (Some a) q vars b old new =
    (values : List ℤ) × ((told : tells) → values ≡ front_values told (q a))
    × Filled old new vars b values

-- ---- what is left where the wire failed

-- what was received before the message from a side was asked for: the high neighbour's, before the
-- low one's
abbrev pub taken_before : Parts → ℕ → ℕ → Side → Option ℕ
taken_before c k d High = None
taken_before c k d Low = partner c k d High

-- The message from the high neighbour alone was received, where that is `from`; with none, nothing
-- was. The ghosts at the high side are filled from it.
pub record TakesHigh {W : Type 0} (g : Ghosts W) (c : Parts) (k d : ℕ) (vars : List VarId)
    (from : Option ℕ) (old new : PatchValue) (wire after : W) : Type 0 where
  pub patch : FilledFrom (IsTrue g.tells) from (λ a. g.queue wire a k) vars (halo_of c k d High)
      old new
  pub queues : (a b : ℕ) → g.queue after a b
      ≡ drop (if b == k && is_at from a then 1 else 0) (g.queue wire a b)
  pub received : g.received after
      ≡ counted (g.received wire) (count_from from (length vars * point_count (halo_of c k d High)))
  pub sum : (told : IsTrue g.tells)
      → g.sum after ≡ (g.sum wire + sum_from told from (λ a. g.queue wire a k)) % 2 ^ 64

-- The wire failed at the message from a side, where there is a neighbour. What was received before
-- it is taken, and all else is as before.
abbrev pub Stops : {W A : Type 0} → Ghosts W → Parts → ℕ → ℕ → List VarId → (old new : PatchValue)
    → (wire after : W) → Result A TakeFault → Type 0
Stops g c k d vars old new wire after (Ok x) = ⊤
Stops g c k d vars old new wire after (Err (NotYet a b)) = ⊤
Stops g c k d vars old new wire after (Err Wire) =
    (side : Side) × (partner c k d side ≢ None)
    × TakesHigh g c k d vars (taken_before c k d side) old new wire after
