-- Messages, and what one operation of a part takes, posts, hands in and leaves.
--
-- A wire tells what it carries, or nothing is known of it. What a wire tells is a function from
-- `tells`, the wire's own statement that it carries the truth: of a wire that tells nothing such a
-- function says nothing, so these definitions serve for both.
use Rattle.std.specs.Prelude.{ℕ, zero, suc, ◌+◌, ◌*◌, ◌<◌, ◌≡◌, Bool, true, ◌&&◌, ◌==◌, nat_lt, ℤ, pos, List, [], ◌∷◌, ◌++◌, map, length, drop, Option, Some, None, cond, if◌then◌else◌, slice_index_or}
use Rattle.cx_grid.specs.declared.boxes.Point.{Point}
use Rattle.cx_grid.specs.declared.shapes.Side.{Side}
use Rattle.cx_grid.specs.declared.shapes.Side.TheVariants.{Low, High}
use Rattle.cx_grid.specs.Boxes.{IsIn, point_count, index_in, numbers_in}
use Rattle.cx_plan.specs.declared.variable.VarId.{VarId}
use Rattle.cx_plan.specs.Lookups.{item, is_scalar}
use Rattle.cx_plan.specs.Steering.{item_at}
use Rattle.cx_plan.specs.Regions.{is_among}
use Rattle.cx_rule.specs.States.{State, scalar_of, rotate}
use Rattle.cx_rule.specs.Sweeps.{Values, first_point}
use Rattle.cx_model.specs.Courses.{by_zero}
use Rattle.cx_cut.specs.Cuts.{face_of, halo_of, owned, local}
use Rattle.cx_cut.specs.Neighbours.{partner}
use Rattle.cx_flat.specs.declared.op.Op.{Op}
use Rattle.cx_flat.specs.declared.op.Op.TheVariants.{Sweep, Apply, Give, Join, Post, Take, Test, Open, Turn, Again, Rotate, Due, Written, Skip, Next, Piece, Save, Halt}
use Rattle.cx_flat.specs.Flats.{last_turns, control_after}
use Rattle.law_parts.specs.Holding.{Held, local_values, numbers_of, state_in, part_sweep, part_rule, partial, joined, join_turn}
use Rattle.law_parts.specs.Runs.{Run, cut_of, parts_in}
use Rattle.cx_plan.specs.Lists.{only, is_at}

-- the sender's operations done (modulo 2^64 in a head), the direction, the side of the sent face,
-- the number of values
pub record Head : Type 0 where
  pub op : ℕ
  pub dir : ℕ
  pub side : Side
  pub count : ℕ

pub data Message (tells : Type 0) : Type 0 where
  -- a face
  Sent : Head → (tells → List ℤ) → Message tells
  -- a number for a reduction
  Given : ℤ → Message tells
  -- a piece of output or of a checkpoint, with its place: the owned numbers
  Handed : ℕ → (tells → State) → Message tells

-- from one part to another: by the wire, and by the core's own board
pub data Channel : Type 0 where
  Wire : (a b : ℕ) → Channel
  Board : (a b : ℕ) → Channel

abbrev pub sender : Channel → ℕ
sender (Wire a b) = a
sender (Board a b) = a

abbrev pub receiver : Channel → ℕ
receiver (Wire a b) = b
receiver (Board a b) = b

-- the values of the local points that a part holds
abbrev pub held_values : Run → ℕ → State → Values
held_values r k numbers = local_values r.setup (local (cut_of r) k) numbers

-- both ends are parts
abbrev pub is_there : Run → Channel → Bool
is_there r c = nat_lt (sender c) (parts_in r) && nat_lt (receiver c) (parts_in r)

-- ---- what is taken

-- part b's high neighbour sent its low face first
abbrev pub takes_from : Run → ℕ → ℕ → ℕ → ℕ
takes_from r b d a =
    cond (is_at (partner (cut_of r) b d High) a) 1 0
    + cond (is_at (partner (cut_of r) b d Low) a) 1 0

abbrev pub wire_wants : Run → ℕ → ℕ → Op → ℕ
wire_wants r a b (Take d vars path) = takes_from r b d a
wire_wants r a b _ = 0

abbrev pub board_wants : Op → ℕ
board_wants (Join k) = 1
board_wants _ = 0

abbrev pub op_wants : Run → Op → Channel → ℕ
op_wants r o (Wire a b) = wire_wants r a b o
op_wants r o (Board a b) = board_wants o

-- ---- what is posted

abbrev pub face_head : Run → ℕ → ℕ → ℕ → Side → List VarId → Head
face_head r n a d side vars =
    record {
      op = n;
      dir = d;
      side = side;
      count = length vars * point_count (face_of (cut_of r) a d side);
    }

-- the low face to the low neighbour, then the high face to the high one
abbrev pub posted_faces : {tells : Type 0} → Run → ℕ → ℕ → (Side → tells → List ℤ) → ℕ → List VarId
    → ℕ → List (Message tells)
posted_faces r n a values d vars b =
    only (is_at (partner (cut_of r) a d Low) b)
    (Sent (face_head r n a d Low vars) (values Low) ∷ [])
    ++ only (is_at (partner (cut_of r) a d High) b)
    (Sent (face_head r n a d High vars) (values High) ∷ [])

-- what a part that has done n operations posts, by the values of its faces and its number for a
-- reduction
abbrev pub op_posts : {tells : Type 0} → Run → Op → ℕ → (ℕ → List VarId → Side → tells → List ℤ)
    → (ℕ → ℤ) → Channel
    → List (Message tells)
op_posts r (Post d vars) n faces number (Wire a b) = posted_faces r n a (faces d vars) d vars b
op_posts r (Give k) n faces number (Board a b) = Given (number k) ∷ []
op_posts r _ n faces number c = []

-- by a part's values, its own or those of the undivided run: the values of a face, and its number
-- for a reduction
abbrev pub faces_by : {tells : Type 0} → Run → ℕ → Values → ℕ → List VarId → Side → tells → List ℤ
faces_by r k values d vars side t = numbers_of values (face_of (cut_of r) k d side) vars

abbrev pub number_by : Run → ℕ → Values → ℕ → ℤ
number_by r k values i = partial values (owned (cut_of r) k) (item r.setup i)

-- ---- what is handed in

-- the buffer of a variable's output is that of its number, the buffer of a checkpoint the first one
-- behind
abbrev pub buffer_of : Run → Op → Option ℕ
buffer_of r (Piece v) = Some v.0
buffer_of r Save = Some (length r.setup.vars)
buffer_of r _ = None

-- by a part's values: a variable's current level over the owned points, or a scalar's number; and a
-- state over the owned points
abbrev pub piece_by : {tells : Type 0} → Run → ℕ → Values → VarId → tells → List ℤ
piece_by r k values v t =
    if is_scalar r.setup v then values v 0 first_point ∷ []
    else numbers_in (owned (cut_of r) k) (values v 0)

abbrev pub state_by : {tells : Type 0} → Run → ℕ → Values → State → tells → State
state_by r k values state t = state_in r.setup values (owned (cut_of r) k) 0 state

abbrev pub op_hands : {tells : Type 0} → Run → Op → ℕ → (VarId → tells → List ℤ) → (tells → State)
    → List (Message tells)
op_hands r (Piece v) n piece all = Handed n (λ t. (piece v t ∷ []) ∷ []) ∷ []
op_hands r Save n piece all = Handed n all ∷ []
op_hands r _ n piece all = []

-- ---- what is left

-- the front message's values, and the last one's
abbrev pub front_values : {tells : Type 0} → tells → List (Message tells) → List ℤ
front_values t [] = []
front_values t (Sent h values ∷ ms) = values t
front_values t (Given number ∷ ms) = []
front_values t (Handed n s ∷ ms) = []

abbrev pub given_number : {tells : Type 0} → List (Message tells) → ℤ
given_number (Given number ∷ ms) = number
given_number [] = pos 0
given_number (Sent h values ∷ ms) = pos 0
given_number (Handed n s ∷ ms) = pos 0

-- the layers beyond a side are filled with the values of a message; a variable's values stand
-- behind those of the ones before it
abbrev pub IsFilled : Run → ℕ → ℕ → List VarId → Side → List ℤ → State → Type 0
IsFilled r k d vars side values numbers =
    (i : ℕ) (p : Point) → i < length vars → IsIn (halo_of (cut_of r) k d side) p
    → held_values r k numbers (slice_index_or vars i (record { 0 = 0 })) 0 p
    ≡ slice_index_or values
    (i * point_count (halo_of (cut_of r) k d side) + index_in (halo_of (cut_of r) k d side) p)
    (pos 0)

-- neither variable nor level nor point of those that an exchange fills
abbrev pub IsKept : Run → ℕ → ℕ → List VarId → VarId → ℕ → Point → Type 0
IsKept r k d vars v level p =
    (is_among v vars && level == 0 ≡ true)
    → (IsIn (halo_of (cut_of r) k d Low) p → (partner (cut_of r) k d Low ≡ None))
    × (IsIn (halo_of (cut_of r) k d High) p → (partner (cut_of r) k d High ≡ None))

-- the same number of levels, and of numbers in each
abbrev pub same_lengths : State → State → Type 0
same_lengths a b = map (map length) a ≡ map (map length) b

-- the ghost points of a direction are filled from the messages taken; all else is kept
pub record Filled (tells : Type 0) (r : Run) (k d : ℕ) (vars : List VarId)
    (mails : Channel → List (Message tells)) (old new : State) : Type 0 where
  pub sized : same_lengths new old
  pub high : (t : tells) (j : ℕ) → partner (cut_of r) k d High ≡ Some j
      → IsFilled r k d vars High (front_values t (mails (Wire j k))) new
  -- where both neighbours are one part, the low one's message is its second
  pub low : (t : tells) (j : ℕ) → partner (cut_of r) k d Low ≡ Some j
      → IsFilled r k d vars Low
      (front_values t (drop (cond (is_at (partner (cut_of r) k d High) j) 1 0)
      (mails (Wire j k)))) new
  pub kept : (v : VarId) (level : ℕ) (p : Point) → IsIn (local (cut_of r) k) p
      → IsKept r k d vars v level p
      → held_values r k new v level p ≡ held_values r k old v level p
  pub scalars : (v : VarId) → is_scalar r.setup v ≡ true → scalar_of new v ≡ scalar_of old v

-- the part goes on with these numbers, by the control that its scalars lead to
pub record Goes (r : Run) (o : Op) (x y : Held) : Type 0 where
  pub count : y.count ≡ suc x.count
  pub control : y.control ≡ control_after r.setup o (scalar_of x.numbers) x.control

-- what an operation leads to, where it gives numbers or none
abbrev pub Gives : Run → Op → Held → Option State → Option Held → Type 0
Gives r o x None None = Unit {0}
Gives r o x None (Some y) = ⊥
Gives r o x (Some numbers) None = ⊥
Gives r o x (Some numbers) (Some y) = Goes r o x y × (y.numbers ≡ numbers)

-- a WHILE that finds its scalar not 0 behind its last turn
abbrev pub turn_state : Run → VarId → Held → Option State
turn_state r v x =
    if last_turns x.control.opened == r.setup.while_limit
    then by_zero (scalar_of x.numbers v) (Some x.numbers) None
    else Some x.numbers

-- the numbers of all parts for a reduction
abbrev pub all_given : {tells : Type 0} → ℕ → (Channel → List (Message tells)) → ℕ → List ℤ
all_given k mails zero = []
all_given k mails (suc a) = all_given k mails a ++ given_number (mails (Board a k)) ∷ []

-- What an operation may lead to, by the messages that it takes; none where it meets an end. Each is
-- decided by what the part holds but for what a Take fills, of which nothing is said where wires
-- don't tell.
abbrev pub Moves : (tells : Type 0) → Run → ℕ → Held → (Channel → List (Message tells)) → Op
    → Option Held → Type 0
Moves tells r k x mails (Sweep i) o =
    Gives r (Sweep i) x (part_sweep r.setup r.rules (cut_of r) k
    (item_at r.setup i x.control.iteration) x.numbers x.control.iteration) o
Moves tells r k x mails (Apply i) o =
    Gives r (Apply i) x (part_rule r.setup r.rules (item_at r.setup i x.control.iteration)
    x.numbers x.control.iteration) o
Moves tells r k x mails (Give i) o = Gives r (Give i) x (Some x.numbers) o
Moves tells r k x mails (Join i) o =
    Gives r (Join i) x
    (join_turn r.setup (item r.setup i) x.numbers
    (joined (item r.setup i).kind (all_given k mails (parts_in r)))) o
Moves tells r k x mails (Post d vars) o = Gives r (Post d vars) x (Some x.numbers) o
Moves tells r k x mails (Take d vars path) None = ⊥
Moves tells r k x mails (Take d vars path) (Some y) =
    Goes r (Take d vars path) x y × Filled tells r k d vars mails x.numbers y.numbers
Moves tells r k x mails (Test v path skip) o = Gives r (Test v path skip) x (Some x.numbers) o
Moves tells r k x mails Open o = Gives r Open x (Some x.numbers) o
Moves tells r k x mails (Turn v path skip) o = Gives r (Turn v path skip) x (turn_state r v x) o
Moves tells r k x mails (Again back) o = Gives r (Again back) x (Some x.numbers) o
Moves tells r k x mails Rotate o = Gives r Rotate x (Some (rotate x.numbers)) o
Moves tells r k x mails (Due skip) o = Gives r (Due skip) x (Some x.numbers) o
Moves tells r k x mails (Written skip) o = Gives r (Written skip) x (Some x.numbers) o
Moves tells r k x mails (Skip skip) o = Gives r (Skip skip) x (Some x.numbers) o
Moves tells r k x mails (Next back) o = Gives r (Next back) x (Some x.numbers) o
Moves tells r k x mails (Piece v) o = Gives r (Piece v) x (Some x.numbers) o
Moves tells r k x mails Save o = Gives r Save x (Some x.numbers) o
Moves tells r k x mails Halt o = Gives r Halt x (Some x.numbers) o
