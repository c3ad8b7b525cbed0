-- The parts of a run as a network.
use Rattle.std.specs.Prelude.{ℕ, zero, suc, ◌+◌, ◌*◌, ◌<◌, ◌≤◌, ◌≡◌, Bool, true, false, ℤ, pos, List, [], ◌∷◌, length, filter, Option, Some, None, is_some, cond, slice_index_or}
use Rattle.cx_grid.specs.declared.boxes.Point.{Point}
use Rattle.cx_grid.specs.declared.shapes.Side.{Side}
use Rattle.cx_grid.specs.declared.shapes.Side.TheVariants.{Low, High}
use Rattle.cx_grid.specs.Boxes.{IsIn, point_count, points_in}
use Rattle.cx_grid.specs.Grid.{whole}
use Rattle.cx_plan.specs.declared.variable.VarId.{VarId}
use Rattle.cx_plan.specs.declared.item.Region.{Region}
use Rattle.cx_plan.specs.Lookups.{item, is_scalar, variable}
use Rattle.cx_plan.specs.Regions.{region_of}
use Rattle.cx_rule.specs.States.{State, level_of}
use Rattle.cx_model.specs.Turns.{values_of}
use Rattle.cx_model.specs.Runs.{Lengths, grown_by, greatest_output}
use Rattle.cx_ascii.specs.Output.{section, line}
use Rattle.cx_cut.specs.Cuts.{halo_of, owned, local}
use Rattle.cx_cut.specs.Neighbours.{partner}
use Rattle.cx_flat.specs.declared.op.Op.{Op}
use Rattle.cx_flat.specs.declared.op.Op.TheVariants.{Sweep, Apply, Take, Piece}
use Rattle.cx_flat.specs.Flats.{Control}
use Rattle.law_network.specs.Machine.{Net, World, ByLead, InLockstep, sum_below}
use Rattle.law_network.specs.Agreement.{taken}
use Rattle.law_parts.specs.Holding.{Held, number_at, in_zone, state_in}
use Rattle.law_parts.specs.Runs.{Run, Oracle, cut_of, parts_in, next_op, guided, halts, last_of}
use Rattle.law_parts.specs.Moves.{Wire, Message, Sent, Given, Handed, Channel, sender, receiver, is_there, held_values, op_wants, op_posts, op_hands, faces_by, number_by, piece_by, state_by, buffer_of, Moves}
use Rattle.law_parts.specs.Truths.{script}
use Rattle.cx_text.specs.Numbers.{word_sum}

-- ---- counts

-- how many points a part computes in an item's turn; a reduction's count nothing
abbrev pub zone_points : Run → ℕ → Region → ℕ
zone_points r k region =
    length (filter (in_zone r.setup (owned (cut_of r) k) region) (points_in (local (cut_of r) k)))

abbrev pub points_of : Run → ℕ → Op → ℕ
points_of r k (Sweep i) = zone_points r k (region_of (item r.setup i).writes)
points_of r k (Apply i) = 1
points_of r k _ = 0

-- how many values a part receives
abbrev pub side_values : Run → ℕ → ℕ → Side → List VarId → ℕ
side_values r k d side vars =
    cond (is_some (partner (cut_of r) k d side))
    (length vars * point_count (halo_of (cut_of r) k d side)) 0

abbrev pub values_of_op : Run → ℕ → Op → ℕ
values_of_op r k (Take d vars path) = side_values r k d Low vars + side_values r k d High vars
values_of_op r k _ = 0

-- meter 0 counts points, meter 1 values received
abbrev pub costs : Run → ℕ → ℕ → Op → ℕ
costs r zero k o = points_of r k o
costs r (suc zero) k o = values_of_op r k o
costs r (suc (suc i)) k o = 0

-- ---- the writer

abbrev pub piece_levels : {tells : Type 0} → tells → List (Message tells) → State
piece_levels t (Handed n state ∷ ms) = state t
piece_levels t _ = []

-- the one level of a part's piece of output
abbrev pub only_level : {tells : Type 0} → tells → List (Message tells) → List ℤ
only_level t piece = level_of (piece_levels t piece) (record { 0 = 0 }) 0

-- a whole level that has at each point the number of the part that owns it
pub record IsGathered {tells : Type 0} (t : tells) (r : Run) (pieces : ℕ → List (Message tells))
    (level : List ℤ) : Type 0 where
  pub count : length level ≡ point_count (whole r.setup.shape)
  pub each : (k : ℕ) (p : Point) → k < parts_in r → IsIn (owned (cut_of r) k) p
      → number_at (whole r.setup.shape) level p
      ≡ number_at (owned (cut_of r) k) (only_level t (pieces k)) p

-- a text by the pieces of all parts, of a scalar and of a grid variable; a scalar's number is that
-- of part 0
abbrev pub IsTextOf : {tells : Type 0} → Bool → tells → Run → VarId → ℕ → (ℕ → List (Message tells))
    → List ℕ → Type 0
IsTextOf true t r v iteration pieces text =
    text ≡ line (variable r.setup v).full iteration
    (slice_index_or (only_level t (pieces 0)) 0 (pos 0))
IsTextOf false t r v iteration pieces text =
    (level : List ℤ) × IsGathered t r pieces level
    × (text ≡ section (variable r.setup v).full iteration r.setup.shape level)

abbrev pub OneOutcome : Lengths → VarId → List ℕ → Option Lengths → Type 0
OneOutcome so_far v text None = greatest_output < so_far v.0 + length text
OneOutcome so_far v text (Some n) =
    (so_far v.0 + length text ≤ greatest_output) × (n ≡ grown_by so_far v (length text))

-- the lengths of the outputs after a work; none where its own one would pass the limit
abbrev pub WritesAt : (tells : Type 0) → Run → Op → ℕ → (ℕ → List (Message tells)) → Lengths
    → Option Lengths → Type 0
WritesAt tells r (Piece v) iteration pieces so_far o =
    (t : tells) (text : List ℕ) → IsTextOf (is_scalar r.setup v) t r v iteration pieces text
    → OneOutcome so_far v text o
WritesAt tells r _ iteration pieces so_far o = o ≡ Some so_far

-- ---- the network

-- what a part that holds x posts on a channel, and what it hands in
abbrev pub posts_of : {tells : Type 0} → Run → Channel → Held → List (Message tells)
posts_of r c x =
    cond (is_there r c)
    (op_posts r (next_op r x.control) x.count
    (faces_by r (sender c) (held_values r (sender c) x.numbers))
    (number_by r (sender c) (held_values r (sender c) x.numbers)) c)
    []

abbrev pub hands_of : {tells : Type 0} → Run → ℕ → Held → List (Message tells)
hands_of r k x =
    op_hands r (next_op r x.control) x.count
    (piece_by r k (held_values r k x.numbers)) (state_by r k (held_values r k x.numbers) x.numbers)

-- what a part holds at the beginning: each local point, a ghost too, has the number of the point of
-- the grid that it names
abbrev pub held_first : Run → ℕ → Held
held_first r k =
    record {
      count = 0;
      control = r.first.control;
      numbers = state_in r.setup (values_of r.setup r.first.state) (local (cut_of r) k)
          0 r.first.state;
    }

-- how far a part may stand before others; one of the two is put in
abbrev pub Nearness : Type 1
Nearness = Run → Oracle → (ℕ → ℕ) → (ℕ → Control) → ℕ → ℕ → Type 0

abbrev pub round : Control → ℕ
round c = c.iteration

abbrev pub within_lead : Nearness
within_lead r oracle = ByLead (parts_in r) r.lead round

abbrev pub in_lockstep : Nearness
in_lockstep r oracle = InLockstep (parts_in r)
    (λ m. is_some (buffer_of r (next_op r (guided r oracle m).control)) ≡ true)

abbrev pub net : (tells : Type 0) → Nearness → Run → Oracle
    → Net Held (Message tells) Channel Control Lengths
net tells Near r oracle =
    record {
      parts = (parts_in r);
      way = λ n. (guided r oracle n).control;
      last = last_of r oracle;
      most = r.most;
      halts = halts r;
      Near = Near r oracle;
      buffer = λ c. buffer_of r (next_op r c);
      cost = λ i k c. costs r i k (next_op r c);
      wants = λ c q. cond (is_there r c) (op_wants r (next_op r q) c) 0;
      sender = sender;
      receiver = receiver;
      look = λ x. x.control;
      posts = posts_of r;
      hands = hands_of r;
      Move = λ k x mails o. Moves tells r k x mails (next_op r x.control) o;
      start = held_first r;
      Writes = λ n pieces b o.
          WritesAt tells r (next_op r (guided r oracle n).control)
          (guided r oracle n).control.iteration pieces b o;
      first_book = r.so_far;
    }

-- ---- the sum of the values that were received

abbrev pub values_sum : {tells : Type 0} → tells → List (Message tells) → ℕ
values_sum t [] = 0
values_sum t (Sent h values ∷ ms) = word_sum (values t) + values_sum t ms
values_sum t (Given number ∷ ms) = values_sum t ms
values_sum t (Handed n state ∷ ms) = values_sum t ms

-- of all messages that were taken of wires
abbrev pub taken_sum : {tells : Type 0} → tells → Run → Oracle
    → World Held (Message tells) Channel Lengths → ℕ
taken_sum {tells} t r oracle w =
    sum_below (parts_in r) (λ a.
    sum_below (parts_in r) (λ b.
    values_sum t (taken (script tells r oracle) (Wire a b) (w.place b))))
