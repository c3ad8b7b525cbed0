-- What the undivided run has for parts: what each posts, hands in and gives at each place, where a
-- part meets an end, which work passes the limit of its output, and when a part agrees with it.
use Rattle.std.specs.Prelude.{ℕ, zero, suc, ◌<◌, ◌≡◌, Bool, true, false, ◌&&◌, ◌||◌, ◌==◌, nat_lt, ℤ, pos, List, [], ◌∷◌, length, is_none, cond}
use Rattle.std.specs.List.{list_any, range_with_len}
use Rattle.cx_grid.specs.declared.boxes.Point.{Point}
use Rattle.cx_grid.specs.Boxes.{points_in}
use Rattle.cx_grid.specs.Grid.{at}
use Rattle.cx_plan.specs.declared.variable.VarId.{VarId}
use Rattle.cx_plan.specs.Lookups.{item, is_scalar, levels_of}
use Rattle.cx_plan.specs.Steering.{item_at}
use Rattle.cx_plan.specs.Regions.{region_of}
use Rattle.cx_rule.specs.States.{State, level_of, scalar_of}
use Rattle.cx_model.specs.Courses.{Note, by_zero}
use Rattle.cx_model.specs.Traces.{Entry}
use Rattle.cx_model.specs.Turns.{turn, values_of, swept_at}
use Rattle.cx_model.specs.Runs.{Lengths, lengths_behind, greatest_output}
use Rattle.cx_cut.specs.Cuts.{owned, local, IsReached}
use Rattle.cx_flat.specs.declared.op.Op.{Op}
use Rattle.cx_flat.specs.declared.op.Op.TheVariants.{Sweep, Apply, Give, Join, Turn, Piece}
use Rattle.cx_flat.specs.Flats.{Flat, last_turns}
use Rattle.law_network.specs.Agreement.{Script}
use Rattle.law_parts.specs.Holding.{Held, IsHeld, in_zone}
use Rattle.law_parts.specs.Runs.{Run, Oracle, cut_of, parts_in, next_op, undivided, op_of, notes_of, synced, guided, last_of, first_from}
use Rattle.law_parts.specs.Moves.{Message, Channel, sender, is_there, held_values, op_posts, op_hands, faces_by, number_by, piece_by, state_by}

-- ---- what parts give

abbrev pub given_by : Run → ℕ → State → Op → ℤ
given_by r k state (Give i) = number_by r k (values_of r.setup state) i
given_by r k state _ = pos 0

-- the oracle that tells the truth
abbrev pub truth : Run → Oracle
truth r k n = given_by r k (undivided r n).state (op_of r n)

-- ---- ends

-- the undivided operation gives no numbers at some point that part k sweeps, or no state at all
abbrev pub is_faulty : Run → ℕ → Op → Flat → Bool
is_faulty r k (Sweep i) g =
    list_any
    (λ p. in_zone r.setup (owned (cut_of r) k) (region_of (item r.setup i).writes) p
    && is_none (swept_at r.setup r.rules (item_at r.setup i g.control.iteration)
    (values_of r.setup g.state) g.control.iteration p))
    (points_in (local (cut_of r) k))
is_faulty r k (Apply i) g =
    is_none (turn r.setup r.rules (item_at r.setup i g.control.iteration)
    g.state g.control.iteration)
is_faulty r k (Join i) g =
    is_none (turn r.setup r.rules (item_at r.setup i g.control.iteration)
    g.state g.control.iteration)
is_faulty r k (Turn v path skip) g =
    last_turns g.control.opened == r.setup.while_limit && by_zero (scalar_of g.state v) false true
is_faulty r k _ g = false

-- the entries of notes
abbrev pub entries_of : List Note → List Entry
entries_of [] = []
entries_of (n ∷ ns) = n.entry ∷ entries_of ns

-- how long the outputs are before place n
abbrev pub lengths_before : Run → ℕ → Lengths
lengths_before r zero = r.so_far
lengths_before r (suc n) = lengths_behind (lengths_before r n) (entries_of (notes_of r n))

-- whether the work at a place is a text with which its own output would pass the limit
abbrev pub passes_limit : Run → ℕ → Op → Bool
passes_limit r n (Piece v) = nat_lt greatest_output (lengths_before r (suc n) v.0)
passes_limit r n _ = false

abbrev pub is_full : Run → ℕ → Bool
is_full r n = passes_limit r n (op_of r n)

abbrev pub ends_at : Run → ℕ → Bool
ends_at r n = list_any (λ k. is_faulty r k (op_of r n) (undivided r n))
    (range_with_len 0 (parts_in r)) || is_full r n

-- ---- the script

abbrev pub mail_at : (tells : Type 0) → Run → Oracle → Channel → ℕ → List (Message tells)
mail_at tells r oracle c n =
    cond (is_there r c)
    (op_posts r (next_op r (guided r oracle n).control) n
    (faces_by r (sender c) (values_of r.setup (undivided r n).state)) (λ i. oracle (sender c) n) c)
    []

abbrev pub piece_at : (tells : Type 0) → Run → Oracle → ℕ → ℕ → List (Message tells)
piece_at tells r oracle k n =
    op_hands r (next_op r (guided r oracle n).control) n
    (piece_by r k (values_of r.setup (undivided r n).state))
    (state_by r k (values_of r.setup (undivided r n).state) (undivided r n).state)

abbrev pub script : (tells : Type 0) → Run → Oracle → Script (Message tells) Channel
script tells r oracle =
    record {
      mail = mail_at tells r oracle;
      piece = piece_at tells r oracle;
      faulty = λ k n. is_faulty r k (op_of r n) (undivided r n);
      full = is_full r;
      ends = first_from (last_of r oracle) 0 (ends_at r);
    }

-- ---- agreement

-- what a part that holds x will give, where its next operation is to give a number
abbrev pub gives_by : Run → ℕ → Held → Op → ℤ → Type 0
gives_by r k x (Give i) number = number_by r k (held_values r k x.numbers) i ≡ number
gives_by r k x _ number = Unit {0}

abbrev pub GivesAt : Run → Oracle → ℕ → ℕ → Held → Type 0
GivesAt r oracle k n x = gives_by r k x (next_op r x.control) (oracle k n)

-- Part k at place n: its control and its scalars are those of all parts, whatever wires tell. And
-- where they tell, each owned number is the undivided run's, and each ghost point's in the
-- directions that are done.
pub record Stands (tells : Type 0) (r : Run) (oracle : Oracle) (k n : ℕ) (x : Held) : Type 0 where
  pub count : x.count ≡ n
  pub control : x.control ≡ (guided r oracle n).control
  pub scalars : (v : VarId) → is_scalar r.setup v ≡ true
      → scalar_of x.numbers v ≡ scalar_of (guided r oracle n).state v
  pub sized : IsHeld r.setup (local (cut_of r) k) x.numbers
  pub numbers : tells → (v : VarId) (level : ℕ) (p : Point)
      → is_scalar r.setup v ≡ false → v.0 < length r.setup.vars → level < levels_of r.setup v
      → IsReached (cut_of r) k (synced r n v level) p
      → held_values r k x.numbers v level p
      ≡ at r.setup.shape (level_of (undivided r n).state v level) p

-- and what it is to give for a reduction there is what the oracle says
pub record Agrees (tells : Type 0) (r : Run) (oracle : Oracle) (k n : ℕ) (x : Held) : Type 0 where
  pub stands : Stands tells r oracle k n x
  pub gives : GivesAt r oracle k n x

-- the writer's book is the lengths of the outputs before a place
abbrev pub Books : (tells : Type 0) → Run → ℕ → Lengths → Type 0
Books tells r n lengths = tells → lengths ≡ lengths_before r n
