-- Operations that touch the part's own numbers alone: a sweep, an application, a rotation, tests
-- and jumps.
use Rattle.std.proofs.Common.{◌≡◌, ℕ, suc, Bool, true, false, ℤ, List, [], set, length, Option, Some, None, refl, sym, ap, subst}
use Rattle.std.proofs.lemmas.Bool.{both_ways}
use Rattle.cx_grid.specs.declared.shapes.Side.{Side}
use Rattle.cx_plan.specs.declared.variable.VarId.{VarId}
use Rattle.cx_rule.specs.Meter.{raised}
use Rattle.cx_rule.specs.States.{State, scalar_of, rotate}
use Rattle.cx_model.specs.declared.ends.End.{End}
use Rattle.cx_field.specs.Patches.{PatchValue}
use Rattle.cx_field.specs.Sweeps.{RoseWithin}
use Rattle.cx_flat.specs.declared.op.Op.{Op}
use Rattle.cx_flat.specs.declared.op.Op.TheVariants as op
use Rattle.cx_flat.specs.Flats.{control_after}
use Rattle.law_network.specs.Machine.{taken_now}
use Rattle.cx_wire.specs.Messages.{Sent as SentMail}
use Rattle.law_parts.specs.Holding.{Held}
use Rattle.law_parts.specs.Moves.{Message, Channel, Wire, Board, op_wants, op_posts, op_hands, Gives, Moves, turn_state}
use Rattle.law_parts.specs.Nets.{points_of, values_of_op}
use Rattle.law_parts.specs.Runs.{Run, cut_of}
use Rattle.cx_core_part.specs.Frames.{IsPatchOf}
use Rattle.cx_core_part.specs.Items.{computed}
use Rattle.cx_core_events.specs.Events.{work_of}
use Rattle.cx_core_events.specs.Steps.{moved_on, met_by}
use Rattle.law_reached.specs.Endings.{end_met_by}
use Rattle.cx_core_buffers.specs.Gathering.{HasRoom}
use Rattle.cx_core.specs.Cores.{Cores, outcome_of}
use Rattle.cx_core.specs.Shows.{kinds_by}
use Rattle.cx_core.specs.Steps.{Counts}
use Rattle.cx_core.proofs.MovedStates.{LedTo, Ready, world, its, next, network, moved_at, met_at}
use Rattle.cx_core.proofs.QuietMoves.{wires_kept, others_kept, boards_kept, kinds_kept, pieces_kept, values_none, sum_none}

abbrev pub is_quiet : Op → Bool
is_quiet (op.Sweep i) = true
is_quiet (op.Apply i) = true
is_quiet (op.Give i) = false
is_quiet (op.Join i) = false
is_quiet (op.Post d vars) = false
is_quiet (op.Take d vars path) = false
is_quiet (op.Test v path skip) = true
is_quiet op.Open = true
is_quiet (op.Turn v path skip) = true
is_quiet (op.Again back) = true
is_quiet op.Rotate = true
is_quiet (op.Due skip) = true
is_quiet (op.Written skip) = true
is_quiet (op.Skip skip) = true
is_quiet (op.Next back) = true
is_quiet (op.Piece v) = false
is_quiet op.Save = false
is_quiet op.Halt = false

-- the part's numbers after it
abbrev pub numbers_after : Run → ℕ → Op → Held → Option State
numbers_after r k (op.Sweep i) x = computed r k (op.Sweep i) x.numbers x.control.iteration
numbers_after r k (op.Apply i) x = computed r k (op.Apply i) x.numbers x.control.iteration
numbers_after r k (op.Give i) x = Some x.numbers
numbers_after r k (op.Join i) x = Some x.numbers
numbers_after r k (op.Post d vars) x = Some x.numbers
numbers_after r k (op.Take d vars path) x = Some x.numbers
numbers_after r k (op.Test v path skip) x = Some x.numbers
numbers_after r k op.Open x = Some x.numbers
numbers_after r k (op.Turn v path skip) x = turn_state r v x
numbers_after r k (op.Again back) x = Some x.numbers
numbers_after r k op.Rotate x = Some (rotate x.numbers)
numbers_after r k (op.Due skip) x = Some x.numbers
numbers_after r k (op.Written skip) x = Some x.numbers
numbers_after r k (op.Skip skip) x = Some x.numbers
numbers_after r k (op.Next back) x = Some x.numbers
numbers_after r k (op.Piece v) x = Some x.numbers
numbers_after r k op.Save x = Some x.numbers
numbers_after r k op.Halt x = Some x.numbers

quiet_moves : (tells : Type 0) (r : Run) (k : ℕ) (x : Held) (mails : Channel → List (Message tells))
    (p : Op) (o : Option Held) → is_quiet p ≡ true
    → Gives r p x (numbers_after r k p x) o → Moves tells r k x mails p o
quiet_moves tells r k x mails (op.Sweep i) o q g = g
quiet_moves tells r k x mails (op.Apply i) o q g = g
quiet_moves tells r k x mails (op.Give i) o q g = absurd cc
quiet_moves tells r k x mails (op.Join i) o q g = absurd cc
quiet_moves tells r k x mails (op.Post d vars) o q g = absurd cc
quiet_moves tells r k x mails (op.Take d vars path) o q g = absurd cc
quiet_moves tells r k x mails (op.Test v path skip) o q g = g
quiet_moves tells r k x mails op.Open o q g = g
quiet_moves tells r k x mails (op.Turn v path skip) o q g = g
quiet_moves tells r k x mails (op.Again back) o q g = g
quiet_moves tells r k x mails op.Rotate o q g = g
quiet_moves tells r k x mails (op.Due skip) o q g = g
quiet_moves tells r k x mails (op.Written skip) o q g = g
quiet_moves tells r k x mails (op.Skip skip) o q g = g
quiet_moves tells r k x mails (op.Next back) o q g = g
quiet_moves tells r k x mails (op.Piece v) o q g = absurd cc
quiet_moves tells r k x mails op.Save o q g = absurd cc
quiet_moves tells r k x mails op.Halt o q g = absurd cc

pub wants_wires : (r : Run) (p : Op) (a b : ℕ) → is_quiet p ≡ true → op_wants r p (Wire a b) ≡ 0
wants_wires r (op.Sweep i) a b q = refl
wants_wires r (op.Apply i) a b q = refl
wants_wires r (op.Give i) a b q = absurd cc
wants_wires r (op.Join i) a b q = absurd cc
wants_wires r (op.Post d vars) a b q = absurd cc
wants_wires r (op.Take d vars path) a b q = absurd cc
wants_wires r (op.Test v path skip) a b q = refl
wants_wires r op.Open a b q = refl
wants_wires r (op.Turn v path skip) a b q = refl
wants_wires r (op.Again back) a b q = refl
wants_wires r op.Rotate a b q = refl
wants_wires r (op.Due skip) a b q = refl
wants_wires r (op.Written skip) a b q = refl
wants_wires r (op.Skip skip) a b q = refl
wants_wires r (op.Next back) a b q = refl
wants_wires r (op.Piece v) a b q = absurd cc
wants_wires r op.Save a b q = absurd cc
wants_wires r op.Halt a b q = absurd cc

wants_boards : (r : Run) (p : Op) (a b : ℕ) → is_quiet p ≡ true → op_wants r p (Board a b) ≡ 0
wants_boards r (op.Sweep i) a b q = refl
wants_boards r (op.Apply i) a b q = refl
wants_boards r (op.Give i) a b q = absurd cc
wants_boards r (op.Join i) a b q = absurd cc
wants_boards r (op.Post d vars) a b q = absurd cc
wants_boards r (op.Take d vars path) a b q = absurd cc
wants_boards r (op.Test v path skip) a b q = refl
wants_boards r op.Open a b q = refl
wants_boards r (op.Turn v path skip) a b q = refl
wants_boards r (op.Again back) a b q = refl
wants_boards r op.Rotate a b q = refl
wants_boards r (op.Due skip) a b q = refl
wants_boards r (op.Written skip) a b q = refl
wants_boards r (op.Skip skip) a b q = refl
wants_boards r (op.Next back) a b q = refl
wants_boards r (op.Piece v) a b q = absurd cc
wants_boards r op.Save a b q = absurd cc
wants_boards r op.Halt a b q = absurd cc

posts_wires : {tells : Type 0} (r : Run) (p : Op) (a b n : ℕ)
    (faces : ℕ → List VarId → Side → tells → List ℤ) (number : ℕ → ℤ) → is_quiet p ≡ true
    → op_posts r p n faces number (Wire a b) ≡ []
posts_wires r (op.Sweep i) a b n faces number q = refl
posts_wires r (op.Apply i) a b n faces number q = refl
posts_wires r (op.Give i) a b n faces number q = absurd cc
posts_wires r (op.Join i) a b n faces number q = absurd cc
posts_wires r (op.Post d vars) a b n faces number q = absurd cc
posts_wires r (op.Take d vars path) a b n faces number q = absurd cc
posts_wires r (op.Test v path skip) a b n faces number q = refl
posts_wires r op.Open a b n faces number q = refl
posts_wires r (op.Turn v path skip) a b n faces number q = refl
posts_wires r (op.Again back) a b n faces number q = refl
posts_wires r op.Rotate a b n faces number q = refl
posts_wires r (op.Due skip) a b n faces number q = refl
posts_wires r (op.Written skip) a b n faces number q = refl
posts_wires r (op.Skip skip) a b n faces number q = refl
posts_wires r (op.Next back) a b n faces number q = refl
posts_wires r (op.Piece v) a b n faces number q = absurd cc
posts_wires r op.Save a b n faces number q = absurd cc
posts_wires r op.Halt a b n faces number q = absurd cc

posts_boards : {tells : Type 0} (r : Run) (p : Op) (a b n : ℕ)
    (faces : ℕ → List VarId → Side → tells → List ℤ) (number : ℕ → ℤ) → is_quiet p ≡ true
    → op_posts r p n faces number (Board a b) ≡ []
posts_boards r (op.Sweep i) a b n faces number q = refl
posts_boards r (op.Apply i) a b n faces number q = refl
posts_boards r (op.Give i) a b n faces number q = absurd cc
posts_boards r (op.Join i) a b n faces number q = absurd cc
posts_boards r (op.Post d vars) a b n faces number q = absurd cc
posts_boards r (op.Take d vars path) a b n faces number q = absurd cc
posts_boards r (op.Test v path skip) a b n faces number q = refl
posts_boards r op.Open a b n faces number q = refl
posts_boards r (op.Turn v path skip) a b n faces number q = refl
posts_boards r (op.Again back) a b n faces number q = refl
posts_boards r op.Rotate a b n faces number q = refl
posts_boards r (op.Due skip) a b n faces number q = refl
posts_boards r (op.Written skip) a b n faces number q = refl
posts_boards r (op.Skip skip) a b n faces number q = refl
posts_boards r (op.Next back) a b n faces number q = refl
posts_boards r (op.Piece v) a b n faces number q = absurd cc
posts_boards r op.Save a b n faces number q = absurd cc
posts_boards r op.Halt a b n faces number q = absurd cc

no_kinds : (r : Run) (p : Op) → is_quiet p ≡ true → kinds_by r p ≡ []
no_kinds r (op.Sweep i) q = refl
no_kinds r (op.Apply i) q = refl
no_kinds r (op.Give i) q = absurd cc
no_kinds r (op.Join i) q = refl
no_kinds r (op.Post d vars) q = refl
no_kinds r (op.Take d vars path) q = refl
no_kinds r (op.Test v path skip) q = refl
no_kinds r op.Open q = refl
no_kinds r (op.Turn v path skip) q = refl
no_kinds r (op.Again back) q = refl
no_kinds r op.Rotate q = refl
no_kinds r (op.Due skip) q = refl
no_kinds r (op.Written skip) q = refl
no_kinds r (op.Skip skip) q = refl
no_kinds r (op.Next back) q = refl
no_kinds r (op.Piece v) q = refl
no_kinds r op.Save q = refl
no_kinds r op.Halt q = refl

no_join : (p : Op) (i : ℕ) → is_quiet p ≡ true → p ≡ op.Join i → ⊥
no_join p i q e = both_ways (is_quiet p) (ap is_quiet e) q

no_work : (p : Op) (iteration : ℕ) → is_quiet p ≡ true → work_of p iteration ≡ None
no_work (op.Sweep i) iteration q = refl
no_work (op.Apply i) iteration q = refl
no_work (op.Give i) iteration q = refl
no_work (op.Join i) iteration q = refl
no_work (op.Post d vars) iteration q = refl
no_work (op.Take d vars path) iteration q = refl
no_work (op.Test v path skip) iteration q = refl
no_work op.Open iteration q = refl
no_work (op.Turn v path skip) iteration q = refl
no_work (op.Again back) iteration q = refl
no_work op.Rotate iteration q = refl
no_work (op.Due skip) iteration q = refl
no_work (op.Written skip) iteration q = refl
no_work (op.Skip skip) iteration q = refl
no_work (op.Next back) iteration q = refl
no_work (op.Piece v) iteration q = absurd cc
no_work op.Save iteration q = absurd cc
no_work op.Halt iteration q = refl

no_hands : {tells : Type 0} (r : Run) (p : Op) (n : ℕ) (piece : VarId → tells → List ℤ)
    (all : tells → State) → is_quiet p ≡ true → op_hands r p n piece all ≡ []
no_hands r (op.Sweep i) n piece all q = refl
no_hands r (op.Apply i) n piece all q = refl
no_hands r (op.Give i) n piece all q = refl
no_hands r (op.Join i) n piece all q = refl
no_hands r (op.Post d vars) n piece all q = refl
no_hands r (op.Take d vars path) n piece all q = refl
no_hands r (op.Test v path skip) n piece all q = refl
no_hands r op.Open n piece all q = refl
no_hands r (op.Turn v path skip) n piece all q = refl
no_hands r (op.Again back) n piece all q = refl
no_hands r op.Rotate n piece all q = refl
no_hands r (op.Due skip) n piece all q = refl
no_hands r (op.Written skip) n piece all q = refl
no_hands r (op.Skip skip) n piece all q = refl
no_hands r (op.Next back) n piece all q = refl
no_hands r (op.Piece v) n piece all q = absurd cc
no_hands r op.Save n piece all q = absurd cc
no_hands r op.Halt n piece all q = refl

no_values : (r : Run) (k : ℕ) (p : Op) → is_quiet p ≡ true → values_of_op r k p ≡ 0
no_values r k (op.Sweep i) q = refl
no_values r k (op.Apply i) q = refl
no_values r k (op.Give i) q = refl
no_values r k (op.Join i) q = refl
no_values r k (op.Post d vars) q = refl
no_values r k (op.Take d vars path) q = absurd cc
no_values r k (op.Test v path skip) q = refl
no_values r k op.Open q = refl
no_values r k (op.Turn v path skip) q = refl
no_values r k (op.Again back) q = refl
no_values r k op.Rotate q = refl
no_values r k (op.Due skip) q = refl
no_values r k (op.Written skip) q = refl
no_values r k (op.Skip skip) q = refl
no_values r k (op.Next back) q = refl
no_values r k (op.Piece v) q = refl
no_values r k op.Save q = refl
no_values r k op.Halt q = refl

pub some_gives : (r : Run) (p : Op) (x : Held) (o : Option State) (numbers : State)
    → o ≡ Some numbers
    → Gives r p x o
    (Some
    (record {
      count = suc x.count;
      control = control_after r.setup p (scalar_of x.numbers) x.control;
      numbers = numbers;
    }))
some_gives r p x None numbers e = absurd cc
some_gives r p x (Some a) numbers e =
    (record { count = refl; control = refl }, sym (inside a numbers e))
  where
    inside : (a b : State) → Some a ≡ Some b → a ≡ b
    inside a b q = cc

pub none_gives : (r : Run) (p : Op) (x : Held) (o : Option State) → o ≡ None → Gives r p x o None
none_gives r p x None e = tt
none_gives r p x (Some a) e = absurd cc

module _ {tells : Type 0} {r : Run} {first : Counts} {old : Cores}
    {queue : ℕ → ℕ → List (SentMail tells)} {now : Counts} {k : ℕ}
    (s : Ready tells r first old queue now k) where
  -- all but where the part stands and its numbers is as before, and the meter
  pub record Leaves (new : Cores) (after : ℕ → ℕ → List (SentMail tells))
      (later : Counts) : Type 0 where
    pub patch : PatchValue
    pub patches_are : new.patches ≡ set old.patches k patch
    pub frame : IsPatchOf r.setup (cut_of r) k patch
    pub given_is : new.given ≡ old.given
    pub buffers_are : new.buffers ≡ old.buffers
    pub lengths_are : new.lengths ≡ old.lengths
    pub outcome_is : new.outcome ≡ old.outcome
    pub queue_is : (a b : ℕ) → after a b ≡ queue a b
    pub values_are : later.values ≡ now.values
    pub sum_is : (t : tells) → later.sum ≡ now.sum

  -- the part behind its operation, with these numbers
  abbrev pub held_with : State → Held
  held_with numbers = record {
    count = suc (its s).count;
    control = control_after r.setup (next s) (scalar_of (its s).numbers) (its s).control;
    numbers = numbers;
  }

  module _ (new : Cores) (after : ℕ → ℕ → List (SentMail tells)) (later : Counts)
      (l : Leaves new after later) (quiet : is_quiet (next s) ≡ true) where
    pub quiet_goes : new.pace ≡ moved_on r.setup old.pace k (scalar_of (its s).numbers)
        → new.met ≡ old.met
        → numbers_after r k (next s) (its s) ≡ Some l.patch.numbers
        → later.points ≡ raised now.points (points_of r k (next s))
        → LedTo s.at k new after later
    quiet_goes pace met numbers points =
        moved_at s new after later (held_with l.patch.numbers) (record {
          move = quiet_moves tells r k (its s) (taken_now (network s) (world s) k) (next s)
              (Some (held_with l.patch.numbers)) quiet
              (some_gives r (next s) (its s) (numbers_after r k (next s) (its s))
              l.patch.numbers numbers);
          pace_is = pace;
          patch = l.patch;
          patches_are = l.patches_are;
          shown = record { frame = l.frame; numbers = refl };
          wires = wires_kept s after l.queue_is (λ a b. wants_wires r (next s) a b quiet)
              (λ a b n faces number. posts_wires r (next s) a b n faces number quiet);
          others = others_kept s after l.queue_is;
          senders = ap (λ g. length g.given) l.given_is;
          boards = boards_kept s new.given l.given_is (λ a b. wants_boards r (next s) a b quiet)
              (λ a b n faces number. posts_boards r (next s) a b n faces number quiet);
          kinds = kinds_kept s new.given l.given_is (no_kinds r (next s) quiet)
              (λ i e. no_join (next s) i quiet e);
          pieces = pieces_kept s new pace l.buffers_are
              (no_work (next s) (its s).control.iteration quiet) (no_hands r (next s) _ _ _ quiet);
          room = subst (HasRoom r.setup) (sym l.buffers_are) s.at.shows.room;
          lengths_are = l.lengths_are;
          met_is = met;
          outcome_is = l.outcome_is;
          points = points;
          values = values_none s later l.values_are (no_values r k (next s) quiet);
          sum = sum_none s later l.sum_is (λ a. wants_wires r (next s) a k quiet);
        })

    pub quiet_meets : new.pace ≡ met_by old.pace k → numbers_after r k (next s) (its s) ≡ None
        → l.patch.numbers ≡ (its s).numbers
        → (end : End) → end_met_by r (next s) (its s).control.iteration ≡ Some end
        → new.met ≡ outcome_of (Some end)
        → RoseWithin (points_of r k (next s)) now.points later.points
        → LedTo s.at k new after later
    quiet_meets pace none numbers end is met rose = met_at s new after later (record {
      move = quiet_moves tells r k (its s) (taken_now (network s) (world s) k) (next s) None quiet
          (none_gives r (next s) (its s) (numbers_after r k (next s) (its s)) none);
      pace_is = pace;
      patch = l.patch;
      patches_are = l.patches_are;
      shown = record { frame = l.frame; numbers = numbers };
      given_is = l.given_is;
      buffers_are = l.buffers_are;
      lengths_are = l.lengths_are;
      outcome_is = l.outcome_is;
      end = end;
      end_is = is;
      met_is = met;
      queue_is = l.queue_is;
      rose = rose;
      values = l.values_are;
      sum = l.sum_is;
    })
