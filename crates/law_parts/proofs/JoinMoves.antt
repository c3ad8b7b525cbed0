-- A reduction's result in each part: the numbers that all parts gave for it make the one that the
-- way of all parts has.
use Rattle.std.proofs.Common.{◌≡◌, ℕ, zero, suc, ◌+◌, ◌<◌, true, false, ltb, refl, sym, ap, ◌∙◌, subst, arith, cond, ℤ, List, [], ◌∷◌, ◌++◌, map, get_or, Option, Some, None}
use Rattle.std.specs.Prelude.{All, MatchOption, is_none}
use Rattle.std.specs.List.{list_all, range_with_len}
use Rattle.std.proofs.lemmas.Bool.{and_parts, and_from, lt-ltb, both_ways}
use Rattle.std.proofs.lemmas.List.FromFn.{map-range_with_len_more}
use Rattle.cx_grid.specs.Grid.{at}
use Rattle.cx_plan.specs.declared.variable.VarId.{VarId}
use Rattle.cx_plan.specs.declared.flag.Flag.TheVariants.{G}
use Rattle.cx_plan.specs.declared.item.ItemKind.{ItemKind}
use Rattle.cx_plan.specs.declared.item.ItemKind.TheVariants.{Cell, Scalar, Sum, Least, Greatest, Count}
use Rattle.cx_plan.specs.declared.item.Touch.{Touch}
use Rattle.cx_plan.specs.declared.item.Item.{Item}
use Rattle.cx_plan.specs.Setups.{Setup}
use Rattle.cx_plan.specs.Lookups.{item, is_scalar}
use Rattle.cx_plan.specs.Steering.{item_at}
use Rattle.cx_plan.specs.Regions.{Flags, has_shape}
use Rattle.cx_rule.specs.Routine.{Rule}
use Rattle.cx_model.specs.States.{State, level_of, scalar_of, IsState}
use Rattle.cx_model.specs.Turns.{if_fit, reduced, first_read, reduce_turn, scalar_turn, turn, turn_by, values_of}
use Rattle.cx_flat.specs.declared.op.Op.{Op}
use Rattle.cx_model.specs.Courses.{state_or}
use Rattle.cx_flat.specs.Flats.{control_after, state_after, notes_at, ends_pair}
use Rattle.cx_flat.specs.Ways.{is_receiving, Paired}
use Rattle.law_network.specs.Agreement.{takes}
use Rattle.cx_cut.specs.Cuts.{IsReached, local}
use Rattle.law_parts.specs.Holding.{Held, IsHeld, number_at, joined, join_turn}
use Rattle.law_parts.specs.Runs.{Run, Oracle, next_op, undivided, op_of, given_before, joined_at, flags_at, done_directions, guided, guided_state, parts_in, cut_of}
use Rattle.cx_model.specs.Needs.{notes_leave}
use Rattle.law_parts.specs.Moves.{Message, Channel, Board, is_there, op_posts, given_number, all_given, Gives, Moves, faces_by}
use Rattle.law_parts.specs.Truths.{script, Stands, is_faulty}
use Rattle.law_parts.specs.Operations.{is_reduction}
use Rattle.law_parts.proofs.TruthLaws.{turned_is}
use Rattle.law_parts.proofs.Sweeps.{IsStored}
use Rattle.law_parts.proofs.SweepMoves.{no_direction, turn_leaves}
use Rattle.law_parts.proofs.ScalarMoves.{is_scalar_touch, scalars_same, grids_stay, held_scalars, flags_stay, level_stays}
use Rattle.cx_flat.specs.declared.op.Op.TheVariants as op
use Rattle.law_parts.proofs.WholeReductions.{shape_reduces}

-- ---- what all parts gave

all_same : (tells : Type 0) (k : ℕ) (mails : Channel → List (Message tells)) (f : ℕ → ℤ) (count : ℕ)
    → ((a : ℕ) → a < count → given_number (mails (Board a k)) ≡ f a)
    → all_given k mails count ≡ map f (range_with_len 0 count)
all_same tells k mails f zero h = refl
all_same tells k mails f (suc count) h =
    let e : count + 1 ≡ suc count = omega arith in
    ap (λ xs. xs ++ given_number (mails (Board count k)) ∷ [])
    (all_same tells k mails f count (λ a l. h a (omega arith)))
    ∙ ap (λ n. map f (range_with_len 0 count) ++ n ∷ []) (h count (omega arith))
    ∙ sym (map-range_with_len_more f 0 count count (omega arith))
    ∙ ap (λ n. map f (range_with_len 0 n)) e

take_no_join : (d i : ℕ) (vars : List VarId) (path : List ℕ) → op.Take d vars path ≡ op.Join i → ⊥
take_no_join d i vars path e = absurd cc

receives : (p : Op) (i : ℕ) → p ≡ op.Join i → is_receiving p ≡ false → ⊥
receives p i e h = both_ways (is_receiving p) h (ap is_receiving e)

-- before a result stands a gift
pub gave : (o p : Op) (i : ℕ) → Paired o p → p ≡ op.Join i → (j : ℕ) × (o ≡ op.Give j)
gave (op.Give j) p i h e = (j, refl)
gave (op.Post d vars) p i h e = absurd (take_no_join d i vars h.0 (sym h.1 ∙ e))
gave (op.Sweep k) p i h e = absurd (receives p i e h)
gave (op.Apply k) p i h e = absurd (receives p i e h)
gave (op.Join k) p i h e = absurd (receives p i e h)
gave (op.Take d vars path) p i h e = absurd (receives p i e h)
gave (op.Test v path skip) p i h e = absurd (receives p i e h)
gave op.Open p i h e = absurd (receives p i e h)
gave (op.Turn v path skip) p i h e = absurd (receives p i e h)
gave (op.Again back) p i h e = absurd (receives p i e h)
gave op.Rotate p i h e = absurd (receives p i e h)
gave (op.Due skip) p i h e = absurd (receives p i e h)
gave (op.Written skip) p i h e = absurd (receives p i e h)
gave (op.Skip skip) p i h e = absurd (receives p i e h)
gave (op.Next back) p i h e = absurd (receives p i e h)
gave (op.Piece v) p i h e = absurd (receives p i e h)
gave op.Save p i h e = absurd (receives p i e h)
gave op.Halt p i h e = absurd (receives p i e h)

-- what is taken of a board is what the oracle foretold
pub board_number : (tells : Type 0) (r : Run) (oracle : Oracle) (k m i a : ℕ) → k < parts_in r
    → a < parts_in r
    → Paired (next_op r (guided r oracle m).control) (next_op r (guided r oracle (suc m)).control)
    → next_op r (guided r oracle (suc m)).control ≡ op.Join i
    → given_number (takes (script tells r oracle) (Board a k) (suc m))
    ≡ given_before oracle (suc m) a
board_number tells r oracle k m i a in_k in_a pair there =
    let g = gave (next_op r (guided r oracle m).control)
    (next_op r (guided r oracle (suc m)).control) i pair there in
    let e : is_there r (Board a k) ≡ true =
    and_from (ltb a (parts_in r)) (ltb k (parts_in r)) (lt-ltb a (parts_in r) in_a)
    (lt-ltb k (parts_in r) in_k) in
    ap (λ b. given_number (cond b
    (op_posts {tells = tells} r (next_op r (guided r oracle m).control) m
    (faces_by {tells = tells} r a (values_of r.setup (undivided r m).state)) (λ j. oracle a m)
    (Board a k)) [])) e
    ∙ ap (λ o. given_number
    (op_posts {tells = tells} r o m
    (faces_by {tells = tells} r a (values_of r.setup (undivided r m).state)) (λ j. oracle a m)
    (Board a k))) g.1

-- ---- the item

pub record IsReduction (setup : Setup) (x : Item) : Type 0 where
  pub kind : is_reduction x.kind ≡ true
  pub shape : has_shape setup x ≡ true
  pub writes : All (λ (w : Touch). IsStored setup w.var 0) x.writes

writes_scalars : (setup : Setup) (x : Item) → IsReduction setup x
    → list_all (is_scalar_touch setup) x.writes ≡ true
writes_scalars setup x is =
    (and_parts _ (list_all (is_scalar_touch setup) x.writes)
    (shape_reduces setup x is.kind is.shape)).1

turn_is : (kind : ItemKind) (setup : Setup) (rules : List Rule) (x : Item) (state : State)
    (iteration : ℕ) → is_reduction kind ≡ true
    → turn_by kind setup rules x state iteration ≡ reduce_turn setup x state
turn_is Cell setup rules x state iteration e = absurd cc
turn_is Scalar setup rules x state iteration e = absurd cc
turn_is Sum setup rules x state iteration e = refl
turn_is Least setup rules x state iteration e = refl
turn_is Greatest setup rules x state iteration e = refl
turn_is Count setup rules x state iteration e = refl

-- ---- a part's result

module _ (tells : Type 0) (r : Run) (oracle : Oracle) (k n i : ℕ) (x : Held)
    (is : IsReduction r.setup (item r.setup i))
    (agrees : Stands tells r oracle k n x)
    (there : next_op r (guided r oracle n).control ≡ op.Join i)
    (truth : tells → guided r oracle n ≡ undivided r n)
    (states : IsState r.setup (guided r oracle n).state)
    (quiet : tells → ends_pair (op_of r (suc n)) ≡ None)
    (mails : Channel → List (Message tells))
    (boards : (a : ℕ) → a < parts_in r
    → given_number (mails (Board a k)) ≡ given_before oracle n a) where
  abbrev it : Item
  it = item r.setup i

  abbrev now : State
  now = (guided r oracle n).state

  abbrev given : Option (List ℤ)
  given = if_fit r.setup it.writes (Some (joined_at r oracle i n ∷ []))

  abbrev Given : Option Held → Option (List ℤ) → Type 0
  Given o ns = Gives r (op.Join i) x (scalar_turn it x.numbers ns) o

  numbers_same : all_given k mails (parts_in r)
      ≡ map (given_before oracle n) (range_with_len 0 (parts_in r))
  numbers_same = all_same tells k mails (given_before oracle n) (parts_in r) boards

  moved_by : (o : Option Held) → Moves tells r k x mails (op.Join i) o → Given o given
  moved_by o moved = subst
      (λ (ns : List ℤ). Gives r (op.Join i) x (join_turn r.setup it x.numbers (joined it.kind ns))
      o) numbers_same moved

  op_is : tells → op_of r n ≡ op.Join i
  op_is t = ap (λ g. next_op r g.control) (sym (truth t)) ∙ there

  -- where wires tell and the parts' numbers make the number of the whole list, an end is met
  -- exactly where the undivided run meets it
  pub join_faults : (t : tells)
      → joined_at r oracle i n ≡ reduced it.kind (first_read (undivided r n).state it.reads)
      → (o : Option Held) → Moves tells r k x mails (op.Join i) o
      → MatchOption o (is_faulty r k (op_of r n) (undivided r n) ≡ true)
      (λ y. is_faulty r k (op_of r n) (undivided r n) ≡ false)
  join_faults t number o moved = go given refl o (moved_by o moved)
    where
      faults : is_faulty r k (op_of r n) (undivided r n)
          ≡ is_none (scalar_turn it (undivided r n).state given)
      faults =
          ap (λ q. is_faulty r k q (undivided r n)) (op_is t)
          ∙ ap is_none (turn_is it.kind r.setup r.rules
          (item_at r.setup i (undivided r n).control.iteration) (undivided r n).state
          (undivided r n).control.iteration is.kind)
          ∙ ap (λ z. is_none (scalar_turn it (undivided r n).state
          (if_fit r.setup it.writes (Some (z ∷ []))))) (sym number)

      go : (ns : Option (List ℤ)) → given ≡ ns → (o : Option Held) → Given o ns
          → MatchOption o (is_faulty r k (op_of r n) (undivided r n) ≡ true)
          (λ y. is_faulty r k (op_of r n) (undivided r n) ≡ false)
      go None e None g = faults ∙ ap (λ ns. is_none (scalar_turn it (undivided r n).state ns)) e
      go None e (Some y) g = absurd g
      go (Some ns) e None g = absurd g
      go (Some ns) e (Some y) g =
          faults ∙ ap (λ ns. is_none (scalar_turn it (undivided r n).state ns)) e

  pub join_moves : (y : Held) → Moves tells r k x mails (op.Join i) (Some y)
      → Stands tells r oracle k (suc n) y
  join_moves y moved = go given refl (moved_by (Some y) moved)
    where
      go : (o : Option (List ℤ)) → given ≡ o → Given (Some y) o → Stands tells r oracle k (suc n) y
      go None e g = absurd g
      go (Some ns) e g =
          let scalar = writes_scalars r.setup it is in
          record {
            count = g.0.count ∙ ap suc agrees.count;
            control = g.0.control
                ∙ ap (λ c. control_after r.setup (op.Join i) (scalar_of now) c) agrees.control
                ∙ sym (ap (λ o. control_after r.setup o (scalar_of now) (guided r oracle n).control)
                there);
            scalars = λ v s.
                ap (λ numbers. scalar_of numbers v) g.1
                ∙ scalars_same r.setup it.writes ns x.numbers now
                (record { vars = agrees.sized.vars; levels = agrees.sized.levels })
                (record { vars = states.vars; levels = states.levels })
                is.writes agrees.scalars v s
                ∙ ap (λ o. scalar_of (state_or (scalar_turn it now o) now) v) (sym e)
                ∙ sym
                (ap (λ o. scalar_of
                (guided_state r oracle n o (guided r oracle n).control.iteration now) v) there);
            sized = subst (IsHeld r.setup (local (cut_of r) k)) (sym g.1)
                (held_scalars r.setup (local (cut_of r) k)
                it.writes ns x.numbers agrees.sized scalar);
            numbers = λ t v level p grid below stored reached.
                ap (λ b. cond b (scalar_of y.numbers v)
                (number_at (local (cut_of r) k) (level_of y.numbers v level) p)) grid
                ∙ ap (λ numbers. number_at (local (cut_of r) k) (level_of numbers v level) p) g.1
                ∙ ap (λ ls. number_at (local (cut_of r) k) (get_or ls level []) p)
                (grids_stay r.setup it.writes ns x.numbers v grid scalar)
                ∙ sym
                (ap (λ b. cond b (scalar_of x.numbers v)
                (number_at (local (cut_of r) k) (level_of x.numbers v level) p)) grid)
                ∙ agrees.numbers t v level p grid below stored
                (subst (λ d. IsReached (cut_of r) k (cond (flags_at r n v level G) 3 d) p)
                (no_direction (op_of r (suc n)) (quiet t) v level
                ∙ sym (ap (λ o. done_directions o v level) (op_is t)))
                (subst (λ b. IsReached (cut_of r) k
                (cond b 3 (done_directions (op_of r (suc n)) v level)) p)
                (flags_same t v level grid) reached))
                ∙ sym (ap (λ list. at r.setup.shape list p) (level_same t v level grid));
          }
        where
          flags_same : tells → (v : VarId) (level : ℕ) → is_scalar r.setup v ≡ false
              → flags_at r (suc n) v level G ≡ flags_at r n v level G
          flags_same t v level grid =
              ap (λ o. notes_leave r.setup
              (notes_at r.setup r.rules o (undivided r n).control (undivided r n).state)
              (flags_at r n) v level G) (op_is t)
              ∙ ap (λ (f : Flags). f v level G)
              (turn_leaves r.setup i (undivided r n).control.iteration (undivided r n).state
              (turn r.setup r.rules (item_at r.setup i (undivided r n).control.iteration)
              (undivided r n).state (undivided r n).control.iteration) (flags_at r n))
              ∙ flags_stay r.setup it.writes (flags_at r n) v level grid
              (writes_scalars r.setup it is)

          level_same : tells → (v : VarId) (level : ℕ) → is_scalar r.setup v ≡ false
              → level_of (undivided r (suc n)).state v level
              ≡ level_of (undivided r n).state v level
          level_same t v level grid =
              let u = undivided r n in
              ap (λ o. level_of (state_after r.setup r.rules o u.control.iteration u.state) v level)
              (op_is t)
              ∙ ap (λ state. level_of state v level)
              (turned_is it.kind r.setup r.rules (item_at r.setup i u.control.iteration)
              u.state u.control.iteration is.kind)
              ∙ level_stays r.setup it u.state
              (if_fit r.setup it.writes
              (Some (reduced it.kind (first_read u.state it.reads) ∷ []))) v level grid
              (writes_scalars r.setup it is)
