-- A part's sweep within the run: what agrees at a place agrees behind it, and ends are met where
-- the undivided turn has no numbers.
use Rattle.std.proofs.Common.{◌≡◌, ℕ, zero, suc, ◌<◌, Bool, true, false, not, ◌&&◌, ◌||◌, eqb, refl, sym, ap, ◌∙◌, subst, cond, List, [], ◌∷◌, length, Option, Some, None}
use Rattle.std.specs.Prelude.{MatchOption, is_some, is_none}
use Rattle.std.specs.List.{list_all, list_any}
use Rattle.cx_grid.specs.declared.boxes.Point.{Point}
use Rattle.cx_grid.specs.Boxes.{points_in}
use Rattle.cx_grid.specs.Grid.{IsShape, at, whole}
use Rattle.cx_plan.specs.declared.variable.VarId.{VarId}
use Rattle.cx_plan.specs.declared.flag.Flag.TheVariants.{G}
use Rattle.cx_plan.specs.declared.item.ItemKind.{ItemKind}
use Rattle.cx_plan.specs.declared.item.ItemKind.TheVariants.{Cell, Scalar, Sum, Least, Greatest, Count}
use Rattle.cx_plan.specs.declared.item.Item.{Item}
use Rattle.cx_plan.specs.Setups.{Setup}
use Rattle.cx_plan.specs.Lookups.{item, is_scalar, levels_of}
use Rattle.cx_plan.specs.Steering.{item_at}
use Rattle.cx_plan.specs.Regions.{Flags, region_of, is_among, all_written}
use Rattle.cx_model.specs.States.{State, level_of, scalar_of, IsState}
use Rattle.cx_model.specs.Turns.{values_of, in_region, swept_at, levels_after, turn}
use Rattle.cx_flat.specs.declared.op.Op.{Op}
use Rattle.cx_model.specs.Courses.{turn_note, turned_by}
use Rattle.cx_flat.specs.Flats.{control_after, state_after, notes_at, ends_pair}
use Rattle.cx_cut.specs.Cuts.{IsReached, owned, local}
use Rattle.law_parts.specs.Holding.{Held, IsHeld, number_at, local_values, in_zone, part_sweep}
use Rattle.law_parts.specs.Runs.{Run, Oracle, next_op, undivided, op_of, flags_at, done_directions, guided, guided_state, cut_of}
use Rattle.cx_model.specs.Needs.{notes_leave}
use Rattle.law_parts.specs.Ghosts.{GhostsAt}
use Rattle.law_parts.specs.Moves.{Message, Channel, Gives, Moves}
use Rattle.law_parts.specs.Truths.{Stands, is_faulty}
use Rattle.law_parts.proofs.LevelsLaws.{scalars_kept, held_after}
use Rattle.law_parts.proofs.ZoneLaws.{Lies}
use Rattle.law_parts.proofs.Sweeps.{IsCell, cell_grid, faults_same, passes, sweeps_agree}
use Rattle.cx_flat.specs.declared.op.Op.TheVariants as op

-- an operation that no pair leads to is in no SYNC
pub no_direction : (o : Op) → ends_pair o ≡ None → (v : VarId) (level : ℕ)
    → done_directions o v level ≡ 0
no_direction (op.Post zero vars) e v level = go (is_among v vars && eqb level 0)
  where
    go : (b : Bool) → ◌≡◌ {A = ℕ} (cond b 0 0) 0
    go true = refl
    go false = refl
no_direction (op.Post (suc d) vars) e v level = absurd cc
no_direction (op.Take d vars path) e v level = absurd cc
no_direction (op.Sweep k) e v level = refl
no_direction (op.Apply k) e v level = refl
no_direction (op.Give k) e v level = refl
no_direction (op.Join k) e v level = refl
no_direction (op.Test w path skip) e v level = refl
no_direction op.Open e v level = refl
no_direction (op.Turn w path skip) e v level = refl
no_direction (op.Again back) e v level = refl
no_direction op.Rotate e v level = refl
no_direction (op.Due skip) e v level = refl
no_direction (op.Written skip) e v level = refl
no_direction (op.Skip skip) e v level = refl
no_direction (op.Next back) e v level = refl
no_direction (op.Piece w) e v level = refl
no_direction op.Save e v level = refl
no_direction op.Halt e v level = refl

-- a turn's note leaves the flags of its writes, whether it meets an end or not
pub turn_leaves : (setup : Setup) (k iteration : ℕ) (before : State) (o : Option State)
    (flags : Flags)
    → notes_leave setup (turn_note k (item_at setup k iteration) iteration before o ∷ []) flags
    ≡ all_written setup (item setup k).writes flags
turn_leaves setup k iteration before None flags = refl
turn_leaves setup k iteration before (Some state) flags = refl

module _ (tells : Type 0) (r : Run) (oracle : Oracle) (k n i : ℕ) (x : Held)
    (lies : Lies r.setup.shape (cut_of r) k) (shape : IsShape r.setup.shape)
    (cell : IsCell r.setup (item r.setup i))
    (agrees : Stands tells r oracle k n x)
    (there : next_op r (guided r oracle n).control ≡ op.Sweep i)
    (truth : tells → guided r oracle n ≡ undivided r n)
    (states : IsState r.setup (undivided r n).state)
    (ghosts : tells → GhostsAt r.setup (item r.setup i) (flags_at r n))
    (quiet : tells → ends_pair (op_of r (suc n)) ≡ None) where
  -- the item as it is in an iteration, and where the part stands
  abbrev at_time : ℕ → Item
  at_time c = item_at r.setup i c

  abbrev it : Item
  it = at_time x.control.iteration

  it_cell : IsCell r.setup it
  it_cell = record { kind = cell.kind; shape = cell.shape; reads = cell.reads }

  abbrev now : State
  now = (undivided r n).state

  -- where wires tell, the undivided run stands there too
  op_is : tells → op_of r n ≡ op.Sweep i
  op_is t = ap (λ g. next_op r g.control) (sym (truth t)) ∙ there

  iteration_is : tells → x.control.iteration ≡ (undivided r n).control.iteration
  iteration_is t = ap (λ c. c.iteration) agrees.control ∙ ap (λ g. g.control.iteration) (truth t)

  scalars_are : tells → (v : VarId) → is_scalar r.setup v ≡ true
      → scalar_of x.numbers v ≡ scalar_of now v
  scalars_are t v e = agrees.scalars v e ∙ ap (λ g. scalar_of g.state v) (truth t)

  done_is : tells → (v : VarId) (level : ℕ) → done_directions (op_of r n) v level ≡ 0
  done_is t v level = ap (λ o. done_directions o v level) (op_is t)

  numbers_are : tells → (v : VarId) (level : ℕ) (p : Point) → is_scalar r.setup v ≡ false
      → (v.0 < length r.setup.vars) × (level < levels_of r.setup v)
      → IsReached (cut_of r) k
      (cond (flags_at r n v level G) 3 (done_directions (op_of r n) v level)) p
      → number_at (local (cut_of r) k) (level_of x.numbers v level) p
      ≡ at r.setup.shape (level_of now v level) p
  numbers_are t v level p grid stored reached =
      sym (ap (λ b. cond b (scalar_of x.numbers v)
      (number_at (local (cut_of r) k) (level_of x.numbers v level) p)) grid)
      ∙ agrees.numbers t v level p grid stored.0 stored.1 reached

  abbrev here_passes : tells → Bool
  here_passes t = passes r.setup r.rules (cut_of r)
      k lies shape it it_cell x.numbers now x.control.iteration agrees.sized states (flags_at r n)
      (done_directions (op_of r n)) (ghosts t) (scalars_are t) (numbers_are t)

  abbrev zone : Point → Bool
  zone p = in_zone r.setup (owned (cut_of r) k) (region_of it.writes) p

  -- a part that sweeps meets an end exactly where the undivided turn has no numbers at a point of
  -- its zone
  pub sweep_faults : (t : tells) (mails : Channel → List (Message tells)) (o : Option Held)
      → Moves tells r k x mails (op.Sweep i) o
      → MatchOption o (is_faulty r k (op_of r n) (undivided r n) ≡ true)
      (λ y. is_faulty r k (op_of r n) (undivided r n) ≡ false)
  sweep_faults t mails o moved = go (here_passes t) refl o moved
    where
      faults : is_faulty r k (op_of r n) (undivided r n) ≡ not (here_passes t)
      faults =
          ap (λ o. is_faulty r k o (undivided r n)) (op_is t)
          ∙ ap (λ c. list_any (λ p. zone p
          && is_none (swept_at r.setup r.rules (at_time c) (values_of r.setup now) c p))
          (points_in (local (cut_of r) k))) (sym (iteration_is t))
          ∙ faults_same r.setup r.rules (cut_of r)
          k lies shape it it_cell x.numbers now x.control.iteration agrees.sized states
          (flags_at r n) (done_directions (op_of r n)) (ghosts t) (scalars_are t)
          (numbers_are t)

      go : (b : Bool) → here_passes t ≡ b → (o : Option Held)
          → Gives r (op.Sweep i) x
          (part_sweep r.setup r.rules (cut_of r) k it x.numbers x.control.iteration) o
          → MatchOption o (is_faulty r k (op_of r n) (undivided r n) ≡ true)
          (λ y. is_faulty r k (op_of r n) (undivided r n) ≡ false)
      go true e None g = absurd
          (subst (λ b. Gives r (op.Sweep i) x
          (cond b
          (Some (levels_after (local (cut_of r) k)
          (local_values r.setup (local (cut_of r) k) x.numbers) zone
          (swept_at r.setup r.rules it (local_values r.setup (local (cut_of r) k) x.numbers)
          x.control.iteration) 0 it.writes x.numbers)) None) None) e g)
      go true e (Some y) g = faults ∙ ap not e
      go false e None g = faults ∙ ap not e
      go false e (Some y) g =
          absurd
          (subst (λ b. Gives r (op.Sweep i) x
          (cond b
          (Some (levels_after (local (cut_of r) k)
          (local_values r.setup (local (cut_of r) k) x.numbers) zone
          (swept_at r.setup r.rules it (local_values r.setup (local (cut_of r) k) x.numbers)
          x.control.iteration) 0 it.writes x.numbers)) None) (Some y)) e g)

  abbrev new_numbers : State
  new_numbers = levels_after (local (cut_of r) k)
      (local_values r.setup (local (cut_of r) k) x.numbers) zone
      (swept_at r.setup r.rules it (local_values r.setup (local (cut_of r) k) x.numbers)
      x.control.iteration) 0 it.writes x.numbers

  abbrev passes_here : Bool
  passes_here = list_all (λ p. not (zone p)
      || is_some (swept_at r.setup r.rules it (local_values r.setup (local (cut_of r) k) x.numbers)
      x.control.iteration p)) (points_in (local (cut_of r) k))

  -- a Cell's turn of the total run
  cell_turned : (kind : ItemKind) → kind ≡ Cell → (state : State) (iteration : ℕ)
      → turned_by kind r.setup r.rules (at_time iteration) state iteration
      ≡ levels_after (whole r.setup.shape) (values_of r.setup state)
      (in_region r.setup.shape (region_of it.writes))
      (swept_at r.setup r.rules (at_time iteration) (values_of r.setup state) iteration)
      0 it.writes state
  cell_turned Cell e state iteration = refl
  cell_turned Scalar e state iteration = absurd cc
  cell_turned Sum e state iteration = absurd cc
  cell_turned Least e state iteration = absurd cc
  cell_turned Greatest e state iteration = absurd cc
  cell_turned Count e state iteration = absurd cc

  -- what agrees agrees behind the sweep
  pub sweep_moves : (mails : Channel → List (Message tells)) (y : Held)
      → Moves tells r k x mails (op.Sweep i) (Some y) → Stands tells r oracle k (suc n) y
  sweep_moves mails y moved = go passes_here refl moved
    where
      go : (b : Bool) → passes_here ≡ b
          → Gives r (op.Sweep i) x (cond b (Some new_numbers) None) (Some y)
          → Stands tells r oracle k (suc n) y
      go false e g = absurd g
      go true e g =
          record {
            count = g.0.count ∙ ap suc agrees.count;
            control = g.0.control
                ∙ ap (λ c. control_after r.setup (op.Sweep i) (scalar_of (guided r oracle n).state)
                c) agrees.control ∙ sym
                (ap (λ o. control_after r.setup o (scalar_of (guided r oracle n).state)
                (guided r oracle n).control) there);
            scalars = λ v s.
                ap (λ numbers. scalar_of numbers v) g.1
                ∙ scalars_kept r.setup (region_of it.writes) (local (cut_of r) k)
                (local_values r.setup (local (cut_of r) k) x.numbers) zone
                (swept_at r.setup r.rules it
                (local_values r.setup (local (cut_of r) k) x.numbers) x.control.iteration)
                0 it.writes x.numbers v s (cell_grid r.setup it it_cell)
                ∙ agrees.scalars v s ∙ sym (guided_scalar v s);
            sized = subst (IsHeld r.setup (local (cut_of r) k)) (sym g.1)
                (held_after r.setup (region_of it.writes) (local (cut_of r) k)
                (local_values r.setup (local (cut_of r) k) x.numbers) zone
                (swept_at r.setup r.rules it (local_values r.setup (local (cut_of r) k) x.numbers)
                x.control.iteration) 0 it.writes x.numbers agrees.sized
                (cell_grid r.setup it it_cell));
            numbers = λ t v level p grid below stored reached.
                ap (λ b. cond b (scalar_of y.numbers v)
                (number_at (local (cut_of r) k) (level_of y.numbers v level) p)) grid
                ∙ ap (λ numbers. number_at (local (cut_of r) k) (level_of numbers v level) p) g.1
                ∙ sweeps_agree r.setup r.rules (cut_of r)
                k lies shape it it_cell x.numbers now x.control.iteration agrees.sized states
                (flags_at r n) (done_directions (op_of r n)) (ghosts t) (scalars_are t)
                (numbers_are t)
                v level p e grid (below, stored) (done_is t v level)
                (subst (λ d. IsReached (cut_of r) k
                (cond (all_written r.setup it.writes (flags_at r n) v level G) 3 d) p)
                (no_direction (op_of r (suc n)) (quiet t) v level)
                (subst (λ (flags : Flags).
                IsReached (cut_of r) k
                (cond (flags v level G) 3 (done_directions (op_of r (suc n)) v level)) p)
                (flags_after t) reached))
                ∙ ap (λ c. at r.setup.shape
                (level_of (levels_after (whole r.setup.shape) (values_of r.setup now)
                (in_region r.setup.shape (region_of it.writes))
                (swept_at r.setup r.rules (at_time c) (values_of r.setup now) c)
                0 it.writes now) v level) p) (iteration_is t)
                ∙ sym (ap (λ state. at r.setup.shape (level_of state v level) p)
                (state_after_is t));
          }
        where
          guided_scalar : (v : VarId) → is_scalar r.setup v ≡ true
              → scalar_of (guided r oracle (suc n)).state v ≡ scalar_of (guided r oracle n).state v
          guided_scalar v s =
              let g = guided r oracle n in
              ap (λ o. scalar_of (guided_state r oracle n o g.control.iteration g.state) v) there
              ∙ ap (λ state. scalar_of state v)
              (cell_turned it.kind cell.kind g.state g.control.iteration)
              ∙ scalars_kept r.setup (region_of it.writes) (whole r.setup.shape)
              (values_of r.setup g.state) (in_region r.setup.shape (region_of it.writes))
              (swept_at r.setup r.rules (at_time g.control.iteration)
              (values_of r.setup g.state) g.control.iteration) 0 it.writes g.state v s
              (cell_grid r.setup it it_cell)

          flags_after : tells → flags_at r (suc n) ≡ all_written r.setup it.writes (flags_at r n)
          flags_after t =
              ap (λ o. notes_leave r.setup (notes_at r.setup r.rules o (undivided r n).control now)
              (flags_at r n)) (op_is t)
              ∙ turn_leaves r.setup i (undivided r n).control.iteration now
              (turn r.setup r.rules (at_time (undivided r n).control.iteration) now
              (undivided r n).control.iteration) (flags_at r n)

          state_after_is : tells
              → (undivided r (suc n)).state
              ≡ levels_after (whole r.setup.shape) (values_of r.setup now)
              (in_region r.setup.shape (region_of it.writes))
              (swept_at r.setup r.rules (at_time (undivided r n).control.iteration)
              (values_of r.setup now) (undivided r n).control.iteration) 0 it.writes now
          state_after_is t =
              ap (λ o. state_after r.setup r.rules o (undivided r n).control.iteration now)
              (op_is t) ∙ cell_turned it.kind cell.kind now (undivided r n).control.iteration
