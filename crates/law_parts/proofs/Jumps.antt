-- The operations of a part that leave its numbers: what agrees at a place agrees behind them, and
-- ends are met at a WHILE's limit alone.
use Rattle.std.proofs.Common.{◌≡◌, ℕ, zero, suc, Bool, true, false, ◌&&◌, eqb, refl, sym, ap, ◌∙◌, subst, cond, ℤ, pos, negsuc, List, [], ◌∷◌, Option, Some, None}
use Rattle.std.specs.Prelude.{MatchOption}
use Rattle.cx_grid.specs.Grid.{at}
use Rattle.cx_plan.specs.declared.variable.VarId.{VarId}
use Rattle.cx_plan.specs.declared.flag.Flag.TheVariants.{G}
use Rattle.cx_plan.specs.Setups.{Setup}
use Rattle.cx_plan.specs.Lookups.{is_scalar}
use Rattle.cx_plan.specs.Regions.{Flags, is_among}
use Rattle.cx_model.specs.States.{State, level_of, scalar_of}
use Rattle.cx_flat.specs.declared.op.Op.{Op}
use Rattle.cx_model.specs.Courses.{Note, by_zero}
use Rattle.cx_flat.specs.Flats.{Control, Flat, last_turns, turn_control, control_after, state_after, notes_at, Pair, Exchange, Reduction, begins_pair, ends_pair}
use Rattle.cx_cut.specs.Cuts.{IsReached, local}
use Rattle.law_parts.specs.Holding.{Held, IsHeld, local_values}
use Rattle.law_parts.specs.Runs.{Run, Oracle, next_op, undivided, op_of, flags_at, done_directions, guided, guided_state, cut_of}
use Rattle.cx_model.specs.Needs.{notes_leave}
use Rattle.law_parts.specs.Moves.{Message, Channel, Goes, Gives, Moves}
use Rattle.law_parts.specs.Truths.{Stands, is_faulty}
use Rattle.law_parts.proofs.SweepMoves.{no_direction}
use Rattle.cx_flat.specs.declared.op.Op.TheVariants as op

-- an operation that leaves numbers and flags, and whose control is the same by any states with the
-- same scalars
pub record Leaves (r : Run) (o : Op) : Type 0 where
  pub guided_stays : (oracle : Oracle) (n iteration : ℕ) (state : State)
      → guided_state r oracle n o iteration state ≡ state
  pub state_stays : (iteration : ℕ) (state : State)
      → state_after r.setup r.rules o iteration state ≡ state
  pub flags_stay : (c : Control) (state : State) (flags : Flags)
      → notes_leave r.setup (notes_at r.setup r.rules o c state) flags ≡ flags
  pub same_control : (f g : VarId → ℤ) (c : Control)
      → ((v : VarId) → is_scalar r.setup v ≡ true → f v ≡ g v)
      → control_after r.setup o f c ≡ control_after r.setup o g c

-- the scalar that a test reads is one
abbrev pub ReadsScalar : Setup → Op → Type 0
ReadsScalar setup (op.Test v path skip) = is_scalar setup v ≡ true
ReadsScalar setup (op.Turn v path skip) = is_scalar setup v ≡ true
ReadsScalar setup _ = Unit {0}

-- these are all but five
abbrev pub is_jump : Op → Bool
is_jump (op.Sweep k) = false
is_jump (op.Apply k) = false
is_jump (op.Give k) = true
is_jump (op.Join k) = false
is_jump (op.Post d vars) = true
is_jump (op.Take d vars path) = false
is_jump (op.Test v path skip) = true
is_jump op.Open = true
is_jump (op.Turn v path skip) = true
is_jump (op.Again back) = true
is_jump op.Rotate = false
is_jump (op.Due skip) = true
is_jump (op.Written skip) = true
is_jump (op.Skip skip) = true
is_jump (op.Next back) = true
is_jump (op.Piece v) = true
is_jump op.Save = true
is_jump op.Halt = true

tested_flags : (setup : Setup) (b : Bool) (m n : Note) (flags : Flags)
    → notes_leave setup (m ∷ []) flags ≡ flags → notes_leave setup (n ∷ []) flags ≡ flags
    → notes_leave setup (cond b m n ∷ []) flags ≡ flags
tested_flags setup true m n flags e f = e
tested_flags setup false m n flags e f = f

pub leaves : (r : Run) (o : Op) → is_jump o ≡ true → ReadsScalar r.setup o → Leaves r o
leaves r (op.Sweep k) j s = absurd cc
leaves r (op.Apply k) j s = absurd cc
leaves r (op.Join k) j s = absurd cc
leaves r (op.Take d vars path) j s = absurd cc
leaves r op.Rotate j s = absurd cc
leaves r (op.Give k) j s =
    record {
      guided_stays = λ o n i st. refl;
      state_stays = λ i st. refl;
      flags_stay = λ c st fl. refl;
      same_control = λ f g c h. refl;
    }
leaves r (op.Post d vars) j s =
    record {
      guided_stays = λ o n i st. refl;
      state_stays = λ i st. refl;
      flags_stay = λ c st fl. refl;
      same_control = λ f g c h. refl;
    }
leaves r (op.Test v path skip) j s =
    record {
      guided_stays = λ o n i st. refl;
      state_stays = λ i st. refl;
      flags_stay = λ c st fl. refl;
      same_control = λ f g c h.
          ap (λ z. control_after r.setup (op.Test v path skip) (λ w. z) c) (h v s);
    }
leaves r op.Open j s = record {
  guided_stays = λ o n i st. refl;
  state_stays = λ i st. refl;
  flags_stay = λ c st fl. refl;
  same_control = λ f g c h. refl;
}
leaves r (op.Turn v path skip) j s = record {
  guided_stays = λ o n i st. refl;
  state_stays = λ i st. refl;
  flags_stay = λ c st fl. tested_flags r.setup (eqb (last_turns c.opened) r.setup.while_limit)
      _ _ fl refl refl;
  same_control = λ f g c h. ap (λ z. turn_control r.setup c skip z) (h v s);
}
leaves r (op.Again back) j s =
    record {
      guided_stays = λ o n i st. refl;
      state_stays = λ i st. refl;
      flags_stay = λ c st fl. refl;
      same_control = λ f g c h. refl;
    }
leaves r (op.Due skip) j s =
    record {
      guided_stays = λ o n i st. refl;
      state_stays = λ i st. refl;
      flags_stay = λ c st fl. refl;
      same_control = λ f g c h. refl;
    }
leaves r (op.Written skip) j s =
    record {
      guided_stays = λ o n i st. refl;
      state_stays = λ i st. refl;
      flags_stay = λ c st fl. refl;
      same_control = λ f g c h. refl;
    }
leaves r (op.Skip skip) j s =
    record {
      guided_stays = λ o n i st. refl;
      state_stays = λ i st. refl;
      flags_stay = λ c st fl. refl;
      same_control = λ f g c h. refl;
    }
leaves r (op.Next back) j s =
    record {
      guided_stays = λ o n i st. refl;
      state_stays = λ i st. refl;
      flags_stay = λ c st fl. refl;
      same_control = λ f g c h. refl;
    }
leaves r (op.Piece v) j s =
    record {
      guided_stays = λ o n i st. refl;
      state_stays = λ i st. refl;
      flags_stay = λ c st fl. refl;
      same_control = λ f g c h. refl;
    }
leaves r op.Save j s = record {
  guided_stays = λ o n i st. refl;
  state_stays = λ i st. refl;
  flags_stay = λ c st fl. refl;
  same_control = λ f g c h. refl;
}
leaves r op.Halt j s = record {
  guided_stays = λ o n i st. refl;
  state_stays = λ i st. refl;
  flags_stay = λ c st fl. refl;
  same_control = λ f g c h. refl;
}

-- ---- directions done behind it

taken_first : (d : ℕ) (vars : List VarId) (o : Op) → ends_pair o ≡ Some (Exchange d vars)
    → (v : VarId) (level : ℕ)
    → done_directions o v level ≡ cond (is_among v vars && eqb level 0) d 0
taken_first d vars (op.Take e ws path) h v level =
    ap (λ (p : Option Pair). cond (is_among v (names_of p) && eqb level 0) (way_of p) 0) h
  where
    way_of : Option Pair → ℕ
    way_of (Some (Exchange a b)) = a
    way_of _ = d

    names_of : Option Pair → List VarId
    names_of (Some (Exchange a b)) = b
    names_of _ = vars
taken_first d vars (op.Post zero ws) h v level = absurd cc
taken_first d vars (op.Post (suc e) ws) h v level = absurd cc
taken_first d vars (op.Sweep k) h v level = absurd cc
taken_first d vars (op.Apply k) h v level = absurd cc
taken_first d vars (op.Give k) h v level = absurd cc
taken_first d vars (op.Join k) h v level = absurd cc
taken_first d vars (op.Test w path skip) h v level = absurd cc
taken_first d vars op.Open h v level = absurd cc
taken_first d vars (op.Turn w path skip) h v level = absurd cc
taken_first d vars (op.Again back) h v level = absurd cc
taken_first d vars op.Rotate h v level = absurd cc
taken_first d vars (op.Due skip) h v level = absurd cc
taken_first d vars (op.Written skip) h v level = absurd cc
taken_first d vars (op.Skip skip) h v level = absurd cc
taken_first d vars (op.Next back) h v level = absurd cc
taken_first d vars (op.Piece w) h v level = absurd cc
taken_first d vars op.Save h v level = absurd cc
taken_first d vars op.Halt h v level = absurd cc

join_behind : (k : ℕ) (o : Op) → ends_pair o ≡ Some (Reduction k) → (v : VarId) (level : ℕ)
    → done_directions o v level ≡ 0
join_behind k (op.Take e ws path) h v level = absurd cc
join_behind k (op.Post zero ws) h v level = absurd cc
join_behind k (op.Post (suc e) ws) h v level = absurd cc
join_behind k (op.Sweep i) h v level = refl
join_behind k (op.Apply i) h v level = refl
join_behind k (op.Give i) h v level = refl
join_behind k (op.Join i) h v level = refl
join_behind k (op.Test w path skip) h v level = refl
join_behind k op.Open h v level = refl
join_behind k (op.Turn w path skip) h v level = refl
join_behind k (op.Again back) h v level = refl
join_behind k op.Rotate h v level = refl
join_behind k (op.Due skip) h v level = refl
join_behind k (op.Written skip) h v level = refl
join_behind k (op.Skip skip) h v level = refl
join_behind k (op.Next back) h v level = refl
join_behind k (op.Piece w) h v level = refl
join_behind k op.Save h v level = refl
join_behind k op.Halt h v level = refl

pub done_stays : (setup : Setup) (o p : Op) → is_jump o ≡ true → ends_pair p ≡ begins_pair setup o
    → (v : VarId) (level : ℕ) → done_directions p v level ≡ done_directions o v level
done_stays setup (op.Sweep k) p j h v level = absurd cc
done_stays setup (op.Apply k) p j h v level = absurd cc
done_stays setup (op.Join k) p j h v level = absurd cc
done_stays setup (op.Take d vars path) p j h v level = absurd cc
done_stays setup op.Rotate p j h v level = absurd cc
done_stays setup (op.Give k) p j h v level = join_behind k p h v level
done_stays setup (op.Post d vars) p j h v level = taken_first d vars p h v level
done_stays setup (op.Test w path skip) p j h v level = no_direction p h v level
done_stays setup op.Open p j h v level = no_direction p h v level
done_stays setup (op.Turn w path skip) p j h v level = no_direction p h v level
done_stays setup (op.Again back) p j h v level = no_direction p h v level
done_stays setup (op.Due skip) p j h v level = no_direction p h v level
done_stays setup (op.Written skip) p j h v level = no_direction p h v level
done_stays setup (op.Skip skip) p j h v level = no_direction p h v level
done_stays setup (op.Next back) p j h v level = no_direction p h v level
done_stays setup (op.Piece w) p j h v level = no_direction p h v level
done_stays setup op.Save p j h v level = no_direction p h v level
done_stays setup op.Halt p j h v level = no_direction p h v level

-- ---- what it leads to

turned_held : (r : Run) (o : Op) (x y : Held) (b : Bool) (z : ℤ)
    → Gives r o x (cond b (by_zero z (Some x.numbers) None) (Some x.numbers)) (Some y)
    → Goes r o x y × (y.numbers ≡ x.numbers)
turned_held r o x y true (pos zero) g = g
turned_held r o x y true (pos (suc m)) g = absurd g
turned_held r o x y true (negsuc m) g = absurd g
turned_held r o x y false z g = g

pub goes_of : (tells : Type 0) (r : Run) (k : ℕ) (x y : Held)
    (mails : Channel → List (Message tells)) (o : Op) → is_jump o ≡ true
    → Moves tells r k x mails o (Some y) → Goes r o x y × (y.numbers ≡ x.numbers)
goes_of tells r k x y mails (op.Sweep i) j m = absurd cc
goes_of tells r k x y mails (op.Apply i) j m = absurd cc
goes_of tells r k x y mails (op.Join i) j m = absurd cc
goes_of tells r k x y mails (op.Take d vars path) j m = absurd cc
goes_of tells r k x y mails op.Rotate j m = absurd cc
goes_of tells r k x y mails (op.Give i) j m = m
goes_of tells r k x y mails (op.Post d vars) j m = m
goes_of tells r k x y mails (op.Test v path skip) j m = m
goes_of tells r k x y mails op.Open j m = m
goes_of tells r k x y mails (op.Turn v path skip) j m =
    turned_held r (op.Turn v path skip) x y (eqb (last_turns x.control.opened) r.setup.while_limit)
    (scalar_of x.numbers v) m
goes_of tells r k x y mails (op.Again back) j m = m
goes_of tells r k x y mails (op.Due skip) j m = m
goes_of tells r k x y mails (op.Written skip) j m = m
goes_of tells r k x y mails (op.Skip skip) j m = m
goes_of tells r k x y mails (op.Next back) j m = m
goes_of tells r k x y mails (op.Piece v) j m = m
goes_of tells r k x y mails op.Save j m = m
goes_of tells r k x y mails op.Halt j m = m

-- ---- ends

abbrev pub Meets : Option Held → Bool → Type 0
Meets h b = MatchOption h (b ≡ true) (λ y. b ≡ false)

never : (r : Run) (o : Op) (x : Held) (h : Option Held) → Gives r o x (Some x.numbers) h
    → Meets h false
never r o x None g = absurd g
never r o x (Some y) g = refl

turned_meets : (r : Run) (o : Op) (x : Held) (h : Option Held) (b : Bool) (z : ℤ)
    → Gives r o x (cond b (by_zero z (Some x.numbers) None) (Some x.numbers)) h
    → Meets h (b && by_zero z false true)
turned_meets r o x None true (pos zero) g = absurd g
turned_meets r o x (Some y) true (pos zero) g = refl
turned_meets r o x None true (pos (suc m)) g = refl
turned_meets r o x (Some y) true (pos (suc m)) g = absurd g
turned_meets r o x None true (negsuc m) g = refl
turned_meets r o x (Some y) true (negsuc m) g = absurd g
turned_meets r o x None false z g = absurd g
turned_meets r o x (Some y) false z g = refl

-- beside a state with the same control and scalars
jump_meets : (tells : Type 0) (r : Run) (k : ℕ) (x : Held) (mails : Channel → List (Message tells))
    (o : Op) → is_jump o ≡ true → ReadsScalar r.setup o → (g : Flat) → x.control ≡ g.control
    → ((v : VarId) → is_scalar r.setup v ≡ true → scalar_of x.numbers v ≡ scalar_of g.state v)
    → (h : Option Held) → Moves tells r k x mails o h → Meets h (is_faulty r k o g)
jump_meets tells r k x mails (op.Sweep i) j s g c e h m = absurd cc
jump_meets tells r k x mails (op.Apply i) j s g c e h m = absurd cc
jump_meets tells r k x mails (op.Join i) j s g c e h m = absurd cc
jump_meets tells r k x mails (op.Take d vars path) j s g c e h m = absurd cc
jump_meets tells r k x mails op.Rotate j s g c e h m = absurd cc
jump_meets tells r k x mails (op.Give i) j s g c e h m = never r (op.Give i) x h m
jump_meets tells r k x mails (op.Post d vars) j s g c e h m = never r (op.Post d vars) x h m
jump_meets tells r k x mails (op.Test v path skip) j s g c e h m =
    never r (op.Test v path skip) x h m
jump_meets tells r k x mails op.Open j s g c e h m = never r op.Open x h m
jump_meets tells r k x mails (op.Turn v path skip) j s g c e h m =
    subst (λ (q : Control).
    Meets h (eqb (last_turns q.opened) r.setup.while_limit
    && by_zero (scalar_of g.state v) false true)) c
    (subst
    (λ z. Meets h (eqb (last_turns x.control.opened) r.setup.while_limit
    && by_zero z false true)) (e v s)
    (turned_meets r (op.Turn v path skip) x h
    (eqb (last_turns x.control.opened) r.setup.while_limit) (scalar_of x.numbers v) m))
jump_meets tells r k x mails (op.Again back) j s g c e h m = never r (op.Again back) x h m
jump_meets tells r k x mails (op.Due skip) j s g c e h m = never r (op.Due skip) x h m
jump_meets tells r k x mails (op.Written skip) j s g c e h m = never r (op.Written skip) x h m
jump_meets tells r k x mails (op.Skip skip) j s g c e h m = never r (op.Skip skip) x h m
jump_meets tells r k x mails (op.Next back) j s g c e h m = never r (op.Next back) x h m
jump_meets tells r k x mails (op.Piece v) j s g c e h m = never r (op.Piece v) x h m
jump_meets tells r k x mails op.Save j s g c e h m = never r op.Save x h m
jump_meets tells r k x mails op.Halt j s g c e h m = never r op.Halt x h m

-- ---- a part's operation

module _ (tells : Type 0) (r : Run) (oracle : Oracle) (k n : ℕ) (x : Held) (o : Op)
    (jumps : is_jump o ≡ true) (reads : ReadsScalar r.setup o)
    (agrees : Stands tells r oracle k n x) (there : next_op r (guided r oracle n).control ≡ o)
    (truth : tells → guided r oracle n ≡ undivided r n)
    (pair : tells → ends_pair (op_of r (suc n)) ≡ begins_pair r.setup (op_of r n)) where
  op_is : tells → op_of r n ≡ o
  op_is t = ap (λ g. next_op r g.control) (sym (truth t)) ∙ there

  pub jump_moves : (mails : Channel → List (Message tells)) (y : Held)
      → Moves tells r k x mails o (Some y) → Stands tells r oracle k (suc n) y
  jump_moves mails y moved = go (goes_of tells r k x y mails o jumps moved) (leaves r o jumps reads)
    where
      go : Goes r o x y × (y.numbers ≡ x.numbers) → Leaves r o → Stands tells r oracle k (suc n) y
      go g l =
          let now = guided r oracle n in
          record {
            count = g.0.count ∙ ap suc agrees.count;
            control =
                g.0.control ∙ l.same_control (scalar_of x.numbers) (scalar_of now.state)
                x.control agrees.scalars
                ∙ ap (λ c. control_after r.setup o (scalar_of now.state) c) agrees.control
                ∙ sym (ap (λ q. control_after r.setup q (scalar_of now.state) now.control)
                there);
            scalars = λ v s.
                ap (λ numbers. scalar_of numbers v) g.1 ∙ agrees.scalars v s
                ∙ sym
                (ap (λ q. scalar_of (guided_state r oracle n q now.control.iteration now.state)
                v) there ∙ ap (λ state. scalar_of state v)
                (l.guided_stays oracle n now.control.iteration now.state));
            sized = subst (IsHeld r.setup (local (cut_of r) k)) (sym g.1) agrees.sized;
            numbers = λ t v level p grid below stored reached.
                ap (λ numbers. local_values r.setup (local (cut_of r) k) numbers v level p) g.1
                ∙ agrees.numbers t v level p grid below stored
                (subst (λ d. IsReached (cut_of r) k (cond (flags_at r n v level G) 3 d) p)
                (done_stays r.setup o (op_of r (suc n)) jumps
                (pair t ∙ ap (begins_pair r.setup) (op_is t)) v level
                ∙ sym (ap (λ q. done_directions q v level) (op_is t)))
                (subst (λ (f : Flags).
                IsReached (cut_of r) k
                (cond (f v level G) 3 (done_directions (op_of r (suc n)) v level)) p)
                (ap (λ q. notes_leave r.setup
                (notes_at r.setup r.rules q (undivided r n).control (undivided r n).state)
                (flags_at r n)) (op_is t)
                ∙ l.flags_stay (undivided r n).control (undivided r n).state (flags_at r n))
                reached))
                ∙ sym (ap (λ state. at r.setup.shape (level_of state v level) p)
                (ap (λ q. state_after r.setup r.rules q (undivided r n).control.iteration
                (undivided r n).state) (op_is t)
                ∙ l.state_stays (undivided r n).control.iteration (undivided r n).state));
          }

  -- an end is met at a WHILE's limit alone, where the undivided run meets it
  pub jump_faults : (t : tells) (mails : Channel → List (Message tells)) (h : Option Held)
      → Moves tells r k x mails o h → Meets h (is_faulty r k (op_of r n) (undivided r n))
  jump_faults t mails h moved =
      subst (λ q. Meets h (is_faulty r k q (undivided r n))) (sym (op_is t))
      (jump_meets tells r k x mails o jumps reads (undivided r n)
      (agrees.control ∙ ap (λ g. g.control) (truth t))
      (λ v s. agrees.scalars v s ∙ ap (λ g. scalar_of g.state v) (truth t)) h moved)
