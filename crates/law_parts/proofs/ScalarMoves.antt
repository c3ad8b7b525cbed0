-- A Scalar item's turn in each part is the undivided one: it reads and writes scalars alone.
use Rattle.std.proofs.Common.{◌≡◌, ℕ, suc, ◌<◌, ◌⊎◌, inl, inr, Bool, true, false, ◌&&◌, eqb, refl, sym, ap, ◌∙◌, subst, arith, cond, ℤ, pos, List, [], ◌∷◌, length, get_or, set, Option, Some, None}
use Rattle.std.specs.Prelude.{All, MatchOption, is_some, is_none}
use Rattle.std.specs.List.{list_all}
use Rattle.std.proofs.lemmas.Bool.{cases_eq, and_parts, both_ways, eqb-true}
use Rattle.std.proofs.lemmas.List.{length-set, get_or-set_same, get_or-set_other}
use Rattle.cx_grid.specs.declared.boxes.Box3.{Box3}
use Rattle.cx_grid.specs.Boxes.{shifted, point_count}
use Rattle.cx_grid.specs.Grid.{at}
use Rattle.cx_plan.specs.declared.variable.VarId.{VarId}
use Rattle.cx_plan.specs.declared.flag.Flag.TheVariants.{G}
use Rattle.cx_plan.specs.declared.item.ItemKind.{ItemKind}
use Rattle.cx_plan.specs.declared.item.ItemKind.TheVariants.{Cell, Scalar, Sum, Least, Greatest, Count}
use Rattle.cx_plan.specs.declared.item.Touch.{Touch}
use Rattle.cx_plan.specs.declared.item.Item.{Item}
use Rattle.cx_plan.specs.Setups.{Setup}
use Rattle.cx_plan.specs.Lookups.{item, is_scalar, levels_of, no_variable}
use Rattle.cx_plan.specs.Steering.{item_at}
use Rattle.cx_plan.specs.Regions.{Flags, written, all_written, after_write, after_scalar, kinds_agree, has_shape, read_needs}
use Rattle.cx_rule.specs.Routine.{Rule}
use Rattle.cx_model.specs.States.{State, level_of, scalar_of, with_scalar, IsState}
use Rattle.cx_model.specs.Turns.{Values, values_of, numbers_at, first_point, scalars_after, scalar_turn, turn, turn_by}
use Rattle.cx_model.specs.Courses.{state_or, turned_by}
use Rattle.cx_flat.specs.Flats.{Control, control_after, state_after, notes_at, ends_pair}
use Rattle.cx_cut.specs.Cuts.{IsReached, local}
use Rattle.law_parts.specs.Holding.{Held, IsHeld, number_at, local_values}
use Rattle.law_parts.specs.Runs.{Run, Oracle, next_op, undivided, op_of, flags_at, done_directions, guided, guided_state, cut_of}
use Rattle.cx_model.specs.Needs.{notes_leave}
use Rattle.law_parts.specs.Moves.{Message, Channel, Gives, Moves}
use Rattle.law_parts.specs.Truths.{Stands, is_faulty}
use Rattle.law_parts.proofs.LevelsLaws.{held_with}
use Rattle.law_parts.proofs.SeenLaws.{ShowsSame, numbers_at_same}
use Rattle.law_parts.proofs.Sweeps.{IsStored, all_at}
use Rattle.law_parts.proofs.SweepMoves.{no_direction, turn_leaves}
use Rattle.cx_flat.specs.declared.op.Op.TheVariants as op

-- ---- scalars written

abbrev pub is_scalar_touch : Setup → Touch → Bool
is_scalar_touch setup w = is_scalar setup w.var

-- each variable has its levels
pub record Rooms (setup : Setup) (state : State) : Type 0 where
  pub vars : length state ≡ length setup.vars
  pub levels : (v : VarId) → v.0 < length setup.vars
      → length (get_or state v.0 []) ≡ levels_of setup v

rooms_with : (setup : Setup) (state : State) (w : VarId) (n : ℤ) → Rooms setup state
    → Rooms setup (with_scalar state w n)
rooms_with setup state w n rooms =
    record {
      vars = length-set state w.0 (set (get_or state w.0 []) 0 (n ∷ [])) ∙ rooms.vars;
      levels = λ v h. go v (subst (λ n. v.0 < n) (sym rooms.vars) h) (cases_eq v.0 w.0)
          ∙ rooms.levels v h;
    }
  where
    go : (v : VarId) → v.0 < length state → (v.0 ≡ w.0) ⊎ (v.0 ≡ w.0 → ⊥)
        → length (get_or (with_scalar state w n) v.0 []) ≡ length (get_or state v.0 [])
    go v below (inl e) =
        let levels = set (get_or state w.0 []) 0 (n ∷ []) in
        ap (λ i. length (get_or (set state w.0 levels) i [])) e
        ∙ ap length (get_or-set_same state w.0 levels [] (subst (λ i. i < length state) e below))
        ∙ length-set (get_or state w.0 []) 0 (n ∷ [])
        ∙ ap (λ i. length (get_or state i [])) (sym e)
    go v below (inr m) = ap length
        (get_or-set_other state w.0 v.0 (set (get_or state w.0 []) 0 (n ∷ [])) [] m)

-- a variable that is written has the number, another one its old levels
scalar_set : (setup : Setup) (state : State) (w : VarId) (n : ℤ) (v : VarId) → Rooms setup state
    → IsStored setup w 0 → v.0 ≡ w.0 → scalar_of (with_scalar state w n) v ≡ n
scalar_set setup state w n v rooms stored e =
    let levels = set (get_or state w.0 []) 0 (n ∷ []) in
    let below : w.0 < length state = subst (λ m. w.0 < m) (sym rooms.vars) stored.0 in
    let some : 0 < length (get_or state w.0 []) =
    subst (λ m. 0 < m) (sym (rooms.levels w stored.0)) stored.1 in
    ap (λ i. get_or (get_or (get_or (set state w.0 levels) i []) 0 []) 0 (pos 0)) e
    ∙ ap (λ ls. get_or (get_or ls 0 []) 0 (pos 0)) (get_or-set_same state w.0 levels [] below)
    ∙ ap (λ l. get_or l 0 (pos 0)) (get_or-set_same (get_or state w.0 []) 0 (n ∷ []) [] some)

others_stay : (state : State) (w : VarId) (n : ℤ) (v : VarId) → (v.0 ≡ w.0 → ⊥)
    → get_or (with_scalar state w n) v.0 [] ≡ get_or state v.0 []
others_stay state w n v m =
    get_or-set_other state w.0 v.0 (set (get_or state w.0 []) 0 (n ∷ [])) [] m

-- two states with the same scalars keep them the same
pub scalars_same : (setup : Setup) (ws : List Touch) (ns : List ℤ) (a b : State) → Rooms setup a
    → Rooms setup b → All (λ (w : Touch). IsStored setup w.var 0) ws
    → ((v : VarId) → is_scalar setup v ≡ true → scalar_of a v ≡ scalar_of b v) → (v : VarId)
    → is_scalar setup v ≡ true
    → scalar_of (scalars_after ws ns a) v ≡ scalar_of (scalars_after ws ns b) v
scalars_same setup [] ns a b p q stored same = same
scalars_same setup (w ∷ ws) [] a b p q stored same = same
scalars_same setup (w ∷ ws) (n ∷ ns) a b p q stored same =
    scalars_same setup ws ns (with_scalar a w.var n) (with_scalar b w.var n)
    (rooms_with setup a w.var n p) (rooms_with setup b w.var n q)
    (λ k d l. stored (suc k) d (omega arith)) (λ v s. go v s (cases_eq v.0 w.var.0))
  where
    go : (v : VarId) → is_scalar setup v ≡ true → (v.0 ≡ w.var.0) ⊎ (v.0 ≡ w.var.0 → ⊥)
        → scalar_of (with_scalar a w.var n) v ≡ scalar_of (with_scalar b w.var n) v
    go v s (inl e) = scalar_set setup a w.var n v p (stored 0 w (omega arith)) e
        ∙ sym (scalar_set setup b w.var n v q (stored 0 w (omega arith)) e)
    go v s (inr m) = ap (λ ls. get_or (get_or ls 0 []) 0 (pos 0)) (others_stay a w.var n v m)
        ∙ same v s ∙ sym (ap (λ ls. get_or (get_or ls 0 []) 0 (pos 0)) (others_stay b w.var n v m))

-- a grid variable is none of the scalars
not_written : (setup : Setup) (v w : VarId) → is_scalar setup v ≡ false → is_scalar setup w ≡ true
    → v.0 ≡ w.0 → ⊥
not_written setup v w e f g =
    both_ways (is_scalar setup v) e (ap (λ i. (get_or setup.vars i no_variable).scalar) g ∙ f)

pub grids_stay : (setup : Setup) (ws : List Touch) (ns : List ℤ) (a : State) (v : VarId)
    → is_scalar setup v ≡ false → list_all (is_scalar_touch setup) ws ≡ true
    → get_or (scalars_after ws ns a) v.0 [] ≡ get_or a v.0 []
grids_stay setup [] ns a v e h = refl
grids_stay setup (w ∷ ws) [] a v e h = refl
grids_stay setup (w ∷ ws) (n ∷ ns) a v e h =
    let p = and_parts (is_scalar setup w.var) (list_all (is_scalar_touch setup) ws) h in
    grids_stay setup ws ns (with_scalar a w.var n) v e p.1
    ∙ others_stay a w.var n v (not_written setup v w.var e p.0)

pub held_scalars : (setup : Setup) (box : Box3) (ws : List Touch) (ns : List ℤ) (a : State)
    → IsHeld setup box a → list_all (is_scalar_touch setup) ws ≡ true
    → IsHeld setup box (scalars_after ws ns a)
held_scalars setup box [] ns a held h = held
held_scalars setup box (w ∷ ws) [] a held h = held
held_scalars setup box (w ∷ ws) (n ∷ ns) a held h =
    let p = and_parts (is_scalar setup w.var) (list_all (is_scalar_touch setup) ws) h in
    let many : length (n ∷ []) ≡ cond (is_scalar setup w.var) 1 (point_count box) =
    sym (ap (λ b. cond b 1 (point_count box)) p.0) in
    held_scalars setup box ws ns (with_scalar a w.var n)
    (held_with setup box a (record w { level = 0 }) (n ∷ []) held many) p.1

pub flags_stay : (setup : Setup) (ws : List Touch) (flags : Flags) (v : VarId) (level : ℕ)
    → is_scalar setup v ≡ false → list_all (is_scalar_touch setup) ws ≡ true
    → all_written setup ws flags v level G ≡ flags v level G
flags_stay setup [] flags v level e h = refl
flags_stay setup (w ∷ ws) flags v level e h =
    let p = and_parts (is_scalar setup w.var) (list_all (is_scalar_touch setup) ws) h in
    flags_stay setup ws (written setup flags w) v level e p.1
    ∙ go (eqb v.0 w.var.0) refl (not_written setup v w.var e p.0)
  where
    go : (b : Bool) → eqb v.0 w.var.0 ≡ b → (v.0 ≡ w.var.0 → ⊥)
        → cond (b && eqb level w.level)
        (cond (is_scalar setup v) (after_scalar G (flags v level G))
        (after_write w.region G (flags v level G))) (flags v level G) ≡ flags v level G
    go true q other = absurd (other (eqb-true v.0 w.var.0 q))
    go false q other = refl

-- ---- the item

pub record IsScalarItem (setup : Setup) (x : Item) : Type 0 where
  pub kind : x.kind ≡ Scalar
  pub shape : has_shape setup x ≡ true
  pub writes : All (λ (w : Touch). IsStored setup w.var 0) x.writes

scalar_kinds : (setup : Setup) (x : Item) (kind : ItemKind) → kind ≡ Scalar
    → kinds_agree setup x kind ≡ true
    → (list_all (is_scalar_touch setup) x.writes && list_all (is_scalar_touch setup) x.reads) ≡ true
scalar_kinds setup x Scalar e h = h
scalar_kinds setup x Cell e h = absurd cc
scalar_kinds setup x Sum e h = absurd cc
scalar_kinds setup x Least e h = absurd cc
scalar_kinds setup x Greatest e h = absurd cc
scalar_kinds setup x Count e h = absurd cc

touches : (setup : Setup) (x : Item) → IsScalarItem setup x
    → (list_all (is_scalar_touch setup) x.writes ≡ true)
    × (list_all (is_scalar_touch setup) x.reads ≡ true)
touches setup x is =
    let u = and_parts _ (list_all (λ r. is_some (read_needs setup x r)) x.reads) is.shape in
    and_parts (list_all (is_scalar_touch setup) x.writes) (list_all (is_scalar_touch setup) x.reads)
    (scalar_kinds setup x x.kind is.kind (and_parts _ (kinds_agree setup x x.kind) u.0).1)

turned_is : (setup : Setup) (rules : List Rule) (x : Item) (kind : ItemKind) → kind ≡ Scalar
    → (state : State) (iteration : ℕ)
    → turned_by kind setup rules x state iteration
    ≡ state_or (scalar_turn x state
    (numbers_at setup rules x (values_of setup state) iteration first_point first_point)) state
turned_is setup rules x Scalar e state iteration = refl
turned_is setup rules x Cell e state iteration = absurd cc
turned_is setup rules x Sum e state iteration = absurd cc
turned_is setup rules x Least e state iteration = absurd cc
turned_is setup rules x Greatest e state iteration = absurd cc
turned_is setup rules x Count e state iteration = absurd cc

turn_is : (setup : Setup) (rules : List Rule) (x : Item) (kind : ItemKind) → kind ≡ Scalar
    → (state : State) (iteration : ℕ)
    → turn_by kind setup rules x state iteration
    ≡ scalar_turn x state (numbers_at setup rules x (values_of setup state)
    iteration first_point first_point)
turn_is setup rules x Scalar e state iteration = refl
turn_is setup rules x Cell e state iteration = absurd cc
turn_is setup rules x Sum e state iteration = absurd cc
turn_is setup rules x Least e state iteration = absurd cc
turn_is setup rules x Greatest e state iteration = absurd cc
turn_is setup rules x Count e state iteration = absurd cc

pub level_stays : (setup : Setup) (x : Item) (state : State) (o : Option (List ℤ)) (v : VarId)
    (level : ℕ) → is_scalar setup v ≡ false → list_all (is_scalar_touch setup) x.writes ≡ true
    → level_of (state_or (scalar_turn x state o) state) v level ≡ level_of state v level
level_stays setup x state None v level e h = refl
level_stays setup x state (Some ns) v level e h =
    ap (λ ls. get_or ls level []) (grids_stay setup x.writes ns state v e h)

-- ---- a part's turn

module _ (tells : Type 0) (r : Run) (oracle : Oracle) (k n i : ℕ) (x : Held)
    (is : IsScalarItem r.setup (item r.setup i))
    (agrees : Stands tells r oracle k n x)
    (there : next_op r (guided r oracle n).control ≡ op.Apply i)
    (truth : tells → guided r oracle n ≡ undivided r n)
    (states : IsState r.setup (guided r oracle n).state)
    (quiet : tells → ends_pair (op_of r (suc n)) ≡ None) where
  abbrev now : State
  now = (guided r oracle n).state

  abbrev time : ℕ
  time = (guided r oracle n).control.iteration

  -- the item as it is in an iteration, and where the parts stand
  abbrev at_time : ℕ → Item
  at_time c = item_at r.setup i c

  abbrev it : Item
  it = at_time time

  it_is : IsScalarItem r.setup it
  it_is = record { kind = is.kind; shape = is.shape; writes = is.writes }

  abbrev here : Values
  here = local_values r.setup (record { low = first_point; high = first_point }) x.numbers

  abbrev given : Option (List ℤ)
  given = numbers_at r.setup r.rules it (values_of r.setup now) time first_point first_point

  shows_same : All (ShowsSame r.setup here (values_of r.setup now) first_point first_point) it.reads
  shows_same = λ j t l o inside.
      let d = get_or it.reads j t in
      let e = all_at (is_scalar_touch r.setup) it.reads (touches r.setup it it_is).1 j t l in
      ap (λ b. cond b (scalar_of x.numbers d.var)
      (number_at (record { low = first_point; high = first_point })
      (level_of x.numbers d.var d.level) (shifted first_point o))) e
      ∙ agrees.scalars d.var e
      ∙ sym
      (ap (λ b. cond b (scalar_of now d.var)
      (at r.setup.shape (level_of now d.var d.level) (shifted first_point o))) e)

  given_same : numbers_at r.setup r.rules (at_time x.control.iteration)
      here x.control.iteration first_point first_point ≡ given
  given_same =
      ap (λ (c : Control). numbers_at r.setup r.rules (at_time c.iteration)
      here c.iteration first_point first_point) agrees.control
      ∙ numbers_at_same r.setup r.rules it here (values_of r.setup now)
      time first_point first_point first_point shows_same

  abbrev Given : Option Held → Option (List ℤ) → Type 0
  Given o ns = Gives r (op.Apply i) x (scalar_turn it x.numbers ns) o

  op_is : tells → op_of r n ≡ op.Apply i
  op_is t = ap (λ g. next_op r g.control) (sym (truth t)) ∙ there

  -- a part meets an end exactly where the undivided turn has no numbers
  pub apply_faults : (t : tells) (mails : Channel → List (Message tells)) (o : Option Held)
      → Moves tells r k x mails (op.Apply i) o
      → MatchOption o (is_faulty r k (op_of r n) (undivided r n) ≡ true)
      (λ y. is_faulty r k (op_of r n) (undivided r n) ≡ false)
  apply_faults t mails o moved = go given refl o (subst (Given o) given_same moved)
    where
      faults : is_faulty r k (op_of r n) (undivided r n) ≡ is_none (scalar_turn it now given)
      faults =
          ap (λ g. is_faulty r k (next_op r g.control) g) (sym (truth t))
          ∙ ap (λ o. is_faulty r k o (guided r oracle n)) there
          ∙ ap is_none (turn_is r.setup r.rules it it.kind is.kind now time)

      go : (ns : Option (List ℤ)) → given ≡ ns → (o : Option Held) → Given o ns
          → MatchOption o (is_faulty r k (op_of r n) (undivided r n) ≡ true)
          (λ y. is_faulty r k (op_of r n) (undivided r n) ≡ false)
      go None e None g = faults ∙ ap (λ ns. is_none (scalar_turn it now ns)) e
      go None e (Some y) g = absurd g
      go (Some ns) e None g = absurd g
      go (Some ns) e (Some y) g = faults ∙ ap (λ ns. is_none (scalar_turn it now ns)) e

  pub apply_moves : (mails : Channel → List (Message tells)) (y : Held)
      → Moves tells r k x mails (op.Apply i) (Some y) → Stands tells r oracle k (suc n) y
  apply_moves mails y moved = go given refl (subst (Given (Some y)) given_same moved)
    where
      go : (o : Option (List ℤ)) → given ≡ o → Given (Some y) o → Stands tells r oracle k (suc n) y
      go None e g = absurd g
      go (Some ns) e g =
          record {
            count = g.0.count ∙ ap suc agrees.count;
            control = g.0.control
                ∙ ap (λ c. control_after r.setup (op.Apply i) (scalar_of now) c) agrees.control
                ∙ sym (ap (λ o. control_after r.setup o (scalar_of now) (guided r oracle n).control)
                there);
            scalars = λ v s.
                ap (λ numbers. scalar_of numbers v) g.1
                ∙ scalars_same r.setup it.writes ns x.numbers now
                (record { vars = agrees.sized.vars; levels = agrees.sized.levels })
                (record { vars = states.vars; levels = states.levels })
                is.writes agrees.scalars v s
                ∙ ap (λ o. scalar_of (state_or (scalar_turn it now o) now) v) (sym e)
                ∙ sym (ap (λ state. scalar_of state v) guided_after);
            sized = subst (IsHeld r.setup (local (cut_of r) k)) (sym g.1)
                (held_scalars r.setup (local (cut_of r) k) it.writes ns x.numbers agrees.sized
                (touches r.setup it it_is).0);
            numbers = λ t v level p grid below stored reached.
                ap (λ b. cond b (scalar_of y.numbers v)
                (number_at (local (cut_of r) k) (level_of y.numbers v level) p)) grid
                ∙ ap (λ numbers. number_at (local (cut_of r) k) (level_of numbers v level) p) g.1
                ∙ ap (λ ls. number_at (local (cut_of r) k) (get_or ls level []) p)
                (grids_stay r.setup it.writes ns x.numbers v grid (touches r.setup it it_is).0)
                ∙ sym
                (ap (λ b. cond b (scalar_of x.numbers v)
                (number_at (local (cut_of r) k) (level_of x.numbers v level) p)) grid)
                ∙ agrees.numbers t v level p grid below stored
                (subst (λ d. IsReached (cut_of r) k (cond (flags_at r n v level G) 3 d) p)
                (no_direction (op_of r (suc n)) (quiet t) v level
                ∙ sym (ap (λ o. done_directions o v level) (op_is t)))
                (subst (λ b. IsReached (cut_of r) k
                (cond b 3 (done_directions (op_of r (suc n)) v level)) p)
                (flags_same t v level grid) reached))
                ∙ sym (ap (λ list. at r.setup.shape list p) (level_same t v level grid));
          }
        where
          guided_after : (guided r oracle (suc n)).state ≡ state_or (scalar_turn it now given) now
          guided_after = ap (λ o. guided_state r oracle n o time now) there
              ∙ turned_is r.setup r.rules it it.kind is.kind now time

          flags_same : tells → (v : VarId) (level : ℕ) → is_scalar r.setup v ≡ false
              → flags_at r (suc n) v level G ≡ flags_at r n v level G
          flags_same t v level grid =
              ap (λ o. notes_leave r.setup
              (notes_at r.setup r.rules o (undivided r n).control (undivided r n).state)
              (flags_at r n) v level G) (op_is t)
              ∙ ap (λ (f : Flags). f v level G)
              (turn_leaves r.setup i (undivided r n).control.iteration (undivided r n).state
              (turn r.setup r.rules (at_time (undivided r n).control.iteration)
              (undivided r n).state (undivided r n).control.iteration) (flags_at r n))
              ∙ flags_stay r.setup it.writes (flags_at r n) v level grid
              (touches r.setup it it_is).0

          level_same : tells → (v : VarId) (level : ℕ) → is_scalar r.setup v ≡ false
              → level_of (undivided r (suc n)).state v level
              ≡ level_of (undivided r n).state v level
          level_same t v level grid =
              let u = undivided r n in
              ap (λ o. level_of (state_after r.setup r.rules o u.control.iteration u.state) v level)
              (op_is t)
              ∙ ap (λ state. level_of state v level)
              (turned_is r.setup r.rules (at_time u.control.iteration)
              it.kind is.kind u.state u.control.iteration)
              ∙ level_stays r.setup it u.state
              (numbers_at r.setup r.rules (at_time u.control.iteration)
              (values_of r.setup u.state) u.control.iteration first_point first_point)
              v level grid (touches r.setup it it_is).0
