-- The way of a run by scalars that may be any numbers at each place, and the order of places. So it
-- holds of a run in parts whatever its wires tell.
use Rattle.std.specs.Prelude.{◌≡◌, ℕ, zero, suc, ◌+◌, ◌-◌, ◌<◌, ◌≤◌, ◌⊎◌, Bool, true, false, ℤ, List, [], ◌∷◌, length}
use Rattle.cx_plan.specs.declared.variable.VarId.{VarId}
use Rattle.cx_plan.specs.declared.tree.Tree.{Tree, Seq', Call, Sync, If', While', Row_of-Tree, end_of-Tree, more_of-Tree}
use Rattle.cx_plan.specs.Setups.{Setup}
use Rattle.cx_plan.specs.Lookups.{bin, STARTUP, WRAGH, PARAMCHECK, BASEGRID, INITIAL, POSTINITIAL, PRESTEP, EVOL, POSTSTEP, CHECKPOINT, ANALYSIS, TERMINATE, SHUTDOWN}
use Rattle.cx_flat.specs.declared.op.Op.{Op}
use Rattle.cx_flat.specs.declared.op.Op.TheVariants.{Sweep, Apply, Give, Join, Post, Take, Test, Open, Turn, Again, Rotate, Due, Written, Skip, Next, Piece, Save, Halt}
use Rattle.cx_flat.specs.Code.{op_at, code, analysis_place}
use Rattle.cx_flat.specs.Flats.{Opened, Control, control_after, is_halt}

-- ---- the order of places

-- the iteration, from the outside in the place of each open WHILE's test and its turns so far, last
-- the place of the operation
abbrev pub opened_key : List Opened → ℕ → List ℕ
opened_key [] pc = pc ∷ []
opened_key (o ∷ os) pc = o.place ∷ o.turns ∷ opened_key os pc

abbrev pub key : Control → List ℕ
key c = c.iteration ∷ opened_key c.opened c.pc

-- the first numbers that differ decide
abbrev pub Less : List ℕ → List ℕ → Type 0
Less [] ys = ⊥
Less (x ∷ xs) [] = ⊥
Less (x ∷ xs) (y ∷ ys) = (x < y) ⊎ ((x ≡ y) × Less xs ys)

-- ---- ways

abbrev pub Scalars : Type 0
Scalars = ℕ → VarId → ℤ

abbrev pub later : Scalars → Scalars
later scalars n = scalars (suc n)

-- the control after so many operations, by the scalars before each
abbrev pub way_from : Setup → List Op → Scalars → ℕ → Control → Control
way_from setup ops scalars zero c = c
way_from setup ops scalars (suc n) c =
    way_from setup ops (later scalars) n (control_after setup (op_at ops c.pc) (scalars 0) c)

-- ---- what is posted is taken by the operation behind

abbrev pub is_sending : Op → Bool
is_sending (Sweep k) = false
is_sending (Apply k) = false
is_sending (Give k) = true
is_sending (Join k) = false
is_sending (Post d vars) = true
is_sending (Take d vars path) = false
is_sending (Test v path skip) = false
is_sending Open = false
is_sending (Turn v path skip) = false
is_sending (Again back) = false
is_sending Rotate = false
is_sending (Due skip) = false
is_sending (Written skip) = false
is_sending (Skip skip) = false
is_sending (Next back) = false
is_sending (Piece v) = false
is_sending Save = false
is_sending Halt = false

abbrev pub is_receiving : Op → Bool
is_receiving (Sweep k) = false
is_receiving (Apply k) = false
is_receiving (Give k) = false
is_receiving (Join k) = true
is_receiving (Post d vars) = false
is_receiving (Take d vars path) = true
is_receiving (Test v path skip) = false
is_receiving Open = false
is_receiving (Turn v path skip) = false
is_receiving (Again back) = false
is_receiving Rotate = false
is_receiving (Due skip) = false
is_receiving (Written skip) = false
is_receiving (Skip skip) = false
is_receiving (Next back) = false
is_receiving (Piece v) = false
is_receiving Save = false
is_receiving Halt = false

-- whether an operation may stand behind another one
abbrev pub Paired : Op → Op → Type 0
Paired (Sweep k) p = is_receiving p ≡ false
Paired (Apply k) p = is_receiving p ≡ false
Paired (Give k) p = p ≡ Join k
Paired (Join k) p = is_receiving p ≡ false
Paired (Post d vars) p = (path : List ℕ) × (p ≡ Take d vars path)
Paired (Take d vars path) p = is_receiving p ≡ false
Paired (Test v path skip) p = is_receiving p ≡ false
Paired Open p = is_receiving p ≡ false
Paired (Turn v path skip) p = is_receiving p ≡ false
Paired (Again back) p = is_receiving p ≡ false
Paired Rotate p = is_receiving p ≡ false
Paired (Due skip) p = is_receiving p ≡ false
Paired (Written skip) p = is_receiving p ≡ false
Paired (Skip skip) p = is_receiving p ≡ false
Paired (Next back) p = is_receiving p ≡ false
Paired (Piece v) p = is_receiving p ≡ false
Paired Save p = is_receiving p ≡ false
Paired Halt p = is_receiving p ≡ false

-- the last of so many operations, or the one before them
abbrev pub last_from : Setup → List Op → Scalars → Op → ℕ → Control → Op
last_from setup ops scalars before zero c = before
last_from setup ops scalars before (suc n) c =
    last_from setup ops (later scalars) (op_at ops c.pc) n
    (control_after setup (op_at ops c.pc) (scalars 0) c)

-- none of so many operations behind this one is the last one, each raises the key, and what one
-- posts the next one takes
abbrev pub Rises : Setup → List Op → Scalars → Op → ℕ → Control → Type 0
Rises setup ops scalars before zero c = Unit {0}
Rises setup ops scalars before (suc n) c =
    (is_halt (op_at ops c.pc) ≡ false)
    × Less (key c) (key (control_after setup (op_at ops c.pc) (scalars 0) c))
    × Paired before (op_at ops c.pc)
    × Rises setup ops (later scalars) (op_at ops c.pc) n
    (control_after setup (op_at ops c.pc) (scalars 0) c)

-- ---- how many operations there are at most

-- the tests, the contents and the jumps back of so many turns
abbrev pub most_turns : ℕ → ℕ → ℕ
most_turns zero body = 1
most_turns (suc turns) body = suc (body + suc (most_turns turns body))

abbrev pub most_sync : ℕ → ℕ
most_sync zero = 0
most_sync (suc dims) = suc (suc (most_sync dims))

abbrev mutual
  pub most_tree : Setup → Tree → ℕ
  most_tree setup (Seq' shape all) = most_row setup all
  most_tree setup (Call k) = 2
  most_tree setup (Sync vars path) = most_sync setup.shape.dims
  most_tree setup (If' v path shape one) = suc (most_row setup one)
  most_tree setup (While' v path shape one) =
      suc (most_turns setup.while_limit (most_row setup one))

  pub most_row : {m : _} → Setup → Row_of-Tree m → ℕ
  most_row setup end_of-Tree = 0
  most_row setup (more_of-Tree tree rest) = most_tree setup tree + most_row setup rest

abbrev pub most_bins : Setup → List ℕ → ℕ
most_bins setup [] = 0
most_bins setup (b ∷ bs) = most_tree setup (bin setup b) + most_bins setup bs

abbrev pub most_before : Setup → ℕ
most_before setup =
    suc (most_bins setup (PRESTEP ∷ EVOL ∷ POSTSTEP ∷ [])
    + suc (suc (most_tree setup (bin setup CHECKPOINT))))

abbrev pub most_from : Setup → ℕ
most_from setup = most_tree setup (bin setup ANALYSIS) + suc (length setup.out_vars)

-- from the jump back on, with so many iterations to come
abbrev pub most_rest : Setup → ℕ → ℕ
most_rest setup zero = suc (most_bins setup (TERMINATE ∷ SHUTDOWN ∷ []))
most_rest setup (suc count) = suc (most_before setup + (most_from setup + most_rest setup count))

-- of a run that is continued from the checkpoint place of c, and of a whole run
abbrev pub most_after : Setup → ℕ → ℕ
most_after setup c = most_from setup + most_rest setup (setup.itlast - c)

abbrev pub most_operations : Setup → ℕ
most_operations setup =
    most_bins setup (STARTUP ∷ WRAGH ∷ PARAMCHECK ∷ BASEGRID ∷ INITIAL ∷ POSTINITIAL ∷ POSTSTEP
    ∷ []) + suc (most_after setup 0)

-- ---- all ways

-- from a control the operations come to the last one, after at most so many
pub record WayEnds (setup : Setup) (first : Control) (most : ℕ) (scalars : Scalars) : Type 0 where
  pub count : ℕ
  pub within : count ≤ most
  pub rises : Rises setup (code setup) scalars Halt count first
  pub quiet : is_sending (last_from setup (code setup) scalars Halt count first) ≡ false
  pub halts : is_halt (op_at (code setup) (way_from setup (code setup) scalars count first).pc)
      ≡ true

abbrev pub at_place : ℕ → ℕ → Control
at_place pc iteration = record { pc = pc; iteration = iteration; opened = [] }

pub record WaysEnd (setup : Setup) : Type 0 where
  pub whole : (scalars : Scalars) → WayEnds setup (at_place 0 0) (most_operations setup) scalars
  pub continued : (c : ℕ) → c ≤ setup.itlast → (scalars : Scalars)
      → WayEnds setup (at_place (analysis_place setup) c) (most_after setup c) scalars
