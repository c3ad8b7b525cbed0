-- The places that a run can come to, and how large their numbers are.
use Rattle.std.specs.Prelude.{◌≡◌, ℕ, ◌<◌, ◌≤◌, ◌^◌, ℤ, List, length, All, Option, Some, None}
use Rattle.cx_plan.specs.declared.variable.VarId.{VarId}
use Rattle.cx_plan.specs.Setups.{Setup}
use Rattle.cx_flat.specs.declared.op.Op.{Op}
use Rattle.cx_flat.specs.declared.op.Op.TheVariants.{Sweep, Apply, Give, Join, Post, Take, Test, Open, Turn, Again, Rotate, Due, Written, Skip, Next, Piece, Save, Halt}
use Rattle.cx_flat.specs.Code.{op_at, code, analysis_place}
use Rattle.cx_flat.specs.Flats.{Opened, Control, control_after}
use Rattle.cx_flat.specs.Ways.{Scalars, way_from, at_place}

-- what a run can come to from its start, or from ANALYSIS of an iteration, whatever the scalars are
-- before each operation
pub data IsReached (setup : Setup) : Control → Type 0 where
  starts : {c : Control} → c ≡ at_place 0 0 → IsReached setup c
  continues : {c : Control} (n : ℕ) → n ≤ setup.itlast → c ≡ at_place (analysis_place setup) n
      → IsReached setup c
  follows : {c : Control} (before : Control) (scalars : VarId → ℤ) → IsReached setup before
      → c ≡ control_after setup (op_at (code setup) before.pc) scalars before → IsReached setup c

-- how many WHILEs can be open at once: no tree of a whole job is deeper
abbrev pub most_open : ℕ
most_open = 32

-- a place at one of the operations, in an iteration and in turns that there are
pub record Fits (setup : Setup) (ops : List Op) (c : Control) : Type 0 where
  pub pc : c.pc < length ops
  pub iteration : c.iteration ≤ setup.itlast
  pub depth : length c.opened ≤ most_open
  pub turns : All (λ (o : Opened). o.turns ≤ setup.while_limit) c.opened

-- there are far fewer than 2^32 operations, each place that is reached fits, and each place of a
-- way is reached
pub record PlacesFit (setup : Setup) : Type 0 where
  pub few : length (code setup) < 2 ^ 31
  pub fit : (c : Control) → IsReached setup c → Fits setup (code setup) c
  pub reached : (scalars : Scalars) (first : Control) (n : ℕ) → IsReached setup first
      → IsReached setup (way_from setup (code setup) scalars n first)

-- the scalar that an operation reads to find its way
abbrev pub tested : Op → Option VarId
tested (Sweep k) = None
tested (Apply k) = None
tested (Give k) = None
tested (Join k) = None
tested (Post d vars) = None
tested (Take d vars path) = None
tested (Test v path skip) = Some v
tested Open = None
tested (Turn v path skip) = Some v
tested (Again back) = None
tested Rotate = None
tested (Due skip) = None
tested (Written skip) = None
tested (Skip skip) = None
tested (Next back) = None
tested (Piece v) = None
tested Save = None
tested Halt = None

-- a number is that scalar's, if one is read
abbrev pub IsTested : Op → (VarId → ℤ) → ℤ → Type 0
IsTested o scalars number = (v : VarId) → tested o ≡ Some v → scalars v ≡ number
