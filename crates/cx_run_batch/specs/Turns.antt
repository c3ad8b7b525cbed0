-- The turns of a batch: which events they do, each the one that the source of turns picks.
use Rattle.std.specs.Prelude.{ℕ, ◌≡◌, ◌⊎◌, IsTrue, List, [], ◌∷◌, Some, Ok, Err, set, slice_get}
use Rattle.cx_plan.specs.declared.job.Job.{Job}
use Rattle.cx_rule.specs.Routine.{Rule}
use Rattle.cx_rule.specs.declared.spec.Spec.{Spec}
use Rattle.cx_disk.specs.declared.disk.Disk.{Ghosts as DiskGhosts}
use Rattle.cx_turns.specs.declared.turns.Turns.{Ghosts as TurnsGhosts}
use Rattle.cx_wire.specs.declared.wire.Wire.{Ghosts as WireGhosts}
use Rattle.cx_run_loop.specs.Lent.{wired}
use Rattle.cx_run_loop.specs.Turning.{IsCutAnew, Turning, TurnsLead, TurnsStop, turning}
use Rattle.cx_run_batch.specs.Members.{HaveStarted}
use Rattle.cx_run_batch.specs.declared.member.Member.{Member}
use Rattle.cx_run_batch.specs.declared.stage.Stage.{Stage}
use Rattle.cx_run_batch.specs.declared.stage.Stage.TheVariants.{Going, Over}

-- ---- one turn of one run

-- a run goes on where its last event left it, or with another core, which begins there
abbrev pub GoesFrom :
    {T : Type 0} → (tells : Type 0) → Job → List Rule → (last is : Turning tells T) → Type 0
GoesFrom tells job rules last is = (is ≡ last) ⊎ IsCutAnew tells job rules last is

-- By the cut that its job has before the turn, event after event is the one that the source picks:
-- up to where the run goes on, by the cut that its job has then, or to its end, or to where a fault
-- stops it. A run that is over asks for none.
abbrev pub TakesTurn :
    {W T : Type 0} → (w : WireGhosts W) → (t : TurnsGhosts T) → List Rule → (job now : Job)
    → (wire wire_after : W) → (meter meter_after : ℕ) → (turns turns_after : T)
    → (stage stage_after : Stage) → Type 0
TakesTurn w t rules job now wire wire_after meter meter_after turns turns_after (Over result)
    stage =
    turns_after ≡ turns
TakesTurn {W} {T} w t rules job now wire wire_after meter meter_after turns turns_after (Going x)
    (Going y) =
    (last : Turning (IsTrue w.tells) T)
    × TurnsLead t (IsTrue w.tells) job rules (turning x.run.core (wired w wire) meter turns) last
    × GoesFrom (IsTrue w.tells) now rules last
    (turning y.run.core (wired w wire_after) meter_after turns_after)
TakesTurn w t rules job now wire wire_after meter meter_after turns turns_after (Going x)
    (Over (Ok core)) =
    TurnsLead t (IsTrue w.tells) job rules (turning x.run.core (wired w wire) meter turns)
    (turning core (wired w wire_after) meter_after turns_after)
TakesTurn w t rules job now wire wire_after meter meter_after turns turns_after (Going x)
    (Over (Err fault)) =
    TurnsStop t (IsTrue w.tells) job rules (turning x.run.core (wired w wire) meter turns)
    turns_after

-- ---- turn after turn

-- the members of a batch, their wires, the meter and the source of turns
pub record Batch (W T : Type 0) : Type 0 where
  pub members : List Member
  pub wires : List W
  pub meter : ℕ
  pub turns : T

abbrev pub batch : {W T : Type 0} → List Member → List W → ℕ → T → Batch W T
batch members wires meter turns =
    record { members = members; wires = wires; meter = meter; turns = turns }

-- one member has taken a turn, with the wire at its place
pub record IsOneTurn {W T : Type 0} (w : WireGhosts W) (t : TurnsGhosts T) (rules : List Rule)
    (was is : Batch W T) : Type 0 where
  pub k : ℕ
  pub member : Member
  pub member_after : Member
  pub wire : W
  pub wire_after : W
  pub member_was : slice_get was.members k ≡ Some member
  pub members_are : is.members ≡ set was.members k member_after
  pub wire_was : slice_get was.wires k ≡ Some wire
  pub wires_are : is.wires ≡ set was.wires k wire_after
  pub turn : TakesTurn w t rules member.job member_after.job wire wire_after was.meter is.meter
      was.turns is.turns member.stage member_after.stage

-- so by way of these
abbrev pub TurnsBy :
    {W T : Type 0} → WireGhosts W → TurnsGhosts T → List Rule → List (Batch W T)
    → (was is : Batch W T) → Type 0
TurnsBy w t rules [] was is = is ≡ was
TurnsBy w t rules (b ∷ bs) was is = IsOneTurn w t rules was b × TurnsBy w t rules bs b is

abbrev pub AreTurns :
    {W T : Type 0} → WireGhosts W → TurnsGhosts T → List Rule → (was is : Batch W T) → Type 0
AreTurns {W} {T} w t rules was is = (by : List (Batch W T)) × TurnsBy w t rules by was is

-- each member has begun on its disk, and then they have taken turns
pub record TakeTurns {D W T : Type 0} (d : DiskGhosts D) (w : WireGhosts W) (t : TurnsGhosts T)
    (rules : List Rule) (specs : List Spec) (disks : List D) (was is : Batch W T) : Type 0 where
  pub begun : List Member
  pub disks_begun : List D
  pub starts : HaveStarted d specs was.members begun disks disks_begun
  pub turns : AreTurns w t rules (record was { members = begun }) is
