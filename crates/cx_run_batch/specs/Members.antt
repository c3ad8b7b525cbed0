-- The members of a batch: each has a job, a disk and a wire of its own. All have one meter.
use Rattle.std.specs.Prelude.{ℕ, ◌+◌, ◌-◌, ◌≤◌, ◌≡◌, Bool, IsTrue, List, [], ◌∷◌, map, sum, Err}
use Rattle.std.specs.List.{AllByRecursion}
use Rattle.cx_cut.specs.Cuts.{part_count}
use Rattle.cx_cut.specs.Faults.{parts_of}
use Rattle.cx_plan.specs.declared.job.Job.{Job}
use Rattle.cx_rule.specs.Meter.{raised}
use Rattle.cx_rule.specs.Routine.{Rule}
use Rattle.cx_rule.specs.declared.spec.Spec.{Spec}
use Rattle.cx_disk.specs.declared.disk.Disk.{Ghosts as DiskGhosts}
use Rattle.cx_wire.specs.declared.wire.Wire.{Ghosts as WireGhosts}
use Rattle.cx_core.specs.Starts.{AreEmpty}
use Rattle.cx_run_loop.specs.Laws.{DriveLaws}
use Rattle.cx_run_loop.specs.declared.fault.DriveFault.TheVariants as faults
use Rattle.cx_run_batch.specs.Stages.{BeginsAs, IsAble, IsAt, IsOver, IsServed, Lot, lot, own_job, turns_left}
use Rattle.cx_run_batch.specs.declared.stage.Stage.{Stage}
use Rattle.cx_run_batch.specs.declared.stage.Stage.TheVariants.{Going, Over}
use Rattle.cx_run_batch.specs.declared.member.Member.{Member}

-- routines serve each member's job
abbrev pub AreServed : List Spec → List Member → Type 0
AreServed specs ms = AllByRecursion (λ (m : Member). IsServed specs m.job) ms

-- in its own cut
abbrev pub AreOwnServed : List Spec → List Member → Type 0
AreOwnServed specs ms = AllByRecursion (λ (m : Member). IsServed specs (own_job m.job m.stage)) ms

-- a meter has risen, or stands still at its type's end
abbrev pub Rises : (old new : ℕ) → Type 0
Rises old new = new ≡ raised old (new - old)

-- ---- before the batch begins

-- nothing was begun, as where there is no memory to begin
abbrev pub not_begun : Stage
not_begun = Over (Err faults.Memory)

abbrev pub waiting : Job → Member
waiting job = record { job = job; stage = not_begun; spent = 0 }

abbrev pub AreWaiting : List Member → Type 0
AreWaiting ms = AllByRecursion (λ (m : Member). m ≡ waiting m.job) ms

-- a wire serves the parts of a member's job, and has no message
pub record IsWired {W : Type 0} (w : WireGhosts W) (m : Member) (wire : W) : Type 0 where
  pub parts : part_count (parts_of m.job.shape m.job.cut) ≤ w.parts wire
  pub empty : AreEmpty (w.queue wire)

-- each member has a wire of its own
abbrev pub HaveWires : {W : Type 0} → WireGhosts W → List Member → List W → Type 0
HaveWires w [] wires = Unit {0}
HaveWires w (m ∷ ms) [] = ⊥
HaveWires w (m ∷ ms) (wire ∷ wires) = IsWired w m wire × HaveWires w ms wires

-- ---- the first turns

-- a member whose run has begun on this disk, or is over since it couldn't
pub record HasStarted {D : Type 0} (d : DiskGhosts D) (specs : List Spec) (m n : Member)
    (was is : D) : Type 0 where
  pub spent : n.spent ≡ m.spent
  pub begins : BeginsAs d specs m.job n.job was is n.stage
  pub laws : (told : Bool) (rules : List Rule) → DriveLaws (IsTrue told) m.job rules

-- each member's run on the disk at its place; the other disks are as they were
abbrev pub HaveStarted : {D : Type 0} → DiskGhosts D → List Spec → (ms ns : List Member)
    → (was is : List D) → Type 0
HaveStarted d specs [] [] was is = is ≡ was
HaveStarted d specs (m ∷ ms) (n ∷ ns) (a ∷ was) (b ∷ is) =
    HasStarted d specs m n a b × HaveStarted d specs ms ns was is
HaveStarted d specs ms ns was is = ⊥

-- ---- between two turns

-- how far each member's run is, on the disk and the wire at its place; the others are as they were
-- lent
abbrev pub AreAt : {D W : Type 0} → DiskGhosts D → WireGhosts W → List Rule → List Spec
    → List Member → (disks_lent disks : List D) → (wires_lent wires : List W) → ℕ → Type 0
AreAt d w rules specs [] was is vs us meter = (is ≡ was) × (us ≡ vs)
AreAt d w rules specs (m ∷ ms) (a ∷ was) (b ∷ is) (v ∷ vs) (u ∷ us) meter =
    IsAt d w rules specs m.job (lot a b v u meter m.spent) m.stage
    × AreAt d w rules specs ms was is vs us meter
AreAt d w rules specs ms was is vs us meter = ⊥

-- a member can take a turn: if it isn't over it can be moved on
pub record CanTurn {D W : Type 0} (d : DiskGhosts D) (w : WireGhosts W) (rules : List Rule)
    (specs : List Spec) (m : Member) (disk : D) (wire : W) (meter : ℕ) : Type 0 where
  pub able : IsAble d w rules specs m.job disk wire meter m.stage
  pub within : m.spent ≤ meter

-- each member can
abbrev pub AreAble : {D W : Type 0} → DiskGhosts D → WireGhosts W → List Rule → List Spec
    → List Member → List D → List W → ℕ → Type 0
AreAble d w rules specs [] is us meter = Unit {0}
AreAble d w rules specs (m ∷ ms) (b ∷ is) (u ∷ us) meter =
    CanTurn d w rules specs m b u meter × AreAble d w rules specs ms is us meter
AreAble d w rules specs ms is us meter = ⊥

abbrev pub jobs_of : List Member → List Job
jobs_of ms = map (λ (m : Member). m.job) ms

-- the jobs in their own cuts
abbrev pub own_jobs : List Member → List Job
own_jobs ms = map (λ (m : Member). own_job m.job m.stage) ms

-- what all have counted
abbrev pub spent_by : List Member → ℕ
spent_by ms = sum (map (λ (m : Member). m.spent) ms)

-- The members, their disks and wires, and the meter, before and after some turns. Each run is how
-- far it is from what it was lent, if it was before. The meter has risen by what all have counted.
pub record Turned {D W : Type 0} (d : DiskGhosts D) (w : WireGhosts W) (rules : List Rule)
    (specs : List Spec) (ms ns : List Member) (is js : List D) (us xs : List W) (old new : ℕ)
    : Type 0 where
  pub jobs : own_jobs ns ≡ own_jobs ms
  pub at : (was : List D) (vs : List W) → AreAt d w rules specs ms was is vs us old
      → AreAt d w rules specs ns was js vs xs new
  pub able : AreAble d w rules specs ns js xs new
  pub counts : new + spent_by ms ≡ old + spent_by ns
  pub rises : Rises old new

-- no more turns than this
abbrev pub left_to : List Member → ℕ
left_to ms = sum (map (λ (m : Member). turns_left m.job m.stage) ms)

-- ---- at the end

-- a run that is over
abbrev pub HasRun : {D W : Type 0} → DiskGhosts D → WireGhosts W → List Rule → List Spec → Job
    → Lot D W → Stage → Type 0
HasRun d w rules specs job lot (Going x) = ⊥
HasRun d w rules specs job lot (Over result) = IsOver d w rules specs job lot result

-- each job has run on the disk and the wire at its place; the others are as they were
abbrev pub HaveRun : {D W : Type 0} → DiskGhosts D → WireGhosts W → List Rule → List Spec
    → List Member → (disks disks_now : List D) → (wires wires_now : List W) → ℕ → Type 0
HaveRun d w rules specs [] was is vs us meter = (is ≡ was) × (us ≡ vs)
HaveRun d w rules specs (m ∷ ms) (a ∷ was) (b ∷ is) (v ∷ vs) (u ∷ us) meter =
    HasRun d w rules specs m.job (lot a b v u meter m.spent) m.stage
    × HaveRun d w rules specs ms was is vs us meter
HaveRun d w rules specs ms was is vs us meter = ⊥
