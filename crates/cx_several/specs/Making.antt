-- The jobs of a batch, made in the order of the words.
use Rattle.std.specs.Prelude.{◌≡◌, ◌≢◌, ◌⊎◌, ℕ, ◌≤◌, List, [], ◌∷◌, ◌++◌, map, Some, None, Result, Ok, Err}
use Rattle.std.specs.List.{AllByRecursion}
use Rattle.cx_grid.specs.Grid.{HasInterior}
use Rattle.cx_plan.specs.declared.job.Job.{Job}
use Rattle.cx_rule.specs.Routine.{Rule}
use Rattle.cx_rule.specs.declared.spec.Spec.{Spec}
use Rattle.law_course.specs.Starts.{TrailsBegin}
use Rattle.cx_job.specs.Making.{IsReady, Made, without_witness}
use Rattle.cx_job.specs.declared.fault.JobFault.{JobFault}
use Rattle.cx_job.specs.declared.fault.JobFault.TheVariants as faults
use Rattle.cx_job_files.specs.Shelf.{Held}
use Rattle.cx_run_loop.specs.Lent.{HasRisen}
use Rattle.cx_run_batch.specs.Members.{waiting}
use Rattle.cx_run_batch.specs.declared.member.Member.{Member}
use Rattle.cx_run.specs.Calls.{Lent}
use Rattle.cx_run.specs.Causes.{MakesOn}
use Rattle.cx_several.specs.Faults.{jobs_fault}
use Rattle.cx_several.specs.declared.fault.BatchFault.{BatchFault}
use Rattle.cx_several.specs.declared.fault.BatchFault.TheVariants as batch

-- ---- what files make that a shelf holds

-- each of them makes a job
abbrev pub AllMade : List Spec → Held → List (List ℕ) → List Job → Type 0
AllMade specs held [] [] = Unit {0}
AllMade specs held (file ∷ files) (job ∷ jobs) =
    Made file specs held (Ok job) × AllMade specs held files jobs
AllMade specs held files jobs = ⊥

-- this one is the first that makes none, and this is its fault
abbrev pub IsFirstFault : List Spec → Held → List (List ℕ) → List ℕ → JobFault → Type 0
IsFirstFault specs held [] named fault = ⊥
IsFirstFault specs held (file ∷ files) named fault =
    ((named ≡ file) × Made file specs held (Err fault))
    ⊎ ((job : Job) × Made file specs held (Ok job) × IsFirstFault specs held files named fault)

-- ---- what was made of them

-- `make_job` gave these jobs
abbrev pub AreMade : Lent Held → List Spec → List (List ℕ) → List Job → Type 0
AreMade s specs [] [] = Unit {0}
AreMade s specs (file ∷ files) (job ∷ jobs) =
    MakesOn s file specs (Ok job) × AreMade s specs files jobs
AreMade s specs files jobs = ⊥

-- It gave a fault for this file, which is the first that makes no job. So the files don't all make
-- jobs, and none has another first fault, but for the cycle or the path that is shown.
pub record IsUnmade (s : Lent Held) (specs : List Spec) (files : List (List ℕ)) (file : List ℕ)
    (fault : JobFault) : Type 0 where
  pub other_than_shelf : fault ≢ faults.Shelf
  pub other_than_memory : fault ≢ faults.Memory
  pub first : s.tells → IsFirstFault specs s.old files file fault
  pub none : s.tells → (jobs : List Job) → AllMade specs s.old files jobs → ⊥
  pub alike : s.tells → (named : List ℕ) (other : JobFault)
      → IsFirstFault specs s.old files named other
      → (named ≡ file) × (without_witness fault ≡ without_witness other)

-- they make jobs that have this fault
pub record AreAtFault (s : Lent Held) (specs : List Spec) (files : List (List ℕ))
    (fault : BatchFault) : Type 0 where
  pub jobs : List Job
  pub made : AreMade s specs files jobs
  pub fault_is : jobs_fault files jobs ≡ Some fault

-- why they don't all make jobs
abbrev pub IsWhyUnmade : Lent Held → List Spec → List (List ℕ) → BatchFault → Type 0
IsWhyUnmade s specs files batch.Shelf = HasRisen s.faults
IsWhyUnmade s specs files batch.Memory = Unit {0}
IsWhyUnmade s specs files (batch.Job file fault) = IsUnmade s specs files file fault
IsWhyUnmade s specs files (batch.SameFolder a b) = ⊥
IsWhyUnmade s specs files (batch.Limit n) = ⊥

-- why they aren't run
abbrev pub IsWhy : Lent Held → List Spec → List (List ℕ) → BatchFault → Type 0
IsWhy s specs files batch.Shelf = HasRisen s.faults
IsWhy s specs files batch.Memory = Unit {0}
IsWhy s specs files (batch.Job file fault) = IsUnmade s specs files file fault
IsWhy s specs files (batch.SameFolder a b) = AreAtFault s specs files (batch.SameFolder a b)
IsWhy s specs files (batch.Limit n) = AreAtFault s specs files (batch.Limit n)

-- ---- the jobs, ready to be run

-- a job that these objects serve, and whose run begins on trails as it should
pub record IsServable (specs : List Spec) (job : Job) : Type 0 where
  pub ready : IsReady specs job
  pub interior : HasInterior job.shape
  pub begins : (rules : List Rule) → TrailsBegin job rules

abbrev pub AreServable : List Spec → List Job → Type 0
AreServable specs jobs = AllByRecursion (λ (job : Job). IsServable specs job) jobs

-- jobs that can be run together
pub record AreJobs (s : Lent Held) (specs : List Spec) (files : List (List ℕ)) (jobs : List Job)
    : Type 0 where
  pub made : AreMade s specs files jobs
  pub no_fault : jobs_fault files jobs ≡ None
  pub servable : AreServable specs jobs

-- the shelf's files are as they were, and its count hasn't fallen
pub record IsShelfKept (s : Lent Held) : Type 0 where
  pub held : s.tells → s.new ≡ s.old
  pub later : s.faults.old ≤ s.faults.new

-- ---- members for them

-- there is a member for each, whose run hasn't begun
pub record HasMembers (s : Lent Held) (specs : List Spec) (files : List (List ℕ))
    (ms : List Member) : Type 0 where
  pub jobs : List Job
  pub are : AreJobs s specs files jobs
  pub members : ms ≡ map waiting jobs

-- such members were put after those that there were
pub record HasPushed (s : Lent Held) (specs : List Spec) (files : List (List ℕ))
    (old new : List Member) : Type 0 where
  pub jobs : List Job
  pub made : AreMade s specs files jobs
  pub servable : AreServable specs jobs
  pub members : new ≡ old ++ map waiting jobs

abbrev pub PushesJobs : {X : Type 0} → Lent Held → List Spec → List (List ℕ)
    → (old new : List Member) → Result X BatchFault → Type 0
PushesJobs s specs files old new (Ok x) = HasPushed s specs files old new
PushesJobs s specs files old new (Err fault) = IsWhyUnmade s specs files fault

-- members that can be run
pub record IsRunnable (specs : List Spec) (m : Member) : Type 0 where
  pub waits : m ≡ waiting m.job
  pub servable : IsServable specs m.job

abbrev pub AreRunnable : List Spec → List Member → Type 0
AreRunnable specs ms = AllByRecursion (λ (m : Member). IsRunnable specs m) ms
