-- How a run goes on, event by event.
use Rattle.std.proofs.Common.{◌≡◌, ◌<◌, ℕ, List, Bool, IsTrue, ap, refl, subst}
use Rattle.cx_plan.specs.Setups.{Setup, setup_of}
use Rattle.cx_plan.specs.declared.job.Job.{Job}
use Rattle.cx_plan.specs.declared.variable.VarId.{VarId}
use Rattle.cx_rule.specs.Routine.{Rule}
use Rattle.cx_core_buffers.specs.Gathering.{HasPiece}
use Rattle.cx_wire.specs.Messages.{Sent}
use Rattle.law_parts.specs.Beginnings.{Beginning, Afresh, From, IsBeginning, run_of}
use Rattle.law_parts.specs.Totals.{undivided_from}
use Rattle.cx_core.specs.declared.answers.Event.{Event}
use Rattle.cx_core.specs.declared.answers.Event.TheVariants.{Section}
use Rattle.cx_core.specs.declared.answers.Outcome.TheVariants.{Going}
use Rattle.cx_core.specs.Cores.{Cores, enabled_in}
use Rattle.cx_core.specs.Hands.{Leaves, StepsTo, Stands}
use Rattle.cx_core.specs.Left.{steps_left}
use Rattle.cx_core.specs.Steps.{Begins, Counts, IsAt, IsRunning, Standing}

-- where a core begins afresh
pub begins_afresh : (tells : Type 0) (job : Job) (rules : List Rule) (first : Counts) (core : Cores)
    (queue : ℕ → ℕ → List (Sent tells))
    → Begins tells (run_of job rules Afresh) first core queue
    → IsRunning tells job rules (record { core = core; queue = queue; now = first })
begins_afresh tells job rules first core queue begins =
    record { beginning = Afresh; begins = tt; first = first; at = begins.at }

-- what a step says, whatever run of the job it is in
abbrev pub Does : (tells : Type 0) → Job → List Rule → ℕ → (was is : Standing tells) → Event
    → Type 0
Does tells job rules k was is event =
    (b : Beginning) → IsBeginning (setup_of job) b → (first : Counts)
    → (at : IsAt tells (run_of job rules b) first was.core was.queue was.now)
    → StepsTo tells (run_of job rules b) (undivided_from (setup_of job) rules b)
    first k was is at event

-- what the law of cores says
abbrev pub StandsIn : (told : Bool) → Job → List Rule → Type 0
StandsIn told job rules =
    (b : Beginning) → IsBeginning (setup_of job) b → (first : Counts) (is : Standing (IsTrue told))
    → (at : IsAt (IsTrue told) (run_of job rules b) first is.core is.queue is.now)
    → Stands (IsTrue told) (run_of job rules b) (undivided_from (setup_of job) rules b) first is at

-- each run of a job is over what the job says
setup_same : (job : Job) (rules : List Rule) (b : Beginning)
    → (run_of job rules b).setup ≡ setup_of job
setup_same job rules Afresh = refl
setup_same job rules (From c state so_far) = refl

module _ (tells : Type 0) (job : Job) (rules : List Rule) (k : ℕ) (was is : Standing tells)
    (event : Event) (there : IsRunning tells job rules was)
    (does : Does tells job rules k was is event) where
  -- it is still a run of the job
  pub goes_on : IsRunning tells job rules is
  goes_on =
      record {
        beginning = there.beginning;
        begins = there.begins;
        first = there.first;
        at = (does there.beginning there.begins there.first there.at).there;
      }

  -- with less left to do
  pub less_left : steps_left (setup_of job) is.core.pace < steps_left (setup_of job) was.core.pace
  less_left =
      subst (λ (s : Setup). steps_left s is.core.pace < steps_left s was.core.pace)
      (setup_same job rules there.beginning)
      (does there.beginning there.begins there.first there.at).less

  -- the text that comes next can be lent
  pub section_there : {v : VarId} {iteration : ℕ} → event ≡ Section v iteration
      → is.core.section ≡ v
  section_there {v} {iteration} e =
      let r = run_of job rules there.beginning in
      let leaves = subst (Leaves r.setup was.core is.core) e
      (does there.beginning there.begins there.first there.at).leaves in
      ap (λ (c : Cores). c.section) leaves.0

  pub piece_there : {v : VarId} {iteration : ℕ} → event ≡ Section v iteration
      → HasPiece (setup_of job) is.core.buffers v
  piece_there {v} {iteration} e =
      let r = run_of job rules there.beginning in
      let leaves = subst (Leaves r.setup was.core is.core) e
      (does there.beginning there.begins there.first there.at).leaves in
      subst (λ (s : Setup). HasPiece s is.core.buffers v) (setup_same job rules there.beginning)
      leaves.2

-- an event can happen
pub some_event : (told : Bool) (job : Job) (rules : List Rule) (is : Standing (IsTrue told))
    → IsRunning (IsTrue told) job rules is
    → StandsIn told job rules → is.core.outcome ≡ Going → 0 < enabled_in is.core
some_event told job rules is there stands going =
    (stands there.beginning there.begins there.first is there.at).some_event going
