-- Files make one job, or they have one fault but for the cycle or the path that is shown.
use Rattle.std.proofs.Common.{◌≡◌, List, ℕ, Result, Ok, Err, inl, inr}
use Rattle.std.specs.Prelude.{◌⊎◌, IsErrAnd, MatchResult}
use Rattle.cx_plan.specs.declared.job.Job.{Job}
use Rattle.cx_rule.specs.declared.spec.Spec.{Spec}
use Rattle.cx_job_files.specs.Shelf.{Held}
use Rattle.cx_job_files.specs.Stages.{Raised}
use Rattle.cx_job_files.specs.Configuring.{Configures}
use Rattle.cx_job_files.proofs.Settled.{Settled, same_fault, then_settled, raised_settled}
use Rattle.cx_job_files.proofs.OnlyFiles.{configures_settled}
use Rattle.cx_job.specs.declared.fault.JobFault.{JobFault}
use Rattle.cx_job.specs.declared.fault.JobFault.TheVariants as faults
use Rattle.cx_job.specs.Faults.{config_fault}
use Rattle.cx_job.specs.Making.{MadeOf, Made, without_witness}
use Rattle.cx_job.proofs.OnlyMade.{made_settled}

module _ (files : Held) where
  job_settled : (name : List ℕ) (specs : List Spec)
      → Settled without_witness (Made name specs files)
  job_settled name specs =
      then_settled without_witness (Raised config_fault (Configures name files))
      (MadeOf specs files)
      (raised_settled without_witness config_fault (Configures name files)
      (configures_settled files name)) (made_settled specs files)

  -- ---- answers

  abbrev pub Comes : List ℕ → List Spec → Result Job JobFault → Type 0
  Comes name specs r = (r ≡ Err faults.Memory) ⊎ (r ≡ Err faults.Shelf) ⊎ Made name specs files r

  -- where the files make a job, it is answered
  pub only_job : (name : List ℕ) (specs : List Spec) (r : Result Job JobFault) → Comes name specs r
      → (job : Job) → Made name specs files (Ok job)
      → MatchResult r (λ found. found ≡ job) (λ e. (e ≡ faults.Memory) ⊎ (e ≡ faults.Shelf))
  only_job name specs (Ok found) (inl m) job made = absurd cc
  only_job name specs (Ok found) (inr (inl m)) job made = absurd cc
  only_job name specs (Ok found) (inr (inr told)) job made =
      (let same = (job_settled name specs).one job (Ok found) made told in cc)
  only_job name specs (Err e) (inl m) job made = inl (same_fault Job e faults.Memory m)
  only_job name specs (Err e) (inr (inl m)) job made = inr (same_fault Job e faults.Shelf m)
  only_job name specs (Err e) (inr (inr told)) job made =
      absurd (let no = (job_settled name specs).one job (Err e) made told in cc)

  -- where they make a fault, it is answered, but for what it shows
  pub only_fault : (name : List ℕ) (specs : List Spec) (r : Result Job JobFault)
      → Comes name specs r → (fault : JobFault) → Made name specs files (Err fault)
      → IsErrAnd r (λ e. (e ≡ faults.Memory) ⊎ (e ≡ faults.Shelf)
      ⊎ (without_witness e ≡ without_witness fault))
  only_fault name specs (Ok found) (inl m) fault made = absurd cc
  only_fault name specs (Ok found) (inr (inl m)) fault made = absurd cc
  only_fault name specs (Ok found) (inr (inr told)) fault made =
      absurd (let no = (job_settled name specs).one found (Err fault) told made in cc)
  only_fault name specs (Err e) (inl m) fault made = inl (same_fault Job e faults.Memory m)
  only_fault name specs (Err e) (inr (inl m)) fault made =
      inr (inl (same_fault Job e faults.Shelf m))
  only_fault name specs (Err e) (inr (inr told)) fault made =
      inr (inr ((job_settled name specs).alike e fault told made))
