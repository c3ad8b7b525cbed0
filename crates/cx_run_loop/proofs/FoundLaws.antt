-- What a start finds, and the newest checkpoint of files.
use Rattle.std.proofs.Common.{◌≡◌, ◌≢◌, ℕ, ◌≤◌, refl, sym, ◌∙◌, ap, arith, inl, inr}
use Rattle.std.specs.Prelude.{Option, Some, None, ◌⊎◌, Ok}
use Rattle.cx_plan.specs.declared.job.Job.{Job}
use Rattle.cx_plan.specs.declared.job.Recover.{Recover}
use Rattle.cx_plan.specs.declared.job.Recover.TheVariants.{No, Auto, Autoprobe}
use Rattle.cx_disk.specs.Disk.{Files}
use Rattle.cx_chk.specs.declared.checkpoint.Checkpoint.{Checkpoint}
use Rattle.cx_keep.specs.Tests.{begun_from}
use Rattle.cx_keep.specs.Trails.{NewestIs}
use Rattle.law_course.specs.Starts.{begun_with}
use Rattle.cx_run_loop.specs.Drives.{ResumesFrom, IsNotBelow}

-- the newest checkpoint is found, or none where old ones are given up
pub found_is : (recover : Recover) (newest found : Option Checkpoint)
    → begun_with recover newest ≡ Ok found
    → ((found ≡ None) × (recover ≡ No)) ⊎ ((found ≡ newest) × (recover ≢ No))
found_is No best found is = inl (let e : found ≡ None = cc in e, refl)
found_is Auto None found is = absurd (let e : ⊥ = cc in e)
found_is Auto (Some c) found is = inr (let e : found ≡ Some c = cc in e, λ bad. cc)
found_is Autoprobe best found is = inr (let e : found ≡ best = cc in e, λ bad. cc)

pub found_none : (job : Job) (files : Files) (recover : Recover) (newest : Option (ℕ × ℕ))
    (found : Option Checkpoint) → recover ≡ No → begun_from job files recover newest ≡ Ok found
    → found ≡ None
found_none job files No best found not is = let e : found ≡ None = cc in e
found_none job files Auto best found not is = absurd (let e : ⊥ = cc in e)
found_none job files Autoprobe best found not is = absurd (let e : ⊥ = cc in e)

-- ---- the newest checkpoint

-- there is one
pub only_newest : (files : Files) (n m : Option ℕ) → NewestIs files n → NewestIs files m → n ≡ m
only_newest files None None one other = refl
only_newest files None (Some m) one other =
    absurd (let bad : Some m ≡ None = sym other.header ∙ one other.slot other.known in cc)
only_newest files (Some n) None one other =
    absurd (let bad : Some n ≡ None = sym one.header ∙ other one.slot one.known in cc)
only_newest files (Some n) (Some m) one other =
    let a : n ≤ m = other.greatest one.slot n one.known one.header in
    let b : m ≤ n = one.greatest other.slot m other.known other.header in
    let e : n ≡ m = omega arith in ap (λ (k : ℕ). Some k) e

pub not_below_same : (n : Option ℕ) → IsNotBelow n n
not_below_same None = tt
not_below_same (Some n) = let e : n ≤ n = omega arith in e

pub resumes_from_newest : (recover : Recover) (files : Files) (n : Option ℕ) → recover ≢ No
    → NewestIs files n → ResumesFrom recover files n
resumes_from_newest No files n not is = absurd (not refl)
resumes_from_newest Auto files n not is = is
resumes_from_newest Autoprobe files n not is = is

pub resumes_from_none : (recover : Recover) (files : Files) → recover ≡ No
    → ResumesFrom recover files None
resumes_from_none No files given = refl
resumes_from_none Auto files given = absurd (let e : ⊥ = cc in e)
resumes_from_none Autoprobe files given = absurd (let e : ⊥ = cc in e)
