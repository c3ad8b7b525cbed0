-- A shelf in memory that fails at some calls.
use Rattle.std.specs.Prelude.{ℕ, ◌≡◌, ◌≢◌, List, Result, Err}
use Rattle.std.specs.List.{Contains}
use Rattle.cx_disk.specs.Fuse.{next_count}
use Rattle.cx_job_files.specs.declared.shelf.ShelfFault.{ShelfFault}
use Rattle.cx_job_files.specs.declared.shelf.ShelfFault.TheVariants.{Failed}

-- the files, the numbers of the calls that fail, the number of the next call, and how often it has
-- failed
pub record Failing : Type 0 where
  pub files : List (List ℕ × List ℕ)
  pub fail : List ℕ
  pub next : ℕ
  pub faults : ℕ

-- a shelf of which no call was made
abbrev pub failing_shelf : List (List ℕ × List ℕ) → List ℕ → Failing
failing_shelf files fail = record { files = files; fail = fail; next = 1; faults = 0 }

-- the next call is one of those that fail
abbrev pub FailsNext : Failing → Type 0
FailsNext f = Contains f.fail f.next

-- the same once the next call is counted, and once its failure is too
abbrev pub called : Failing → Failing
called f = record f { next = next_count f.next }

abbrev pub failed : Failing → Failing
failed f = record f { next = next_count f.next; faults = next_count f.faults }

-- A call whose number is among those fails, and is counted. Any other never fails. The files stay
-- as they are.
pub record FailsAt {T : Type 0} (old new : Failing) (result : Result T ShelfFault) : Type 0 where
  pub fails : FailsNext old → (result ≡ Err Failed) × (new ≡ failed old)
  pub passes : (FailsNext old → ⊥) → (result ≢ Err Failed) × (new ≡ called old)
