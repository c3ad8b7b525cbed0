-- A wire in memory that fails at some calls.
use Rattle.std.specs.Prelude.{ℕ, ◌+◌, ◌-◌, ◌^◌, ◌≡◌, ◌≢◌, List, min, Result, Err}
use Rattle.std.specs.List.{Contains}
use Rattle.cx_wire.specs.Memory.{Carried}
use Rattle.cx_disk.specs.Fuse.{next_count}

-- the wire, the numbers of the calls that fail, and how many calls and faults there were
pub record Failing : Type 0 where
  pub wire : Carried
  pub fail : List ℕ
  pub calls : ℕ
  pub faults : ℕ

-- the next call is one of those that fail
abbrev pub FailsNext : Failing → Type 0
FailsNext w = Contains w.fail w.calls

-- a wire that no call was made of
abbrev pub failing_wire : Carried → List ℕ → Failing
failing_wire wire fail = record { wire = wire; fail = fail; calls = 0; faults = 0 }

-- what a call that fails leaves, and what one that passes leaves before it is passed on
abbrev pub failed : Failing → Failing
failed w = record w { calls = next_count w.calls; faults = next_count w.faults }

abbrev pub passed : Failing → Failing
passed w = record w { calls = next_count w.calls }

-- A call whose number is among those that fail answers this fault, and the two counts alone have
-- changed. Any other call never answers it; the wire within does it, and one call more is counted.
pub record FailsAt {T F : Type 0} (fault : F) (old new : Failing)
    (result : Result T F) : Type 0 where
  pub fails : FailsNext old → (result ≡ Err fault) × (new ≡ failed old)
  pub passes : (FailsNext old → ⊥)
      → (result ≢ Err fault) × (new ≡ record (passed old) { wire = new.wire })
