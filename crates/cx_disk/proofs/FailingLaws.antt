-- Counting a call leaves the disk.
use Rattle.std.specs.Prelude.{◌≡◌, Bool, true, false, if◌then◌else◌}
use Rattle.std.proofs.Common.{ap}
use Rattle.cx_disk.specs.Failing.{Failing, called, failed}

pub disk_same : (fails : Bool) (old new : Failing)
    → new ≡ (if fails then failed old else called old) → new.disk ≡ old.disk
disk_same true old new is = ap (λ (f : Failing). f.disk) is
disk_same false old new is = ap (λ (f : Failing). f.disk) is
