-- What a call that is lent a mounted disk leaves of it.
use Rattle.std.specs.Prelude.{◌≡◌, IsTrue, Result}
use Rattle.cx_disk.specs.Cause.{HasCause}
use Rattle.cx_disk.specs.declared.disk.Disk.{Ghosts as DiskGhosts}

-- The disk is mounted, with the folders and as many files as it had. The failure is reported only
-- where the device counted one.
pub record Keeps {D A E : Type 0} (d : DiskGhosts D) (failure : E) (old new : D)
    (result : Result A E) : Type 0 where
  pub mounted : IsTrue (d.mounted new)
  pub folders : d.folders new ≡ d.folders old
  pub count : d.file_count new ≡ d.file_count old
  pub cause : HasCause failure (d.faults old) (d.faults new) result
