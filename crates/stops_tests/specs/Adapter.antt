-- A device that tells nothing of what it holds.
use Rattle.std.specs.Prelude.{ℕ, Bool}
use Rattle.cx_disk.specs.Disk.{Folders}

-- Whether it has been mounted, and on which folders, and how often it has failed.
pub record Adapter : Type 0 where
  pub mounted : Bool
  pub folders : Folders
  pub faults : ℕ
