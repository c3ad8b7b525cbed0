-- The folders of the host, as contracts see them.
use Rattle.std.specs.Prelude.{ℕ, List}
use Rattle.cx_folder.specs.Names.{Path}

-- The folders of which the run has the locks, and how often the host has failed.
pub record Host : Type 0 where
  pub held : List Path
  pub faults : ℕ
