-- What the types of a checkpoint's numbers say of them.
use Rattle.std.specs.Prelude.{All}
use Rattle.std.specs.Int.{w64}
use Rattle.std.specs.Int.RustNames.{FitsSigned}
use Rattle.cx_chk.specs.declared.checkpoint.Checkpoint.{Checkpoint}
use Rattle.cx_chk.specs.Encoding.{IsWord}

pub record AreNumbers (c : Checkpoint) : Type 0 where
  pub iteration : IsWord c.iteration
  pub lengths : All IsWord c.lengths
  pub scalars : All (FitsSigned w64) c.scalars
  pub levels : All (All (FitsSigned w64)) c.levels
