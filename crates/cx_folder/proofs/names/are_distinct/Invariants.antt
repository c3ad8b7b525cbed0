use Rattle.std.proofs.Common.{ℕ, ◌<◌, map}
use Rattle.std.specs.Prelude.{string_bytes}
use Rattle.cx_folder.specs.Names.{IsNewAt}
use Rattle.cx_folder.proofs.names.are_distinct.Given as goal

abbrev pub invariant-places : goal.invariant-places
invariant-places l = (j : ℕ) → j < l.k → IsNewAt (map string_bytes l.fn.paths) j
