use Rattle.std.proofs.Common.{ℕ, ◌≢◌, ◌<◌, [], map}
use Rattle.std.specs.Prelude.{string_bytes, slice_index_or}
use Rattle.cx_folder.proofs.names.is_new.Given as goal

abbrev pub invariant-others : goal.invariant-others
invariant-others l = (j : ℕ) → j < l.i → slice_index_or (map string_bytes l.fn.paths) j []
    ≢ slice_index_or (map string_bytes l.fn.paths) l.fn.k []
