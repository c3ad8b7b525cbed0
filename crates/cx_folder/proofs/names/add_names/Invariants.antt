use Rattle.std.proofs.Common.{ℕ, ◌≡◌, ◌<◌, ◌++◌, [], map, take}
use Rattle.std.specs.Prelude.{string_bytes, slice_index_or}
use Rattle.std.specs.Str.{IsUtf8}
use Rattle.cx_folder.specs.Names.{named_path}
use Rattle.cx_folder.proofs.names.add_names.Given as goal

abbrev pub invariant-names : goal.invariant-names
invariant-names l = (map string_bytes l.paths.items ≡ map string_bytes l.fn.paths.items
    ++ map (named_path l.fn.folder) (take l.name-index l.fn.names))
    × ((k : ℕ) → k < l.name-index → IsUtf8 (slice_index_or l.fn.names k []))
