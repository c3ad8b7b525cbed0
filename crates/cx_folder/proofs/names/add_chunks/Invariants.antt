use Rattle.std.proofs.Common.{◌≡◌, ◌++◌, map}
use Rattle.std.specs.Prelude.{string_bytes}
use Rattle.cx_folder.specs.Names.{below, chunk_path}
use Rattle.cx_folder.proofs.names.add_chunks.Given as goal

abbrev pub invariant-chunks : goal.invariant-chunks
invariant-chunks l = map string_bytes l.paths.items
    ≡ map string_bytes l.fn.paths.items ++ below (chunk_path l.fn.folder) l.part-counter
