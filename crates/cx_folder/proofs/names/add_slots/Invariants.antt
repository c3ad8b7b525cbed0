use Rattle.std.proofs.Common.{◌≡◌, ◌++◌, map}
use Rattle.std.specs.Prelude.{string_bytes}
use Rattle.cx_folder.specs.Names.{below, slot_path}
use Rattle.cx_folder.proofs.names.add_slots.Given as goal

abbrev pub invariant-slots : goal.invariant-slots
invariant-slots l = map string_bytes l.paths.items
    ≡ map string_bytes l.fn.paths.items ++ below (slot_path l.fn.folder) l.slot
