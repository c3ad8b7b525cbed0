use Rattle.std.proofs.Common.{◌≡◌, drop}
use Rattle.cx_folder.specs.Memory.{seen_in}
use Rattle.cx_folder.proofs.memory_folder.bytes_under.Given as goal

abbrev pub invariant-events : goal.invariant-events
invariant-events l = seen_in l.events l.path ≡ seen_in (drop l.event-index l.events) l.path
