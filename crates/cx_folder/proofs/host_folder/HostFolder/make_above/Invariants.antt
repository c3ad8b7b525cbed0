use Rattle.std.proofs.Common.{◌≡◌}
use Rattle.cx_folder.proofs.host_folder.HostFolder.make_above.Given as goal

abbrev pub invariant-levels : goal.invariant-levels
invariant-levels g l = (l.self.held ≡ l.fn.self.held) × (l.self.faults ≡ l.fn.self.faults)
