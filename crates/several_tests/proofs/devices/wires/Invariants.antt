use Rattle.std.proofs.Common.{◌≡◌, ◌≤◌, length}
use Rattle.std.specs.List.{AllByRecursion}
use Rattle.cx_core.specs.Starts.{AreEmpty}
use Rattle.cx_wire.specs.Memory.{told_queue}
use Rattle.several_tests.proofs.devices.wires.Given as goal

abbrev pub invariant-wires : goal.invariant-wires
invariant-wires l = (length l.wires.items ≡ l.counter)
    × AllByRecursion (λ wire. (512 ≤ wire.parts) × AreEmpty (told_queue wire)) l.wires.items
