use Rattle.std.proofs.Common.{◌≡◌, ◌≤◌, length}
use Rattle.std.specs.List.{AllByRecursion}
use Rattle.cx_core.specs.Starts.{AreEmpty}
use Rattle.cx_wire.specs.Memory.{told_queue}
use Rattle.several_tests.proofs.devices.cut_wires.Given as goal

abbrev pub invariant-wires : goal.invariant-wires
invariant-wires l = (length l.wires.items ≡ l.job)
    × AllByRecursion (λ wire. (512 ≤ wire.wire.parts) × AreEmpty (told_queue wire.wire))
    l.wires.items
