use Rattle.std.proofs.Common.{◌≡◌, ◌≤◌, length}
use Rattle.std.specs.List.{AllByRecursion}
use Rattle.cx_core.specs.Starts.{AreEmpty}
use Rattle.cx_wire.specs.Memory.{Carried, told_queue}
use Rattle.cx_program.proofs.program.late_wires.Given as goal

abbrev pub invariant-wires : goal.invariant-wires
invariant-wires l =
    record {
      many : length l.wires.items ≡ l.counter;
      empty : AllByRecursion (λ (w : Carried). (512 ≤ w.parts) × AreEmpty (told_queue w))
          l.wires.items;
    }
