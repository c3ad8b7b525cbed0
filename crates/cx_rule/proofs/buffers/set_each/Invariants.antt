use Rattle.std.proofs.Common.{◌≡◌, take}
use Rattle.cx_rule.specs.Staging.{staged_at}
use Rattle.cx_rule.proofs.buffers.set_each.Given as goal

abbrev pub invariant-cells : goal.invariant-cells
invariant-cells l = l.buffers.items ≡ staged_at l.at l.initial.buffers.items (take l.k l.cells)
