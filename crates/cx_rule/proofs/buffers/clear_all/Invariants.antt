use Rattle.std.proofs.Common.{◌≡◌, ◌++◌, map, take, drop}
use Rattle.cx_rule.specs.Staging.{no_numbers}
use Rattle.cx_rule.proofs.buffers.clear_all.Given as goal

abbrev pub invariant-buffers : goal.invariant-buffers
invariant-buffers l =
    l.buffer-items ≡ map no_numbers (take l.buffer-index l.initial.buffer-items)
    ++ drop l.buffer-index l.initial.buffer-items
