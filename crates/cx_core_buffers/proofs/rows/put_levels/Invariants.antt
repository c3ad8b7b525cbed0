use Rattle.std.proofs.Common.{◌≡◌}
use Rattle.cx_core_buffers.specs.Rows.{levels_put}
use Rattle.cx_core_buffers.proofs.rows.put_levels.Given as goal

abbrev pub invariant-levels : goal.invariant-levels
invariant-levels l = l.all.items ≡ levels_put l.patch l.v l.from l.number l.initial.all.items
