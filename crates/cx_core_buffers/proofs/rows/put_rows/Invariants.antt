use Rattle.std.proofs.Common.{◌≡◌}
use Rattle.cx_rule.specs.States.{level_of}
use Rattle.cx_core_buffers.proofs.RowLaws.{rows_put}
use Rattle.cx_core_buffers.proofs.rows.put_rows.Given as goal

abbrev pub invariant-rows : goal.invariant-rows
invariant-rows l = l.level.items
    ≡ rows_put l.patch (level_of l.patch.numbers l.v l.number) l.i l.initial.level.items
