use Rattle.std.proofs.Common.{arith}
use Rattle.cx_rule.proofs.levels.Level.put_rule_row.Goals as goal

pub overflow_add-end : goal.overflow_add-end
overflow_add-end g c =
    let h = rw (← c.self.view_is) at c.requires.room in
    omega (arith, h, c.count.ensures, c.self.inside.values.small, c.self.inside.values.ok.0)
