use Rattle.std.proofs.Common.{◌∙◌, ap, length}
use Rattle.cx_rule.proofs.NumberLaws.{var_below, level_below, level_size}
use Rattle.cx_rule.proofs.part.Part.level.Goals as goal

pub numbers_of-requires-clause-var : goal.numbers_of-requires-clause-var
numbers_of-requires-clause-var c =
    let g = rw (← c.self.view_is) at c.requires in
    rw c.deref.ensures.value (var_below _ c.self.invariant c.args.v c.args.level g)

pub numbers_of-requires-clause-level : goal.numbers_of-requires-clause-level
numbers_of-requires-clause-level c =
    let g = rw (← c.self.view_is) at c.requires in
    rw c.deref.ensures.value (level_below _ c.self.invariant c.args.v c.args.level g)

pub returns-clause-value : goal.returns-clause-value
returns-clause-value c = rw (← c.self.view_is, ← c.deref.ensures.value) c.numbers_of.ensures

pub returns-clause-count : goal.returns-clause-count
returns-clause-count c =
    let g = rw (← c.self.view_is) at c.requires in
    let e = rw c.deref.ensures.value at c.numbers_of.ensures in
    rw (← c.self.view_is) (ap length e ∙ level_size _ c.self.invariant c.args.v c.args.level g)
