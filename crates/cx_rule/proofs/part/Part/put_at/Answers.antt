use Rattle.std.proofs.Common.{refl}
use Rattle.cx_rule.proofs.NumberLaws.{var_below, level_below, level_size, written_row}
use Rattle.cx_rule.proofs.part.Part.put_at.Goals as goal

pub put_numbers-requires-clause-var : goal.put_numbers-requires-clause-var
put_numbers-requires-clause-var c =
    let g = rw (← c.self.view_is) at c.requires.level in
    var_below _ c.self.invariant c.args.v c.args.level g

pub put_numbers-requires-clause-level : goal.put_numbers-requires-clause-level
put_numbers-requires-clause-level c =
    let g = rw (← c.self.view_is) at c.requires.level in
    level_below _ c.self.invariant c.args.v c.args.level g

pub put_numbers-requires-clause-at : goal.put_numbers-requires-clause-at
put_numbers-requires-clause-at c =
    let g = rw (← c.self.view_is) at c.requires.level in
    let b = rw (← c.self.view_is) at c.requires.at in
    rw (level_size _ c.self.invariant c.args.v c.args.level g) b

pub invariant_of-self : goal.invariant_of-self
invariant_of-self c =
    let g = rw (← c.self.view_is) at c.requires.level in
    let b = rw (← c.self.view_is) at c.requires.at in
    rw c.put_numbers.ensures
    (written_row _ c.args.v c.args.level c.args.at c.args.values.now c.self.invariant
    (rw (level_size _ c.self.invariant c.args.v c.args.level g) b))

pub returns : goal.returns
returns c = rw (← c.self.view_is, c.put_numbers.ensures) refl
