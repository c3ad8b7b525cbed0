use Rattle.std.proofs.Common.{refl, w64}
use Rattle.std.proofs.lemmas.Int.{to_z-of_z}
use Rattle.cx_rule.proofs.NumberLaws.{var_below, level_below, level_size, written_patch}
use Rattle.cx_rule.proofs.part.Part.set_at.Goals as goal

pub set_number-requires-clause-var : goal.set_number-requires-clause-var
set_number-requires-clause-var c =
    let g = rw (← c.self.view_is) at c.requires.level in
    var_below _ c.self.invariant c.args.v c.args.level g

pub set_number-requires-clause-level : goal.set_number-requires-clause-level
set_number-requires-clause-level c =
    let g = rw (← c.self.view_is) at c.requires.level in
    level_below _ c.self.invariant c.args.v c.args.level g

pub set_number-requires-clause-at : goal.set_number-requires-clause-at
set_number-requires-clause-at c =
    let g = rw (← c.self.view_is) at c.requires.level in
    let b = rw (← c.self.view_is) at c.requires.at in
    rw (level_size _ c.self.invariant c.args.v c.args.level g) b

pub invariant_of-self : goal.invariant_of-self
invariant_of-self c =
    rw (c.set_number.ensures, to_z-of_z w64 c.args.value c.ranges.value)
    (written_patch _ c.args.v c.args.level c.args.at c.args.value c.self.invariant)

pub returns : goal.returns
returns c = rw (← c.self.view_is, c.set_number.ensures, to_z-of_z w64 c.args.value c.ranges.value)
    refl
