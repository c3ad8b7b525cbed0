use Rattle.std.proofs.Common.{◌∙◌, ◌<◌, ap, sym, arith, length, set}
use Rattle.std.proofs.lemmas.Grind.{common_steps}
use Rattle.std.proofs.lemmas.List.Edits.{map_over_more}
use Rattle.cx_rule.specs.States.{rotated_levels}
use Rattle.cx_rule.proofs.part.rotate_all.Goals as goal

pub variables-preserved : goal.variables-preserved
variables-preserved c =
    let within : c.variables.levels-index < length c.deref_mut-levels-items.result.now =
    omega arith in
    ap (set c.variables.levels-items c.variables.levels-index)
    (c.rotate.ensures ∙ ap rotated_levels (sym c.levels-item.is))
    ∙ map_over_more rotated_levels c.deref_mut-levels-items.result.now c.variables.levels-items
    c.variables.levels-index c.levels-item.result within c.variables.invariant c.levels-item.is

pub returns : goal.returns
returns c = grind (arith, common_steps)
