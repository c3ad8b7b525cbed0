use Rattle.std.proofs.Common.{◌∙◌, ◌<◌, ap, sym, arith, length, set}
use Rattle.std.proofs.lemmas.Grind.{common_steps}
use Rattle.std.proofs.lemmas.List.Edits.{map_over_more}
use Rattle.cx_core_events.specs.Steps.{one_less}
use Rattle.cx_core_events.proofs.works.one_less.Goals as goal

pub parts-preserved : goal.parts-preserved
parts-preserved c =
    let within : c.parts.part-index < length c.deref_mut-part-items.result.now = omega arith in
    ap (set c.parts.part-items c.parts.part-index)
    (c.lessen.ensures ∙ ap one_less (sym c.part-item.is))
    ∙ map_over_more one_less c.deref_mut-part-items.result.now c.parts.part-items c.parts.part-index
    c.part-item.result within c.parts.invariant c.part-item.is

pub returns : goal.returns
returns c = grind (arith, common_steps)
