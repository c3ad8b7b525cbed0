use Rattle.std.proofs.Common.{◌∙◌, ◌<◌, ap, sym, arith, length, set}
use Rattle.std.proofs.lemmas.Grind.{common_steps}
use Rattle.std.proofs.lemmas.List.Edits.{map_over_more}
use Rattle.cx_rule.specs.Staging.{no_numbers}
use Rattle.cx_rule.proofs.buffers.clear_all.Goals as goal

pub buffers-preserved : goal.buffers-preserved
buffers-preserved c =
    let within : c.buffers.buffer-index < length c.deref_mut-buffer-items.result.now =
    omega arith in
    ap (set c.buffers.buffer-items c.buffers.buffer-index)
    (c.clear.ensures ∙ ap no_numbers (sym c.buffer-item.is))
    ∙ map_over_more no_numbers c.deref_mut-buffer-items.result.now c.buffers.buffer-items
    c.buffers.buffer-index c.buffer-item.result within c.buffers.invariant c.buffer-item.is

pub returns : goal.returns
returns c = grind (arith, common_steps)
