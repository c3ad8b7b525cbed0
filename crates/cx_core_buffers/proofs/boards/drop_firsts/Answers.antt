use Rattle.std.proofs.Common.{◌∙◌, ◌<◌, ap, sym, arith, length, set, drop}
use Rattle.std.proofs.lemmas.List.Edits.{map_over_more}
use Rattle.cx_core_buffers.proofs.boards.drop_firsts.Goals as goal

pub lists-preserved : goal.lists-preserved
lists-preserved c =
    let within : c.lists.list-index < length c.deref_mut-list-items.result.now = omega arith in
    ap (set c.lists.list-items c.lists.list-index)
    (c.drop_first.ensures ∙ ap (drop 1) (sym c.list-item.is))
    ∙ map_over_more (drop 1)
    c.deref_mut-list-items.result.now c.lists.list-items c.lists.list-index c.list-item.result
    within c.lists.invariant c.list-item.is
