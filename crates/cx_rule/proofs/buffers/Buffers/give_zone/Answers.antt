use Rattle.std.proofs.Common.{◌≡◌, ◌∙◌, ◌<◌, [], ap, length}
use Rattle.std.specs.Prelude.{slice_index_or}
use Rattle.std.proofs.lemmas.List.{get_or_default}
use Rattle.cx_rule.proofs.RowLaws.{spends_one}
use Rattle.cx_rule.proofs.buffers.Buffers.give_zone.Goals as goal

pub returns-clause-buffers : goal.returns-clause-buffers
returns-clause-buffers c =
    let items = c.self.inside.buffers.items in
    let below : c.args.k < length items = rw (← c.self.view_is) at c.requires.buffer in
    let same : slice_index_or items c.args.k c.index_mut-buffer.result.now
    ≡ slice_index_or items c.args.k [] = get_or_default items c.args.k _ _ below in
    rw (← c.self.view_is) (spends_one items c.args.k c.give_zone.new.self
    (c.give_zone.ensures.count ∙ ap length (c.index_mut-buffer.ensures.value ∙ same)))
