use Rattle.std.proofs.Common.{◌<◌, ◌∙◌, List, ap, length, subst, take}
use Rattle.std.specs.Prelude.{slice_index_or}
use Rattle.cx_ascii_read.specs.declared.record.Record.{Record}
use Rattle.cx_chunks.specs.Cutting.{AddsVariable}
use Rattle.cx_chunks.proofs.TextLaws.{next_variable, texts_many}
use Rattle.cx_chunks.proofs.cutting.cut_records.Goals as goal

pub outputs-preserved : goal.outputs-preserved
outputs-preserved c =
    let k = c.outputs.list-index in
    next_variable c.args.cut.now c.args.records.now k c.list-item.result c.outputs.texts
    c.push_records.new.texts
    (subst (λ (xs : List (List Record)). k < length xs) c.as_slice-list-items.ensures
    c.outputs-test.true)
    (c.list-item.is ∙ ap (λ (xs : List (List Record)). slice_index_or xs k c.list-item.result)
    c.as_slice-list-items.ensures)
    c.outputs.invariant
    (subst (λ (rs : List Record).
    AddsVariable c.args.cut.now rs c.outputs.texts c.push_records.new.texts)
    c.as_slice.ensures c.in_ok-push_records.ensures.texts)

pub push_records-requires-clause-texts : goal.push_records-requires-clause-texts
push_records-requires-clause-texts c =
    texts_many c.args.cut.now (take c.outputs.list-index c.args.records.now) c.outputs.texts
    c.outputs.invariant
