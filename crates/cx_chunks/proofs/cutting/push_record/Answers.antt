use Rattle.std.proofs.Common.{◌∙◌, ap, length}
use Rattle.std.proofs.lemmas.Result.{on_ok_weaker}
use Rattle.cx_chunks.specs.Cutting.{with_record}
use Rattle.cx_chunks.proofs.TextLaws.{as_many, record_added}
use Rattle.cx_chunks.proofs.cutting.push_record.Goals as goal

pub returns-clause-texts : goal.returns-clause-texts
returns-clause-texts c =
    on_ok_weaker c.push_parts-pushed.result
    (λ is. record_added c.args.cut.now c.args.entry.now c.args.texts.now c.new.result
    (c.new.ensures ∙ is ∙ ap (with_record c.args.cut.now c.args.entry.now 0)
    (c.into_vec-all.ensures ∙ c.replace.ensures.value))) c.push_parts-pushed.ensures

pub returns-clause-many : goal.returns-clause-many
returns-clause-many c =
    on_ok_weaker c.push_parts-pushed.result
    (λ is. ap length (c.new.ensures ∙ is)
    ∙ as_many c.args.cut.now c.args.entry.now 0 c.into_vec-all.result.items
    ∙ ap length (c.into_vec-all.ensures ∙ c.replace.ensures.value) ∙ c.requires.texts)
    c.push_parts-pushed.ensures
