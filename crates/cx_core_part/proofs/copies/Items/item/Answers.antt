use Rattle.std.proofs.Common.{◌∙◌, ap, List}
use Rattle.std.specs.Prelude.{slice_get, slice_index_or}
use Rattle.cx_plan.specs.declared.item.Item.{Item}
use Rattle.cx_plan.specs.Lookups.{no_item}
use Rattle.cx_core_part.specs.Copies.{Copies, picked}
use Rattle.cx_core_part.proofs.CopyLaws.{its_item}
use Rattle.cx_core_part.proofs.copies.Items.item.Goals as goal

pub returns : goal.returns
returns c = λ n are.
    c.picked.ensures
    ∙ ap (λ (xs : List Item). picked (slice_get c.deref.result.now c.args.number)
    (slice_index_or xs c.args.number no_item)) c.as_slice.ensures
    ∙ its_item c.args.job.now.steers c.args.job.now.items n c.args.number
    c.deref.result.now c.requires
    (c.deref.ensures.value ∙ ap (λ (k : Copies). k.items) (c.self.view_is ∙ are))
