use Rattle.std.proofs.Common.{◌∙◌, ap, sym, List}
use Rattle.std.proofs.lemmas.Bool.{both_ways}
use Rattle.cx_plan.specs.declared.item.Item.{Item}
use Rattle.cx_plan.specs.declared.steered.Steered.{Steered}
use Rattle.cx_core_part.specs.Copies.{copies_of}
use Rattle.cx_core_part.proofs.CopyLaws.{where_steered, where_none}
use Rattle.cx_core_part.proofs.copies.copies_in.Goals as goal

pub returns-then-is_empty : goal.returns-then-is_empty
returns-then-is_empty c =
    let job = c.args.job.now in
    c.new.ensures.items
    ∙ sym (where_none job.steers (copies_of job.steers job.items c.args.iteration)
    (c.is_empty.ensures.0 c.if-is_empty.true))

pub returns : goal.returns
returns c =
    let job = c.args.job.now in
    c.in_ok-first_copies.ensures
    ∙ ap (λ (ss : List Steered). copies_of ss c.as_slice-items.result.now c.args.iteration)
    c.as_slice.ensures
    ∙ ap (λ (xs : List Item). copies_of job.steers xs c.args.iteration) c.as_slice-items.ensures
    ∙ sym (where_steered job.steers (copies_of job.steers job.items c.args.iteration)
    (λ e. both_ways c.is_empty.result c.if-is_empty.false (c.is_empty.ensures.1 e)))
