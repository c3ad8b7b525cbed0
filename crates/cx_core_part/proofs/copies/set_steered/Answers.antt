use Rattle.std.proofs.Common.{◌∙◌, ap, sym, List}
use Rattle.std.proofs.lemmas.Bool.{both_ways}
use Rattle.cx_plan.specs.declared.item.Item.{Item}
use Rattle.cx_plan.specs.declared.steered.Steered.{Steered}
use Rattle.cx_core_part.specs.Copies.{copies_of}
use Rattle.cx_core_part.proofs.CopyLaws.{where_steered, where_none}
use Rattle.cx_core_part.proofs.copies.set_steered.Goals as goal

pub set_list-requires : goal.set_list-requires
set_list-requires c =
    let job = c.args.job.now in
    let n = c.requires.0 in (
      n,
      c.requires.1
          ∙ where_steered job.steers (copies_of job.steers job.items n)
          (λ e. both_ways c.is_empty.result c.if-not-is_empty.true (c.is_empty.ensures.1 e))
          ∙ ap (λ (ss : List Steered). copies_of ss job.items n) (sym c.as_slice.ensures)
          ∙ ap (λ (xs : List Item). copies_of c.as_slice.result.now xs n)
          (sym c.as_slice-items.ensures),
    )

pub returns-then-not-is_empty : goal.returns-then-not-is_empty
returns-then-not-is_empty c =
    let job = c.args.job.now in
    c.set_list.ensures
    ∙ ap (λ (ss : List Steered). copies_of ss c.as_slice-items.result.now c.args.iteration)
    c.as_slice.ensures
    ∙ ap (λ (xs : List Item). copies_of job.steers xs c.args.iteration) c.as_slice-items.ensures
    ∙ sym (where_steered job.steers (copies_of job.steers job.items c.args.iteration)
    (λ e. both_ways c.is_empty.result c.if-not-is_empty.true (c.is_empty.ensures.1 e)))

pub returns-else-not-is_empty : goal.returns-else-not-is_empty
returns-else-not-is_empty c =
    let job = c.args.job.now in
    let none = c.is_empty.ensures.0 c.if-not-is_empty.false in
    c.requires.1
    ∙ where_none job.steers (copies_of job.steers job.items c.requires.0) none
    ∙ sym (where_none job.steers (copies_of job.steers job.items c.args.iteration) none)
