use Rattle.cx_plan.specs.Setups.{setup_of}
use Rattle.cx_field.specs.Patches.{number_at}
use Rattle.cx_flat.specs.declared.op.Op.TheVariants.{Give}
use Rattle.law_parts.proofs.ListLaws.{numbers_length}
use Rattle.cx_core_part.proofs.FrameLaws.{names_well, is_known}
use Rattle.cx_core_part.proofs.ReductionLaws.{reduction_is, some_read, grid_read, gives}
use Rattle.cx_core_part.proofs.reductions.give.Goals as goal

pub item_at-item-requires : goal.item_at-item-requires
item_at-item-requires c =
    (names_well c.args.job.now c.requires.job (Give c.args.item) c.requires.operation).0.0

pub bounds-as_slice-0 : goal.bounds-as_slice-0
bounds-as_slice-0 c =
    let well = names_well c.args.job.now c.requires.job (Give c.args.item) c.requires.operation in
    some_read (setup_of c.args.job.now)
    c.args.item c.item_at-item.result.now c.as_slice.result.now c.item_at-item.ensures
    c.as_slice.ensures well.1 well.0.1

pub partial-requires-clause-kind : goal.partial-requires-clause-kind
partial-requires-clause-kind c =
    let well = names_well c.args.job.now c.requires.job (Give c.args.item) c.requires.operation in
    reduction_is c.item_at-item.result.now.kind (rw c.item_at-item.ensures well.1)

pub partial-requires-clause-level : goal.partial-requires-clause-level
partial-requires-clause-level c =
    grid_read c.args.job.now c.requires.job c.args.patch.now c.requires.patch c.args.item
    (is_known c.args.job.now c.requires.job (Give c.args.item) c.requires.operation)
    (names_well c.args.job.now c.requires.job (Give c.args.item) c.requires.operation).1
    c.item_at-item.result.now c.as_slice.result.now c.item_at-item.ensures c.as_slice.ensures _

pub returns-clause-points : goal.returns-clause-points
returns-clause-points c =
    rw c.partial.ensures (numbers_length c.args.patch.now.owned (number_at c.args.patch.now _ _))

pub returns-clause-number : goal.returns-clause-number
returns-clause-number c = λ r k run patch.
    gives c.args.job.now c.requires.job r k c.args.item run c.args.patch.now patch
    (names_well c.args.job.now c.requires.job (Give c.args.item) c.requires.operation)
    c.item_at-item.result.now c.as_slice.result.now c.item_at-item.ensures c.as_slice.ensures _
    c.partial.result c.partial.ensures
