use Rattle.std.proofs.Common.{◌≡◌, ◌∙◌, ap, rules, to_z, of_z}
use Rattle.std.specs.Int.{w64}
use Rattle.cx_plan.specs.Types.{least, greatest}
use Rattle.std.proofs.lemmas.Result.{err_from_is_err_and}
use Rattle.cx_plan.specs.Setups.{setup_of}
use Rattle.cx_field.specs.Patches.{PatchValue}
use Rattle.cx_flat.specs.declared.op.Op.TheVariants.{Join}
use Rattle.cx_core_part.proofs.FrameLaws.{names_well, is_known}
use Rattle.cx_core_part.proofs.ReductionLaws.{some_write, scalar_written, scalar_there, joins_ok, joins_err}
use Rattle.cx_core_part.proofs.reductions.join.Goals as goal

pub item_at-requires : goal.item_at-requires
item_at-requires c =
    (names_well c.args.job.now c.requires.job (Join c.args.item) c.requires.operation).0.0

pub bounds-as_slice-0 : goal.bounds-as_slice-0
bounds-as_slice-0 c =
    let well = names_well c.args.job.now c.requires.job (Join c.args.item) c.requires.operation in
    some_write (setup_of c.args.job.now)
    c.args.item c.item_at.result.now c.as_slice.result.now c.item_at.ensures c.as_slice.ensures
    well.1 well.0.1

pub info_of-info-requires : goal.info_of-info-requires
info_of-info-requires c =
    scalar_there c.args.job.now c.requires.job c.args.patch.now c.requires.patch c.args.item
    (is_known c.args.job.now c.requires.job (Join c.args.item) c.requires.operation)
    (names_well c.args.job.now c.requires.job (Join c.args.item) c.requires.operation).1
    c.item_at.result.now c.as_slice.result.now c.item_at.ensures c.as_slice.ensures _

pub set_scalar-requires : goal.set_scalar-requires
set_scalar-requires c =
    scalar_written c.args.job.now c.requires.job c.args.patch.now c.requires.patch c.args.item
    (is_known c.args.job.now c.requires.job (Join c.args.item) c.requires.operation)
    (names_well c.args.job.now c.requires.job (Join c.args.item) c.requires.operation).1
    c.item_at.result.now c.as_slice.result.now c.item_at.ensures c.as_slice.ensures _

pub returns-in_err-number-clause-numbers : goal.returns-in_err-number-clause-numbers
returns-in_err-number-clause-numbers c =
    let well = names_well c.args.job.now c.requires.job (Join c.args.item) c.requires.operation in
    let e = err_from_is_err_and c.from_residual.result c.from_residual.ensures.1 in
    let low_as : to_z w64 (of_z w64 c.low.result) ≡ c.low.result = search rules in
    let high_as : to_z w64 (of_z w64 c.high.result) ≡ c.high.result = search rules in
    let low : to_z w64 (of_z w64 c.low.result) ≡ least c.info_of-info.result.now.ctype =
    low_as ∙ c.low.ensures in
    let high : to_z w64 (of_z w64 c.high.result) ≡ greatest c.info_of-info.result.now.ctype =
    high_as ∙ c.high.ensures in
    rw e.1
    (joins_err (setup_of c.args.job.now)
    c.args.item c.item_at.result.now c.as_slice.result.now c.item_at.ensures c.as_slice.ensures
    _ well.1 well.0.1 c.info_of-info.result.now c.info_of-info.ensures
    c.args.patch.now.numbers c.args.number.number e.0 (rw (low, high) at c.in_err-number.ensures))

pub returns-clause-numbers : goal.returns-clause-numbers
returns-clause-numbers c =
    let well = names_well c.args.job.now c.requires.job (Join c.args.item) c.requires.operation in
    let low_as : to_z w64 (of_z w64 c.low.result) ≡ c.low.result = search rules in
    let high_as : to_z w64 (of_z w64 c.high.result) ≡ c.high.result = search rules in
    let low : to_z w64 (of_z w64 c.low.result) ≡ least c.info_of-info.result.now.ctype =
    low_as ∙ c.low.ensures in
    let high : to_z w64 (of_z w64 c.high.result) ≡ greatest c.info_of-info.result.now.ctype =
    high_as ∙ c.high.ensures in
    let number : to_z w64 (of_z w64 c.in_ok-number.number) ≡ c.in_ok-number.number = search rules in
    joins_ok (setup_of c.args.job.now)
    c.args.item c.item_at.result.now c.as_slice.result.now c.item_at.ensures c.as_slice.ensures
    _ well.1 well.0.1 c.info_of-info.result.now c.info_of-info.ensures
    c.args.patch.now.numbers c.set_scalar.new.self.numbers c.args.number.number
    c.in_ok-number.number (rw (low, high) at c.in_ok-number.ensures)
    (rw number at (ap (λ (p : PatchValue). p.numbers) c.set_scalar.ensures))
