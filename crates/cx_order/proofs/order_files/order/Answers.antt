-- There is one plan: what is answered, unless memory is wanting.
use Rattle.std.proofs.Common.{◌≡◌, ◌⊎◌, sym, subst, List}
use Rattle.std.proofs.lemmas.Result.{err_from_is_err_and}
use Rattle.cx_sched.specs.declared.tree.ScheduleFile.{ScheduleFile}
use Rattle.cx_order_entries.specs.declared.counted.Line.{Line}
use Rattle.cx_order_entries.specs.declared.counted.Entry.{Entry}
use Rattle.cx_order.specs.declared.fault.OrderFault.TheVariants as faults
use Rattle.cx_order.specs.Files.{Input, input_of}
use Rattle.cx_order_entries.specs.Seen.{seen, seen_as}
use Rattle.cx_order.specs.Ordering.{AreEntries, IsFault}
use Rattle.cx_order.proofs.OnlyPlan.{memory-alone, only-answer, planned-answers}
use Rattle.cx_order.proofs.order_files.order.Goals as goal

pub returns-in_err-counted-clause-only : goal.returns-in_err-counted-clause-only
returns-in_err-counted-clause-only c =
    let p = err_from_is_err_and c.from_residual.result c.from_residual.ensures.1 in
    let e = c.in_err-counted.field-0.0 in
    let F : List ScheduleFile
    → Type 0 = λ files. (e ≡ faults.Memory)
    ⊎ IsFault (input_of c.args.bound.now files c.args.values.now) e in
    rw (p.1, p.2)
    (λ plan is. memory-alone (input_of c.args.bound.now c.args.files.now c.args.values.now)
    plan e is (subst F c.as_slice.ensures c.in_err-counted.ensures.fault))

pub returns-clause-only : goal.returns-clause-only
returns-clause-only c =
    let input : Input = input_of c.args.bound.now c.args.files.now c.args.values.now in
    let counted = c.in_ok-counted.counted in
    let lines = c.as_slice-2.result.now in
    let entries = c.as_slice-3.result.now in
    let F : List ScheduleFile
    → Type 0 = λ files. AreEntries (input_of c.args.bound.now files c.args.values.now)
    (seen counted) in
    let L : List Line → Type 0 = λ ls. AreEntries input (seen_as ls counted.entries.items) in
    let E : List Entry → Type 0 = λ es. AreEntries input (seen_as lines es) in
    let are : AreEntries input (seen_as lines entries) =
    subst E (sym c.as_slice-3.ensures.value)
    (subst L (sym c.as_slice-2.ensures.value)
    (subst F c.as_slice.ensures c.in_ok-counted.ensures.fits)) in
    only-answer input c.planned.result
    (planned-answers c.args.bound.now c.args.files.now c.args.values.now (seen_as lines entries)
    c.planned.result are c.planned.ensures.plan c.planned.ensures.fault)
