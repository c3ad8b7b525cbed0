-- A fault of bins, or of names where there is none of bins.
use Rattle.std.proofs.Common.{◌≡◌, ◌⊎◌, subst, List, Some, None}
use Rattle.std.proofs.lemmas.Result.{err_from_is_err_and}
use Rattle.cx_order_entries.specs.declared.counted.Entry.{Entry}
use Rattle.cx_order_entries.specs.declared.fault.EntryFault.TheVariants.{Memory}
use Rattle.cx_order_entries.specs.Entries.{bin_fault, names_fault}
use Rattle.cx_order_entries.specs.Seen.{seen, seen_entries}
use Rattle.cx_order.specs.Files.{Input, input_of}
use Rattle.cx_order.proofs.OrderingLaws.{bin-fault, name-fault}
use Rattle.cx_order.proofs.order_files.counted_entries.Goals as goal

pub returns-in_err-check_bins-clause-fault : goal.returns-in_err-check_bins-clause-fault
returns-in_err-check_bins-clause-fault c =
    let p = err_from_is_err_and c.from_residual-in_err-check_bins.result
    c.from_residual-in_err-check_bins.ensures.1 in
    let input : Input = input_of c.args.bound.now c.args.files.now c.args.values.now in
    let e = c.in_err-check_bins.field-0.0 in
    let T : List Entry → Type 0 = λ es. (e ≡ Memory) ⊎ (bin_fault (seen_entries es) ≡ Some e) in
    rw (p.1, p.2) (bin-fault input (seen c.in_ok-counted.counted) c.in_ok-counted.ensures.told e
    (subst T c.deref.ensures.value c.in_err-check_bins.ensures))

pub returns-in_err-check_names-clause-fault : goal.returns-in_err-check_names-clause-fault
returns-in_err-check_names-clause-fault c =
    let p = err_from_is_err_and c.from_residual-in_err-check_names.result
    c.from_residual-in_err-check_names.ensures.1 in
    let input : Input = input_of c.args.bound.now c.args.files.now c.args.values.now in
    let e = c.in_err-check_names.field-0.0 in
    let B : List Entry → Type 0 = λ es. bin_fault (seen_entries es) ≡ None in
    let T : List Entry → Type 0 = λ es. (e ≡ Memory) ⊎ (names_fault (seen_entries es) ≡ Some e) in
    rw (p.1, p.2) (name-fault input (seen c.in_ok-counted.counted) c.in_ok-counted.ensures.told e
    (subst B c.deref.ensures.value c.in_ok-check_bins.ensures)
    (subst T c.deref-2.ensures.value c.in_err-check_names.ensures))
