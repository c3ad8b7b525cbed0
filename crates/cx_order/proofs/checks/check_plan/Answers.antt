-- First the faults of entries, then the limits.
use Rattle.std.proofs.Common.{List, map, sym, subst}
use Rattle.std.proofs.lemmas.Result.{err_from_is_err_and}
use Rattle.cx_order.specs.declared.fault.OrderFault.TheVariants.{Memory}
use Rattle.cx_order.specs.declared.summary.Summary.{Summary}
use Rattle.cx_order.specs.PlanSteps.{forests_in}
use Rattle.cx_order.specs.Plans.{entry_fault, bin_trees, limit_fault}
use Rattle.cx_order_entries.specs.Seen.{seen_entry}
use Rattle.cx_order.specs.Summaries.{AreBinSummaries}
use Rattle.cx_order.proofs.CheckLaws.{first-of-two, second-of-two}
use Rattle.cx_order.proofs.checks.check_plan.Goals as goal

pub returns-in_err-check_entries : goal.returns-in_err-check_entries
returns-in_err-check_entries c =
    λ w told.
    let fs = forests_in (map seen_entry c.args.entries.now) c.args.placed.now in
    let P : List Summary → Type 0 = λ bins. AreBinSummaries w 0 fs bins in
    let bins = subst P (sym c.deref.ensures.value) (c.in_ok-bins.ensures w told) in
    let p = err_from_is_err_and c.from_residual-in_err-check_entries.result
    c.from_residual-in_err-check_entries.ensures.1 in
    rw (p.1, p.2) (first-of-two (entry_fault w fs) (limit_fault (bin_trees w 0 fs))
    Memory c.in_err-check_entries.field-0.0 (c.in_err-check_entries.ensures w fs bins))

pub returns : goal.returns
returns c =
    λ w told.
    let fs = forests_in (map seen_entry c.args.entries.now) c.args.placed.now in
    let P : List Summary → Type 0 = λ bins. AreBinSummaries w 0 fs bins in
    let bins = subst P (sym c.deref.ensures.value) (c.in_ok-bins.ensures w told) in
    let bins_then = subst P (sym c.deref-2.ensures.value) (c.in_ok-bins.ensures w told) in
    second-of-two (entry_fault w fs) (limit_fault (bin_trees w 0 fs)) c.check_limits.result
    (c.in_ok-check_entries.ensures w fs bins) (c.check_limits.ensures w fs bins_then)
