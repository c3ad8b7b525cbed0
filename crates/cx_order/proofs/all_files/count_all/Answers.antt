use Rattle.std.proofs.Common.{◌≡◌, ◌<◌, ◌∙◌, ap, sym, arith, ℕ, length, Ok}
use Rattle.std.proofs.lemmas.Result.{err_from_is_err_and}
use Rattle.cx_expr.specs.Known.{Names}
use Rattle.cx_values.specs.declared.values.Values.{Values}
use Rattle.cx_values.specs.Assigned.{thorn_finds}
use Rattle.cx_order.specs.declared.fault.OrderFault.TheVariants.{Memory}
use Rattle.cx_order_entries.specs.Seen.{seen}
use Rattle.cx_order.specs.Files.{counted_from}
use Rattle.cx_order.proofs.FileLaws.{seen-nothing, sofar-none, sofar-next, sofar-told, sofar-all, lines-below, entries-below}
use Rattle.cx_order.proofs.all_files.count_all.Goals as goal

names : Values → ℕ → Names
names values n name index = thorn_finds values n name index

pub thorns-init : goal.thorns-init
unfolding names
thorns-init c =
    sofar-none (names c.args.values.now) c.few_thorns-thorns.result.now c.args.files.now
    (seen (record { lines = c.new.result; entries = c.new-2.result }))
    (seen-nothing (record { lines = c.new.result; entries = c.new-2.result })
    c.new.ensures.items c.new-2.ensures.items)

pub thorns-preserved : goal.thorns-preserved
unfolding names
thorns-preserved c =
    let same : length c.few_thorns-thorns.result.now ≡ length c.args.bound.now =
    ap length c.few_thorns-thorns.ensures.thorns in
    let in_files : c.thorns.number < length c.args.files.now = omega arith in
    sofar-next (names c.args.values.now)
    c.few_thorns-thorns.result.now c.args.files.now c.thorns.number (seen c.thorns.counted)
    c.thorns.invariant
    c.index-thorns-number.result c.index-files-number.result c.index-thorns-number.is
    c.index-files-number.is c.thorns-test.true in_files
    (seen c.push_thorn.new.counted) c.in_ok-push_thorn.ensures

pub returns : goal.returns
unfolding names
returns c =
    let told : counted_from (names c.args.values.now) 0 c.args.bound.now c.args.files.now
    ≡ Ok (seen c.thorns.counted) =
    ap (λ ts. counted_from (names c.args.values.now) 0 ts c.args.files.now)
    (sym c.few_thorns-thorns.ensures.thorns)
    ∙ sofar-all (names c.args.values.now)
    c.few_thorns-thorns.result.now c.args.files.now c.thorns.number (seen c.thorns.counted)
    c.thorns.invariant c.thorns-test.false
    in
    record {
      told = told;
      lines = lines-below (names c.args.values.now)
          c.args.bound.now c.args.files.now c.thorns.counted told;
      entries = entries-below (names c.args.values.now)
          c.args.bound.now c.args.files.now c.thorns.counted told;
    }

pub returns-in_err-push_thorn-clause-told : goal.returns-in_err-push_thorn-clause-told
unfolding names
returns-in_err-push_thorn-clause-told c =
    let same : length c.few_thorns-thorns.result.now ≡ length c.args.bound.now =
    ap length c.few_thorns-thorns.ensures.thorns in
    let in_files : c.thorns.number < length c.args.files.now = omega arith in
    let p = err_from_is_err_and c.from_residual.result c.from_residual.ensures.1 in
    rw (p.1, p.2, sym c.few_thorns-thorns.ensures.thorns)
    (sofar-told (names c.args.values.now)
    c.few_thorns-thorns.result.now c.args.files.now c.thorns.number (seen c.thorns.counted)
    c.thorns.invariant
    c.index-thorns-number.result c.index-files-number.result c.index-thorns-number.is
    c.index-files-number.is c.thorns-test.true in_files
    Memory c.in_err-push_thorn.field-0.0 c.in_err-push_thorn.ensures)
