-- The entry and what its names stand for have one number.
use Rattle.std.proofs.Common.{◌≡◌, map, sym, subst, Option, option_copied}
use Rattle.std.proofs.lemmas.Result.{IfOk-weaker}
use Rattle.cx_order.specs.declared.summary.Summary.{Summary}
use Rattle.cx_order_entries.specs.Counted.{Entry}
use Rattle.cx_order_entries.specs.Seen.{seen_entry}
use Rattle.cx_order.specs.Meanings.{meaning}
use Rattle.cx_order.specs.Plans.{Done, Then, path_of}
use Rattle.cx_order.specs.Summaries.{IsSummary, IsInside}
use Rattle.cx_order.proofs.SummedPlaces.{mapped-at, meaning-at}
use Rattle.cx_order.proofs.all_places.number_summary.Goals as goal

pub returns : goal.returns
returns c =
    IfOk-weaker c.entry_summary.result _ _
    (λ s known. λ w path e f told at inside.
    let es = map seen_entry c.args.entries.now in
    let same = mapped-at seen_entry c.args.entries.now c.args.number c.index-entries-number.result e
    c.index-entries-number.is at in
    let P : Entry → Type 0 = λ e. IsInside w (path_of path e) f (option_copied c.inside_at.result)
    → IsSummary w path (Then e (path_of path e) f Done) s in
    let I : Option Summary → Type 0 = λ o. IsInside w (path_of path e) f o in
    subst P same
    (known w path f (let M : Entry → Type 0 = λ e. c.index-meanings-number.result ≡ meaning w e in
    subst M (sym same) (meaning-at w es c.args.meanings.now c.args.number
    c.index-meanings-number.result e told c.index-meanings-number.is at)))
    (subst I (sym c.inside_at.ensures) inside))
    c.entry_summary.ensures
