-- The sizes by those of the contents, the first fault by the fault of the contents.
use Rattle.std.proofs.Common.{option_copied}
use Rattle.cx_order.specs.Plans.{path_of, trees}
use Rattle.cx_order_entries.specs.Seen.{seen_entry}
use Rattle.cx_order.proofs.SummaryLaws.{one-entry}
use Rattle.cx_order.proofs.summary.entry_summary.Goals as goal

pub returns : goal.returns
returns c =
    λ w path f is inside.
    let e = seen_entry c.args.entry.now in
    one-entry w path (path_of path e) e f c.args.meaning.now _ (option_copied c.args.inside) is
    (λ k. c.entry_sizes.ensures (path_of path e) k (trees w k f)
    (c.sizes_in.ensures w (path_of path e) f k inside))
    (c.in_ok-first_fault.ensures path) inside
