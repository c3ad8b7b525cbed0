use Rattle.std.proofs.Common.{sym, append-nil}
use Rattle.cx_order_least.specs.Links.{row}
use Rattle.cx_order_entries.proofs.members.push_member.Goals as goal

pub returns-in-None-clause-rows : goal.returns-in-None-clause-rows
returns-in-None-clause-rows c =
    λ k. (let e = c.in-None.is in rw e (sym (append-nil (row c.args.members.now k))))
