use Rattle.std.proofs.Common.{map}
use Rattle.cx_order_entries.specs.Seen.{seen_entry}
use Rattle.cx_order_entries.proofs.RowLaws.{Standing}
use Rattle.cx_order_entries.proofs.members.members_of.Given as goal

abbrev pub invariant-entries : goal.invariant-entries
invariant-entries l = Standing (map seen_entry l.entries) l.number l.members
