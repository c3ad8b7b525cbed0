use Rattle.cx_order_entries.proofs.PairLaws.{member-entry}
use Rattle.cx_order_entries.proofs.pairs.entry_at.Goals as goal

pub returns : goal.returns
returns c = member-entry c.args.entries.now c.args.members.now c.args.number
    c.index-entries-members.result c.requires.within c.requires.number c.index-entries-members.is
