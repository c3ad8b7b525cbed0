use Rattle.std.proofs.Common.{◌∙◌, ap, map}
use Rattle.cx_order_entries.specs.Members.{spot_number}
use Rattle.cx_order_entries.specs.Seen.{seen_entry}
use Rattle.cx_order_entries.proofs.RowLaws.{standing-next, in_all, at_seen}
use Rattle.cx_order_entries.proofs.members.members_of.Goals as goal

pub entries-preserved : goal.entries-preserved
entries-preserved c =
    let xs = c.args.entries.now in
    let i = c.entries.number in
    let x = c.index-entries-number.result in
    standing-next (map seen_entry xs) i (seen_entry x) (in_all xs i c.entries-test.true)
    (at_seen xs i x c.entries-test.true c.index-entries-number.is) c.in_ok-place.place
    (c.in_ok-place.ensures.number ∙ ap (λ gs. spot_number gs x.block.now.spot) c.requires.names)
    c.entries.members c.push_member.new.members c.in_ok-push_member.ensures.count
    c.in_ok-push_member.ensures.rows c.entries.invariant
