use Rattle.std.proofs.Common.{◌<◌, ◌∙◌, rules}
use Rattle.cx_cut.specs.Cuts.{part_count}
use Rattle.cx_ghost.specs.Posts.{posted_faces}
use Rattle.core_tests.specs.Parts.{cell, told_queue}
use Rattle.core_tests.proofs.QueueLaws.{posted, behind_posted}
use Rattle.core_tests.proofs.exchange.post_some.Goals as goal

pub senders-preserved : goal.senders-preserved
senders-preserved c =
    let inv = c.senders.invariant in
    let p = c.in_ok-post_one.ensures.posted in
    let below : c.senders.k < part_count c.args.cut.now = search rules in (
      posted c.args.cut.now c.args.dir c.senders.k p.0 (told_queue c.senders.wire)
          (told_queue c.post_one.new.wire) below inv.0 inv.1 p.1,
      behind_posted c.args.cut.now c.senders.k
          (posted_faces c.args.cut.now c.senders.k c.args.dir cell 0 p.0)
          (told_queue c.senders.wire) (told_queue c.post_one.new.wire) inv.1 p.1,
      c.in_ok-post_one.ensures.wire ∙ inv.2,
    )
