use Rattle.cx_cut.specs.Cuts.{part_count}
use Rattle.cx_ghost.specs.Posts.{own_faces}
use Rattle.core_tests.specs.Parts.{cell}
use Rattle.core_tests.proofs.PartLaws.{can, part_at}
use Rattle.core_tests.proofs.exchange.post_one.Goals as goal

pub post-requires-clause-can : goal.post-requires-clause-can
post-requires-clause-can c =
    rw c.in_ok-names.ensures
    (can c.args.cut.now c.requires.whole c.args.k c.requires.part c.index.result.now
    (part_at c.args.cut.now (part_count c.args.cut.now)
    c.args.patches.now.items c.requires.parts c.args.k c.requires.part c.index.result.now
    c.index.ensures)
    c.args.dir c.requires.dir)

pub returns-clause-posted : goal.returns-clause-posted
returns-clause-posted c =
    let sent = rw c.in_ok-names.ensures at c.in_ok-post.ensures.sent in
    (own_faces c.args.cut.now c.args.k c.args.dir cell c.index.result.now, sent)
