use Rattle.std.proofs.Common.{[]}
use Rattle.cx_several.proofs.MakingLaws.{kept_still, kept_twice, none_pushed, pushed_first, why_first}
use Rattle.cx_several.proofs.jobs.+make_all.Goals as goal

pub returns-in_default-clause-pushes : goal.returns-in_default-clause-pushes
returns-in_default-clause-pushes g t c =
    none_pushed g.H.Shelf _ c.args.shelf.now c.args.files.now c.args.members.now.items
    c.in_default.ensures.cases

pub returns-in_default-clause-kept : goal.returns-in_default-clause-kept
returns-in_default-clause-kept g t c = kept_still g.H.Shelf [] c.args.shelf.now

pub returns-in-Ok-clause-pushes : goal.returns-in-Ok-clause-pushes
returns-in-Ok-clause-pushes g t c =
    pushed_first g.H.Shelf _ c.args.shelf.now c.make_one.new.shelf c.make_all.new.shelf
    c.args.files.now c.in-Some.file.now c.in-Some.more.now c.args.members.now.items
    c.make_one.new.members.items c.make_all.new.members.items c.make_all.result
    c.in-Some.ensures.cases.0 c.in-Ok.ensures.pushes c.in-Ok.ensures.kept
    c.make_all.ensures.kept c.make_all.ensures.pushes

pub returns-in-Ok-clause-kept : goal.returns-in-Ok-clause-kept
returns-in-Ok-clause-kept g t c =
    kept_twice g.H.Shelf [] c.args.shelf.now c.make_one.new.shelf c.make_all.new.shelf
    c.in-Ok.ensures.kept c.make_all.ensures.kept

pub returns-in-Err-clause-pushes : goal.returns-in-Err-clause-pushes
returns-in-Err-clause-pushes g t c =
    why_first g.H.Shelf _ c.args.shelf.now c.make_one.new.shelf c.args.files.now
    c.in-Some.file.now c.in-Some.more.now c.in-Err.fault c.in-Some.ensures.cases.0
    c.in-Err.ensures.pushes
