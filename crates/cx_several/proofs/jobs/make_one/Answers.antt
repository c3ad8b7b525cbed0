use Rattle.cx_several.proofs.MakingLaws.{kept_making, not_made, pushed_one}
use Rattle.cx_several.proofs.jobs.make_one.Goals as goal

pub returns-in-Ok-clause-pushes : goal.returns-in-Ok-clause-pushes
returns-in-Ok-clause-pushes g c =
    pushed_one g.H.Shelf _ c.args.shelf.now c.make_job.new.shelf c.args.file.now c.in-Ok.job
    c.args.members.now.items c.add.new.members.items c.add.result c.in-Ok.ensures.made
    (record {
      ready = record {
        whole = c.in-Ok.ensures.whole;
        shapes = c.in-Ok.ensures.sound.0;
        sound = c.in-Ok.ensures.sound.1;
        fit = c.in-Ok.ensures.fit;
        cut = c.in-Ok.ensures.cut;
        few_cells = c.in-Ok.ensures.few_cells;
        names = c.in-Ok.ensures.names;
      };
      interior = c.in-Ok.ensures.interior;
      begins = c.trails_begin.ensures;
    })
    c.add.ensures

pub returns-in-Err-clause-pushes : goal.returns-in-Err-clause-pushes
returns-in-Err-clause-pushes g c =
    not_made g.H.Shelf _ c.args.shelf.now c.make_job.new.shelf c.args.file.now _ c.in-Err.fault
    c.of_file.result c.in-Err.ensures.made c.of_file.ensures

pub returns-in-Ok-clause-kept : goal.returns-in-Ok-clause-kept
returns-in-Ok-clause-kept g c =
    kept_making g.H.Shelf _ c.args.shelf.now c.make_job.new.shelf c.args.file.now _
    c.in-Ok.ensures.made

pub returns-in-Err-clause-kept : goal.returns-in-Err-clause-kept
returns-in-Err-clause-kept g c =
    kept_making g.H.Shelf _ c.args.shelf.now c.make_job.new.shelf c.args.file.now _
    c.in-Err.ensures.made
