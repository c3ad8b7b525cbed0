use Rattle.cx_run.proofs.MadeLaws.{on_files, ready_of}
use Rattle.cx_run.proofs.call.job_among.Goals as goal

pub returns-clause-made : goal.returns-clause-made
returns-clause-made g c =
    on_files c.args.files _ c.args.name.now _ _ c.make_job.result c.new-shelf.ensures
    c.make_job.ensures.made

pub returns-clause-ready : goal.returns-clause-ready
returns-clause-ready g c =
    ready_of _ c.make_job.result c.make_job.ensures.whole c.make_job.ensures.sound
    c.make_job.ensures.cut c.make_job.ensures.fit c.make_job.ensures.few_cells c.make_job.ensures.names
