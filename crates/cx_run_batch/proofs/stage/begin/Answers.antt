use Rattle.std.proofs.Common.{refl}
use Rattle.cx_run_batch.proofs.BegunLaws.{begins_as}
use Rattle.cx_run_batch.proofs.stage.begin.Goals as goal

pub returns-in-Ok : goal.returns-in-Ok
returns-in-Ok g c = record {
  begins = begins_as g.D.Disk _ c.args.job.now c.first_core.new.job c.args.disk.now
      c.begin.new.disk c.in-Ok.found c.in-Ok.run' c.in-Ok.ensures.begins c.in-Ok.ensures.lengths
      c.in-Ok.ensures.mounted c.in-Ok.ensures.files c.in-Ok.ensures.folders c.first_core.result
      c.first_core.ensures.first c.in-Ok.ensures.moments c.in-Ok.ensures.later;
}

pub returns-in-Err : goal.returns-in-Err
returns-in-Err g c = record {
  begins = record {
    starts = (refl, c.in-Err.ensures.stops);
    moments = c.in-Err.ensures.moments;
    later = c.in-Err.ensures.later;
  };
}
