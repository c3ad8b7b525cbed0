use Rattle.cx_job.specs.Outputs.{is_missing}
use Rattle.cx_job.proofs.OutputLaws.{not_yet}
use Rattle.cx_job.proofs.outputs.lacks_storage.Goals as goal

pub places-preserved : goal.places-preserved
places-preserved c =
    not_yet (is_missing c.args.storage.now c.args.named)
    c.args.places.now c.places.number _ c.places-test.true c.is_missing.ensures
    c.if-is_missing.false c.places.invariant
