use Rattle.cx_job.proofs.OutputLaws.{id_kept, id_left_out}
use Rattle.std.proofs.Common.{◌∙◌}
use Rattle.cx_job.proofs.outputs.named_ids.Goals as goal
use Rattle.cx_job.proofs.outputs.named_ids.Goals.{then-is_written+in_ok-push, else-is_written}

pub places-preserved : goal.places-preserved
places-preserved c =
    elim c.if-is_written.branch [
      | then-is_written+in_ok-push w
          ↦ id_kept c.args.places.now c.args.named.now c.places.number _ c.places-test.true
          c.is_written.ensures w.if-is_written.true c.places.invariant
          (w.written-is ∙ w.in_ok-push.ensures.ok)
      | else-is_written w ↦ w.written-is
          ∙ id_left_out c.args.places.now c.args.named.now c.places.number _ c.places-test.true
          c.is_written.ensures w.if-is_written.false c.places.invariant
    ]
