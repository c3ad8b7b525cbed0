use Rattle.cx_plan.specs.Setups.{setup_of}
use Rattle.cx_plan.specs.Lookups.{bin, called}
use Rattle.cx_region.proofs.CalledLaws.{marks-bin}
use Rattle.cx_region.proofs.called.mark_bins.Goals as goal

pub loop-number-preserved : goal.loop-number-preserved
loop-number-preserved c =
    marks-bin (λ b. called (bin (setup_of c.args.job.now) b))
    c.loop-number.number c.args.marks.now c.loop-number.marks c.mark_bin.new.marks
    c.loop-number.invariant c.mark_bin.ensures
