use Rattle.cx_keep.proofs.Naming.{few_outputs}
use Rattle.cx_keep.proofs.fits.outputs_are_few.Goals as goal

pub returns : goal.returns
returns c = few_outputs c.args.job.now c.requires.whole
