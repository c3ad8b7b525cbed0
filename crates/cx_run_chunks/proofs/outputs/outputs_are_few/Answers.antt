use Rattle.cx_run_chunks.proofs.OutputLaws.{few_outputs}
use Rattle.cx_run_chunks.proofs.outputs.outputs_are_few.Goals as goal

pub returns : goal.returns
returns c = few_outputs c.args.job.now c.requires.whole
