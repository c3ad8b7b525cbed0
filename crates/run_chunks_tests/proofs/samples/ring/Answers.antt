use Rattle.std.proofs.Common.{refl}
use Rattle.run_chunks_tests.proofs.samples.ring.Goals as goal

pub returns : goal.returns
returns c = refl
