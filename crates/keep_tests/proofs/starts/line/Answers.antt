use Rattle.std.proofs.Common.{refl}
use Rattle.keep_tests.proofs.starts.line.Goals as goal

pub returns : goal.returns
returns c = refl
