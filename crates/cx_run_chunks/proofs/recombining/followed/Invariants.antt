use Rattle.std.proofs.Common.{◌≡◌, ◌++◌, drop}
use Rattle.std.specs.List.{concat}
use Rattle.cx_run_chunks.proofs.recombining.followed.Given as goal

abbrev pub invariant-texts : goal.invariant-texts
invariant-texts l = l.whole ++ concat (drop l.text-index l.texts) ≡ l.fn.whole ++ concat l.texts
