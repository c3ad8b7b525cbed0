use Rattle.std.proofs.Common.{◌≡◌, drop, length}
use Rattle.cx_rule.specs.Sweeps.{all_fit}
use Rattle.cx_rule.specs.Patches.{setup_in}
use Rattle.cx_rule.specs.Staging.{numbers_staged}
use Rattle.cx_rule.proofs.part.Part.fits_at.Given as goal

abbrev pub invariant-writes : goal.invariant-writes
invariant-writes l =
    all_fit (setup_in l.self) (drop l.k l.writes)
    (drop l.k (numbers_staged l.staged (length l.writes) l.at))
    ≡ all_fit (setup_in l.self) l.writes (numbers_staged l.staged (length l.writes) l.at)
