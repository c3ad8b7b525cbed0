-- the ways that were passed have all taken the step
use Rattle.std.proofs.Common.{◌≡◌, length}
use Rattle.cx_region_flags.specs.Agreeing.{IsAct}
use Rattle.cx_region.specs.Witnesses.{act_of}
use Rattle.cx_region.proofs.StepLaws.{AllTaken}
use Rattle.cx_region.proofs.witnesses.take_all.Given as goal

abbrev pub invariant-ways : goal.invariant-ways
invariant-ways l =
    record {
      same_length : length l.taken.items ≡ length l.yielded;
      taken : IsAct l.job (act_of l.step) → AllTaken l.job (act_of l.step) l.yielded l.taken.items;
    }
