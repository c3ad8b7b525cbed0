use Rattle.std.proofs.Common.{◌∙◌, ap, sym, List, ℕ}
use Rattle.cx_keep.specs.Tests.{short_from}
use Rattle.cx_keep.proofs.Tested.{long_quiet}
use Rattle.cx_keep.proofs.judge.long_enough.Goals as goal

pub returns-in-None-clause-long : goal.returns-in-None-clause-long
returns-in-None-clause-long g c = λ tells.
    long_quiet c.args.found.now.lengths (g.D.Disk.view c.args.disk.now)
    (g.D.Disk.view c.short_of.new.disk)
    (ap (λ (l : List ℕ). short_from 0 l (g.D.Disk.view c.args.disk.now).seen)
    (sym c.as_slice.ensures) ∙ sym (c.in_ok-short_of.ensures.short tells) ∙ c.in-None.is)
    (c.short_of.ensures.quiet tells)
