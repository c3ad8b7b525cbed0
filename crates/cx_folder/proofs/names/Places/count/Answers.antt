use Rattle.std.proofs.Common.{subst}
use Rattle.cx_disk.specs.Disk.{Folders}
use Rattle.cx_folder.specs.Names.{paths_in, AreDistinct}
use Rattle.cx_folder.proofs.NamesLaws.{distinct_in}
use Rattle.cx_folder.proofs.names.Places.count.Goals as goal

pub returns-clause-distinct : goal.returns-clause-distinct
returns-clause-distinct c = subst (λ (f : Folders). AreDistinct (paths_in f)) c.self.view_is
    (distinct_in c.self.invariant)
