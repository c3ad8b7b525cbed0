use Rattle.std.proofs.Common.{◌≡◌, List, sym, subst}
use Rattle.std.specs.List.{Contains}
use Rattle.cx_folder.specs.Names.{Path}
use Rattle.cx_folder.proofs.host_folder.HostFolderFolder.make.Goals as goal

pub returns-clause-still_held : goal.returns-clause-still_held
returns-clause-still_held g c = λ other had.
    let same : c.counted.new.self.held ≡ c.settle_in.new.self.held = cc in
    subst (λ (held : List Path). Contains held other) (sym same)
    (c.settle_in.ensures.still_held other had)
