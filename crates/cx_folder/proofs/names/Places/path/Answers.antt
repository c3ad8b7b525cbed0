use Rattle.std.proofs.Common.{sym, subst}
use Rattle.cx_folder.specs.Names.{Path, IsIn, folder_at}
use Rattle.cx_folder.proofs.NamesLaws.{in_folder}
use Rattle.cx_folder.proofs.names.Places.path.Goals as goal

pub returns-clause-within : goal.returns-clause-within
returns-clause-within c = subst
    (λ (p : Path). IsIn (folder_at c.args.self.now c.args.file) p) (sym c.path_of.ensures.path)
    (in_folder c.args.self.now c.args.file c.requires)
