use Rattle.std.proofs.Common.{◌∙◌}
use Rattle.cx_folder.proofs.NamesLaws.{count_paths}
use Rattle.cx_folder.proofs.names.Places.total.Goals as goal

pub returns-clause-all : goal.returns-clause-all
returns-clause-all c = c.count.ensures.all ∙ count_paths c.args.self.now
