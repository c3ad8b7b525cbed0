use Rattle.std.specs.Prelude.{◌≡◌, length, IfOk}
use Rattle.std.proofs.Common.{subst}
use Rattle.cx_folder.specs.Names.{Path}
use Rattle.cx_folder.specs.Tree.{bytes_in}
use Rattle.cx_folder.proofs.TreeLaws.{stays_reads}
use Rattle.cx_folder.proofs.ReadyLaws.{ready_on, held_at, within_at}
use Rattle.cx_folder.proofs.kept.Kept.length.Goals as goal

pub length-requires-clause-held : goal.length-requires-clause-held
length-requires-clause-held g c = held_at (g.F.Folder.holds c.args.self.now.folder)
    c.args.places.now c.args.file c.folder.result.now c.folder.ensures c.requires.ready.held

pub length-requires-clause-within : goal.length-requires-clause-within
length-requires-clause-within g c = within_at c.args.places.now c.args.file c.folder.result.now
    c.path.result.now c.folder.ensures c.path.ensures.within

pub returns-clause-ready : goal.returns-clause-ready
returns-clause-ready g c = ready_on c.length.new.self c.requires.ready c.length.ensures.still_held
    c.length.ensures.reads_on c.length.ensures.tended

pub returns-clause-stays : goal.returns-clause-stays
returns-clause-stays g c = λ t. stays_reads c.args.places.now (c.length.ensures.reads_on t)

pub returns-clause-length : goal.returns-clause-length
returns-clause-length g c = λ t. subst
    (λ (p : Path). IfOk c.length.result (λ count. count
    ≡ length (bytes_in (g.F.Folder.view c.args.self.now.folder).seen p))) c.path.ensures.path
    (c.length.ensures.length t)
