use Rattle.std.specs.Prelude.{◌≡◌, ◌+◌, ◌≤◌, length, slice_range, OnOk}
use Rattle.std.proofs.Common.{sym, subst}
use Rattle.cx_folder.specs.Names.{Path}
use Rattle.cx_folder.specs.Tree.{bytes_in}
use Rattle.cx_folder.proofs.TreeLaws.{stays_reads}
use Rattle.cx_folder.proofs.ReadyLaws.{ready_on, held_at, within_at}
use Rattle.cx_folder.proofs.kept.Kept.read.Goals as goal

pub read-requires-clause-held : goal.read-requires-clause-held
read-requires-clause-held g c = held_at (g.F.Folder.holds c.args.self.now.folder) c.args.places.now
    c.args.file c.folder.result.now c.folder.ensures c.requires.ready.held

pub read-requires-clause-within : goal.read-requires-clause-within
read-requires-clause-within g c = within_at c.args.places.now c.args.file c.folder.result.now
    c.path.result.now c.folder.ensures c.path.ensures.within

pub returns-clause-ready : goal.returns-clause-ready
returns-clause-ready g c = ready_on c.read.new.self c.requires.ready c.read.ensures.still_held
    c.read.ensures.reads_on c.read.ensures.tended

pub returns-clause-stays : goal.returns-clause-stays
returns-clause-stays g c = λ t. stays_reads c.args.places.now (c.read.ensures.reads_on t)

pub read-requires-clause-range : goal.read-requires-clause-range
read-requires-clause-range g c = λ t. subst
    (λ (p : Path). c.args.at + length c.args.into.now
    ≤ length (bytes_in (g.F.Folder.view c.args.self.now.folder).seen p)) (sym c.path.ensures.path)
    (c.requires.range t)

pub returns-clause-read : goal.returns-clause-read
returns-clause-read g c = λ t. subst
    (λ (p : Path). OnOk c.read.result (c.read.new.into
    ≡ slice_range (bytes_in (g.F.Folder.view c.args.self.now.folder).seen p) c.args.at
    (c.args.at + length c.args.into.now))) c.path.ensures.path (c.read.ensures.read t)
