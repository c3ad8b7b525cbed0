use Rattle.std.proofs.Common.{ap, Some, List}
use Rattle.cx_ascii_read.proofs.EntryLaws.{spells_one}
use Rattle.cx_ascii_read.proofs.entry.read_all.Goals as goal

pub returns-in-Ok-clause-only : goal.returns-in-Ok-clause-only
returns-in-Ok-clause-only g c =
    λ es spells. ap (λ (found : List _). Some found)
    (spells_one g.E.Entry.text g.E.Entry.entry_at g.E.Entry.fits c.requires.field c.requires.some
    c.args.bytes.now c.in-Ok.entries es c.in-Ok.ensures spells)
