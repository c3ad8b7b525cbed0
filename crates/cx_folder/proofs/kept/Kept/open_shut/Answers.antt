use Rattle.cx_folder.proofs.TreeLaws.{stays_reads}
use Rattle.cx_folder.proofs.KeptLaws.{looked, looked_open}
use Rattle.cx_folder.proofs.kept.Kept.open_shut.Goals as goal

pub returns-in_err-open-clause-ready : goal.returns-in_err-open-clause-ready
returns-in_err-open-clause-ready g c = looked c.open.new.self c.args.file c.path.result.now
    c.path.ensures.distinct c.requires.file c.path.ensures.path c.requires.shut c.requires.ready
    c.open.ensures.still_held c.open.ensures.reads_on c.open.ensures.opened

pub returns-in_err-open-clause-stays : goal.returns-in_err-open-clause-stays
returns-in_err-open-clause-stays g c = λ t. stays_reads c.args.places.now
    (c.open.ensures.reads_on t)

pub returns-in-Some-clause-ready : goal.returns-in-Some-clause-ready
returns-in-Some-clause-ready g c = looked_open c.open.new.self c.args.file c.path.result.now
    c.in-Some.open c.in_ok-open.field-0 c.place.result c.set_hold.new.files.items
    c.path.ensures.distinct c.requires.file c.path.ensures.path c.requires.shut c.requires.ready
    c.open.ensures.still_held c.open.ensures.reads_on c.open.ensures.opened c.in-Some.is
    c.in_ok-open.ensures.found c.in_ok-open.ensures.there c.place.ensures.place c.set_hold.ensures

pub returns-in-Some-clause-stays : goal.returns-in-Some-clause-stays
returns-in-Some-clause-stays g c = λ t. stays_reads c.args.places.now (c.open.ensures.reads_on t)

pub returns-in-None-clause-ready : goal.returns-in-None-clause-ready
returns-in-None-clause-ready g c = looked c.open.new.self c.args.file c.path.result.now
    c.path.ensures.distinct c.requires.file c.path.ensures.path c.requires.shut c.requires.ready
    c.open.ensures.still_held c.open.ensures.reads_on c.open.ensures.opened

pub returns-in-None-clause-stays : goal.returns-in-None-clause-stays
returns-in-None-clause-stays g c = λ t. stays_reads c.args.places.now (c.open.ensures.reads_on t)
