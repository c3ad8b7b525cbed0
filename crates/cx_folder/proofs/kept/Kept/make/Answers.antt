use Rattle.cx_folder.proofs.KeptLaws.{makes_ready, made_open, makes_stay}
use Rattle.cx_folder.proofs.kept.Kept.make.Goals as goal

pub returns-in_err-open-clause-ready : goal.returns-in_err-open-clause-ready
returns-in_err-open-clause-ready g c = makes_ready c.make.new.self c.made-self.result c.args.file
    c.path.result.now c.path.ensures.distinct c.requires.file c.path.ensures.path c.requires.shut
    c.made-self.ensures.settled c.made-self.ensures.made c.made-self.ensures.doubted
    c.requires.ready c.make.ensures.still_held c.make.ensures.makes c.make.ensures.opened

pub returns-in_err-open-clause-stays : goal.returns-in_err-open-clause-stays
returns-in_err-open-clause-stays g c = λ t. makes_stay c.args.places.now c.args.file
    c.path.result.now c.path.ensures.path (c.make.ensures.makes t) (c.make.ensures.after t)

pub returns-clause-ready : goal.returns-clause-ready
returns-clause-ready g c = made_open c.args.file c.path.result.now c.in_ok-open.open c.place.result
    c.set_hold.new.files.items c.path.ensures.distinct c.requires.file c.path.ensures.path
    c.requires.shut
    (makes_ready c.make.new.self c.made-self.result c.args.file
    c.path.result.now c.path.ensures.distinct c.requires.file c.path.ensures.path c.requires.shut
    c.made-self.ensures.settled c.made-self.ensures.made c.made-self.ensures.doubted
    c.requires.ready c.make.ensures.still_held c.make.ensures.makes c.make.ensures.opened)
    c.in_ok-open.ensures.made c.in_ok-open.ensures.there c.place.ensures.place c.set_hold.ensures

pub returns-clause-stays : goal.returns-clause-stays
returns-clause-stays g c = λ t. makes_stay c.args.places.now c.args.file
    c.path.result.now c.path.ensures.path (c.make.ensures.makes t) (c.make.ensures.after t)
