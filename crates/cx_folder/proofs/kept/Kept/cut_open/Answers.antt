use Rattle.std.proofs.Common.{◌≡◌, ℕ, refl, sym, ◌∙◌, subst}
use Rattle.std.specs.Prelude.{slice_index_or}
use Rattle.cx_disk.specs.Disk.{files_in}
use Rattle.cx_folder.specs.Names.{place_of}
use Rattle.cx_folder.specs.declared.kept.Hold.TheVariants.{Open, Lost}
use Rattle.cx_disk.specs.Disk.{Front, CutShort}
use Rattle.cx_disk.specs.MemoryLaws.{cut_same}
use Rattle.cx_folder.proofs.TreeLaws.{stays_still}
use Rattle.cx_folder.proofs.KeptLaws.{open_within, changed_open, alters_open, alters_none}
use Rattle.cx_folder.proofs.kept.Kept.cut_open.Goals as goal

pub cut-requires : goal.cut-requires
cut-requires g c =
    let is : slice_index_or c.args.self.now.files.items
    (place_of (files_in c.args.places.now) c.args.file) Lost ≡ Open c.in-Open.open =
    subst (λ (k : ℕ). slice_index_or c.args.self.now.files.items k Lost ≡ Open c.in-Open.open)
    c.place.ensures.place (sym c.hold_at.ensures ∙ c.in-Open.is) in
    record {
      within = open_within c.args.file c.args.to c.in-Open.open c.requires.file is c.requires.ready
          c.requires.within;
    }

pub returns-in-Open-clause-ready : goal.returns-in-Open-clause-ready
returns-in-Open-clause-ready g c =
    let is : slice_index_or c.args.self.now.files.items
    (place_of (files_in c.args.places.now) c.args.file) Lost ≡ Open c.in-Open.open =
    subst (λ (k : ℕ). slice_index_or c.args.self.now.files.items k Lost ≡ Open c.in-Open.open)
    c.place.ensures.place (sym c.hold_at.ensures ∙ c.in-Open.is) in
    changed_open (Front c.args.to) (CutShort c.args.to) c.cut.new.self c.args.file c.in-Open.open
    c.cut.result c.place.ensures.distinct c.requires.file is c.requires.ready
    c.cut.ensures.still_held c.cut.ensures.cut c.cut.ensures.stopped c.cut.ensures.after
    c.cut.ensures.changed

pub returns-in-Open-clause-alters : goal.returns-in-Open-clause-alters
returns-in-Open-clause-alters g c =
    let is : slice_index_or c.args.self.now.files.items
    (place_of (files_in c.args.places.now) c.args.file) Lost ≡ Open c.in-Open.open =
    subst (λ (k : ℕ). slice_index_or c.args.self.now.files.items k Lost ≡ Open c.in-Open.open)
    c.place.ensures.place (sym c.hold_at.ensures ∙ c.in-Open.is) in
    alters_open (Front c.args.to) (CutShort c.args.to) c.cut.new.self c.args.file c.in-Open.open
    c.cut.result c.place.ensures.distinct c.requires.file is (cut_same c.args.to _) c.requires.ready
    c.cut.ensures.cut c.cut.ensures.stopped c.cut.ensures.after

pub returns-in-Shut-clause-alters : goal.returns-in-Shut-clause-alters
returns-in-Shut-clause-alters g c = λ t. alters_none (Front c.args.to) (CutShort c.args.to)
    c.args.places.now c.args.file _ _ refl (cut_same c.args.to)
    (stays_still c.args.places.now (g.F.Folder.view c.args.self.now.folder))

pub returns-in-Shut-2-clause-alters : goal.returns-in-Shut-2-clause-alters
returns-in-Shut-2-clause-alters g c = λ t. alters_none (Front c.args.to) (CutShort c.args.to)
    c.args.places.now c.args.file _ _ refl (cut_same c.args.to)
    (stays_still c.args.places.now (g.F.Folder.view c.args.self.now.folder))
