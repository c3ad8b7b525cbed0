use Rattle.std.proofs.Common.{◌≡◌, ℕ, refl, sym, ◌∙◌, subst}
use Rattle.std.specs.Prelude.{slice_index_or, length}
use Rattle.cx_disk.specs.Disk.{files_in}
use Rattle.cx_folder.specs.Names.{place_of}
use Rattle.cx_folder.specs.declared.kept.Hold.TheVariants.{Open, Lost}
use Rattle.cx_disk.specs.Disk.{Holds, Torn}
use Rattle.cx_disk.specs.MemoryLaws.{torn_same}
use Rattle.cx_folder.proofs.TreeLaws.{stays_still}
use Rattle.cx_folder.proofs.KeptLaws.{open_within, changed_open, alters_open, alters_none}
use Rattle.cx_folder.proofs.kept.Kept.write_open.Goals as goal

pub write-requires : goal.write-requires
write-requires g c =
    let is : slice_index_or c.args.self.now.files.items
    (place_of (files_in c.args.places.now) c.args.file) Lost ≡ Open c.in-Open.open =
    subst (λ (k : ℕ). slice_index_or c.args.self.now.files.items k Lost ≡ Open c.in-Open.open)
    c.place.ensures.place (sym c.hold_at.ensures ∙ c.in-Open.is) in
    record {
      start = open_within c.args.file c.args.at c.in-Open.open c.requires.file is c.requires.ready
          c.requires.start;
    }

pub returns-in-Open-clause-ready : goal.returns-in-Open-clause-ready
returns-in-Open-clause-ready g c =
    let is : slice_index_or c.args.self.now.files.items
    (place_of (files_in c.args.places.now) c.args.file) Lost ≡ Open c.in-Open.open =
    subst (λ (k : ℕ). slice_index_or c.args.self.now.files.items k Lost ≡ Open c.in-Open.open)
    c.place.ensures.place (sym c.hold_at.ensures ∙ c.in-Open.is) in
    changed_open (Holds c.args.at c.args.bytes.now) (Torn c.args.at (length c.args.bytes.now))
    c.write.new.self c.args.file c.in-Open.open c.write.result c.place.ensures.distinct
    c.requires.file is c.requires.ready c.write.ensures.still_held c.write.ensures.written
    c.write.ensures.stopped c.write.ensures.after c.write.ensures.changed

pub returns-in-Open-clause-alters : goal.returns-in-Open-clause-alters
returns-in-Open-clause-alters g c =
    let is : slice_index_or c.args.self.now.files.items
    (place_of (files_in c.args.places.now) c.args.file) Lost ≡ Open c.in-Open.open =
    subst (λ (k : ℕ). slice_index_or c.args.self.now.files.items k Lost ≡ Open c.in-Open.open)
    c.place.ensures.place (sym c.hold_at.ensures ∙ c.in-Open.is) in
    alters_open (Holds c.args.at c.args.bytes.now) (Torn c.args.at (length c.args.bytes.now))
    c.write.new.self c.args.file c.in-Open.open c.write.result c.place.ensures.distinct
    c.requires.file is (torn_same c.args.at (length c.args.bytes.now) _) c.requires.ready
    c.write.ensures.written c.write.ensures.stopped c.write.ensures.after

pub returns-in-Shut-clause-alters : goal.returns-in-Shut-clause-alters
returns-in-Shut-clause-alters g c = λ t. alters_none (Holds c.args.at c.args.bytes.now)
    (Torn c.args.at (length c.args.bytes.now)) c.args.places.now c.args.file _ _ refl
    (torn_same c.args.at (length c.args.bytes.now))
    (stays_still c.args.places.now (g.F.Folder.view c.args.self.now.folder))

pub returns-in-Shut-2-clause-alters : goal.returns-in-Shut-2-clause-alters
returns-in-Shut-2-clause-alters g c = λ t. alters_none (Holds c.args.at c.args.bytes.now)
    (Torn c.args.at (length c.args.bytes.now)) c.args.places.now c.args.file _ _ refl
    (torn_same c.args.at (length c.args.bytes.now))
    (stays_still c.args.places.now (g.F.Folder.view c.args.self.now.folder))
