use Rattle.std.proofs.Common.{◌≡◌, ℕ, sym, ◌∙◌, subst}
use Rattle.std.specs.Prelude.{slice_index_or}
use Rattle.cx_disk.specs.Disk.{files_in}
use Rattle.cx_folder.specs.Names.{place_of}
use Rattle.cx_folder.specs.declared.kept.Hold.TheVariants.{Open, Lost}
use Rattle.cx_folder.proofs.TreeLaws.{stays_reads, stays_still}
use Rattle.cx_folder.proofs.KeptLaws.{synced_as, bytes_open}
use Rattle.cx_folder.proofs.kept.Kept.sync_open.Goals as goal

pub returns-in-Open-clause-ready : goal.returns-in-Open-clause-ready
returns-in-Open-clause-ready g c =
    let is : slice_index_or c.args.self.now.files.items
    (place_of (files_in c.args.places.now) c.args.file) Lost ≡ Open c.in-Open.open =
    subst (λ (k : ℕ). slice_index_or c.args.self.now.files.items k Lost ≡ Open c.in-Open.open)
    c.place.ensures.place (sym c.hold_at.ensures ∙ c.in-Open.is) in
    synced_as c.sync-done.new.self c.args.file c.in-Open.open c.held_after.result c.sync-done.result
    c.place-in-Open.result c.set_hold.new.files.items c.place.ensures.distinct c.requires.file is
    c.requires.ready c.sync-done.ensures.still_held c.sync-done.ensures.reads_on
    c.sync-done.ensures.others c.sync-done.ensures.settled c.held_after.ensures.shut
    c.held_after.ensures.lost c.place-in-Open.ensures.place c.set_hold.ensures

pub returns-in-Open-clause-stays : goal.returns-in-Open-clause-stays
returns-in-Open-clause-stays g c = λ t. stays_reads c.args.places.now
    (c.sync-done.ensures.reads_on t)

pub returns-in-Open-clause-bytes : goal.returns-in-Open-clause-bytes
returns-in-Open-clause-bytes g c =
    let is : slice_index_or c.args.self.now.files.items
    (place_of (files_in c.args.places.now) c.args.file) Lost ≡ Open c.in-Open.open =
    subst (λ (k : ℕ). slice_index_or c.args.self.now.files.items k Lost ≡ Open c.in-Open.open)
    c.place.ensures.place (sym c.hold_at.ensures ∙ c.in-Open.is) in
    bytes_open c.sync-done.new.self c.args.file c.in-Open.open c.sync-done.result c.requires.file is
    c.requires.ready c.sync-done.ensures.settled

pub returns-in-Shut-clause-stays : goal.returns-in-Shut-clause-stays
returns-in-Shut-clause-stays g c = λ t. stays_still c.args.places.now
    (g.F.Folder.view c.args.self.now.folder)

pub returns-in-Shut-2-clause-stays : goal.returns-in-Shut-2-clause-stays
returns-in-Shut-2-clause-stays g c = λ t. stays_still c.args.places.now
    (g.F.Folder.view c.args.self.now.folder)
