use Rattle.cx_folder.specs.declared.kept.Entries.TheVariants.{Settled, Doubted}
use Rattle.cx_folder.proofs.TreeLaws.{reads_more}
use Rattle.cx_folder.proofs.KeptLaws.{trusted_of, entered_after, ready_entries}
use Rattle.cx_folder.proofs.kept.Kept.sync_made.Goals as goal

pub returns-in_err-sync_folder-clause-ready : goal.returns-in_err-sync_folder-clause-ready
returns-in_err-sync_folder-clause-ready g c = ready_entries c.sync_folder.new.self Doubted
    c.requires.ready c.sync_folder.ensures.still_held c.sync_folder.ensures.reads_on
    (λ t path. (c.sync_folder.ensures.others t).files path) (λ t. tt)

pub returns-in_err-sync_folder-2-clause-ready : goal.returns-in_err-sync_folder-2-clause-ready
returns-in_err-sync_folder-2-clause-ready g c = ready_entries c.sync_folder-2.new.self Doubted
    (ready_entries c.sync_folder.new.self Doubted
    c.requires.ready c.sync_folder.ensures.still_held c.sync_folder.ensures.reads_on
    (λ t path. (c.sync_folder.ensures.others t).files path) (λ t. tt))
    c.sync_folder-2.ensures.still_held c.sync_folder-2.ensures.reads_on
    (λ t path. (c.sync_folder-2.ensures.others t).files path) (λ t. tt)

pub returns-in_err-sync_folder-2-clause-reads_on : goal.returns-in_err-sync_folder-2-clause-reads_on
returns-in_err-sync_folder-2-clause-reads_on g c = λ t.
    reads_more (g.met.F.Folder.sound c.args.self.now.folder t) (c.sync_folder.ensures.reads_on t)
    (c.sync_folder-2.ensures.reads_on t)

pub returns-clause-ready : goal.returns-clause-ready
returns-clause-ready g c = ready_entries c.sync_folder-2.new.self Settled
    (ready_entries c.sync_folder.new.self Doubted
    c.requires.ready c.sync_folder.ensures.still_held c.sync_folder.ensures.reads_on
    (λ t path. (c.sync_folder.ensures.others t).files path) (λ t. tt))
    c.sync_folder-2.ensures.still_held c.sync_folder-2.ensures.reads_on
    (λ t path. (c.sync_folder-2.ensures.others t).files path)
    (λ t. entered_after c.args.places.now c.output_folder.result.now c.checkpoint_folder.result.now
    c.output_folder.ensures c.checkpoint_folder.ensures
    (trusted_of c.requires.ready c.requires.made t) (c.sync_folder.ensures.reads_on t)
    (c.sync_folder.ensures.others t) (c.in_ok-sync_folder.ensures.settled t)
    (c.sync_folder-2.ensures.reads_on t) (c.sync_folder-2.ensures.others t)
    (c.in_ok-sync_folder-2.ensures.settled t))

pub returns-clause-reads_on : goal.returns-clause-reads_on
returns-clause-reads_on g c = λ t.
    reads_more (g.met.F.Folder.sound c.args.self.now.folder t) (c.sync_folder.ensures.reads_on t)
    (c.sync_folder-2.ensures.reads_on t)

pub returns-clause-entered : goal.returns-clause-entered
returns-clause-entered g c = λ t.
    entered_after c.args.places.now c.output_folder.result.now c.checkpoint_folder.result.now
    c.output_folder.ensures c.checkpoint_folder.ensures
    (trusted_of c.requires.ready c.requires.made t) (c.sync_folder.ensures.reads_on t)
    (c.sync_folder.ensures.others t) (c.in_ok-sync_folder.ensures.settled t)
    (c.sync_folder-2.ensures.reads_on t) (c.sync_folder-2.ensures.others t)
    (c.in_ok-sync_folder-2.ensures.settled t)
