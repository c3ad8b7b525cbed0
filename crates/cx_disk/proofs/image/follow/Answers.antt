use Rattle.std.proofs.Common.{List, ℕ, OnOk, subst}
use Rattle.std.proofs.lemmas.Result.{on_ok_weaker}
use Rattle.cx_disk.specs.Image.{HasFile}
use Rattle.cx_disk.specs.Memory.{file_of}
use Rattle.cx_disk.proofs.Tearing.{synced_follows, torn_follows, is_so, not_so}
use Rattle.cx_disk.proofs.image.follow.Goals as goal

pub returns-then-is_sync : goal.returns-then-is_sync
returns-then-is_sync c =
    on_ok_weaker c.settle.result
    (λ settles. synced_follows c.args.choice c.args.note.now (file_of c.args.files.now.items)
    (file_of c.args.image.now.items) (file_of c.redo.new.files.items)
    (file_of c.settle.new.image.items)
    (is_so c.is_sync.result c.is_sync.ensures c.if-is_sync.true) c.in_ok-redo.ensures settles)
    (subst (λ (l : List (List ℕ)).
    OnOk c.settle.result (HasFile c.args.note.now.file (file_of l c.args.note.now.file)
    (file_of c.args.image.now.items) (file_of c.settle.new.image.items)))
    c.deref.ensures.value c.settle.ensures)

pub returns-else-is_sync : goal.returns-else-is_sync
returns-else-is_sync c =
    on_ok_weaker c.tear.result
    (λ tears. torn_follows c.args.choice c.args.note.now (file_of c.args.files.now.items)
    (file_of c.args.image.now.items) (file_of c.redo.new.files.items)
    (file_of c.tear.new.files.items)
    (not_so c.is_sync.result c.is_sync.ensures c.if-is_sync.false) c.in_ok-redo.ensures tears)
    c.tear.ensures
