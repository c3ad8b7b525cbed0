use Rattle.std.proofs.Common.{◌≡◌, ◌∙◌, ℕ, List, ap, subst, sym}
use Rattle.cx_disk.specs.Disk.{Changes, CutShort}
use Rattle.cx_disk.specs.Memory.{History, noted, stopped_cut, reading}
use Rattle.cx_disk.specs.MemoryLaws.{cut_same}
use Rattle.cx_disk.specs.Failing.{Failing}
use Rattle.cx_disk.proofs.FailingLaws.{disk_same}
use Rattle.cx_disk.proofs.Memory.{passes_noted, reading_own, reading_others}
use Rattle.cx_disk.proofs.failing_disk.FailingDiskDisk.cut.Goals as goal

pub returns-then-fails-clause-after : goal.returns-then-fails-clause-after
returns-then-fails-clause-after c =
    let is : c.stop_cut.new.self ≡ noted c.args.self.now.disk (stopped_cut c.args.file c.args.to) =
    c.in_ok-stop_cut.ensures.ok
    ∙ ap (λ (f : Failing). noted f.disk (stopped_cut c.args.file c.args.to)) c.self.view_is
    ∙ ap (λ (d : History). noted d (stopped_cut c.args.file c.args.to))
    (disk_same c.fails.result c.args.self.now c.fails.new.self c.fails.ensures.new) in
    passes_noted (Changes (CutShort c.args.to) c.args.file)
    c.args.self.now.disk c.stop_cut.new.self _ is (λ seen images d left. left)

pub returns-then-fails-clause-stopped : goal.returns-then-fails-clause-stopped
returns-then-fails-clause-stopped c =
    let is : c.stop_cut.new.self ≡ noted c.args.self.now.disk (stopped_cut c.args.file c.args.to) =
    c.in_ok-stop_cut.ensures.ok
    ∙ ap (λ (f : Failing). noted f.disk (stopped_cut c.args.file c.args.to)) c.self.view_is
    ∙ ap (λ (d : History). noted d (stopped_cut c.args.file c.args.to))
    (disk_same c.fails.result c.args.self.now c.fails.new.self c.fails.ensures.new) in
    subst (λ (b : List ℕ). CutShort c.args.to (reading c.args.self.now.disk c.args.file) b)
    (sym (reading_own c.args.self.now.disk c.stop_cut.new.self _ is))
    (cut_same c.args.to (reading c.args.self.now.disk c.args.file))

pub returns-then-fails-clause-others : goal.returns-then-fails-clause-others
returns-then-fails-clause-others c = λ other ne.
    let is : c.stop_cut.new.self ≡ noted c.args.self.now.disk (stopped_cut c.args.file c.args.to) =
    c.in_ok-stop_cut.ensures.ok
    ∙ ap (λ (f : Failing). noted f.disk (stopped_cut c.args.file c.args.to)) c.self.view_is
    ∙ ap (λ (d : History). noted d (stopped_cut c.args.file c.args.to))
    (disk_same c.fails.result c.args.self.now c.fails.new.self c.fails.ensures.new) in
    reading_others c.args.self.now.disk c.stop_cut.new.self _ other is ne
