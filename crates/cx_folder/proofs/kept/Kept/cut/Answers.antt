use Rattle.std.proofs.lemmas.Result.{err_from_is_err_and}
use Rattle.cx_disk.specs.Disk.{Front, CutShort}
use Rattle.cx_disk.specs.MemoryLaws.{cut_same}
use Rattle.cx_folder.proofs.KeptLaws.{alters_then, alters_none, alters_absent}
use Rattle.cx_folder.proofs.kept.Kept.cut.Goals as goal

pub returns-in_err-open-clause-alters : goal.returns-in_err-open-clause-alters
returns-in_err-open-clause-alters g c = λ t.
    let p = err_from_is_err_and c.from_residual.result c.from_residual.ensures.1 in
    alters_none (Front c.args.to) (CutShort c.args.to) c.args.places.now c.args.file
    c.from_residual.result p.0 p.1 (cut_same c.args.to) (c.open.ensures.stays t)

pub returns-then-branch-clause-alters : goal.returns-then-branch-clause-alters
returns-then-branch-clause-alters g c = λ t.
    alters_then (Front c.args.to) (CutShort c.args.to) c.args.places.now c.args.file
    c.cut_open.result (g.met.F.Folder.sound c.args.self.now.folder t) (c.open.ensures.stays t)
    (c.cut_open.ensures.alters t)

pub returns-then-to-eq0-clause-alters : goal.returns-then-to-eq0-clause-alters
returns-then-to-eq0-clause-alters g c = λ t.
    alters_absent c.args.places.now c.args.file c.args.to tt (c.open.ensures.stays t)
    (c.in_ok-open.ensures.absent t c.if-branch.false)
