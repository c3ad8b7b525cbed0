use Rattle.std.proofs.Common.{refl}
use Rattle.std.proofs.lemmas.Result.{err_from_is_err_and}
use Rattle.cx_disk.specs.Disk.{Changes, CutShort}
use Rattle.cx_disk.specs.Memory.{reading, view_of}
use Rattle.cx_disk.specs.MemoryLaws.{cut_same}
use Rattle.cx_disk.proofs.Memory.{passes_alone}
use Rattle.cx_disk.proofs.noting_disk.NotingDiskDisk.cut.Goals as goal

pub returns-in_err-note-clause-stopped : goal.returns-in_err-note-clause-stopped
returns-in_err-note-clause-stopped c =
    let p = err_from_is_err_and c.from_residual.result c.from_residual.ensures.1 in
    rw p.1 (cut_same c.args.to (reading c.args.self.now c.args.file))

pub returns-in_err-note-clause-after : goal.returns-in_err-note-clause-after
returns-in_err-note-clause-after c =
    passes_alone (Changes (CutShort c.args.to) c.args.file) (view_of c.args.self.now)
    (λ files. record { this = cut_same c.args.to (files c.args.file); others = λ other ne. refl })
