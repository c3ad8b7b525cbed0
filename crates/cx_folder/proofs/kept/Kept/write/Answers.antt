use Rattle.std.specs.Prelude.{◌≤◌, length, ℕ, List}
use Rattle.std.proofs.Common.{sym, subst}
use Rattle.std.proofs.lemmas.Result.{err_from_is_err_and}
use Rattle.cx_disk.specs.Disk.{Holds, Torn}
use Rattle.cx_disk.specs.MemoryLaws.{torn_same}
use Rattle.cx_folder.proofs.KeptLaws.{alters_then, alters_none}
use Rattle.cx_folder.proofs.kept.Kept.write.Goals as goal

pub write_open-requires-clause-start : goal.write_open-requires-clause-start
write_open-requires-clause-start g c = λ t. subst (λ (xs : List ℕ). c.args.at ≤ length xs)
    (sym ((c.open_or_make.ensures.stays t).same c.args.file)) (c.requires.start t)

pub returns-clause-alters : goal.returns-clause-alters
returns-clause-alters g c = λ t.
    alters_then (Holds c.args.at c.args.bytes.now) (Torn c.args.at (length c.args.bytes.now))
    c.args.places.now c.args.file c.write_open.result
    (g.met.F.Folder.sound c.args.self.now.folder t) (c.open_or_make.ensures.stays t)
    (c.write_open.ensures.alters t)

pub returns-in_err-open_or_make-clause-alters : goal.returns-in_err-open_or_make-clause-alters
returns-in_err-open_or_make-clause-alters g c = λ t.
    let p = err_from_is_err_and c.from_residual.result c.from_residual.ensures.1 in
    alters_none (Holds c.args.at c.args.bytes.now) (Torn c.args.at (length c.args.bytes.now))
    c.args.places.now c.args.file c.from_residual.result p.0 p.1
    (torn_same c.args.at (length c.args.bytes.now)) (c.open_or_make.ensures.stays t)
