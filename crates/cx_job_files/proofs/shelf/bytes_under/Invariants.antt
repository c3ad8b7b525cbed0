use Rattle.std.proofs.Common.{◌≡◌, drop}
use Rattle.cx_job_files.specs.Shelf.{looked_up}
use Rattle.cx_job_files.proofs.shelf.bytes_under.Given as goal

abbrev pub invariant-files : goal.invariant-files
invariant-files l = looked_up (drop l.file-index l.files) l.name ≡ looked_up l.files l.name
