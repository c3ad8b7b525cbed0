use Rattle.std.proofs.Common.{refl}
use Rattle.cx_job_files.proofs.reading.file_names.Goals as goal

pub returns : goal.returns
returns c = rw (
  c.in_ok-thorn_file.ensures,
  c.in_ok-thorn_file-2.ensures,
  c.in_ok-thorn_file-3.ensures,
  c.in_ok-thorn_file-4.ensures,
) refl
