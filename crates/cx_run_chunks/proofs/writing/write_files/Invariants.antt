use Rattle.std.proofs.Common.{◌≡◌, ◌≤◌, ◌<◌, ℕ, IsTrue, length}
use Rattle.cx_run_chunks.specs.Writing.{Writes}
use Rattle.cx_run_chunks.proofs.WriteLaws.{IsOwn}
use Rattle.cx_run_chunks.proofs.writing.write_files.Given as goal

abbrev pub invariant-files : goal.invariant-files
invariant-files g l = record {
  mounted : IsTrue (g.D.Disk.mounted l.disk);
  folders : g.D.Disk.folders l.disk ≡ g.D.Disk.folders l.fn.disk;
  count : g.D.Disk.file_count l.disk ≡ g.D.Disk.file_count l.fn.disk;
  faults : g.D.Disk.faults l.fn.disk ≤ g.D.Disk.faults l.disk;
  writes : g.D.Disk.tells → Writes l.fn.first (length l.fn.texts) (g.D.Disk.view l.fn.disk)
      (g.D.Disk.view l.disk);
  own : g.D.Disk.tells → (j : ℕ) → j < l.place
      → IsOwn l.fn.first l.fn.texts (g.D.Disk.view l.disk) j;
}
