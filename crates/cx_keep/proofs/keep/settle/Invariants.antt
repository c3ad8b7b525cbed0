use Rattle.std.proofs.Common.{◌≡◌, ◌≤◌, ◌<◌, ℕ, IsTrue}
use Rattle.cx_disk.specs.Disk.{IsSettled}
use Rattle.cx_disk.specs.Moments.{IsQuiet}
use Rattle.cx_keep.specs.Trails.{file_of_output}
use Rattle.cx_keep.proofs.keep.settle.Given as goal

abbrev pub invariant-each : goal.invariant-each
invariant-each g l = record {
  mounted : IsTrue (g.D.Disk.mounted l.disk);
  folders : g.D.Disk.folders l.disk ≡ g.D.Disk.folders l.fn.disk;
  count : g.D.Disk.file_count l.disk ≡ g.D.Disk.file_count l.fn.disk;
  faults : g.D.Disk.faults l.fn.disk ≤ g.D.Disk.faults l.disk;
  quiet : g.D.Disk.tells → IsQuiet (g.D.Disk.view l.fn.disk) (g.D.Disk.view l.disk);
  settled : g.D.Disk.tells → (j : ℕ) → j < l.output
      → IsSettled (g.D.Disk.view l.disk) (file_of_output j);
}
