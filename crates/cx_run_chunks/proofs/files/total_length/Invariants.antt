use Rattle.std.proofs.Common.{◌≡◌, ◌≤◌, IsTrue}
use Rattle.std.specs.List.{range_with_len}
use Rattle.cx_disk.specs.Moments.{IsQuiet}
use Rattle.cx_run_chunks.specs.Commands.{length_of}
use Rattle.cx_run_chunks.proofs.files.total_length.Given as goal

abbrev pub invariant-files : goal.invariant-files
invariant-files g l = record {
  mounted : IsTrue (g.D.Disk.mounted l.disk);
  folders : g.D.Disk.folders l.disk ≡ g.D.Disk.folders l.fn.disk;
  count : g.D.Disk.file_count l.disk ≡ g.D.Disk.file_count l.fn.disk;
  faults : g.D.Disk.faults l.fn.disk ≤ g.D.Disk.faults l.disk;
  quiet : g.D.Disk.tells → IsQuiet (g.D.Disk.view l.fn.disk) (g.D.Disk.view l.disk);
  total : g.D.Disk.tells → l.total
      ≡ length_of (g.D.Disk.view l.fn.disk).seen (range_with_len l.first l.place);
}
