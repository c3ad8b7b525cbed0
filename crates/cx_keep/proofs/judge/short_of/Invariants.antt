use Rattle.std.proofs.Common.{◌≡◌, ◌≤◌, IsTrue, drop}
use Rattle.cx_disk.specs.Moments.{IsQuiet}
use Rattle.cx_keep.specs.Tests.{short_from}
use Rattle.cx_keep.proofs.judge.short_of.Given as goal

abbrev pub invariant-each : goal.invariant-each
invariant-each g l = record {
  mounted : IsTrue (g.D.Disk.mounted l.disk);
  folders : g.D.Disk.folders l.disk ≡ g.D.Disk.folders l.fn.disk;
  count : g.D.Disk.file_count l.disk ≡ g.D.Disk.file_count l.fn.disk;
  faults : g.D.Disk.faults l.fn.disk ≤ g.D.Disk.faults l.disk;
  quiet : g.D.Disk.tells → IsQuiet (g.D.Disk.view l.fn.disk) (g.D.Disk.view l.disk);
  short : g.D.Disk.tells → short_from l.output (drop l.output l.lengths)
      (g.D.Disk.view l.fn.disk).seen ≡ short_from 0 l.lengths (g.D.Disk.view l.fn.disk).seen;
}
