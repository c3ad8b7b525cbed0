use Rattle.std.proofs.Common.{◌≡◌, ◌≤◌, ◌<◌, IsTrue}
use Rattle.std.specs.Prelude.{IfSome}
use Rattle.cx_disk.specs.Moments.{IsQuiet}
use Rattle.cx_chk.specs.Slots.{OldestBelow}
use Rattle.cx_chk.proofs.choose.next.Given as goal

abbrev pub invariant-look : goal.invariant-look
invariant-look g l = record {
  mounted : IsTrue (g.D.Disk.mounted l.disk);
  folders : g.D.Disk.folders l.disk ≡ g.D.Disk.folders l.fn.disk;
  count : g.D.Disk.file_count l.disk ≡ g.D.Disk.file_count l.fn.disk;
  faults : g.D.Disk.faults l.fn.disk ≤ g.D.Disk.faults l.disk;
  quiet : g.D.Disk.tells → IsQuiet (g.D.Disk.view l.fn.disk) (g.D.Disk.view l.disk);
  known : IfSome l.oldest (λ f. f.0 < l.slot);
  oldest : g.D.Disk.tells → OldestBelow l.slot (g.D.Disk.view l.fn.disk).seen l.oldest;
}
