use Rattle.std.proofs.Common.{◌≡◌, ◌≤◌, ℕ, IsTrue}
use Rattle.cx_disk.specs.Disk.{Files, LeavesOnly}
use Rattle.cx_disk.specs.Files.{slot_count}
use Rattle.cx_chk.specs.Slots.{SlotsSettled, IsWithinShutting, KeepsFirst}
use Rattle.cx_chk.proofs.Seconds.{NoneBefore}
use Rattle.cx_chk.proofs.slots.Slots.close_second.Given as goal

abbrev pub invariant-each : goal.invariant-each
invariant-each g l = record {
  mounted : IsTrue (g.D.Disk.mounted l.disk);
  folders : g.D.Disk.folders l.disk ≡ g.D.Disk.folders l.fn.disk;
  count : g.D.Disk.file_count l.disk ≡ g.D.Disk.file_count l.fn.disk;
  faults : g.D.Disk.faults l.fn.disk ≤ g.D.Disk.faults l.disk;
  crash : g.D.Disk.tells → (c : Files) → (g.D.Disk.view l.disk).images c
      → IsWithinShutting (g.D.Disk.view l.fn.disk) c;
  moments : g.D.Disk.tells
      → LeavesOnly (g.D.Disk.view l.fn.disk) (g.D.Disk.view l.disk)
      (IsWithinShutting (g.D.Disk.view l.fn.disk));
  seen : g.D.Disk.tells → (file : ℕ) → slot_count ≤ file
      → (g.D.Disk.view l.disk).seen file ≡ (g.D.Disk.view l.fn.disk).seen file;
  settled : g.D.Disk.tells → SlotsSettled (g.D.Disk.view l.disk);
  kept : g.D.Disk.tells → KeepsFirst (g.D.Disk.view l.fn.disk).seen (g.D.Disk.view l.disk).seen;
  closed : g.D.Disk.tells → NoneBefore l.slot (g.D.Disk.view l.fn.disk).seen
      (g.D.Disk.view l.disk).seen;
}
