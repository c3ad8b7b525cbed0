use Rattle.std.proofs.Common.{◌≡◌, ◌≤◌, ◌<◌, ℕ, [], IsTrue}
use Rattle.std.specs.Prelude.{slice_index_or}
use Rattle.cx_disk.specs.Disk.{Files, LeavesOnly}
use Rattle.cx_keep.specs.Renewing.{IsWithinRenewal, IsRenewed}
use Rattle.cx_keep.specs.Trails.{file_of_output}
use Rattle.cx_keep.proofs.renew.write_outputs.Given as goal

abbrev pub invariant-each : goal.invariant-each
invariant-each g l = record {
  mounted : IsTrue (g.D.Disk.mounted l.disk);
  folders : g.D.Disk.folders l.disk ≡ g.D.Disk.folders l.fn.disk;
  count : g.D.Disk.file_count l.disk ≡ g.D.Disk.file_count l.fn.disk;
  faults : g.D.Disk.faults l.fn.disk ≤ g.D.Disk.faults l.disk;
  crash : g.D.Disk.tells → (c : Files) → (g.D.Disk.view l.disk).images c
      → IsWithinRenewal l.texts (g.D.Disk.view l.fn.disk) c;
  moments : g.D.Disk.tells
      → LeavesOnly (g.D.Disk.view l.fn.disk) (g.D.Disk.view l.disk)
      (IsWithinRenewal l.texts (g.D.Disk.view l.fn.disk));
  earlier : g.D.Disk.tells → (file : ℕ) → file < file_of_output 0
      → (g.D.Disk.view l.disk).seen file ≡ (g.D.Disk.view l.fn.disk).seen file;
  renewed : g.D.Disk.tells → (j : ℕ) → j < l.output
      → IsRenewed (slice_index_or l.texts j []) (file_of_output j) (g.D.Disk.view l.disk);
}
