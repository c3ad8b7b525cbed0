use Rattle.std.proofs.Common.{◌≡◌, ◌≤◌, ◌<◌, ℕ, IsTrue, length}
use Rattle.std.specs.Prelude.{slice_index}
use Rattle.cx_disk.specs.Disk.{Files, LeavesOnly}
use Rattle.cx_keep.specs.Resuming.{IsCutTo, IsTrimmed}
use Rattle.cx_keep.specs.Trails.{file_of_output}
use Rattle.cx_keep.proofs.resume.cut_outputs.Given as goal

abbrev pub invariant-each : goal.invariant-each
invariant-each g l = record {
  mounted : IsTrue (g.D.Disk.mounted l.disk);
  folders : g.D.Disk.folders l.disk ≡ g.D.Disk.folders l.fn.disk;
  count : g.D.Disk.file_count l.disk ≡ g.D.Disk.file_count l.fn.disk;
  faults : g.D.Disk.faults l.fn.disk ≤ g.D.Disk.faults l.disk;
  crash : g.D.Disk.tells → (c : Files) → (g.D.Disk.view l.disk).images c
      → IsCutTo l.lengths (length l.lengths) (g.D.Disk.view l.fn.disk) c;
  moments : g.D.Disk.tells
      → LeavesOnly (g.D.Disk.view l.fn.disk) (g.D.Disk.view l.disk)
      (IsCutTo l.lengths (length l.lengths) (g.D.Disk.view l.fn.disk));
  earlier : g.D.Disk.tells → (file : ℕ) → file < file_of_output 0
      → (g.D.Disk.view l.disk).seen file ≡ (g.D.Disk.view l.fn.disk).seen file;
  cut : g.D.Disk.tells → (j : ℕ) → j < l.output
      → IsTrimmed (slice_index l.lengths j) (file_of_output j) (g.D.Disk.view l.fn.disk)
      (g.D.Disk.view l.disk);
  -- the outputs that are not yet cut are in each image as they were in the image that it comes from
  left : g.D.Disk.tells → (j : ℕ) → l.output ≤ j
      → (g.D.Disk.view l.disk).seen (file_of_output j)
      ≡ (g.D.Disk.view l.fn.disk).seen (file_of_output j);
}
