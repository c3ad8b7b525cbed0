use Rattle.std.proofs.Common.{◌≡◌, ◌≤◌, ◌-◌, IsTrue, length, map}
use Rattle.std.specs.List.{range_with_len}
use Rattle.cx_disk.specs.Moments.{IsQuiet}
use Rattle.cx_plan.specs.Lists.{first_of_each}
use Rattle.cx_run_chunks.specs.Commands.{bad, pieces_in}
use Rattle.cx_run_chunks.proofs.pieces.read_each.Given as goal

abbrev pub invariant-parts : goal.invariant-parts
invariant-parts g l = record {
  mounted : IsTrue (g.D.Disk.mounted l.disk);
  folders : g.D.Disk.folders l.disk ≡ g.D.Disk.folders l.fn.disk;
  count : g.D.Disk.file_count l.disk ≡ g.D.Disk.file_count l.fn.disk;
  faults : g.D.Disk.faults l.fn.disk ≤ g.D.Disk.faults l.disk;
  quiet : g.D.Disk.tells → IsQuiet (g.D.Disk.view l.fn.disk) (g.D.Disk.view l.disk);
  told : g.D.Disk.tells →
      first_of_each (bad (g.D.Disk.view l.fn.disk).seen)
      (range_with_len l.part (l.fn.count - l.part))
      ≡ first_of_each (bad (g.D.Disk.view l.fn.disk).seen) (range_with_len 0 l.fn.count);
  pieces : g.D.Disk.tells → l.chunks
      ≡ map (pieces_in (g.D.Disk.view l.fn.disk).seen) (range_with_len 0 l.part);
  many : length l.chunks ≡ l.part;
}
