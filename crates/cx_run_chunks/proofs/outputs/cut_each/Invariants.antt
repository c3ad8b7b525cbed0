use Rattle.std.proofs.Common.{◌≡◌, ◌≤◌, IsTrue, drop, length, map}
use Rattle.std.specs.List.{range_with_len}
use Rattle.cx_disk.specs.Moments.{IsQuiet}
use Rattle.cx_cut.specs.Cuts.{part_count}
use Rattle.cx_plan.specs.Setups.{setup_of}
use Rattle.cx_chunks.specs.Cutting.{chunk_texts}
use Rattle.cx_run_chunks.specs.Next.{total_of}
use Rattle.cx_run_chunks.specs.Commands.{first_by_place, not_output, records_at}
use Rattle.cx_run_chunks.proofs.outputs.cut_each.Given as goal

abbrev pub invariant-outputs : goal.invariant-outputs
invariant-outputs g l = record {
  mounted : IsTrue (g.D.Disk.mounted l.disk);
  folders : g.D.Disk.folders l.disk ≡ g.D.Disk.folders l.fn.disk;
  count : g.D.Disk.file_count l.disk ≡ g.D.Disk.file_count l.fn.disk;
  faults : g.D.Disk.faults l.fn.disk ≤ g.D.Disk.faults l.disk;
  quiet : g.D.Disk.tells → IsQuiet (g.D.Disk.view l.fn.disk) (g.D.Disk.view l.disk);
  place : l.place ≡ l.v-index;
  told : g.D.Disk.tells →
      first_by_place (not_output (setup_of l.fn.job) (g.D.Disk.view l.fn.disk).seen) l.v-index
      (drop l.v-index l.fn.job.out_vars)
      ≡ first_by_place (not_output (setup_of l.fn.job) (g.D.Disk.view l.fn.disk).seen) 0
      l.fn.job.out_vars;
  records : g.D.Disk.tells → l.records ≡ total_of
      (map (records_at (g.D.Disk.view l.fn.disk).seen) (range_with_len 0 l.v-index));
  texts : g.D.Disk.tells → l.texts ≡ chunk_texts l.fn.cut
      (map (records_at (g.D.Disk.view l.fn.disk).seen) (range_with_len 0 l.v-index));
  many : length l.texts ≡ part_count l.fn.cut;
}
