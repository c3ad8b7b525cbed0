use Rattle.std.proofs.Common.{◌≡◌, length}
use Rattle.cx_cut.specs.Cuts.{part_count}
use Rattle.cx_plan.specs.Setups.{setup_of}
use Rattle.cx_run_chunks.proofs.TakeLaws.{IsTaken}
use Rattle.cx_run_chunks.proofs.outputs.cut_bytes.Given as goal

abbrev pub invariant-records : goal.invariant-records
invariant-records l = record {
  taken : IsTaken (setup_of l.job) l.info l.cut l.bytes l.initial.texts l.texts l.rest l.last
      l.count;
  many : length l.texts ≡ part_count l.cut;
}

abbrev pub decreases-records : goal.decreases-records
decreases-records l = length l.rest
