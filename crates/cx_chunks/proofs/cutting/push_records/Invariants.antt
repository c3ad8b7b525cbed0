use Rattle.std.proofs.Common.{◌≡◌, length, take}
use Rattle.cx_cut.specs.Cuts.{part_count}
use Rattle.cx_chunks.specs.Cutting.{AddsVariable}
use Rattle.cx_chunks.proofs.cutting.push_records.Given as goal

abbrev pub invariant-records : goal.invariant-records
invariant-records l = record {
  many : length l.texts ≡ part_count l.cut;
  texts : AddsVariable l.cut (take l.entry-index l.records) l.initial.texts l.texts;
}
