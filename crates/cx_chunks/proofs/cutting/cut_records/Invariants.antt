use Rattle.std.proofs.Common.{◌≡◌, take}
use Rattle.cx_chunks.specs.Cutting.{chunk_texts}
use Rattle.cx_chunks.proofs.cutting.cut_records.Given as goal

abbrev pub invariant-outputs : goal.invariant-outputs
invariant-outputs l = l.texts ≡ chunk_texts l.cut (take l.list-index l.records)
