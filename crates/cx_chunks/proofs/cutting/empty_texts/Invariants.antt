use Rattle.std.proofs.Common.{◌≡◌, [], map}
use Rattle.std.specs.List.{range_with_len}
use Rattle.cx_chunks.specs.Cutting.{chunk_text}
use Rattle.cx_chunks.proofs.cutting.empty_texts.Given as goal

abbrev pub invariant-parts : goal.invariant-parts
invariant-parts l = l.texts ≡ map (chunk_text l.cut []) (range_with_len 0 l.counter)
