use Rattle.std.proofs.Common.{◌≡◌, ◌++◌, take, drop, length}
use Rattle.cx_cut.specs.Cuts.{part_count}
use Rattle.cx_chunks.specs.Cutting.{with_record}
use Rattle.cx_chunks.proofs.cutting.push_parts.Given as goal

abbrev pub invariant-parts : goal.invariant-parts
invariant-parts l = record {
  many : length l.all.items ≡ part_count l.cut;
  texts : take l.part l.all.items ++ with_record l.cut l.entry l.part (drop l.part l.all.items)
      ≡ with_record l.cut l.entry 0 l.initial.all.items;
}
