use Rattle.std.proofs.Common.{◌<◌, ◌≤◌, ◌∙◌, ap, arith, length}
use Rattle.std.proofs.lemmas.List.{length-set}
use Rattle.cx_chunks.proofs.TextLaws.{all_parts, part_more}
use Rattle.cx_chunks.proofs.cutting.push_parts.Goals as goal

pub parts-preserved : goal.parts-preserved
parts-preserved c =
    let within : c.parts.part < length c.parts.all.items =
    omega (arith, c.parts-test.true, c.count-part-end.ensures.value, c.parts.invariant.many) in
    record {
      many = ap length c.in_ok-push_part.ensures ∙ length-set c.parts.all.items c.parts.part _
          ∙ c.parts.invariant.many;
      texts = part_more c.args.cut.now c.args.entry.now c.parts.part c.parts.all.items
          c.push_part.new.all.items _ within c.in_ok-push_part.ensures c.parts.invariant.texts;
    }

pub returns : goal.returns
returns c =
    let past : length c.parts.all.items ≤ c.parts.part =
    omega (arith, c.parts-test.false, c.count-part-end.ensures.value, c.parts.invariant.many) in
    all_parts c.args.cut.now c.args.entry.now c.parts.part c.parts.all.items _ past
    c.parts.invariant.texts
