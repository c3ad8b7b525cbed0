use Rattle.std.proofs.Common.{ap, ◌∙◌, ◌∷◌, [], length, arith}
use Rattle.std.proofs.lemmas.List.{length-append}
use Rattle.cx_scope.proofs.EdgeLaws.{row_more}
use Rattle.cx_scope.proofs.edges.rows.Goals as goal

pub from-preserved : goal.from-preserved
from-preserved c = record {
  long = (let before = c.from.invariant.long in
      let after = ap length c.in_ok-push.ensures.ok
      ∙ length-append c.from.rows (c.in_ok-row.field-0 ∷ []) in omega (arith, before, after));
  marks = row_more c.args.edges.now c.from.from c.from.rows c.push.new.self c.in_ok-row.field-0
      c.from.invariant.long c.from.invariant.marks c.in_ok-row.ensures c.in_ok-push.ensures.ok;
}
