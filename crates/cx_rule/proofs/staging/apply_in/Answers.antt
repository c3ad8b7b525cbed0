use Rattle.std.proofs.Common.{◌∙◌, ap, length, []}
use Rattle.std.proofs.Math.Seq.{map-set_same}
use Rattle.std.proofs.lemmas.List.{get_or_default}
use Rattle.cx_rule.proofs.staging.apply_in.Goals as goal

pub returns-clause-sizes : goal.returns-clause-sizes
returns-clause-sizes g c =
    map-set_same length c.args.all.now.items c.args.count c.apply.new.out []
    (c.apply.ensures.room ∙ ap length c.index_mut-cells.ensures.value
    ∙ ap length (get_or_default c.args.all.now.items c.args.count c.index_mut-cells.result.now []
    c.requires.count))
