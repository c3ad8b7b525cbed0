use Rattle.std.proofs.Common.{subst, List}
use Rattle.cx_region.specs.declared.witness.Witness.{Witness}
use Rattle.cx_region.specs.Witnesses.{Joins}
use Rattle.cx_region.proofs.JoinLaws.{joins-both}
use Rattle.cx_region.proofs.witnesses.join.Goals as goal

pub returns : goal.returns
returns c =
    let x = c.args.followed in
    let mid = c.keep_all.new.kept.items in
    joins-both x c.args.first.items c.args.second.items mid c.keep_all-2.new.kept.items
    (subst (λ (ws : List Witness). Joins x ws c.args.first.items mid)
    c.new-kept.ensures.items c.in_ok-keep_all.ensures) c.in_ok-keep_all-2.ensures
