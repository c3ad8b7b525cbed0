use Rattle.std.proofs.Common.{◌≤◌, ◌∙◌, ap, length, arith}
use Rattle.std.proofs.lemmas.List.{take_all}
use Rattle.cx_bind.proofs.VariableLaws.{infos, infos_are}
use Rattle.cx_bind.proofs.variables.variable_infos.Goals as goal

pub returns : goal.returns
returns c =
    let all : length c.args.thorns.now ≤ c.thorns.thorn-index = omega arith in
    c.thorns.invariant ∙ ap infos (take_all c.thorns.thorn-index c.args.thorns.now all)
    ∙ infos_are c.args.thorns.now
