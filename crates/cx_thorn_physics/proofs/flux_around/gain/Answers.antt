use Rattle.std.proofs.Common.{◌∙◌, ap, rules, w64, SFits}
use Rattle.std.specs.Int.{w128}
use Rattle.std.proofs.lemmas.Int.{to_z-of_z}
use Rattle.cx_rule.specs.Single.{here}
use Rattle.cx_thorn_physics.specs.Flux.{gain_between, spot_at}
use Rattle.cx_thorn_physics.proofs.flux_around.gain.Goals as goal

pub returns-clause-value : goal.returns-clause-value
returns-clause-value c =
    let w = c.args.w.now.seen in
    let fits : SFits w128 c.gain_between.result = search rules in
    let fit : SFits w64 c.args.factor = search rules in
    to_z-of_z w128 c.gain_between.result fits ∙ c.gain_between.ensures.value
    ∙ ap (λ f. gain_between f c.spot_at-from.result c.spot_here.result c.spot_at-to.result)
    (to_z-of_z w64 c.args.factor fit)
    ∙ ap (λ s. gain_between c.args.factor s c.spot_here.result c.spot_at-to.result)
    c.spot_at-from.ensures
    ∙ ap (λ s. gain_between c.args.factor (spot_at w c.args.down) s c.spot_at-to.result)
    c.spot_here.ensures
    ∙ ap (λ s. gain_between c.args.factor (spot_at w c.args.down) (spot_at w here) s)
    c.spot_at-to.ensures
