use Rattle.std.proofs.Common.{◌≡◌, ◌∙◌, sym, ap, true, nat_lt, arith, rules, w64, SFits}
use Rattle.std.specs.Int.{w128}
use Rattle.std.proofs.lemmas.Int.{to_z-of_z}
use Rattle.cx_thorn_physics.specs.Flux.{gain, gain_if}
use Rattle.cx_thorn_physics.proofs.Ranges.{lt_true}
use Rattle.cx_thorn_physics.proofs.FlowLaws.{if_there, three_gains}
use Rattle.cx_thorn_physics.proofs.flux_around.gains.Goals as goal

pub returns-clause-value : goal.returns-clause-value
returns-clause-value c =
    let w = c.args.w.now.seen in
    let fits : SFits w128 c.sum.result = search rules in
    let fit : SFits w64 c.args.factor = search rules in
    let x_fits : SFits w128 c.gain-x.result = search rules in
    let y_fits : SFits w128 c.gain_y-y.result = search rules in
    let z_fits : SFits w128 c.gain_z-z.result = search rules in
    let factor = to_z-of_z w64 c.args.factor fit in
    let has : nat_lt 0 w.dims ≡ true =
    lt_true 0 w.dims (omega (arith, c.requires.directions, c.requires.some)) in
    let x = to_z-of_z w128 c.gain-x.result x_fits ∙ c.gain-x.ensures.value
    ∙ ap (λ f. gain w f 0) factor ∙ sym (if_there (nat_lt 0 w.dims) (gain w c.args.factor 0) has) in
    let y = to_z-of_z w128 c.gain_y-y.result y_fits ∙ c.gain_y-y.ensures.value
    ∙ ap (λ f. gain_if w f 1) factor in
    let z = to_z-of_z w128 c.gain_z-z.result z_fits ∙ c.gain_z-z.ensures.value
    ∙ ap (λ f. gain_if w f 2) factor in
    to_z-of_z w128 c.sum.result fits ∙ c.sum.ensures.value ∙ three_gains _ _ _ _ _ _ x y z
