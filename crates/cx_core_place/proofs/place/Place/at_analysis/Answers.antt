use Rattle.std.proofs.Common.{◌≡◌, ◌<◌, ◌^◌, ap, ◌∙◌, arith}
use Rattle.cx_plan.specs.Setups.{setup_of}
use Rattle.cx_flat.specs.Code.{analysis_place}
use Rattle.cx_flat.specs.Ways.{at_place}
use Rattle.cx_core_place.specs.Skips.{landed}
use Rattle.cx_core_place.proofs.BeginLaws.{lands}
use Rattle.cx_core_place.proofs.OpenLaws.{seen}
use Rattle.cx_core_place.proofs.StepLaws.{analysis_small}
use Rattle.cx_core_place.proofs.place.Place.at_analysis.Goals as goal

pub returns : goal.returns
returns c =
    λ job whole is.
    let place = analysis_place (setup_of job) in
    let there : landed c.args.ops.now ≡ place = ap landed is ∙ lands (setup_of job) in
    let few : place < 2 ^ 31 = analysis_small job whole in
    let here : c.landing_place.result ≡ place =
    c.landing_place.ensures (omega (arith, there, few)) ∙ there in
    ap (seen c.landing_place.result c.args.iteration) c.new.ensures.items
    ∙ ap (λ n. at_place n c.args.iteration) here
