use Rattle.std.proofs.Common.{◌≡◌, ap, ◌∙◌, rules}
use Rattle.front_tests.specs.RegionSamples.{whiles}
use Rattle.front_tests.proofs.RegionSampleLaws.{whiles-next}
use Rattle.front_tests.proofs.region.nested.Goals as goal

pub layers-preserved : goal.layers-preserved
layers-preserved c = whiles-next c.layers.counter c.args.work c.layers.tree c.in_ok-next.next
    c.layers.invariant c.in_ok-next.ensures

pub returns : goal.returns
returns c =
    let same : c.layers.counter ≡ c.args.count = search rules in
    c.layers.invariant ∙ ap (λ k. whiles k c.args.work) same
