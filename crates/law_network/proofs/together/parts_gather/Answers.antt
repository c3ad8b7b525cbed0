use Rattle.law_network.proofs.TogetherLaws as laws
use Rattle.law_network.proofs.together.parts_gather.Goals as goal

pub returns : goal.returns
returns g c =
    let x = c.args.network.now in
    laws.parts_gather (g.N.Network.net x) (g.N.Network.script x) (g.N.Network.agrees x)
    (g.N.Network.books x)
