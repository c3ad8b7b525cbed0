use Rattle.law_network.proofs.network.every_order.Goals as goal
use Rattle.law_network.proofs.OrderLaws.{all_orders}

-- src/network.rt:52:1
pub returns : goal.returns
returns g c =
    let x = c.args.network.now in
    all_orders (g.N.Network.net x) (g.N.Network.script x) (g.N.Network.agrees x)
    (g.N.Network.gives x) (g.N.Network.books x)
    (g.N.Network.fits x) (g.N.Network.ends x)
