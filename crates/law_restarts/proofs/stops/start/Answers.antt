use Rattle.law_restarts.proofs.stops.start.Goals as goal

pub cactus-requires-clause-empty : goal.cactus-requires-clause-empty
cactus-requires-clause-empty g c = c.in_ok-wire.ensures.told

pub returns : goal.returns
returns g c = λ before after. record {
  wire = c.in_ok-wire.wire;
  wire_after = c.cactus.new.wire;
  new = c.in_ok-wire.ensures.new;
  obeys = c.cactus.ensures.obeys;
}
