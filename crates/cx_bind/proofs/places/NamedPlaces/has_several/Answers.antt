use Rattle.std.proofs.Common.{◌∙◌}
use Rattle.cx_bind.proofs.HasLaws.{if_ok}
use Rattle.cx_bind.proofs.places.NamedPlaces.has_several.Goals as goal

pub returns : goal.returns
returns c = if_ok c.has.result (λ several told. told ∙ c.requires.1 c.args.name.now) c.has.ensures
