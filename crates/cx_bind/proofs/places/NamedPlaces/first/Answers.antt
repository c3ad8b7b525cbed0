use Rattle.std.proofs.Common.{◌∙◌}
use Rattle.cx_bind.proofs.HasLaws.{if_ok}
use Rattle.cx_bind.proofs.places.NamedPlaces.first.Goals as goal

pub returns : goal.returns
returns c = if_ok c.at_name.result (λ place told. told ∙ c.requires.0 c.args.name.now)
    c.at_name.ensures
