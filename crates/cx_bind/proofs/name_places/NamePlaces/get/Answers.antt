use Rattle.std.proofs.Common.{◌∙◌}
use Rattle.cx_bind.proofs.PlaceLaws.{got_named}
use Rattle.cx_bind.proofs.name_places.NamePlaces.get.Goals as goal
use Rattle.cx_text.specs.Bytes.{folded}

pub returns : goal.returns
returns c =
    got_named (λ v. v.items) c.in_ok-key.key c.self.inside.places.entries (folded c.args.name.now)
    c.args.self.now c.copied.result c.in_ok-key.ensures c.self.view_is
    (c.copied.ensures ∙ c.get.ensures.value)
