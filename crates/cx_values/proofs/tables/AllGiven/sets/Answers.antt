use Rattle.std.proofs.Common.{◌≡◌, ◌∙◌, ap, is_some, rules}
use Rattle.cx_values.specs.Assigned.{is_given}
use Rattle.cx_values.proofs.Firsts.{placed_any}
use Rattle.cx_values.proofs.tables.AllGiven.sets.Goals as goal

pub returns : goal.returns
returns c =
    let seen : c.is_some.result ≡ is_some c.place.result = search rules in
    seen ∙ ap (λ o. is_some o) c.place.ensures
    ∙ placed_any (is_given c.args.parameter c.args.element) c.args.self.now
