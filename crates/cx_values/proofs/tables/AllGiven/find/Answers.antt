use Rattle.std.proofs.Common.{sym, ◌∙◌, ap, slice_get}
use Rattle.std.specs.Option.{option_and_then}
use Rattle.cx_values.specs.Assigned.{is_given}
use Rattle.cx_values.specs.Tables.{given_place}
use Rattle.cx_values.proofs.Firsts.{found_at_place}
use Rattle.cx_values.proofs.tables.AllGiven.find.Goals as goal

pub returns-in-Some : goal.returns-in-Some
returns-in-Some c =
    c.given_at.ensures
    ∙ ap (λ all. slice_get all c.in-Some.place) c.as_slice.ensures
    ∙ ap (λ o. option_and_then (slice_get c.self.inside.list) o)
    (sym c.in-Some.is ∙ c.place.ensures)
    ∙ ap (λ all. option_and_then (slice_get all)
    (given_place c.args.self.now c.args.parameter c.args.element)) c.self.view_is
    ∙ sym (found_at_place (is_given c.args.parameter c.args.element) c.args.self.now)

pub returns-in-None : goal.returns-in-None
returns-in-None c =
    ap (λ o. option_and_then (slice_get c.args.self.now) o) (sym c.in-None.is ∙ c.place.ensures)
    ∙ sym (found_at_place (is_given c.args.parameter c.args.element) c.args.self.now)
