use Rattle.std.proofs.Common.{◌≡◌, None, rules}
use Rattle.cx_values.specs.Tables.{element_place}
use Rattle.cx_values.proofs.TableLaws.{notes_new}
use Rattle.cx_values.proofs.tables.note.Goals as goal

pub returns : goal.returns
returns c =
    let none : element_place c.args.places.now.entries c.args.element.0 c.args.element.1 ≡ None =
    search rules in
    notes_new c.args.places.now.entries c.args.element c.args.place c.insert.new.self.entries none
    (λ n k. c.in_ok-insert.ensures.updates.0 (n, k))
