use Rattle.cx_values.proofs.TableLaws.{given_more}
use Rattle.cx_values.proofs.tables.AllGiven.with.Goals as goal

pub invariant_of-result : goal.invariant_of-result
invariant_of-result c =
    given_more c.self.inside.list c.push.new.self c.args.one c.len.result
    c.self.inside.places.entries c.note.new.places.entries c.self.invariant c.len.ensures
    c.in_ok-note.ensures c.in_ok-push.ensures.ok
