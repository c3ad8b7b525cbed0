use Rattle.cx_bind.proofs.PlaceLaws.{put_named, got_named}
use Rattle.cx_bind.proofs.name_ranges.NameRanges.put.Goals as goal
use Rattle.cx_text.specs.Bytes.{folded}

pub returns-clause-had : goal.returns-clause-had
returns-clause-had c =
    got_named (λ v. v.items) c.in_ok-folded_name.field-0 c.self.inside.ranges.entries
    (folded c.args.name.now)
    c.args.self.now c.in_ok-had.had c.in_ok-folded_name.ensures c.self.view_is
    c.in_ok-had.ensures.old

pub returns-clause-put : goal.returns-clause-put
returns-clause-put c =
    put_named (λ v. v.items)
    c.in_ok-folded_name.field-0 c.args.ranges c.self.inside.ranges.entries
    c.insert.new.self.entries (folded c.args.name.now)
    c.args.self.now c.in_ok-folded_name.ensures c.self.view_is c.in_ok-had.ensures.entries
