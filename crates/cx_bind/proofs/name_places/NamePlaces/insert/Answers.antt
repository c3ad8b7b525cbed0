use Rattle.std.proofs.Common.{◌∙◌, ap}
use Rattle.cx_bind.specs.NamePlaces.{place_of}
use Rattle.cx_bind.proofs.PlaceLaws.{put_named, lookup_inserted}
use Rattle.cx_bind.proofs.name_places.NamePlaces.insert.Goals as goal
use Rattle.cx_text.specs.Bytes.{folded}

pub returns-clause-put : goal.returns-clause-put
returns-clause-put c =
    put_named (λ v. v.items)
    c.in_ok-folded_name.field-0 c.args.place c.self.inside.places.entries
    c.insert.new.self.entries (folded c.args.name.now)
    c.args.self.now c.in_ok-folded_name.ensures c.self.view_is c.in_ok-insert.ensures.entries

pub returns-clause-places : goal.returns-clause-places
returns-clause-places c = λ other.
    ap (λ es. place_of es other)
    (put_named (λ v. v.items)
    c.in_ok-folded_name.field-0 c.args.place c.self.inside.places.entries
    c.insert.new.self.entries (folded c.args.name.now)
    c.args.self.now c.in_ok-folded_name.ensures c.self.view_is c.in_ok-insert.ensures.entries)
    ∙ lookup_inserted (folded other) (folded c.args.name.now) c.args.place c.args.self.now
