use Rattle.std.proofs.Common.{◌∙◌, not, Some, sym, ap}
use Rattle.std.specs.List.{list_any}
use Rattle.cx_order_entries.specs.Keys.{is_key}
use Rattle.cx_order_entries.proofs.KeyLaws.{any_mapped}
use Rattle.cx_order_entries.proofs.keys.Keys.insert.Goals as goal

pub returns-clause-new : goal.returns-clause-new
returns-clause-new c =
    let test = is_key (Some (c.args.place.items, c.args.name.items)) in
    c.in_ok-new.ensures.added
    ∙ ap not (sym (any_mapped test (λ key. (key.0.items, key.1.items)) c.self.inside.keys.keys)
    ∙ ap (list_any test) c.self.view_is)
