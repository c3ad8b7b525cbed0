use Rattle.std.proofs.Common.{◌∙◌, not, sym, ap}
use Rattle.std.specs.List.{list_any}
use Rattle.std.specs.Str.{bytes_eq}
use Rattle.cx_order_entries.proofs.KeyLaws.{any_mapped}
use Rattle.cx_order_entries.proofs.OnceLaws.{put-one}
use Rattle.cx_order_entries.proofs.name_numbers.Numbered.insert.Goals as goal
use Rattle.cx_text.specs.Bytes.{folded}

pub returns-clause-new : goal.returns-clause-new
returns-clause-new c =
    let key = c.in_ok-folded_name.field-0 in
    c.in_ok-new.ensures.added
    ∙ ap not (sym (any_mapped (bytes_eq key.items) (λ name. name.items) c.self.inside.names.keys)
    ∙ ap (list_any (bytes_eq key.items)) c.self.view_is
    ∙ ap (λ n. list_any (bytes_eq n) c.args.self.now) c.in_ok-folded_name.ensures)

pub returns-clause-added : goal.returns-clause-added
returns-clause-added c =
    put-one (λ name. name.items)
    c.in_ok-folded_name.field-0 c.self.inside.names.keys c.insert.new.self.keys
    (folded c.args.name.now)
    c.args.self.now c.in_ok-folded_name.ensures c.self.view_is c.in_ok-new.ensures.keys
