use Rattle.std.proofs.Common.{◌∙◌, sym, ap}
use Rattle.std.specs.List.{position}
use Rattle.std.specs.Str.{bytes_eq}
use Rattle.cx_order_entries.proofs.OnceLaws.{position-map}
use Rattle.cx_order_entries.proofs.name_numbers.Numbered.number.Goals as goal

pub returns-clause-number : goal.returns-clause-number
returns-clause-number c =
    let key = c.in_ok-key.key in
    c.get_index_of.ensures.index
    ∙ sym (position-map (bytes_eq key.items) (λ name. name.items) c.self.inside.names.keys)
    ∙ ap (position (bytes_eq key.items)) c.self.view_is
    ∙ ap (λ n. position (bytes_eq n) c.args.self.now) c.in_ok-key.ensures
