use Rattle.std.proofs.Common.{◌∙◌, not, sym, ap}
use Rattle.std.specs.Option.{option_map}
use Rattle.cx_order_entries.specs.Entries.{entry_name}
use Rattle.cx_order_entries.specs.Seen.{seen_entry}
use Rattle.cx_order_entries.proofs.KeyLaws.{no-key}
use Rattle.cx_order_entries.proofs.keys.Keys.insert_entry.Goals as goal

pub returns-in-None-clause-new : goal.returns-in-None-clause-new
returns-in-None-clause-new c =
    ap not
    (sym (no-key (entry_name (seen_entry c.args.entry.now)) _ c.args.self.now
    (sym c.in_ok-place.ensures ∙ ap (option_map (λ bytes. bytes.items)) c.in-None.is)))
