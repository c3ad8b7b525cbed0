-- Where no name is at fault, each meaning is what the names stand for.
use Rattle.std.proofs.Common.{◌∙◌, map, ap}
use Rattle.std.proofs.lemmas.Simd.{map-map}
use Rattle.cx_order.specs.Meanings.{meaning, meaning_or_none}
use Rattle.cx_order_entries.specs.Seen.{seen_entry}
use Rattle.cx_order.specs.Worlds.{world_of}
use Rattle.cx_order.proofs.order_files.checked_meanings.Goals as goal

pub returns-clause-meanings : goal.returns-clause-meanings
returns-clause-meanings c =
    c.in_ok-without_faults.ensures ∙ ap (map meaning_or_none) c.in_ok-meanings.ensures
    ∙ map-map meaning_or_none (meaning (world_of c.args.context.now))
    (map seen_entry c.args.entries.now)
