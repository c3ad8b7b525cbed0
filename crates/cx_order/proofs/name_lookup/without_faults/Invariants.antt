use Rattle.std.proofs.Common.{◌≡◌, map}
use Rattle.cx_order.specs.Meanings.{meaning_or_none}
use Rattle.cx_order.proofs.name_lookup.without_faults.Given as goal

abbrev pub invariant-meanings : goal.invariant-meanings
invariant-meanings l = l.all.items ≡ map meaning_or_none l.yielded
