use Rattle.std.proofs.Common.{◌≡◌}
use Rattle.std.specs.Map.{lookup}
use Rattle.std.specs.Str.{bytes_eq}
use Rattle.cx_bind.proofs.name_places.NamePlaces.search.Given as goal
use Rattle.cx_text.specs.Bytes.{folded}

abbrev pub invariant-names : goal.invariant-names
invariant-names l =
    (goal.iterator-names).can_next l.key-iterator
    × (goal.iterator-names).is_finite l.key-iterator
    × (lookup (λ v. bytes_eq (folded l.name) v.items) l.key-iterator
    ≡ lookup (λ v. bytes_eq (folded l.name) v.items) l.initial.key-iterator)
