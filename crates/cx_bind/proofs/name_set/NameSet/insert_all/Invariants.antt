use Rattle.std.proofs.Common.{◌≡◌, ℕ, List, ◌||◌, drop}
use Rattle.cx_text.specs.Lexemes.{among}
use Rattle.cx_bind.specs.NameSets.{has}
use Rattle.cx_bind.proofs.name_set.NameSet.insert_all.Given as goal

abbrev pub invariant-names : goal.invariant-names
invariant-names l = (o : List ℕ)
    → (has l.self o || among (drop l.name-index l.names) o) ≡ (has l.fn.self o || among l.names o)
