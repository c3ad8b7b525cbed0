use Rattle.std.proofs.Common.{◌≡◌, drop, map, not}
use Rattle.cx_text.specs.Lexemes.{same_name, among}
use Rattle.cx_bind.specs.BuiltIn.{built_in_thorns}
use Rattle.cx_bind.specs.Selecting.{chosen}
use Rattle.cx_bind.proofs.SelectionLaws.{come}
use Rattle.cx_bind.proofs.selection.chosen.Given as goal
use Rattle.cx_text.specs.Bytes.{folded}

abbrev pub invariant-active : goal.invariant-active
invariant-active l = record {
  come : come same_name (λ name. not (among built_in_thorns name)) l.names
      (drop l.name-index l.active) ≡ chosen l.active;
  there : l.there ≡ map folded l.names;
}
