use Rattle.std.proofs.Common.{◌≡◌, ◌++◌, take}
use Rattle.cx_chunks.specs.Pieces.{numbers_text}
use Rattle.cx_chunks.proofs.section.push_numbers.Given as goal

abbrev pub invariant-numbers : goal.invariant-numbers
invariant-numbers l = l.text ≡ l.initial.text ++ numbers_text (take l.number-index l.numbers)
