-- the ways before this number have the letter
use Rattle.std.proofs.Common.{◌≡◌, ◌++◌, map, take, drop}
use Rattle.cx_region.specs.Witnesses.{with_letter}
use Rattle.cx_region.proofs.witnesses.with_letter.Given as goal

abbrev pub invariant-loop-number : goal.invariant-loop-number
invariant-loop-number l =
    l.ways.items ≡ map (with_letter l.letter) (take l.number l.fn.ways.items)
    ++ drop l.number l.fn.ways.items
