-- the number over the points before and those that were passed
use Rattle.std.proofs.Common.{◌≡◌, ◌+◌, take}
use Rattle.std.specs.List.{fold}
use Rattle.cx_reduce.specs.Partials.{IsBounded, one_more}
use Rattle.cx_reduce.proofs.walk.with_each.Given as goal

abbrev pub invariant-values : goal.invariant-values
invariant-values l =
    (l.so_far ≡ fold (one_more l.kind) l.fn.number (take l.value-index l.row))
    × (l.passed ≡ l.fn.points + l.value-index) × IsBounded l.passed l.so_far
