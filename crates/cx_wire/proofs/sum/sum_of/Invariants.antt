use Rattle.std.proofs.Common.{◌≡◌, ◌%◌, ◌^◌, ◌+◌, drop}
use Rattle.cx_wire.proofs.sum.sum_of.Given as goal
use Rattle.cx_text.specs.Numbers.{word_sum}

abbrev pub invariant-values : goal.invariant-values
invariant-values l = (l.sum + word_sum (drop l.value-index l.values)) % 2 ^ 64
    ≡ word_sum l.values % 2 ^ 64
