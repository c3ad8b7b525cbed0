use Rattle.std.proofs.Common.{◌≡◌, ◌+◌, drop}
use Rattle.std.specs.List.{prefix_len}
use Rattle.cx_text.specs.Bytes.{has}
use Rattle.cx_text.proofs.byte.front_len.Given as goal

abbrev pub invariant-loop-index : goal.invariant-loop-index
invariant-loop-index l =
    prefix_len (has l.class) l.bytes ≡ l.index + prefix_len (has l.class) (drop l.index l.bytes)
