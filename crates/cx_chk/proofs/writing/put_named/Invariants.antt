use Rattle.std.proofs.Common.{◌≡◌, ◌++◌, length, take}
use Rattle.std.specs.Int.{w32, to_be_bytes}
use Rattle.std.specs.List.{zip, flat_map}
use Rattle.cx_chk.specs.Encoding.{named_length}
use Rattle.cx_chk.proofs.writing.put_named.Given as goal

abbrev pub invariant-each : goal.invariant-each
invariant-each l = l.out.items
    ≡ l.fn.out.items ++ (to_be_bytes w32 (length l.names)
    ++ flat_map named_length (take l.k (zip l.names l.lengths)))
