use Rattle.std.proofs.Common.{◌≡◌, ◌++◌, take}
use Rattle.cx_order_entries.proofs.keys.push_folded.Given as goal
use Rattle.cx_text.specs.Bytes.{folded}

abbrev pub invariant-name : goal.invariant-name
invariant-name l = l.bytes.items ≡ l.fn.bytes.items ++ folded (take l.byte-index l.name)
