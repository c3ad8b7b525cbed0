use Rattle.std.proofs.Common.{◌≡◌, take}
use Rattle.cx_bind.proofs.name_set.folded_name.Given as goal
use Rattle.cx_text.specs.Bytes.{folded}

abbrev pub invariant-name : goal.invariant-name
invariant-name l = l.bytes.items ≡ folded (take l.byte-index l.name)
