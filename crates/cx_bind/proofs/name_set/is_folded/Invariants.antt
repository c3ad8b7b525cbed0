use Rattle.std.proofs.Common.{◌≡◌, drop, length}
use Rattle.std.specs.Str.{bytes_eq}
use Rattle.cx_bind.proofs.name_set.is_folded.Given as goal
use Rattle.cx_text.specs.Bytes.{folded}

abbrev pub invariant-name : goal.invariant-name
invariant-name l = (bytes_eq (folded (drop l.place l.name)) (drop l.place l.key)
    ≡ bytes_eq (folded l.name) l.key) × (length l.name ≡ length l.key)
