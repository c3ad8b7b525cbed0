use Rattle.std.proofs.Common.{◌≡◌, ◌≤◌, drop}
use Rattle.cx_text.specs.Lexemes.{decimal_from}
use Rattle.cx_text.proofs.lexemes.decimal.Given as goal

abbrev pub invariant-loop-byte : goal.invariant-loop-byte
invariant-loop-byte l = (decimal_from l.value (drop l.byte-index l.digits)
    ≡ decimal_from 0 l.digits) × (l.value ≤ l.high)
