use Rattle.std.proofs.Common.{◌≡◌, ◌<◌, ◌^◌, true, take}
use Rattle.std.specs.List.{list_all}
use Rattle.std.specs.Char.{is_ascii_digit}
use Rattle.cx_text.specs.Lexemes.{decimal_from}
use Rattle.cx_ascii_read.proofs.words.digits_at.Given as goal

abbrev pub invariant-digits : goal.invariant-digits
invariant-digits l = (list_all is_ascii_digit (take l.index l.bytes) ≡ true)
    × (decimal_from 0 (take l.index l.bytes) ≡ l.number) × (l.number < 10 ^ 18)
