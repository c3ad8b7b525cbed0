use Rattle.std.proofs.Common.{◌≡◌, ◌-◌, ◌∷◌, Some, true, get_or, arith, rules, sym, ap, ◌∙◌}
use Rattle.std.specs.Char.{is_ascii_digit}
use Rattle.cx_ascii_read.proofs.ShortLaws.{digit_field, behind_first}
use Rattle.cx_ascii_read.proofs.words.digit_at.Goals as goal

pub returns-in_ok-rest-in-len1-up-clause-number : goal.returns-in_ok-rest-in-len1-up-clause-number
returns-in_ok-rest-in-len1-up-clause-number c = λ high most.
    let bytes = c.args.bytes.now in
    let digit : is_ascii_digit (get_or bytes 0 0) ≡ true = search rules in
    let end = c.in_ok-rest-in-len1-up.ensures in
    rw c.from.ensures (digit_field bytes c.in_ok-rest-in-len1-up.rest.now c.args.byte high
    c.in-len1-up.len_at_least digit (omega (arith, most)) end.0 (behind_first bytes
    (c.args.byte ∷ c.in_ok-rest-in-len1-up.rest.now) end.1))
