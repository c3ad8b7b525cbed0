use Rattle.std.proofs.Common.{rules, ◌≡◌, ◌∙◌, ap, refl, pos, get_or, SFits, w64, of_z, ltb, bit_or}
use Rattle.std.proofs.lemmas.Int.{to_z-of_z}
use Rattle.cx_rule.proofs.ByteLaws.{bytes_more}
use Rattle.cx_rule.proofs.commit.are_bytes.Goals as goal

pub values-preserved : goal.values-preserved
values-preserved c =
    let values = c.args.values.now in
    let k = c.values.value-index in
    let n = get_or values k (pos 0) in
    let fits : SFits w64 n = search rules in
    let same : c.cast_unsigned-bits.result ≡ of_z w64 n =
    c.cast_unsigned-bits.ensures ∙ ap (of_z w64) (to_z-of_z w64 n fits) in
    ap (λ m. ltb (bit_or c.values.bits m) 256) same
    ∙ bytes_more c.values.bits values k n (pos 0)
    c.values-test.true refl fits c.values.invariant
