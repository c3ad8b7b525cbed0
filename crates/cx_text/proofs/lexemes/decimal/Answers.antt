use Rattle.std.proofs.Common.{◌≡◌, ℕ, ◌≤◌, ◌<◌, ◌+◌, ◌-◌, ◌*◌, List, [], ◌∷◌, length, get_or, drop, refl, add-one, arith, drop-cons}
use Rattle.cx_text.specs.Lexemes.{decimal_from}
use Rattle.cx_text.proofs.lexemes.decimal.Goals as goal
use Rattle.cx_text.proofs.lexemes.decimal.Goals.{then-digit-high-via-then-digit-high, then-digit-high-via-else-digit-high+then-value-high}

grows : (n : ℕ) (bs : List ℕ) → n ≤ decimal_from n bs
grows n [] = omega arith
grows n (b ∷ bs) = let h = grows (n * 10 + (b - 48)) bs in omega (arith, h)

at : (n : ℕ) (ds : List ℕ) (i : ℕ) → i < length ds
    → decimal_from n (drop i ds) ≡ decimal_from (n * 10 + (get_or ds i 0 - 48)) (drop (i + 1) ds)
at n ds i lt = rw (add-one, drop-cons ds i 0) refl

pub returns-then-digit-high : goal.returns-then-digit-high
returns-then-digit-high c =
    let n = c.loop-byte.value in
    let ds = c.args.digits.now in
    let i = c.loop-byte.byte-index in
    let e = at n ds i c.loop-byte-test.true in
    let h = grows (n * 10 + (get_or ds i 0 - 48)) (drop (i + 1) ds) in
    let same = c.loop-byte.invariant.0 in
    let d = c.from-digit.ensures in
    let k = c.saturating_sub.ensures in
    elim c.then-digit-high.branch [
      | then-digit-high-via-then-digit-high w ↦ let t = w.if-digit-high in
          omega (arith, e, h, same, d, k, t)
      | then-digit-high-via-else-digit-high+then-value-high w
          ↦ let t = w.if-digit-high in let v = w.if-value-high in
          omega (arith, e, h, same, d, k, t, v)
    ]
