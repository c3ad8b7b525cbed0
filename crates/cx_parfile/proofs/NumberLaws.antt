-- The digits of a number that is printed.
use Rattle.std.proofs.Common.{◌≡◌, ◌<◌, ◌+◌, ◌%◌, ◌^◌, ℕ, nat_le, true, false, ◌&&◌, [], ◌∷◌, length, refl, ◌∙◌, arith}
use Rattle.std.specs.List.{list_all}
use Rattle.std.specs.Char.{is_ascii_digit}
use Rattle.std.specs.Fmt.{decimal}
use Rattle.std.proofs.lemmas.Bool.{le-leb, ne_eqb, and_from}
use Rattle.std.proofs.lemmas.Fmt.{decimal_by_steps, decimal_nonempty}
use Rattle.std.proofs.lemmas.List.Folds.{list_all-append}
use Rattle.cx_parfile.specs.Values.{is_empty}

a_digit : (d : ℕ) → d < 10 → is_ascii_digit (48 + d) ≡ true
a_digit d h = and_from (nat_le 48 (48 + d)) (nat_le (48 + d) 57) (le-leb 48 (48 + d) (omega arith))
    (le-leb (48 + d) 57 (omega (arith, h)))

pub decimal_digits : (n : ℕ) → n < 2 ^ 64 → list_all is_ascii_digit (decimal n) ≡ true
decimal_digits n h =
    decimal_by_steps (λ k ds. list_all is_ascii_digit ds ≡ true)
    (λ k s. and_from (is_ascii_digit (48 + k)) true (a_digit k s) refl)
    (λ k ds l e. list_all-append is_ascii_digit ds ((48 + k % 10) ∷ [])
    ∙ and_from (list_all is_ascii_digit ds) (is_ascii_digit (48 + k % 10) && true) e
    (and_from (is_ascii_digit (48 + k % 10)) true (a_digit (k % 10) (omega arith)) refl)) n h

pub decimal_full : (n : ℕ) → n < 2 ^ 64 → is_empty (decimal n) ≡ false
decimal_full n h = let l = decimal_nonempty n h in
    ne_eqb (length (decimal n)) 0 (λ e. absurd (omega (arith, l, e)))
