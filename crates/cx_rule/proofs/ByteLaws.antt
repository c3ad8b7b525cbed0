-- Bytes, told by the bits of many numbers.
use Rattle.std.proofs.Common.{◌≡◌, ◌∙◌, ℕ, suc, ◌+◌, ◌-◌, ◌<◌, ◌≤◌, ◌^◌, ◌⊎◌, inl, inr, ◌&&◌, arith, sym, ap, ℤ, pos, negsuc, List, length, take, get_or, ltb, w64, of_z, SFits, bit_or}
use Rattle.std.proofs.lemmas.Int.{ints}
use Rattle.std.proofs.lemmas.Nat.{or_lt, le_or_l, le_or_r}
use Rattle.std.proofs.lemmas.Bool.{lt-ltb, le-ltb, cases_lt}
use Rattle.std.proofs.lemmas.List.Folds.{list_all_more}
use Rattle.cx_rule.specs.Runs.{is_within, are_within}

-- numbers that together have the lowest eight bits alone
or_byte : (a b : ℕ) → ltb (bit_or a b) 256 ≡ (ltb a 256 && ltb b 256)
or_byte a b = by (cases_lt a 256) (cases_lt b 256)
  where
    by : (a < 256) ⊎ (256 ≤ a) → (b < 256) ⊎ (256 ≤ b)
        → ltb (bit_or a b) 256 ≡ (ltb a 256 && ltb b 256)
    by (inl l) (inl m) = rw (lt-ltb a 256 l, lt-ltb b 256 m)
        (lt-ltb (bit_or a b) 256 (or_lt 8 a b l m))
    by (inl l) (inr m) = rw (lt-ltb a 256 l, le-ltb b 256 m)
        (le-ltb (bit_or a b) 256 (let o = le_or_r a b in omega (arith, o, m)))
    by (inr l) m = rw (le-ltb a 256 l)
        (le-ltb (bit_or a b) 256 (let o = le_or_l a b in omega (arith, o, l)))

-- a number's bits are those of a byte where it is one
pub is_byte : (n : ℤ) → SFits w64 n → ltb (of_z w64 n) 256 ≡ is_within (pos 0) (pos 255) n
is_byte (pos n) fits = grind (arith, ints)
is_byte (negsuc n) fits = le-ltb (2 ^ 64 - suc n) 256 (let f = fits.sfits in omega (arith, f))

-- a number more
pub bytes_more : (bits : ℕ) (values : List ℤ) (k : ℕ) (n d : ℤ) → k < length values
    → n ≡ get_or values k d → SFits w64 n
    → ltb bits 256 ≡ are_within (pos 0) (pos 255) (take k values)
    → ltb (bit_or bits (of_z w64 n)) 256 ≡ are_within (pos 0) (pos 255) (take (k + 1) values)
bytes_more bits values k n d below is fits before =
    or_byte bits (of_z w64 n)
    ∙ ap (λ t. t && ltb (of_z w64 n) 256) before
    ∙ ap (λ t. are_within (pos 0) (pos 255) (take k values) && t)
    (is_byte n fits ∙ ap (is_within (pos 0) (pos 255)) is)
    ∙ sym (list_all_more (is_within (pos 0) (pos 255)) values k d below)
