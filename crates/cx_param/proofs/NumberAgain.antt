-- Numbers that are printed are read again.
use Rattle.std.proofs.Common.{◌≡◌, ◌<◌, ◌≤◌, ◌-◌, ◌^◌, ℕ, zero, suc, ltb, true, false, List, [], ◌∷◌, ◌++◌, ℤ, pos, negsuc, neg_ℤ, Option, is_some, Ok, refl, ap, ◌∙◌, arith}
use Rattle.std.proofs.lemmas.Bool.{le-ltb}
use Rattle.cx_text.specs.declared.token.Token.{Token}
use Rattle.cx_text.specs.Tokens.{is_line_end}
use Rattle.cx_text.specs.Grammar.{head, passes}
use Rattle.cx_text.specs.Reading.{read_many}
use Rattle.cx_text.specs.Rules.{one_line_end}
use Rattle.cx_text.specs.Lexemes.{number_in}
use Rattle.cx_text.specs.Written.{line_end}
use Rattle.cx_text.proofs.Printing.{no_skip, one_skip}
use Rattle.cx_text.proofs.DecimalLaws.{decimal_again}
use Rattle.cx_param.specs.Numbers as read
use Rattle.cx_param.specs.Printed.{number, signed}

-- ---- LineEnds behind a token

-- LineEnds are skipped from here up to there
pub record Skips (more rest : List Token) : Type 0 where
  pub us : List (Unit {0})
  pub reads : read_many is_line_end (λ u. (one_line_end u).reads) (λ d x. x) tt more ≡ Ok (us, rest)

pub none_skipped : (ts : List Token) → passes is_line_end (head ts) ≡ false → Skips ts ts
none_skipped ts h = record { us = []; reads = no_skip ts h }

pub one_skipped : (ts : List Token) → passes is_line_end (head ts) ≡ false
    → Skips (line_end ∷ ts) ts
one_skipped ts h = record { us = tt ∷ []; reads = one_skip ts h }

-- ---- numbers

pub number_again : (low high n : ℕ) (more rest : List Token) → low ≤ n → n ≤ high → n < 2 ^ 64
    → Skips more rest → (number_in low high).reads (number n ∷ more) ≡ Ok (n, rest)
number_again low high n more rest l h b s =
    let value = decimal_again n b in
    let above : ltb n low ≡ false = le-ltb _ _ l in
    let below : ltb high n ≡ false = le-ltb _ _ h in
    let skip = s.reads in
    rw (value, above, below, skip) refl

-- a number of 64 signed bits
abbrev pub IntFits : ℤ → Type 0
IntFits (pos k) = k ≤ 2 ^ 63 - 1
IntFits (negsuc k) = suc k ≤ 2 ^ 63

pub negative_fits : (k : ℕ) → k ≤ 2 ^ 63 → IntFits (neg_ℤ (pos k))
negative_fits zero h = omega arith
negative_fits (suc k) h = h

-- a number without a sign
pub signed_plain : (k : ℕ) → signed (pos k) ≡ number k ∷ []
signed_plain k = let never : ltb k 0 ≡ false = le-ltb _ _ (omega arith) in rw never refl

pub signed_again : (z : ℤ) (more rest : List Token) → IntFits z → Skips more rest
    → read.number.reads (signed z ++ more) ≡ Ok (z, rest)
signed_again (pos k) more rest f s =
    let value = decimal_again k (omega (arith, f)) in
    let below : ltb (2 ^ 63 - 1) k ≡ false = le-ltb _ _ f in
    let skip = s.reads in
    ap (λ (ts : List Token). read.number.reads (ts ++ more)) (signed_plain k)
    ∙ rw (value, below, skip) refl
signed_again (negsuc k) more rest f s =
    let value = decimal_again (suc k) (omega (arith, f)) in
    let below : ltb (2 ^ 63) (suc k) ≡ false = le-ltb _ _ f in
    let skip = s.reads in
    rw (no_skip (number (suc k) ∷ more) refl, value, below, skip) refl

-- a step of 64 bits, which counts from a low end
pub step_again : (low : Option ℤ) (n : ℕ) (more rest : List Token) → is_some low ≡ true → 1 ≤ n
    → n ≤ 2 ^ 64 - 1 → Skips more rest → (read.step low).reads (number n ∷ more) ≡ Ok (n, rest)
step_again low n more rest o l h s =
    let value = decimal_again n (omega (arith, h)) in
    let above : ltb n 1 ≡ false = le-ltb _ _ l in
    let below : ltb (2 ^ 64 - 1) n ≡ false = le-ltb _ _ h in
    let skip = s.reads in
    rw (o, value, above, below, skip) refl
