-- Numbers in decimal are read again, and can stand in a text.
use Rattle.std.proofs.Common.{◌≡◌, ℕ, Bool, zero, suc, ◌+◌, ◌-◌, ◌*◌, ◌/◌, ◌%◌, ◌^◌, ◌<◌, ◌≤◌, ltb, true, false, List, [], ◌∷◌, ◌++◌, Ok, refl, sym, ap, subst, arith, ◌&&◌}
use Rattle.std.specs.Fmt.{decimal}
use Rattle.std.specs.List.{list_all}
use Rattle.std.proofs.lemmas.Bool.{le-ltb}
use Rattle.std.proofs.lemmas.Fmt.{decimal_by_steps}
use Rattle.cx_text.specs.declared.token.Style.TheVariants.{Ccl}
use Rattle.cx_text.specs.declared.token.Token.{Token}
use Rattle.cx_text.specs.declared.byte.Role.TheVariants as roles
use Rattle.cx_text.specs.declared.byte.Class.TheVariants as classes
use Rattle.cx_text.specs.Bytes.{role_of, has}
use Rattle.cx_text.specs.Grammar.{head, passes}
use Rattle.cx_text.specs.Tokens.{is_line_end}
use Rattle.cx_text.specs.Lexemes.{decimal_from, number_in}
use Rattle.cx_text.specs.Pieces.{Number}
use Rattle.cx_text.specs.Written.{number}
use Rattle.cx_text.proofs.PrintLaws.{Printable}
use Rattle.cx_text.proofs.Printing.{no_skip}

from_append : (bs : List ℕ) (m b : ℕ)
    → decimal_from m (bs ++ b ∷ []) ≡ decimal_from m bs * 10 + (b - 48)
from_append [] m b = refl
from_append (c ∷ bs) m b = from_append bs (m * 10 + (c - 48)) b

one_digit : (n : ℕ) → n < 10 → decimal_from 0 ((48 + n) ∷ []) ≡ n
one_digit n h = omega arith

more_digits : (n : ℕ) (ds : List ℕ) → 10 ≤ n → decimal_from 0 ds ≡ n / 10
    → decimal_from 0 (ds ++ ((48 + n % 10) ∷ [])) ≡ n
more_digits n ds h k =
    let last = from_append ds 0 (48 + n % 10) in
    omega (arith, last, k)

pub decimal_again : (n : ℕ) → n < 2 ^ 64 → decimal_from 0 (decimal n) ≡ n
decimal_again n small = decimal_by_steps (λ m ds. decimal_from 0 ds ≡ m)
    one_digit more_digits n small

-- a number between its bounds is read again
pub number_again : (low high n : ℕ) (rest : List Token) → low ≤ n → n ≤ high → n < 2 ^ 64
    → passes is_line_end (head rest) ≡ false
    → (number_in low high).reads (number (decimal n) ∷ rest) ≡ Ok (n, rest)
number_again low high n rest l h b e =
    let value = decimal_again n b in
    let above : ltb n low ≡ false = le-ltb _ _ l in
    let below : ltb high n ≡ false = le-ltb _ _ h in
    rw (value, above, below, no_skip rest e) refl

-- ---- its digits

digit_role : (k : ℕ) → k < 10 → (fresh : Bool) → role_of Ccl fresh (48 + k) ≡ roles.Number
digit_role zero h f = refl
digit_role (suc zero) h f = refl
digit_role (suc (suc zero)) h f = refl
digit_role (suc (suc (suc zero))) h f = refl
digit_role (suc (suc (suc (suc zero)))) h f = refl
digit_role (suc (suc (suc (suc (suc zero))))) h f = refl
digit_role (suc (suc (suc (suc (suc (suc zero)))))) h f = refl
digit_role (suc (suc (suc (suc (suc (suc (suc zero))))))) h f = refl
digit_role (suc (suc (suc (suc (suc (suc (suc (suc zero)))))))) h f = refl
digit_role (suc (suc (suc (suc (suc (suc (suc (suc (suc zero))))))))) h f = refl
digit_role (suc (suc (suc (suc (suc (suc (suc (suc (suc (suc k)))))))))) h f =
    absurd (omega (arith, h))

digit_has : (k : ℕ) → k < 10 → has classes.Digit (48 + k) ≡ true
digit_has zero h = refl
digit_has (suc zero) h = refl
digit_has (suc (suc zero)) h = refl
digit_has (suc (suc (suc zero))) h = refl
digit_has (suc (suc (suc (suc zero)))) h = refl
digit_has (suc (suc (suc (suc (suc zero))))) h = refl
digit_has (suc (suc (suc (suc (suc (suc zero)))))) h = refl
digit_has (suc (suc (suc (suc (suc (suc (suc zero))))))) h = refl
digit_has (suc (suc (suc (suc (suc (suc (suc (suc zero)))))))) h = refl
digit_has (suc (suc (suc (suc (suc (suc (suc (suc (suc zero))))))))) h = refl
digit_has (suc (suc (suc (suc (suc (suc (suc (suc (suc (suc k)))))))))) h =
    absurd (omega (arith, h))

record Digits (ds : List ℕ) : Type 0 where
  first : ℕ
  rest : List ℕ
  small : first < 10
  is : ds ≡ (48 + first) ∷ rest
  all : list_all (has classes.Digit) rest ≡ true

both : (b c d : Bool) → b && c ≡ true → (c ≡ true → d ≡ true) → b && d ≡ true
both true c d h k = k h
both false c d h k = absurd cc

all_append : (bs : List ℕ) (b : ℕ) → list_all (has classes.Digit) bs ≡ true
    → has classes.Digit b ≡ true → list_all (has classes.Digit) (bs ++ b ∷ []) ≡ true
all_append [] b h k = rw k refl
all_append (c ∷ bs) b h k =
    both (has classes.Digit c) (list_all (has classes.Digit) bs)
    (list_all (has classes.Digit) (bs ++ b ∷ [])) h (λ g. all_append bs b g k)

one_of : (n : ℕ) → n < 10 → Digits ((48 + n) ∷ [])
one_of n h = record { first = n; rest = []; small = h; is = refl; all = refl }

more_of : (n : ℕ) (ds : List ℕ) → 10 ≤ n → Digits ds → Digits (ds ++ ((48 + n % 10) ∷ []))
more_of n ds h d = record {
  first = d.first;
  rest = d.rest ++ ((48 + n % 10) ∷ []);
  small = d.small;
  is = ap (λ (bs : List ℕ). bs ++ ((48 + n % 10) ∷ [])) d.is;
  all = all_append d.rest (48 + n % 10) d.all (digit_has (n % 10) (omega arith));
}

pub decimal_printable : (n : ℕ) → n < 2 ^ 64 → Printable Ccl (number (decimal n))
decimal_printable n small =
    let d = decimal_by_steps (λ m ds. Digits ds) one_of more_of n small in
    subst (λ (ds : List ℕ). Printable Ccl (number ds)) (sym d.is)
    (record {
      piece = Number (48 + d.first) d.rest;
      bytes = refl;
      token = λ l. refl;
      stands = λ f more apart. (digit_role d.first d.small f, (d.all, (apart refl).number));
    })
