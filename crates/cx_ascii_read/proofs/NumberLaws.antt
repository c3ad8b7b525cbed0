-- Numbers in their shortest spelling.
use Rattle.std.proofs.Common.{◌≡◌, ℕ, ℤ, pos, negsuc, zero, suc, ◌-◌, ◌^◌, ◌≤◌, ◌<◌, Bool, true, false, not, cond, eqb, leb, ◌&&◌, IsTrue, List, [], ◌∷◌, length, get_or, Some, refl, sym, ap, subst, ◌∙◌, arith, inl, inr}
use Rattle.std.specs.Fmt.{decimal, signed_decimal}
use Rattle.std.specs.List.{list_all}
use Rattle.std.specs.Char.{is_ascii_digit}
use Rattle.std.specs.Int.{w64}
use Rattle.std.specs.Int.RustNames.{FitsSigned}
use Rattle.std.proofs.lemmas.Bool.{and_parts, and_from, leb-true, le-leb, eqb-true, eqb-false, ne_eqb, or_from, not_from_false, cases_lt}
use Rattle.std.proofs.lemmas.Str.Parse.{IsDigitsTest, FoldsDigits, IsNumeralModel, numerals_by_fold}
use Rattle.std.proofs.lemmas.Fmt.{decimal_digit, first_decimal, decimal_is_IsNumeral, decimal-digits_value}
use Rattle.cx_text.specs.Bytes.{is_printable}
use Rattle.cx_text.specs.Digits.{is_digits, natural_in}
use Rattle.cx_text.specs.Lexemes.{decimal_from}
use Rattle.cx_text.proofs.DecimalLaws.{decimal_again}
use Rattle.cx_ascii_read.specs.Records.{is_name, IsSize}
use Rattle.cx_ascii_read.specs.Reading.{◌>>=◌, is_end, has_leading_zero, number_of, above_zero, below_zero, size_of, negative_of, value_of, name_of}
use Rattle.cx_ascii_read.proofs.WordLaws.{bind_some, goes_where, goes_unless, some_is, IsPlain, all_since, IsWord}

-- ---- digits

abbrev AreDigits : List ℕ → Type 0
AreDigits ds = list_all is_ascii_digit ds ≡ true

tells : IsDigitsTest AreDigits
tells = record {
  empty = refl;
  parts = λ c cs e. let k = and_parts (is_ascii_digit c) (list_all is_ascii_digit cs) e in
      let m = and_parts (leb 48 c) (leb c 57) k.0 in ((leb-true 48 c m.0, leb-true c 57 m.1), k.1);
  more = λ c cs k e. and_from (is_ascii_digit c) (list_all is_ascii_digit cs)
      (and_from (leb 48 c) (leb c 57) (le-leb 48 c k.0) (le-leb c 57 k.1)) e;
}

folds : FoldsDigits decimal_from
folds = record { empty = λ n. refl; more = λ n c cs k. refl }

model : IsNumeralModel AreDigits (decimal_from 0)
model = numerals_by_fold AreDigits tells decimal_from folds

pub decimal_digits : (n : ℕ) → n < 2 ^ 64 → (0 < length (decimal n)) × AreDigits (decimal n)
decimal_digits n small = let d = (decimal_is_IsNumeral n small).0 in
    (d.0, model.from (decimal n) d.1)

pub digits_are : (ds : List ℕ) → 0 < length ds → AreDigits ds → is_digits ds ≡ true
digits_are [] some all = absurd (omega arith)
digits_are (d ∷ ds) some all = all

pub are_digits : (ds : List ℕ) → is_digits ds ≡ true → (0 < length ds) × AreDigits ds
are_digits [] e = absurd cc
are_digits (d ∷ ds) e = (omega arith, e)

lead : (ds : List ℕ) → has_leading_zero ds ≡ false → get_or ds 0 0 ≡ 48 → length ds ≡ 1
lead [] e z = absurd (omega arith)
lead (d ∷ []) e z = refl
lead (d ∷ c ∷ ds) e z = absurd (eqb-false d 48 e z)

no_lead : (ds : List ℕ) → 48 < get_or ds 0 0 → has_leading_zero ds ≡ false
no_lead [] some = refl
no_lead (d ∷ []) some = refl
no_lead (d ∷ c ∷ ds) some = ne_eqb d 48 (λ e. absurd (omega (arith, some, e)))

decimal_lead : (n : ℕ) → n < 2 ^ 64 → has_leading_zero (decimal n) ≡ false
decimal_lead n small = elim (cases_lt n 10) as (λ _. has_leading_zero (decimal n) ≡ false) [
  | inl one ↦ ap has_leading_zero (decimal_digit n one)
  | inr more ↦ no_lead (decimal n) (first_decimal n (omega arith) small)
]

pub plain_digit : (c : ℕ) → is_ascii_digit c ≡ true → not (is_end c) ≡ true
plain_digit c e =
    let m = and_parts (leb 48 c) (leb c 57) e in
    let low = leb-true 48 c m.0 in
    not_from_false (is_end c)
    (or_from (eqb c 32) (eqb c 10) (ne_eqb c 32 (λ e. absurd (omega (arith, low, e))))
    (ne_eqb c 10 (λ e. absurd (omega (arith, low, e)))))

decimal_plain : (n : ℕ) → n < 2 ^ 64 → IsPlain (decimal n)
decimal_plain n small = all_since is_ascii_digit (λ b. not (is_end b)) (decimal n) plain_digit
    (decimal_digits n small).1

-- ---- numbers

module _ (high : ℕ) (small : high < 2 ^ 64) where
  number_takes : (text : List ℕ) (n : ℕ) → number_of high text ≡ Some n
      → (text ≡ decimal n) × (n ≤ high)
  number_takes text n h =
      let a = goes_unless (has_leading_zero text) (natural_in high text) n h in
      let b = goes_where (is_digits text && leb (decimal_from 0 text) high) (decimal_from 0 text)
      n a.1 in
      let p = and_parts (is_digits text) (leb (decimal_from 0 text) high) b.0 in
      let d = are_digits text p.0 in
      let most : decimal_from 0 text ≤ high = leb-true _ _ p.1 in (
        sym (decimal-digits_value model text d.1 d.0 (lead text a.0) (omega (arith, most, small)))
            ∙ ap decimal b.1,
        omega (arith, most, b.1),
      )

  number_again : (n : ℕ) → n ≤ high → number_of high (decimal n) ≡ Some n
  number_again n most =
      let few : n < 2 ^ 64 = omega (arith, most, small) in
      let d = decimal_digits n few in
      rw (
        decimal_lead n few,
        digits_are (decimal n) d.0 d.1,
        decimal_again n few,
        le-leb n high most,
      ) refl

  pub number_word : IsWord decimal (number_of high) (λ n. n ≤ high)
  number_word = record {
    takes = number_takes;
    again = number_again;
    plain = λ n most. decimal_plain n (omega (arith, most, small));
  }

above : (n m : ℕ) → above_zero n ≡ Some m → (n ≡ m) × (1 ≤ m)
above zero m e = absurd cc
above (suc n) m e = let same : suc n ≡ m = some_is (suc n) m e in (same, omega (arith, same))

above_again : (n : ℕ) → 1 ≤ n → above_zero n ≡ Some n
above_again zero some = absurd (omega arith)
above_again (suc n) some = refl

pub size_word : IsWord decimal size_of IsSize
size_word = record {
  takes = λ text n h.
      let a = bind_some (number_of 16777216 text) above_zero n h in
      let t = number_takes 16777216 (omega arith) text a.0 a.1 in
      let p = above a.0 n a.2 in
      (t.0 ∙ ap decimal p.0, (p.1, omega (arith, t.1, p.0)));
  again = λ n fits. rw (number_again 16777216 (omega arith) n fits.1) (above_again n fits.0);
  plain = λ n fits. decimal_plain n (omega (arith, fits.1));
}

-- ---- values

below : (n : ℕ) (v : ℤ) → below_zero n ≡ Some v → n ≤ 2 ^ 63
    → (45 ∷ decimal n ≡ signed_decimal v) × FitsSigned w64 v
below zero v e most = absurd cc
below (suc n) v e most =
    subst (λ (z : ℤ). (45 ∷ decimal (suc n) ≡ signed_decimal z) × FitsSigned w64 z)
    (some_is (negsuc n) v e) (refl, record { sfits = omega (arith, most) })

value_takes_by : (b : ℕ) (bs : List ℕ) (v : ℤ) (minus : Bool) → eqb b 45 ≡ minus
    → cond minus (negative_of bs) (number_of (2 ^ 63 - 1) (b ∷ bs) >>= λ n. Some (pos n)) ≡ Some v
    → (b ∷ bs ≡ signed_decimal v) × FitsSigned w64 v
value_takes_by b bs v true is h =
    let a = bind_some (number_of (2 ^ 63) bs) below_zero v h in
    let t = number_takes (2 ^ 63) (omega arith) bs a.0 a.1 in
    let p = below a.0 v a.2 t.1 in
    (ap (λ (c : ℕ). c ∷ bs) (eqb-true b 45 is) ∙ ap (λ (ds : List ℕ). 45 ∷ ds) t.0 ∙ p.0, p.1)
value_takes_by b bs v false is h =
    let a = bind_some (number_of (2 ^ 63 - 1) (b ∷ bs)) (λ n. Some (pos n)) v h in
    let t = number_takes (2 ^ 63 - 1) (omega arith) (b ∷ bs) a.0 a.1 in
    subst (λ (z : ℤ). (b ∷ bs ≡ signed_decimal z) × FitsSigned w64 z) (some_is (pos a.0) v a.2)
    (t.0, record { sfits = omega (arith, t.1) })

value_takes : (text : List ℕ) (v : ℤ) → value_of text ≡ Some v
    → (text ≡ signed_decimal v) × FitsSigned w64 v
value_takes [] v h = absurd cc
value_takes (b ∷ bs) v h = value_takes_by b bs v (eqb b 45) refl h

pub value_of_digits : (ds : List ℕ) → 0 < length ds → AreDigits ds
    → value_of ds ≡ (number_of (2 ^ 63 - 1) ds >>= λ n. Some (pos n))
value_of_digits [] some all = absurd (omega arith)
value_of_digits (d ∷ ds) some all =
    let k = (tells.parts d ds all).0 in
    rw (ne_eqb d 45 (λ e. absurd (omega (arith, k.0, e)))) refl

value_again : (v : ℤ) → FitsSigned w64 v → value_of (signed_decimal v) ≡ Some v
value_again (pos n) fits =
    let few : n ≤ 2 ^ 63 - 1 = omega (arith, fits.sfits) in
    let d = decimal_digits n (omega (arith, few)) in
    value_of_digits (decimal n) d.0 d.1 ∙ rw (number_again (2 ^ 63 - 1) (omega arith) n few) refl
value_again (negsuc n) fits =
    rw (number_again (2 ^ 63) (omega arith) (suc n) (omega (arith, fits.sfits))) refl

value_plain : (v : ℤ) → FitsSigned w64 v → IsPlain (signed_decimal v)
value_plain (pos n) fits = decimal_plain n (omega (arith, fits.sfits))
value_plain (negsuc n) fits = decimal_plain (suc n) (omega (arith, fits.sfits))

pub value_word : IsWord signed_decimal value_of (FitsSigned w64)
value_word = record { takes = value_takes; again = value_again; plain = value_plain }

-- ---- names

plain_printable : (c : ℕ) → is_printable c ≡ true → not (is_end c) ≡ true
plain_printable c e =
    let m = and_parts (leb 33 c) (leb c 126) e in
    let low = leb-true 33 c m.0 in
    not_from_false (is_end c)
    (or_from (eqb c 32) (eqb c 10) (ne_eqb c 32 (λ e. absurd (omega (arith, low, e))))
    (ne_eqb c 10 (λ e. absurd (omega (arith, low, e)))))

name_plain : (text : List ℕ) → is_name text ≡ true → IsPlain text
name_plain [] e = absurd cc
name_plain (b ∷ bs) e = all_since is_printable (λ b. not (is_end b)) (b ∷ bs) plain_printable e

pub name_word : IsWord (λ t. t) name_of (λ t. IsTrue (is_name t))
name_word = record {
  takes = λ text x h. let g = goes_where (is_name text) text x h in
      (g.1, subst (λ (t : List ℕ). is_name t ≡ true) g.1 g.0);
  again = λ x fits. rw fits refl;
  plain = λ x fits. name_plain x fits;
}
