-- Numbers of few digits, read digit by digit.
use Rattle.std.proofs.Common.{◌≡◌, ℕ, ℤ, pos, negsuc, zero, suc, ◌+◌, ◌-◌, ◌*◌, ◌^◌, ◌≤◌, ◌<◌, true, false, not, leb, ◌&&◌, List, [], ◌∷◌, ◌++◌, length, take, drop, get_or, Option, Some, neg_ℤ, refl, sym, ap, ◌∙◌, arith, add-one}
use Rattle.std.specs.List.{list_all}
use Rattle.std.specs.Char.{is_ascii_digit}
use Rattle.std.proofs.Math.Seq.{take-suc}
use Rattle.std.proofs.lemmas.Bool.{and_parts, and_from, leb-true, le-leb}
use Rattle.std.proofs.lemmas.List.{take-append-drop, take_all, length-drop}
use Rattle.std.proofs.lemmas.List.Folds.{list_all_more}
use Rattle.cx_text.specs.Digits.{is_digits, natural_in}
use Rattle.cx_text.specs.Lexemes.{decimal_from}
use Rattle.cx_ascii_read.specs.Reading.{◌>>=◌, is_end, word_len, word, behind, skip, has_leading_zero, number_of, value_of, field_at, value_at}
use Rattle.cx_ascii_read.proofs.WordLaws.{bind_some, goes_where, goes_unless, some_is, all_since, word_again, behind_again, skip_again}
use Rattle.cx_ascii_read.proofs.NumberLaws.{digits_are, are_digits, plain_digit, value_of_digits}

-- ---- digits in front

pub digit_range : (b : ℕ) → is_ascii_digit b ≡ true → (48 ≤ b) × (b ≤ 57)
digit_range b e =
    let m = and_parts (leb 48 b) (leb b 57) e in (leb-true 48 b m.0, leb-true b 57 m.1)

pub more_digits : (bytes : List ℕ) (i : ℕ) → i < length bytes
    → list_all is_ascii_digit (take i bytes) ≡ true → is_ascii_digit (get_or bytes i 0) ≡ true
    → list_all is_ascii_digit (take (i + 1) bytes) ≡ true
more_digits bytes i lt all digit =
    list_all_more is_ascii_digit bytes i 0 lt
    ∙ and_from (list_all is_ascii_digit (take i bytes)) (is_ascii_digit (get_or bytes i 0)) all digit

from_append : (bs : List ℕ) (m b : ℕ)
    → decimal_from m (bs ++ b ∷ []) ≡ decimal_from m bs * 10 + (b - 48)
from_append [] m b = refl
from_append (c ∷ bs) m b = from_append bs (m * 10 + (c - 48)) b

pub more_is : (bytes : List ℕ) (i : ℕ) → i < length bytes
    → decimal_from 0 (take (i + 1) bytes)
    ≡ decimal_from 0 (take i bytes) * 10 + (get_or bytes i 0 - 48)
more_is bytes i lt =
    let next : take (i + 1) bytes ≡ take i bytes ++ get_or bytes i 0 ∷ [] =
    rw add-one (take-suc bytes i 0 lt) in
    ap (decimal_from 0) next ∙ from_append (take i bytes) 0 (get_or bytes i 0)

-- what stands behind a first byte
pub behind_first : (bytes rest : List ℕ) → take (length bytes - 1) (drop 1 bytes) ≡ rest
    → drop 1 bytes ≡ rest
behind_first bytes rest e =
    sym (take_all (length bytes - 1) (drop 1 bytes) (omega (arith, length-drop 1 bytes))) ∙ e

-- ---- a number and the byte that ends it

digits_field : (digits rest : List ℕ) (e n high : ℕ) → list_all is_ascii_digit digits ≡ true
    → 1 ≤ length digits → has_leading_zero digits ≡ false → decimal_from 0 digits ≡ n → n ≤ high
    → is_end e ≡ true → field_at (number_of high) e (digits ++ e ∷ rest) ≡ Some (n, rest)
digits_field digits rest e n high all some lead is most end =
    let plain = all_since is_ascii_digit (λ b. not (is_end b)) digits plain_digit all in
    let number : number_of high digits ≡ Some n =
    rw (lead, digits_are digits some all, is, le-leb n high most) refl in
    rw (
      word_again digits rest e plain end,
      behind_again digits rest e plain end,
      number,
      skip_again e rest,
    ) refl

pub front_field : (bytes rest : List ℕ) (k e n high : ℕ)
    → list_all is_ascii_digit (take k bytes) ≡ true → 1 ≤ length (take k bytes)
    → has_leading_zero (take k bytes) ≡ false → decimal_from 0 (take k bytes) ≡ n → n ≤ high
    → is_end e ≡ true → drop k bytes ≡ e ∷ rest
    → field_at (number_of high) e bytes ≡ Some (n, rest)
front_field bytes rest k e n high all some lead is most end back =
    ap (field_at (number_of high) e)
    (sym (take-append-drop k bytes) ∙ ap (λ (r : List ℕ). take k bytes ++ r) back)
    ∙ digits_field (take k bytes) rest e n high all some lead is most end

pub digit_field : (bytes rest : List ℕ) (e high : ℕ) → 1 ≤ length bytes
    → is_ascii_digit (get_or bytes 0 0) ≡ true → 9 ≤ high → is_end e ≡ true
    → drop 1 bytes ≡ e ∷ rest
    → field_at (number_of high) e bytes ≡ Some (get_or bytes 0 0 - 48, rest)
digit_field [] rest e high some digit most end back = absurd (omega arith)
digit_field (b ∷ bs) rest e high some digit most end back =
    let value : decimal_from 0 (b ∷ []) ≡ b - 48 = omega arith in
    front_field (b ∷ bs) rest 1 e (b - 48) high (and_from (is_ascii_digit b) true digit refl)
    (omega arith) refl value (omega (arith, (digit_range b digit).1, most)) end back

-- ---- values

value_is : (text : List ℕ) (n : ℕ) → number_of (2 ^ 63 - 1) text ≡ Some n
    → value_of text ≡ Some (pos n)
value_is text n h =
    let a = goes_unless (has_leading_zero text) (natural_in (2 ^ 63 - 1) text) n h in
    let g = goes_where (is_digits text && leb (decimal_from 0 text) (2 ^ 63 - 1))
    (decimal_from 0 text) n a.1 in
    let p = and_parts (is_digits text) (leb (decimal_from 0 text) (2 ^ 63 - 1)) g.0 in
    let d = are_digits text p.0 in
    value_of_digits text d.0 d.1 ∙ rw h refl

-- the word of a field, and the byte behind it
module _ {A : Type 0} (meaning : List ℕ → Option A) (e : ℕ) (bytes rest : List ℕ) (x : A) where
  field_parts : field_at meaning e bytes ≡ Some (x, rest)
      → (meaning (word bytes) ≡ Some x) × (skip e (behind bytes) ≡ Some rest)
  field_parts h =
      let a = bind_some (meaning (word bytes))
      (λ y. skip e (behind bytes) >>= λ r. Some (y, r)) (x, rest) h in
      let b = bind_some (skip e (behind bytes)) (λ r. Some (a.0, r)) (x, rest) a.2 in
      let same = some_is (a.0, b.0) (x, rest) b.2 in (
        a.1 ∙ ap (λ (y : A × List ℕ). Some y.0) same,
        b.1 ∙ ap (λ (y : A × List ℕ). Some y.1) same,
      )

  field_from : meaning (word bytes) ≡ Some x → skip e (behind bytes) ≡ Some rest
      → field_at meaning e bytes ≡ Some (x, rest)
  field_from h k = rw (h, k) refl

pub positive_field : (e : ℕ) (bytes rest : List ℕ) (n : ℕ)
    → field_at (number_of (2 ^ 63 - 1)) e bytes ≡ Some (n, rest)
    → value_at e bytes ≡ Some (pos n, rest)
positive_field e bytes rest n h =
    let p = field_parts (number_of (2 ^ 63 - 1)) e bytes rest n h in
    field_from value_of e bytes rest (pos n) (value_is (word bytes) n p.0) p.1

minus_len : (bytes : List ℕ) → word_len (45 ∷ bytes) ≡ suc (word_len bytes)
minus_len bytes = omega arith

minus_word : (bytes : List ℕ) → word (45 ∷ bytes) ≡ 45 ∷ word bytes
minus_word bytes = ap (λ (n : ℕ). take n (45 ∷ bytes)) (minus_len bytes)

minus_behind : (bytes : List ℕ) → behind (45 ∷ bytes) ≡ behind bytes
minus_behind bytes = ap (λ (n : ℕ). drop n (45 ∷ bytes)) (minus_len bytes)

pub negative_field : (e : ℕ) (bytes rest : List ℕ) (n : ℕ) → 1 ≤ n
    → field_at (number_of (2 ^ 63)) e bytes ≡ Some (n, rest)
    → value_at e (45 ∷ bytes) ≡ Some (neg_ℤ (pos n), rest)
negative_field e bytes rest zero some h = absurd (omega arith)
negative_field e bytes rest (suc n) some h =
    let p = field_parts (number_of (2 ^ 63)) e bytes rest (suc n) h in
    let value : value_of (45 ∷ word bytes) ≡ Some (negsuc n) = rw p.0 refl in
    field_from value_of e (45 ∷ bytes) rest (negsuc n) (ap value_of (minus_word bytes) ∙ value)
    (ap (skip e) (minus_behind bytes) ∙ p.1)
