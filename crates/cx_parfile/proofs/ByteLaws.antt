-- The bytes of a printed name go on with a word.
use Rattle.std.proofs.Common.{◌≡◌, ◌≤◌, ◌<◌, ℕ, nat_eq, nat_le, Bool, true, false, ◌||◌, ◌⊎◌, inl, inr, List, [], ◌∷◌, refl, arith}
use Rattle.std.specs.List.{list_all, AllByRecursion}
use Rattle.std.specs.Char.{is_ascii_digit}
use Rattle.std.specs.Int.{is_in_range}
use Rattle.std.proofs.lemmas.Bool.{eqb-true, leb-true, le-leb, ne_eqb, and_parts, and_from, or_cases}
use Rattle.cx_text.specs.declared.token.Style.TheVariants.{Par}
use Rattle.cx_text.specs.declared.byte.Role.TheVariants as roles
use Rattle.cx_text.specs.declared.byte.Class.TheVariants as classes
use Rattle.cx_text.specs.Bytes.{role_of, has}
use Rattle.cx_text.specs.Written.{word}
use Rattle.cx_text.proofs.PrintLaws.{Printable, printable_word}
use Rattle.cx_parfile.specs.Values.{is_name_byte, is_empty}

-- from 0 to z, and none of the signs
pub record Plain (b : ℕ) : Type 0 where
  pub low : 48 ≤ b
  pub high : b ≤ 122
  pub equals : nat_eq b 61 ≡ false
  pub opens : nat_eq b 91 ≡ false
  pub closes : nat_eq b 93 ≡ false

in_range : (l h b : ℕ) → is_in_range l h b ≡ true → (l ≤ b) × (b ≤ h)
in_range l h b e = let k = and_parts (nat_le l b) (nat_le b h) e in
    (leb-true l b k.0, leb-true b h k.1)

pub digit_plain : (b : ℕ) → is_ascii_digit b ≡ true → Plain b
digit_plain b e =
    let k = in_range 48 57 b e in
    let l = k.0 in
    let h = k.1 in
    record {
      low = omega (arith, l);
      high = omega (arith, h);
      equals = ne_eqb b 61 (λ q. absurd (omega (arith, h, q)));
      opens = ne_eqb b 91 (λ q. absurd (omega (arith, h, q)));
      closes = ne_eqb b 93 (λ q. absurd (omega (arith, h, q)));
    }

large_plain : (b : ℕ) → is_in_range 65 90 b ≡ true → Plain b
large_plain b e =
    let k = in_range 65 90 b e in
    let l = k.0 in
    let h = k.1 in
    record {
      low = omega (arith, l);
      high = omega (arith, h);
      equals = ne_eqb b 61 (λ q. absurd (omega (arith, l, q)));
      opens = ne_eqb b 91 (λ q. absurd (omega (arith, h, q)));
      closes = ne_eqb b 93 (λ q. absurd (omega (arith, h, q)));
    }

small_plain : (b : ℕ) → is_in_range 97 122 b ≡ true → Plain b
small_plain b e =
    let k = in_range 97 122 b e in
    let l = k.0 in
    let h = k.1 in
    record {
      low = omega (arith, l);
      high = omega (arith, h);
      equals = ne_eqb b 61 (λ q. absurd (omega (arith, l, q)));
      opens = ne_eqb b 91 (λ q. absurd (omega (arith, l, q)));
      closes = ne_eqb b 93 (λ q. absurd (omega (arith, l, q)));
    }

underscore_plain : (b : ℕ) → nat_eq b 95 ≡ true → Plain b
underscore_plain b e =
    let same : b ≡ 95 = eqb-true b 95 e in
    record {
      low = omega (arith, same);
      high = omega (arith, same);
      equals = ne_eqb b 61 (λ q. absurd (omega (arith, same, q)));
      opens = ne_eqb b 91 (λ q. absurd (omega (arith, same, q)));
      closes = ne_eqb b 93 (λ q. absurd (omega (arith, same, q)));
    }

pub colon_plain : Plain 58
colon_plain = record {
  low = omega arith;
  high = omega arith;
  equals = refl;
  opens = refl;
  closes = refl;
}

either_plain : (b : ℕ) → (is_in_range 48 57 b ≡ true) ⊎ (is_in_range 65 90 b ≡ true) → Plain b
either_plain b (inl e) = digit_plain b e
either_plain b (inr e) = large_plain b e

letter_plain : (b : ℕ) → (is_in_range 48 57 b || is_in_range 65 90 b ≡ true)
    ⊎ (is_in_range 97 122 b ≡ true) → Plain b
letter_plain b (inl e) = either_plain b (or_cases (is_in_range 48 57 b) (is_in_range 65 90 b) e)
letter_plain b (inr e) = small_plain b e

name_plain : (b : ℕ) → ((is_in_range 48 57 b || is_in_range 65 90 b) || is_in_range 97 122 b ≡ true)
    ⊎ (nat_eq b 95 ≡ true) → Plain b
name_plain b (inl e) = letter_plain b
    (or_cases (is_in_range 48 57 b || is_in_range 65 90 b) (is_in_range 97 122 b) e)
name_plain b (inr e) = underscore_plain b e

pub name_byte_plain : (b : ℕ) → is_name_byte b ≡ true → Plain b
name_byte_plain b e = name_plain b
    (or_cases ((is_in_range 48 57 b || is_in_range 65 90 b) || is_in_range 97 122 b) (nat_eq b 95)
    e)

low_differs : (b c : ℕ) → Plain b → c < 48 → nat_eq b c ≡ false
low_differs b c p l = let k = p.low in ne_eqb b c (λ q. absurd (omega (arith, k, l, q)))

plain_role : (b : ℕ) → Plain b → (fresh : Bool) → role_of Par fresh b ≡ roles.Word
plain_role b p fresh =
    let l : nat_le 33 b ≡ true = let k = p.low in le-leb 33 b (omega (arith, k)) in
    let h : nat_le b 126 ≡ true = let k = p.high in le-leb b 126 (omega (arith, k)) in
    rw (
      low_differs b 32 p (omega arith),
      low_differs b 9 p (omega arith),
      low_differs b 13 p (omega arith),
      low_differs b 10 p (omega arith),
      low_differs b 35 p (omega arith),
      low_differs b 33 p (omega arith),
      low_differs b 34 p (omega arith),
      p.equals,
      p.opens,
      p.closes,
      l,
      h,
    ) refl

plain_goes : (b : ℕ) → Plain b → has (classes.Word Par) b ≡ true
plain_goes b p =
    let l : nat_le 33 b ≡ true = let k = p.low in le-leb 33 b (omega (arith, k)) in
    let h : nat_le b 126 ≡ true = let k = p.high in le-leb b 126 (omega (arith, k)) in
    rw (
      low_differs b 35 p (omega arith),
      low_differs b 34 p (omega arith),
      p.equals,
      p.opens,
      p.closes,
      l,
      h,
    ) refl

all_go : (bs : List ℕ) → AllByRecursion Plain bs → list_all (has (classes.Word Par)) bs ≡ true
all_go [] h = refl
all_go (b ∷ bs) h = and_from _ _ (plain_goes b h.0) (all_go bs h.1)

pub plain_printable : (text : List ℕ) → is_empty text ≡ false → AllByRecursion Plain text
    → Printable Par (word text)
plain_printable [] e h = absurd cc
plain_printable (b ∷ bs) e h = printable_word Par b bs 0 (plain_role b h.0) (all_go bs h.1)

pub names_plain : (text : List ℕ) → list_all is_name_byte text ≡ true → AllByRecursion Plain text
names_plain [] e = tt
names_plain (b ∷ bs) e = let k = and_parts (is_name_byte b) (list_all is_name_byte bs) e in
    (name_byte_plain b k.0, names_plain bs k.1)

pub digits_plain : (text : List ℕ) → list_all is_ascii_digit text ≡ true → AllByRecursion Plain text
digits_plain [] e = tt
digits_plain (b ∷ bs) e = let k = and_parts (is_ascii_digit b) (list_all is_ascii_digit bs) e in
    (digit_plain b k.0, digits_plain bs k.1)
