-- A word that is read is the word that was written, and what was written is read again.
use Rattle.std.proofs.Common.{◌≡◌, ℕ, ◌≤◌, Bool, true, false, not, cond, eqb, ltb, List, [], ◌∷◌, ◌++◌, length, drop, Option, Some, None, refl, sym, ap, subst, ◌∙◌, append_assoc, arith, inl, inr}
use Rattle.std.specs.Prelude.{nat_eq}
use Rattle.std.specs.List.{list_all, position, position_or_len, starts_with}
use Rattle.std.proofs.lemmas.Bool.{and_parts, and_from, eqb-true, eq-eqb, cond-true, lt-ltb, cases_lt}
use Rattle.std.proofs.lemmas.Bool.Decides.{Decides-eqb}
use Rattle.std.proofs.lemmas.Slice.Eq.{starts_is}
use Rattle.std.proofs.lemmas.List.{take_at, drop_at, take-append-drop}
use Rattle.std.proofs.lemmas.List.Sums.{prefix_len-le-length}
use Rattle.cx_ascii_read.specs.Spelling.{IsField}
use Rattle.cx_ascii_read.specs.Reading.{◌>>=◌, is_end, word_len, word, behind, skip, skip_text, field_at}

-- the value of a step that went on
pub bind_some : {A B : Type 0} (r : Option A) (f : A → Option B) (y : B) → (r >>= f) ≡ Some y
    → (x : A) × (r ≡ Some x) × (f x ≡ Some y)
bind_some (Some x) f y e = (x, refl, e)
bind_some None f y e = absurd cc

-- a test that went on
pub goes_where : {A : Type 0} (b : Bool) (x y : A) → cond b (Some x) None ≡ Some y
    → (b ≡ true) × (x ≡ y)
goes_where true x y e = (refl, cc)
goes_where false x y e = absurd cc

pub goes_unless : {A : Type 0} (b : Bool) (r : Option A) (y : A) → cond b None r ≡ Some y
    → (b ≡ false) × (r ≡ Some y)
goes_unless true r y e = absurd cc
goes_unless false r y e = (refl, e)

pub some_is : {A : Type 0} (x y : A) → Some x ≡ Some y → x ≡ y
some_is x y e = cc

-- ---- words

-- no byte of a text ends a word
abbrev pub IsPlain : List ℕ → Type 0
IsPlain text = list_all (λ b. not (is_end b)) text ≡ true

pub all_since : (f g : ℕ → Bool) (xs : List ℕ) → ((x : ℕ) → f x ≡ true → g x ≡ true)
    → list_all f xs ≡ true → list_all g xs ≡ true
all_since f g [] more all = refl
all_since f g (x ∷ xs) more all =
    let p = and_parts (f x) (list_all f xs) all in
    and_from (g x) (list_all g xs) (more x p.0) (all_since f g xs more p.1)

longest : (text rest : List ℕ) (e : ℕ) → IsPlain text → is_end e ≡ true
    → position_or_len is_end (text ++ e ∷ rest) ≡ length text
longest [] rest e plain end = rw end refl
longest (b ∷ text) rest e plain end =
    let x = and_parts (not (is_end b)) (list_all (λ b. not (is_end b)) text) plain in
    let more : position_or_len is_end (text ++ e ∷ rest) ≡ length text =
    longest text rest e x.1 end in
    rw (x.0, more) (omega arith)

pub word_again : (text rest : List ℕ) (e : ℕ) → IsPlain text → is_end e ≡ true
    → word (text ++ e ∷ rest) ≡ text
word_again text rest e plain end =
    take_at text (e ∷ rest) (word_len (text ++ e ∷ rest)) (sym (longest text rest e plain end))

pub behind_again : (text rest : List ℕ) (e : ℕ) → IsPlain text → is_end e ≡ true
    → behind (text ++ e ∷ rest) ≡ e ∷ rest
behind_again text rest e plain end =
    drop_at text (e ∷ rest) (word_len (text ++ e ∷ rest)) (sym (longest text rest e plain end))

pub word-behind : (bytes : List ℕ) → bytes ≡ word bytes ++ behind bytes
word-behind bytes = sym (take-append-drop (word_len bytes) bytes)

-- where no word ends
not_found : (n m : ℕ) → n ≤ m → cond (ltb n m) (Some n) None ≡ None → n ≡ m
not_found n m most e = elim (cases_lt n m) as (λ _. n ≡ m) [
  | inl lt ↦ absurd (let bad : Some n ≡ None =
      sym (cond-true (ltb n m) (Some n) None (lt-ltb n m lt)) ∙ e in cc)
  | inr le ↦ omega (arith, most, le)
]

pub no_end_is : (bytes : List ℕ) → position is_end bytes ≡ None → word_len bytes ≡ length bytes
no_end_is bytes e = not_found (word_len bytes) (length bytes)
    (prefix_len-le-length (λ b. not (is_end b)) bytes) e

pub skip_takes : (e : ℕ) (bytes rest : List ℕ) → skip e bytes ≡ Some rest → bytes ≡ e ∷ rest
skip_takes e [] rest h = absurd cc
skip_takes e (b ∷ bs) rest h =
    let g = goes_where (eqb b e) bs rest h in
    ap (λ (c : ℕ). c ∷ bs) (eqb-true b e g.0) ∙ ap (λ (r : List ℕ). e ∷ r) g.1

pub skip_again : (e : ℕ) (rest : List ℕ) → skip e (e ∷ rest) ≡ Some rest
skip_again e rest = rw (eq-eqb e e refl) refl

pub text_takes : (text bytes rest : List ℕ) → skip_text text bytes ≡ Some rest
    → bytes ≡ text ++ rest
text_takes text bytes rest h =
    let g = goes_where (starts_with nat_eq bytes text) (drop (length text) bytes) rest h in
    let law = starts_is Decides-eqb bytes text (starts_with nat_eq bytes text) refl in
    law.0 g.0 ∙ ap (λ (r : List ℕ). text ++ r) g.1

-- ---- fields

-- What a word means has one spelling, in which no word ends.
pub record IsWord {A : Type 0} (spelled : A → List ℕ) (meaning : List ℕ → Option A)
    (Fits : A → Type 0) : Type 0 where
  pub takes : (text : List ℕ) (x : A) → meaning text ≡ Some x → (text ≡ spelled x) × Fits x
  pub again : (x : A) → Fits x → meaning (spelled x) ≡ Some x
  pub plain : (x : A) → Fits x → IsPlain (spelled x)

-- a word and the byte behind it
pub field_of_word : {A : Type 0} (spelled : A → List ℕ) (meaning : List ℕ → Option A)
    (Fits : A → Type 0) → IsWord spelled meaning Fits → (e : ℕ) → is_end e ≡ true
    → IsField (λ x. spelled x ++ e ∷ []) (field_at meaning e) Fits
field_of_word {A} spelled meaning Fits w e end = record {
  takes = λ bytes x h.
      let a = bind_some (meaning (word bytes))
      (λ y. skip e (behind bytes) >>= λ rest. Some (y, rest)) x h in
      let b = bind_some (skip e (behind bytes)) (λ rest. Some (a.0, rest)) x a.2 in
      let t = w.takes (word bytes) a.0 a.1 in
      let whole : bytes ≡ (spelled a.0 ++ e ∷ []) ++ b.0 =
      word-behind bytes ∙ ap (λ (r : List ℕ). word bytes ++ r) (skip_takes e (behind bytes) b.0 b.1)
      ∙ ap (λ (f : List ℕ). f ++ e ∷ b.0) t.0 ∙ sym (append_assoc (spelled a.0) (e ∷ []) b.0) in
      subst (λ (y : A × List ℕ). (bytes ≡ (spelled y.0 ++ e ∷ []) ++ y.1) × Fits y.0)
      (some_is (a.0, b.0) x b.2) (whole, t.1);
  again = λ x rest fits.
      let p = w.plain x fits in
      ap (field_at meaning e) (append_assoc (spelled x) (e ∷ []) rest)
      ∙ rw (
        word_again (spelled x) rest e p end,
        behind_again (spelled x) rest e p end,
        w.again x fits,
        skip_again e rest,
      ) refl;
}
