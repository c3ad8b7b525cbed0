-- Keys that agree up to an iteration.
use Rattle.std.proofs.Common.{◌≡◌, ℕ, suc, ◌+◌, ◌≤◌, Bool, true, false, not, ◌&&◌, ◌==◌, cond, arith, refl, sym, ap, subst, ◌∙◌, List, [], ◌∷◌, length, drop, take, filter, Option, Some, None}
use Rattle.std.specs.Prelude.{bytes_eq, nat_lt}
use Rattle.std.specs.List.{slice_split, position, position_or_len, onto_first}
use Rattle.std.proofs.lemmas.Bool.{lt-ltb, ltb-true}
use Rattle.std.proofs.lemmas.List.Splits.{slice_split_first}
use Rattle.std.proofs.lemmas.Slice.Eq.{bytes_eq-Decides}
use Rattle.cx_keep.specs.Agreement.{split_at_byte, lines, steered_in, steered_at, is_later, counts_to, Agree, first_apart, parts_in}

-- ---- earlier iterations

later_too : (c d : ℕ) (o : Option ℕ) → c ≤ d → is_later d o ≡ true → is_later c o ≡ true
later_too c d None l t = t
later_too c d (Some n) l t = lt-ltb c n (let m = ltb-true d n t in omega (arith, l, m))

-- what counts up to c counts up to d
twice : (c d : ℕ) → c ≤ d → (ls : List (List ℕ))
    → filter (counts_to c) (filter (counts_to d) ls) ≡ filter (counts_to c) ls
twice c d l [] = refl
twice c d l (x ∷ ls) = go (is_later d (steered_at x)) refl (twice c d l ls)
  where
    go : (b : Bool) → is_later d (steered_at x) ≡ b
        → filter (counts_to c) (filter (counts_to d) ls) ≡ filter (counts_to c) ls
        → filter (counts_to c) (filter (counts_to d) (x ∷ ls)) ≡ filter (counts_to c) (x ∷ ls)
    go true t e =
        ap (λ b. filter (counts_to c)
        (cond (not b) (x ∷ filter (counts_to d) ls) (filter (counts_to d) ls))) t
        ∙ e
        ∙ sym (ap (λ b. cond (not b) (x ∷ filter (counts_to c) ls) (filter (counts_to c) ls))
        (later_too c d (steered_at x) l t))
    go false f e =
        ap (λ b. filter (counts_to c)
        (cond (not b) (x ∷ filter (counts_to d) ls) (filter (counts_to d) ls))) f
        ∙ ap (λ ys. cond (counts_to c x) (x ∷ ys) ys) e

-- keys that agree up to an iteration agree up to each one before
pub earlier : (c d : ℕ) (a b : List ℕ) → c ≤ d → Agree d a b → Agree c a b
earlier c d a b l e = sym (twice c d l (lines a)) ∙ ap (filter (counts_to c)) e
    ∙ twice c d l (lines b)

-- ---- lists that are the same

pub none_apart : (xs : List (List ℕ)) → first_apart xs xs ≡ None
none_apart [] = refl
none_apart (x ∷ xs) = rw ((bytes_eq-Decides x x).1 refl) (none_apart xs)

pub same_lines : (xs ys : List (List ℕ)) → first_apart xs ys ≡ None → xs ≡ ys
same_lines [] [] e = refl
same_lines [] (y ∷ ys) e = absurd cc
same_lines (x ∷ xs) [] e = absurd cc
same_lines (x ∷ xs) (y ∷ ys) e = by (bytes_eq x y) refl e (λ rest. same_lines xs ys rest)
  where
    by : (b : Bool) → bytes_eq x y ≡ b → cond b (first_apart xs ys) (Some (x, y)) ≡ None
        → (first_apart xs ys ≡ None → xs ≡ ys) → x ∷ xs ≡ y ∷ ys
    by true is none rest =
        let one : x ≡ y = (bytes_eq-Decides x y).0 is in
        let more : xs ≡ ys = rest none in
        (λ i. one i ∷ more i)
    by false is none rest = absurd cc

-- ---- the parts of a text

some_is : (x y : ℕ) → Some x ≡ Some y → x ≡ y
some_is x y e = cc

pub part_before : (p : ℕ → Bool) (text : List ℕ) (at : ℕ) → position p text ≡ Some at
    → slice_split p text ≡ take at text ∷ slice_split p (drop (at + 1) text)
part_before p text at found =
    by (nat_lt (position_or_len p text) (length text)) refl found
  where
    by : (b : Bool) → nat_lt (position_or_len p text) (length text) ≡ b
        → cond b (Some (position_or_len p text)) None ≡ Some at
        → slice_split p text ≡ take at text ∷ slice_split p (drop (at + 1) text)
    by true t is =
        subst (λ (k : ℕ). slice_split p text ≡ take k text ∷ slice_split p (drop (k + 1) text))
        (some_is (position_or_len p text) at is)
        (slice_split_first p text 0 (ltb-true (position_or_len p text) (length text) t))
    by false t is = absurd cc

abbrev some_of : ℕ → Option ℕ
some_of k = Some k

one_less : (k n : ℕ) → cond (nat_lt (1 + k) (suc n)) (Some (1 + k)) None ≡ None
    → cond (nat_lt k n) (Some k) None ≡ None
one_less k n e = by (nat_lt k n) refl
  where
    by : (b : Bool) → nat_lt k n ≡ b → cond b (Some k) None ≡ None
    by false is = refl
    by true is =
        let more : nat_lt (1 + k) (suc n) ≡ true =
        lt-ltb (1 + k) (suc n) (let l = ltb-true k n is in omega (arith, l)) in
        let bad : some_of (1 + k) ≡ None =
        sym (ap (λ b. cond b (Some (1 + k)) None) more) ∙ e in
        absurd cc

pub one_part : (p : ℕ → Bool) (text : List ℕ) → position p text ≡ None
    → slice_split p text ≡ text ∷ []
one_part p [] none = refl
one_part p (x ∷ xs) none = by (p x) refl none (λ e. one_part p xs e)
  where
    by : (b : Bool) → p x ≡ b
        → cond (nat_lt (cond (not b) (1 + position_or_len p xs) 0) (suc (length xs)))
        (Some (cond (not b) (1 + position_or_len p xs) 0)) None ≡ None
        → (position p xs ≡ None → slice_split p xs ≡ xs ∷ [])
        → cond b ([] ∷ slice_split p xs) (onto_first x (slice_split p xs)) ≡ (x ∷ xs) ∷ []
    by true is bad rest =
        let some : nat_lt 0 (suc (length xs)) ≡ true = lt-ltb 0 (suc (length xs)) (omega arith) in
        let end : some_of 0 ≡ None = sym (ap (λ b. cond b (Some 0) None) some) ∙ bad in
        absurd cc
    by false is more rest = ap (onto_first x)
        (rest (one_less (position_or_len p xs) (length xs) more))

-- ---- steer lines

pub steered_above : (a d : Bool) (c n : ℕ)
    → is_later c (cond (a && d) (Some n) None) ≡ (a && (d && nat_lt c n))
steered_above true true c n = refl
steered_above true false c n = refl
steered_above false d c n = refl

-- a text has a part
some_parts : (byte : ℕ) (text : List ℕ)
    → (part : List ℕ) × (parts : List (List ℕ)) × (split_at_byte byte text ≡ part ∷ parts)
some_parts byte [] = ([], [], refl)
some_parts byte (x ∷ xs) = by (x == byte) (some_parts byte xs)
  where
    by : (b : Bool)
        → (part : List ℕ) × (parts : List (List ℕ)) × (split_at_byte byte xs ≡ part ∷ parts)
        → (part : List ℕ) × (parts : List (List ℕ))
        × (cond b ([] ∷ split_at_byte byte xs) (onto_first x (split_at_byte byte xs))
        ≡ part ∷ parts)
    by true r = ([], split_at_byte byte xs, refl)
    by false r = (x ∷ r.0, r.1, ap (onto_first x) r.2)

-- a line with this word, and two words and more
pub two_words : (c : ℕ) (word rest number last : List ℕ) (two : Option (List ℕ)) (answer : Bool)
    → split_at_byte 32 rest ≡ number ∷ parts_in 32 two → two ≡ Some last
    → ((more : List ℕ) (ws : List (List ℕ))
    → answer ≡ is_later c (steered_in (word ∷ number ∷ more ∷ ws)))
    → answer ≡ is_later c (steered_in (word ∷ split_at_byte 32 rest))
two_words c word rest number last two answer second also law =
    let r = some_parts 32 last in
    let all : split_at_byte 32 rest ≡ number ∷ r.0 ∷ r.1 =
    second ∙ ap (λ o. number ∷ parts_in 32 o) also ∙ ap (λ ws. number ∷ ws) r.2 in
    law r.0 r.1 ∙ ap (λ ws. is_later c (steered_in (word ∷ ws))) (sym all)
