-- Keys of one beginning that end in the lines of steers agree up to where the steers are the same.
use Rattle.std.proofs.Common.{◌≡◌, ◌⊎◌, inl, inr, ℕ, ◌<◌, ◌≤◌, Bool, true, false, not, ◌==◌, cond, arith, refl, sym, ap, subst, ◌∙◌, List, [], ◌∷◌, ◌++◌, append-nil, append_assoc, filter, codes, Some, None}
use Rattle.std.specs.Prelude.{nat_le, nat_lt, All}
use Rattle.std.specs.Char.{is_ascii_digit}
use Rattle.std.specs.Fmt.{decimal}
use Rattle.std.specs.List.{flat_map, list_all, onto_first, AllByRecursion}
use Rattle.std.proofs.lemmas.Bool.{le-leb, leb-true, eqb-true, cases_lt, lt-ltb, ltb-true, and_parts, eq-eqb, false≢true}
use Rattle.std.proofs.lemmas.List.Elements.{filter-append, All-from_recursion}
use Rattle.std.proofs.lemmas.List.Splits.{slice_split_at}
use Rattle.cx_text.specs.Digits.{is_digits}
use Rattle.cx_text.specs.Lexemes.{decimal_from}
use Rattle.cx_keep.specs.Agreement.{split_at_byte, lines, words, steered_in, steered_at, is_later, counts_to, lines_to, Agree}

-- ---- lines

-- no such byte in a text
abbrev pub Lacks : ℕ → List ℕ → Type 0
Lacks byte text = AllByRecursion (λ b. (b == byte) ≡ false) text

lacks_all : (byte : ℕ) (text : List ℕ) → Lacks byte text → All (λ b. (b == byte) ≡ false) text
lacks_all byte text h = All-from_recursion (λ b. (b == byte) ≡ false) text h

pub lacks_more : (byte : ℕ) (a b : List ℕ) → Lacks byte a → Lacks byte b → Lacks byte (a ++ b)
lacks_more byte [] b h k = k
lacks_more byte (x ∷ a) b h k = (h.0, lacks_more byte a b h.1 k)

-- the parts of a text that goes on after such a byte
split_more : (byte : ℕ) (a b : List ℕ) → Lacks byte a
    → split_at_byte byte (a ++ byte ∷ b) ≡ a ∷ split_at_byte byte b
split_more byte a b h =
    slice_split_at (λ c. c == byte) a byte b (lacks_all byte a h) (eq-eqb byte byte refl)

-- a text of whole lines: nothing, or one that ends in a line feed
abbrev pub EndsLine : List ℕ → Type 0
EndsLine text = (text ≡ []) ⊎ ((front : List ℕ) × (text ≡ front ++ 10 ∷ []))

pub ends_line : (front : List ℕ) → EndsLine (front ++ 10 ∷ [])
ends_line front = inr (front, refl)

pub ends_more : (a b : List ℕ) → EndsLine a → EndsLine b → EndsLine (a ++ b)
ends_more a b h (inl e) = subst (λ t. EndsLine (a ++ t)) (sym e)
    (subst EndsLine (sym (append-nil a)) h)
ends_more a b h (inr (front, e)) =
    inr (a ++ front, ap (λ t. a ++ t) e ∙ sym (append_assoc a front (10 ∷ [])))

pub ends_all : {A : Type 0} (f : A → List ℕ) → ((x : A) → EndsLine (f x)) → (xs : List A)
    → EndsLine (flat_map f xs)
ends_all f each [] = inl refl
ends_all f each (x ∷ xs) = ends_more (f x) (flat_map f xs) (each x) (ends_all f each xs)

-- the lines of two texts, the first of which ends before a line feed
lines_joined : (a b : List ℕ) → lines (a ++ 10 ∷ b) ≡ lines a ++ lines b
lines_joined [] b = refl
lines_joined (x ∷ a) b = by (x == 10) (lines_joined a b) (some_line a)
  where
    some_line : (t : List ℕ) → (l : List ℕ) × (ls : List (List ℕ)) × (lines t ≡ l ∷ ls)
    some_line [] = ([], [], refl)
    some_line (y ∷ t) = at (y == 10) (some_line t)
      where
        at : (c : Bool) → (l : List ℕ) × (ls : List (List ℕ)) × (lines t ≡ l ∷ ls)
            → (l : List ℕ) × (ls : List (List ℕ))
            × (cond c ([] ∷ lines t) (onto_first y (lines t)) ≡ l ∷ ls)
        at true r = ([], lines t, refl)
        at false r = (y ∷ r.0, r.1, ap (onto_first y) r.2)

    by : (c : Bool) → lines (a ++ 10 ∷ b) ≡ lines a ++ lines b
        → (l : List ℕ) × (ls : List (List ℕ)) × (lines a ≡ l ∷ ls)
        → cond c ([] ∷ lines (a ++ 10 ∷ b)) (onto_first x (lines (a ++ 10 ∷ b)))
        ≡ cond c ([] ∷ lines a) (onto_first x (lines a)) ++ lines b
    by true e r = ap (λ ls. [] ∷ ls) e
    by false e r = ap (onto_first x) e ∙ ap (λ ls. onto_first x (ls ++ lines b)) r.2
        ∙ sym (ap (λ ls. onto_first x ls ++ lines b) r.2)

-- ---- the lines of steers

-- the line of a steer: its iteration, and what follows
abbrev pub steer_text : ℕ → List ℕ → List ℕ
steer_text n rest = codes "steer " ++ decimal n ++ codes " " ++ rest

digits_lack : (byte : ℕ) → ((b : ℕ) → is_ascii_digit b ≡ true → (b == byte) ≡ false)
    → (ds : List ℕ) → list_all is_ascii_digit ds ≡ true → Lacks byte ds
digits_lack byte each [] h = tt
digits_lack byte each (d ∷ ds) h =
    let k = and_parts (is_ascii_digit d) (list_all is_ascii_digit ds) h in
    (each d k.0, digits_lack byte each ds k.1)

some_word : (text : List ℕ) → (w : List ℕ) × (ws : List (List ℕ)) × (words text ≡ w ∷ ws)
some_word [] = ([], [], refl)
some_word (y ∷ t) = by (y == 32) (some_word t)
  where
    by : (c : Bool) → (w : List ℕ) × (ws : List (List ℕ)) × (words t ≡ w ∷ ws)
        → (w : List ℕ) × (ws : List (List ℕ))
        × (cond c ([] ∷ words t) (onto_first y (words t)) ≡ w ∷ ws)
    by true r = ([], words t, refl)
    by false r = (y ∷ r.0, r.1, ap (onto_first y) r.2)

module _ (n : ℕ) (digits : list_all is_ascii_digit (decimal n) ≡ true)
    (some : is_digits (decimal n) ≡ true) (again : decimal_from 0 (decimal n) ≡ n) where
  -- it has its iteration
  pub steered_there : (rest : List ℕ) → steered_at (steer_text n rest) ≡ Some n
  steered_there rest =
      let r = some_word rest in
      let all : words (steer_text n rest) ≡ codes "steer" ∷ decimal n ∷ r.0 ∷ r.1 =
      ap (λ t. words (codes "steer" ++ 32 ∷ t)) (append_assoc (decimal n) (codes " ") rest)
      ∙ split_more 32 (codes "steer") (decimal n ++ 32 ∷ rest)
      (refl, (refl, (refl, (refl, (refl, tt)))))
      ∙ ap (λ ws. codes "steer" ∷ ws)
      (split_more 32 (decimal n) rest (digits_lack 32 no_blank (decimal n) digits))
      ∙ ap (λ ws. codes "steer" ∷ decimal n ∷ ws) r.2 in
      ap steered_in all
      ∙ ap (λ b. cond b (Some (decimal_from 0 (decimal n))) None) some
      ∙ ap (λ k. Some k) again
    where
      no_blank : (b : ℕ) → is_ascii_digit b ≡ true → (b == 32) ≡ false
      no_blank b h = by (b == 32) refl
        where
          by : (c : Bool) → (b == 32) ≡ c → (b == 32) ≡ false
          by false e = e
          by true e = absurd (false≢true (ap is_ascii_digit (sym (eqb-true b 32 e)) ∙ h))

  -- and it is one line, where what follows is
  pub one_line : (rest : List ℕ) → Lacks 10 rest → Lacks 10 (steer_text n rest)
  one_line rest h =
      lacks_more 10 ((codes "steer " ++ decimal n) ++ codes " ") rest
      (lacks_more 10 (codes "steer " ++ decimal n) (codes " ")
      (lacks_more 10 (codes "steer ") (decimal n) (refl, (refl, (refl, (refl, (refl, (refl, tt))))))
      (digits_lack 10 no_feed (decimal n) digits)) (refl, tt)) h
    where
      no_feed : (b : ℕ) → is_ascii_digit b ≡ true → (b == 10) ≡ false
      no_feed b h = by (b == 10) refl
        where
          by : (c : Bool) → (b == 10) ≡ c → (b == 10) ≡ false
          by false e = e
          by true e = absurd (false≢true (ap is_ascii_digit (sym (eqb-true b 10 e)) ∙ h))

-- ---- keys

-- what a test keeps of items that are made of others
pub kept_of : {A B : Type 0} (f : A → List B) (p : A → Bool) (q : B → Bool)
    → ((x : A) → filter q (f x) ≡ cond (p x) (f x) []) → (xs : List A)
    → filter q (flat_map f xs) ≡ flat_map f (filter p xs)
kept_of f p q each [] = refl
kept_of f p q each (x ∷ xs) =
    filter-append q (f x) (flat_map f xs)
    ∙ ap (λ ys. ys ++ filter q (flat_map f xs)) (each x)
    ∙ ap (λ ys. cond (p x) (f x) [] ++ ys) (kept_of f p q each xs)
    ∙ by (p x)
  where
    by : (b : Bool) → cond b (f x) [] ++ flat_map f (filter p xs)
        ≡ flat_map f (cond b (x ∷ filter p xs) (filter p xs))
    by true = refl
    by false = refl

not_later : (c n : ℕ) → not (nat_lt c n) ≡ nat_le n c
not_later c n = by (nat_lt c n) refl
  where
    by : (b : Bool) → nat_lt c n ≡ b → not b ≡ nat_le n c
    by true e = sym (by_le (nat_le n c) refl)
      where
        by_le : (b : Bool) → nat_le n c ≡ b → nat_le n c ≡ false
        by_le false f = f
        by_le true f = absurd (let l = ltb-true c n e in let m = leb-true n c f in
            omega (arith, l, m))
    by false e = sym (le-leb n c (at_most (cases_lt c n)))
      where
        at_most : (c < n) ⊎ (n ≤ c) → n ≤ c
        at_most (inr l) = l
        at_most (inl l) = absurd (false≢true (sym e ∙ lt-ltb c n l))

module _ {S : Type 0} (at : S → ℕ) (text : S → List ℕ) (some : S → Bool)
    (there : (s : S) → some s ≡ true
    → (steered_at (text s) ≡ Some (at s)) × Lacks 10 (text s)) where
  -- a step's line, if it has one
  abbrev pub line_of : S → List ℕ
  line_of s = cond (some s) (text s ++ 10 ∷ []) []

  abbrev texts_of : S → List (List ℕ)
  texts_of s = cond (some s) (text s ∷ []) []

  lines_are : (ss : List S) → lines (flat_map line_of ss) ≡ flat_map texts_of ss ++ [] ∷ []
  lines_are [] = refl
  lines_are (s ∷ ss) = by (some s) refl (lines_are ss)
    where
      by : (b : Bool) → some s ≡ b → lines (flat_map line_of ss) ≡ flat_map texts_of ss ++ [] ∷ []
          → lines (cond b (text s ++ 10 ∷ []) [] ++ flat_map line_of ss)
          ≡ (cond b (text s ∷ []) [] ++ flat_map texts_of ss) ++ [] ∷ []
      by true is rest =
          ap lines (append_assoc (text s) (10 ∷ []) (flat_map line_of ss))
          ∙ split_more 10 (text s) (flat_map line_of ss) (there s is).1
          ∙ ap (λ ls. text s ∷ ls) rest
      by false is rest = rest

  module _ (c : ℕ) where
    abbrev pub is_early : S → Bool
    is_early s = nat_le (at s) c

    abbrev nothing : List (List ℕ)
    nothing = []

    counted : (s : S) → filter (counts_to c) (texts_of s) ≡ cond (is_early s) (texts_of s) []
    counted s = by (some s) refl
      where
        none : (b : Bool) → nothing ≡ cond b nothing nothing
        none true = refl
        none false = refl

        by : (b : Bool) → some s ≡ b → filter (counts_to c) (cond b (text s ∷ []) [])
            ≡ cond (is_early s) (cond b (text s ∷ []) []) []
        by true is = ap (λ o. cond (not (is_later c o)) (text s ∷ []) []) (there s is).0
            ∙ ap (λ b. cond b (text s ∷ []) []) (not_later c (at s))
        by false is = none (is_early s)

    lines_to_are : (ss : List S) → lines_to c (flat_map line_of ss)
        ≡ flat_map texts_of (filter is_early ss) ++ filter (counts_to c) ([] ∷ [])
    lines_to_are ss =
        ap (filter (counts_to c)) (lines_are ss)
        ∙ filter-append (counts_to c) (flat_map texts_of ss) ([] ∷ [])
        ∙ ap (λ ls. ls ++ filter (counts_to c) ([] ∷ []))
        (kept_of texts_of is_early (counts_to c) counted ss)

    pub keys_agree : (base : List ℕ) → EndsLine base → (one other : List S)
        → filter is_early one ≡ filter is_early other
        → Agree c (base ++ flat_map line_of one) (base ++ flat_map line_of other)
    keys_agree base (inl e) one other same =
        ap (λ b. lines_to c (b ++ flat_map line_of one)) e
        ∙ lines_to_are one
        ∙ ap (λ ss. flat_map texts_of ss ++ filter (counts_to c) ([] ∷ [])) same
        ∙ sym (lines_to_are other)
        ∙ sym (ap (λ b. lines_to c (b ++ flat_map line_of other)) e)
    keys_agree base (inr (front, e)) one other same =
        joined one
        ∙ ap (λ ss. filter (counts_to c) (lines front)
        ++ (flat_map texts_of ss ++ filter (counts_to c) ([] ∷ []))) same
        ∙ sym (joined other)
      where
        joined : (ss : List S) → lines_to c (base ++ flat_map line_of ss)
            ≡ filter (counts_to c) (lines front)
            ++ (flat_map texts_of (filter is_early ss) ++ filter (counts_to c) ([] ∷ []))
        joined ss =
            ap (λ b. lines_to c (b ++ flat_map line_of ss)) e
            ∙ ap (lines_to c) (append_assoc front (10 ∷ []) (flat_map line_of ss))
            ∙ ap (filter (counts_to c)) (lines_joined front (flat_map line_of ss))
            ∙ filter-append (counts_to c) (lines front) (lines (flat_map line_of ss))
            ∙ ap (λ ls. filter (counts_to c) (lines front) ++ ls) (lines_to_are ss)
