-- The shared rules are read as they derive.
use Rattle.std.proofs.Common.{◌≡◌, ℕ, Bool, true, false, ◌||◌, ◌&&◌, List, [], ◌∷◌, ◌++◌, Option, Some, None, refl}
use Rattle.cx_text.specs.declared.token.Kind.TheVariants.{Word, Number, Quoted, Sign}
use Rattle.cx_text.specs.declared.token.Token.{Token}
use Rattle.cx_text.specs.Tokens.{is_word, is_line_end}
use Rattle.cx_text.specs.Rules.{Rule, ◌>>=◌, loop, line_ends, if_is, is_sign, is_named, name_of}
use Rattle.cx_text.specs.Lexemes.{is_sign_pair, number_of, quoted_of, beyond, comma, is_comma_or_word, more_names, some_names, names, more_listed, listed, kept_if, more_kept, is_inside, inside, braces}
use Rattle.cx_text.proofs.Laws.{Means}
use Rattle.cx_text.proofs.Choice.{at_other}
use Rattle.cx_text.proofs.Loops.{Short}
use Rattle.cx_text.proofs.RuleLaws.{line_ends_good, line_ends_empty, Good, Full, Part, Tail, Empty, Any, Not, short_part, nothing_good, nothing_ends, token_good, token_is_full, also_good, fits_any, fits_full, also_is_full, token_also_ends, weaker_good, weaker_part, weaker_empty, empty_then, empty_ends, second_is_full, part_then_empty, option_good, option_empty, lexeme_good, lexeme_full, lexeme_then, lexeme_last, lexeme_alone, loop_good, loop_empty}

-- ---- a token of each kind

abbrev pub a_word : List ℕ → Token
a_word text = record { kind = Word; text = text; line = 0 }

abbrev pub a_sign : ℕ → Token
a_sign b = record { kind = Sign; text = b ∷ []; line = 0 }

abbrev pub a_sign_pair : ℕ → ℕ → Token
a_sign_pair a b = record { kind = Sign; text = a ∷ b ∷ []; line = 0 }

abbrev pub a_name : Means name_of
a_name = record { tok = a_word (97 ∷ []); x = 97 ∷ []; is = refl }

abbrev pub a_number : Means number_of
a_number = record { tok = record { kind = Number; text = 49 ∷ []; line = 0 }; x = 1; is = refl }

abbrev pub a_quoted : Means quoted_of
a_quoted = record { tok = record { kind = Quoted; text = []; line = 0 }; x = []; is = refl }

abbrev pub keyword_is : (name : List ℕ) → if_is (is_named name) (a_word name) ≡ Some tt
    → Means (if_is (is_named name))
keyword_is name e = record { tok = a_word name; x = tt; is = e }

abbrev pub sign_is : (b : ℕ) → if_is (is_sign b) (a_sign b) ≡ Some tt → Means (if_is (is_sign b))
sign_is b e = record { tok = a_sign b; x = tt; is = e }

abbrev pub sign_pair_is : (a b : ℕ) → if_is (is_sign_pair a b) (a_sign_pair a b) ≡ Some tt
    → Means (if_is (is_sign_pair a b))
sign_pair_is a b e = record { tok = a_sign_pair a b; x = tt; is = e }

-- ---- what follows

abbrev pub Ended : Option Token → Type 0
Ended = Not is_line_end

pub or_left : (a b : Bool) → (a || b) ≡ false → a ≡ false
or_left true b e = absurd cc
or_left false b e = refl

pub or_right : (a b : Bool) → (a || b) ≡ false → b ≡ false
or_right true b e = absurd cc
or_right false b e = e

pub and_left : (a b : Bool) → a ≡ false → (a && b) ≡ false
and_left true b e = absurd cc
and_left false b e = refl

pub and_right : (a b : Bool) → b ≡ false → (a && b) ≡ false
and_right true b e = e
and_right false b e = refl

-- of two tests joined by `||`
pub not_first : (p q : Token → Bool) (n : Option Token) → Not (λ t. p t || q t) n → Not p n
not_first p q None h = refl
not_first p q (Some t) h = or_left (p t) (q t) h

pub not_second : (p q : Token → Bool) (n : Option Token) → Not (λ t. p t || q t) n → Not q n
not_second p q None h = refl
not_second p q (Some t) h = or_right (p t) (q t) h

-- ---- [","]

-- before what neither a comma nor a LineEnd may begin
abbrev pub NoComma : Option Token → Type 0
NoComma n = Not (is_sign 44) n × Ended n

pub comma_good : Good comma NoComma
comma_good = option_good (weaker_good (lexeme_good (sign_is 44 refl)) (λ n h. h.1)) lexeme_full
    (λ n h. h.0)

pub comma_empty : Empty comma (Not (is_sign 44))
comma_empty = option_empty _ tt

-- [","] and a part
pub comma_then : {B : Type 0} {f : Unit {0} → Rule B} {H : Option Token → Type 0}
    → ((u : Unit {0}) → Part (f u) NoComma H) → Part (comma >>= f) NoComma H
comma_then part = empty_then {G = NoComma} comma_good comma_empty (λ n h. (h, h.0)) part

-- ---- names, where LineEnd may come next

-- what follows a list of names
abbrev pub AfterNames : Option Token → Type 0
AfterNames = Not is_comma_or_word

pub more_names_good : (ns : List (List ℕ)) → Good (more_names ns) Any
more_names_good ns =
    also_good {G = NoComma} comma_good
    (λ u. also_good (token_good a_name) (λ n. nothing_good)
    (fits_any (λ x next h. nothing_ends tt)))
    (fits_full (Some a_name.tok) (refl, refl) (λ u. also_is_full _ token_is_full)
    (λ u next h. token_also_ends a_name (refl, refl) (λ x. nothing_ends tt)))

pub more_names_full : (ns : List (List ℕ)) → Full (more_names ns)
more_names_full ns = second_is_full comma (λ u. also_is_full _ token_is_full)

pub more_names_short : (ns : List (List ℕ)) → Short (more_names ns)
more_names_short ns = short_part (more_names_good ns) (more_names_full ns)

names_loop_good : (ns : List (List ℕ)) → Good (loop is_comma_or_word more_names ns) AfterNames
names_loop_good ns = loop_good more_names_good more_names_full (λ n h. h) (λ n h. tt) None refl

pub some_names_part : (ns : List (List ℕ)) {F : Option Token → Type 0} → F (Some a_name.tok)
    → Part (some_names ns) F AfterNames
some_names_part ns f = record {
  good = also_good (token_good a_name) (λ n. names_loop_good (ns ++ n ∷ []))
      (fits_any (λ n next h. empty_ends (loop_empty more_names (ns ++ n ∷ [])) h tt));
  full = also_is_full _ token_is_full;
  ends = λ next h. token_also_ends a_name f
      (λ n. empty_ends (loop_empty more_names (ns ++ n ∷ [])) h tt);
  one = Some a_name.tok;
  allowed = f;
}

pub names_good : (ns : List (List ℕ)) → Good (names ns) AfterNames
names_good ns = option_good (some_names_part ns {F = Any} tt).good (also_is_full _ token_is_full)
    (λ n h. not_second (is_sign 44) is_word n h)

pub names_empty : (ns : List (List ℕ)) → Empty (names ns) AfterNames
names_empty ns = record {
  x = ns;
  law = λ n h. at_other _ _ _ (not_second (is_sign 44) is_word n h) (refl, refl);
}

-- ---- names, where LineEnd is skipped

pub more_listed_part : (ns : List (List ℕ)) → Part (more_listed ns) NoComma Ended
more_listed_part ns = comma_then (λ u. lexeme_last a_name (refl, refl))

pub more_listed_short : (ns : List (List ℕ)) → Short (more_listed ns)
more_listed_short ns = short_part (more_listed_part ns).good (more_listed_part ns).full

abbrev pub AfterListed : Option Token → Type 0
AfterListed n = Not is_comma_or_word n × Ended n

pub listed_part : (ns : List (List ℕ)) {F : Option Token → Type 0} → F (Some a_name.tok)
    → Part (listed ns) F AfterListed
listed_part ns f = part_then_empty {G = Ended} None (refl, refl) (lexeme_alone a_name f)
    (λ n. loop_good {G = Ended} (λ ms. (more_listed_part ms).good)
    (λ ms. (more_listed_part ms).full) (λ k h. h.0) (λ k h. h.1) None (refl, refl))
    (λ n. weaker_empty (loop_empty more_listed (ns ++ n ∷ [])) (λ k h. h.0)) (λ n h. h.1)

-- ---- tokens in braces

abbrev an_inside : Means (if_is is_inside)
an_inside = record { tok = a_word (97 ∷ []); x = tt; is = refl }

-- what stands in braces, and what follows it
AfterInside : Option Token → Type 0
AfterInside n = Not is_inside n × Ended n

pub braces_part : {F : Option Token → Type 0} → F (Some (a_sign 123)) → Part braces F Ended
unfolding AfterInside
braces_part f = lexeme_then (sign_is 123 refl) f
    (λ u. weaker_part {F = AfterInside}
    (empty_then {G = Not is_inside}
    (loop_good {G = Any} (λ w. token_good an_inside) (λ w. token_is_full) (λ n h. h) (λ n h. tt)
    (Some (a_sign 125)) refl) (loop_empty inside tt) (λ n h. (h.0, h.0))
    (λ v. lexeme_alone (sign_is 125 refl) (refl, refl))) (λ n h. h.1))

pub inside_short : (u : Unit {0}) → Short (inside u)
inside_short u = short_part {G = Any} (token_good an_inside) token_is_full

-- ---- tokens that are kept

pub more_kept_good : (test : Token → Bool) → Means (kept_if test) → (ts : List Token)
    → Good (more_kept test ts) Any
more_kept_good test one ts =
    also_good (token_good one) (λ t. nothing_good) (fits_any (λ x next h. nothing_ends tt))

pub more_kept_full : (test : Token → Bool) (ts : List Token) → Full (more_kept test ts)
more_kept_full test ts = also_is_full _ token_is_full

pub more_kept_short : (test : Token → Bool) → Means (kept_if test) → (ts : List Token)
    → Short (more_kept test ts)
more_kept_short test one ts = short_part (more_kept_good test one ts) (more_kept_full test ts)

-- ---- what goes deeper than it may

pub beyond_part : {A : Type 0} (test : Token → Bool) {x : A} {F : Option Token → Type 0}
    (one : Means (if_is test)) → F (Some one.tok) → Part (beyond test x) F Ended
beyond_part test one f = lexeme_last one f

-- ---- LineEnds at the head of a file

pub line_ends_tail : {H : Option Token → Type 0} (one : Option Token) → H one
    → ((n : Option Token) → H n → Ended n) → Tail line_ends H
line_ends_tail one h ended =
    record {
      good = weaker_good line_ends_good ended;
      empty = weaker_empty line_ends_empty ended;
      one = one;
      allowed = h;
    }
