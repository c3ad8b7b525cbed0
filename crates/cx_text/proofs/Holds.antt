-- What holds of each value that some unmarked tokens spell.
use Rattle.std.proofs.Common.{◌≡◌, Bool, true, false, List, [], ◌∷◌, ◌++◌, Option, Some, None, refl, sym, ap, subst, ◌∙◌, append_assoc, ℕ, length, ◌≤◌, ltb}
use Rattle.std.specs.Prelude.{MatchBool, cond}
use Rattle.std.specs.List.{AllByRecursion}
use Rattle.std.proofs.lemmas.List.{append-nil}
use Rattle.std.proofs.lemmas.Bool.{ltb-false}
use Rattle.cx_text.specs.declared.stop.Mark.TheVariants.{Limit}
use Rattle.cx_text.specs.Rules.{limit_if, name, name_of, name_mark}
use Rattle.cx_text.specs.Lexemes.{first_mark, comma, more_names, some_names, names, counted_keyword}
use Rattle.cx_text.specs.Tokens.{is_word}
use Rattle.cx_text.specs.declared.stop.Mark.{Mark}
use Rattle.cx_text.specs.declared.token.Token.{Token}
use Rattle.cx_text.specs.Grammar.{Item, Grammar, clean, next_of, passes, Spells}
use Rattle.cx_text.specs.Grammar as grammar
use Rattle.cx_text.specs.Rules.{Rule, token, nothing, ◌>>=◌, lookahead, choice, last, loop, line_ends, lexeme}

-- no token has a mark, and T holds of each
abbrev pub Unmarked : (Token → Type 0) → List Item → Type 0
Unmarked T [] = Unit {0}
Unmarked T (i ∷ is) = (i.1 ≡ None) × T i.0 × Unmarked T is

-- P holds of each value of a rule, and of the token that it begins with, or that follows it if it
-- has none
pub record Holds {A : Type 0} (T : Token → Type 0) (r : Rule A)
    (P : Option Token → A → Type 0) : Type 0 where
  pub law : (x : A) (ms : List Item) (next : Option Token) → r.derives x ms next → Unmarked T ms
      → P (next_of ms next) x

pub unmarked_clean : (T : Token → Type 0) (ts : List Token) → ((t : Token) → T t)
    → Unmarked T (clean ts)
unmarked_clean T [] all = tt
unmarked_clean T (t ∷ ts) all = (refl, all t, unmarked_clean T ts all)

unmarked_front : (T : Token → Type 0) (a b : List Item) → Unmarked T (a ++ b) → Unmarked T a
unmarked_front T [] b h = tt
unmarked_front T (i ∷ a) b h = (h.0, h.1, unmarked_front T a b h.2)

unmarked_back : (T : Token → Type 0) (a b : List Item) → Unmarked T (a ++ b) → Unmarked T b
unmarked_back T [] b h = h
unmarked_back T (i ∷ a) b h = unmarked_back T a b h.2

next-append : (a b : List Item) (next : Option Token)
    → next_of (a ++ b) next ≡ next_of a (next_of b next)
next-append [] b next = refl
next-append (i ∷ a) b next = refl

pub holds_nothing : {A : Type 0} {T : Token → Type 0} {x : A} {P : Option Token → A → Type 0}
    → ((n : Option Token) → P n x) → Holds T (nothing x) P
holds_nothing {A} {T} {x} {P} h =
    record {
      law = λ y ms next d u.
          subst (λ (z : A). P (next_of ms next) z) (sym d.0) (h (next_of ms next));
    }

pub holds_token : {A : Type 0} {T : Token → Type 0} {value : Token → Option A}
    {mark : Token → Option Mark} {P : Option Token → A → Type 0}
    → ((t : Token) (x : A) → T t → value t ≡ Some x → mark t ≡ None → P (Some t) x)
    → Holds T (token value mark) P
holds_token {A} {T} {value} {mark} {P} h = record {
  law = λ x ms next d u.
      let us = subst (λ (is : List Item). Unmarked T is) d.2 u in
      subst (λ (is : List Item). P (next_of is next) x) (sym d.2) (h d.0 x us.1 d.1 us.0);
}

pub holds_also : {A B : Type 0} {T : Token → Type 0} {r : Rule A} {f : A → Rule B}
    {Q : Option Token → A → Type 0} {P : Option Token → B → Type 0} → Holds T r Q
    → ((n : Option Token) (x : A) → Q n x → Holds T (f x) (λ m y. P n y)) → Holds T (r >>= f) P
holds_also {A} {B} {T} {r} {f} {Q} {P} first second = record {
  law = λ y ms next d u.
      let parts : ms ≡ d.1 ++ d.2 = d.3 in
      let us = subst (λ (is : List Item). Unmarked T is) parts u in
      let q = first.law d.0 d.1 (next_of d.2 next) d.4 (unmarked_front T d.1 d.2 us) in
      let p = (second (next_of d.1 (next_of d.2 next)) d.0 q).law y d.2 next d.5
      (unmarked_back T d.1 d.2 us) in
      subst (λ (n : Option Token). P n y)
      (sym (ap (λ (is : List Item). next_of is next) parts ∙ next-append d.1 d.2 next)) p;
}

way : {A : Type 0} (T : Token → Type 0) (b : Bool) (S R : Grammar A) (P : A → Type 0) (x : A)
    (ms : List Item) (next : Option Token) → (b ≡ true → S x ms next → P x)
    → (b ≡ false → R x ms next → P x) → MatchBool b (S x ms next) (R x ms next) → P x
way T true S R P x ms next p q d = p refl d
way T false S R P x ms next p q d = q refl d

pub holds_choice : {A : Type 0} {T : Token → Type 0} {test : Token → Bool} {r s : Rule A}
    {P : Option Token → A → Type 0} → Holds T r (λ n x. passes test n ≡ true → P n x)
    → Holds T s (λ n x. passes test n ≡ false → P n x) → Holds T (choice test r s) P
holds_choice {A} {T} {test} {r} {s} {P} first second = record {
  law = λ x ms next d u. way T (passes test (next_of ms next)) r.derives s.derives
      (λ y. P (next_of ms next) y) x ms next (λ e h. first.law x ms next h u e)
      (λ e h. second.law x ms next h u e) d;
}

many_holds : {C : Type 0} (T : Token → Type 0) (test : Token → Bool) (r : C → Rule C)
    (P : C → Type 0) → ((c : C) → P c → Holds T (r c) (λ n d. P d))
    → (c : C) (cs : List C) (ms : List Item) (next : Option Token) → P c
    → grammar.many test (λ d. (r d).derives) (λ d x. x) c cs ms next → Unmarked T ms → P (last c cs)
many_holds T test r P step c [] ms next p d u = p
many_holds T test r P step c (x ∷ cs) ms next p d u =
    let us = subst (λ (is : List Item). Unmarked T is) d.3 u in
    let q = (step c p).law x d.1 (next_of d.2 next) d.4 (unmarked_front T d.1 d.2 us) in
    many_holds T test r P step x cs d.2 next q d.5 (unmarked_back T d.1 d.2 us)

-- what each turn keeps
pub holds_loop : {C : Type 0} {T : Token → Type 0} {test : Token → Bool} {r : C → Rule C} {c : C}
    (P : C → Type 0) → ((d : C) → P d → Holds T (r d) (λ n e. P e)) → P c
    → Holds T (loop test r c) (λ n d. P d)
holds_loop {C} {T} {test} {r} {c} P step p = record {
  law = λ x ms next d u.
      let parts : ms ≡ d.1 ++ d.2 = d.3 in
      let us = subst (λ (is : List Item). Unmarked T is) parts u in
      subst (λ (y : C). P y) (sym d.5.0)
      (many_holds T test r P step c d.0 d.1 (next_of d.2 next) p d.4
      (unmarked_front T d.1 d.2 us));
}

-- what holds behind each token that may stand
pub holds_lookahead : {A B : Type 0} {T : Token → Type 0} {value : Token → Option A}
    {test : Token → Bool} {mark : Bool → Token → Option Mark} {f : A → Rule B}
    {P : Option Token → B → Type 0}
    → ((t : Token) (x : A) (b : Bool) → T t → value t ≡ Some x → mark b t ≡ None
    → Holds T (f x) (λ n y. passes test n ≡ b → P (Some t) y))
    → Holds T (lookahead value test mark f) P
holds_lookahead {A} {B} {T} {value} {test} {mark} {f} {P} h = record {
  law = λ y ms next d u.
      let us = subst (λ (is : List Item). Unmarked T is) d.4 u in
      let q = (h d.1 d.0 (passes test (next_of d.2 next)) us.1 d.3 us.0).law y d.2 next d.5 us.2
      refl in
      subst (λ (is : List Item). P (next_of is next) y) (sym d.4) q;
}

-- anything holds no more than this
pub holds_any : {A : Type 0} {T : Token → Type 0} (r : Rule A) → Holds T r (λ n x. Unit {0})
holds_any r = record { law = λ x ms next d u. tt }

pub weaker_holds : {A : Type 0} {T : Token → Type 0} {r : Rule A} {Q P : Option Token → A → Type 0}
    → Holds T r Q → ((n : Option Token) (x : A) → Q n x → P n x) → Holds T r P
weaker_holds h weaker = record { law = λ x ms next d u. weaker _ x (h.law x ms next d u) }

pub holds_lexeme : {A : Type 0} {T : Token → Type 0} {value : Token → Option A}
    {mark : Token → Option Mark} {P : Option Token → A → Type 0}
    → ((t : Token) (x : A) → T t → value t ≡ Some x → mark t ≡ None → P (Some t) x)
    → Holds T (lexeme value mark) P
holds_lexeme {A} {T} {value} {mark} {P} h =
    holds_also (holds_token h)
    (λ n x p. holds_also (holds_any line_ends) (λ m u q. holds_nothing (λ k. p)))

-- of a whole list
pub spelled_holds : {A : Type 0} {T : Token → Type 0} {r : Rule A} {P : Option Token → A → Type 0}
    → Holds T r P → (ts : List Token) (x : A) → Spells r.derives ts x → Unmarked T (clean ts)
    → P (next_of (clean ts) None) x
spelled_holds h ts x s u = h.law x (clean ts) None s u

-- ---- names

pub each-append : {A : Type 0} (P : A → Type 0) (xs ys : List A) → AllByRecursion P xs
    → AllByRecursion P ys → AllByRecursion P (xs ++ ys)
each-append P [] ys h k = k
each-append P (x ∷ xs) ys h k = (h.0, each-append P xs ys h.1 k)

-- the tokens of which T holds are names of which W holds
abbrev pub NamesAre : (Token → Type 0) → (List ℕ → Type 0) → Type 0
NamesAre T W = (t : Token) (n : List ℕ) → T t → name_of t ≡ Some n → name_mark t ≡ None → W n

pub name_holds : {T : Token → Type 0} (W : List ℕ → Type 0) → NamesAre T W
    → Holds T name (λ n x. W x)
name_holds W are = holds_lexeme (λ t x h v m. are t x h v m)

-- the names that were there, and others behind them
pub record Grown (W : List ℕ → Type 0) (old new : List (List ℕ)) : Type 0 where
  pub more : List (List ℕ)
  pub is : new ≡ old ++ more
  pub each : AllByRecursion W more

pub not_grown : (W : List ℕ → Type 0) (ns : List (List ℕ)) → Grown W ns ns
not_grown W ns = record { more = []; is = sym (append-nil ns); each = tt }

more_grown : (W : List ℕ → Type 0) (old new : List (List ℕ)) (n : List ℕ) → Grown W old new → W n
    → Grown W old (new ++ n ∷ [])
more_grown W old new n g w =
    record {
      more = g.more ++ n ∷ [];
      is = ap (λ (ns : List (List ℕ)). ns ++ n ∷ []) g.is ∙ append_assoc old g.more (n ∷ []);
      each = each-append W g.more (n ∷ []) g.each (w, tt);
    }

more_names_hold : {T : Token → Type 0} (W : List ℕ → Type 0) → NamesAre T W
    → (old ns : List (List ℕ)) → Grown W old ns → Holds T (more_names ns) (λ n x. Grown W old x)
more_names_hold W are old ns g =
    holds_also (holds_any comma)
    (λ n u q. holds_also (holds_token {P = λ m x. W x} (λ t x h v m. are t x h v m))
    (λ m x w. holds_nothing (λ k. more_grown W old ns x g w)))

-- the first of the new names, and the others
pub record Named (W : List ℕ → Type 0) (old : List (List ℕ)) (next : Option Token)
    (new : List (List ℕ)) : Type 0 where
  pub tok : Token
  pub first : List ℕ
  pub begins : next ≡ Some tok
  pub named : name_of tok ≡ Some first
  pub fits : W first
  pub grown : Grown W (old ++ first ∷ []) new

pub some_names_hold : {T : Token → Type 0} (W : List ℕ → Type 0) → NamesAre T W
    → (old : List (List ℕ)) → Holds T (some_names old) (Named W old)
some_names_hold {T} W are old =
    holds_also (holds_token {P = λ n x. (t : Token) × (n ≡ Some t) × (name_of t ≡ Some x) × W x}
    (λ t x h v m. (t, refl, v, are t x h v m))) (λ n x q.
    weaker_holds (holds_loop (Grown W (old ++ x ∷ []))
    (λ c g. more_names_hold W are (old ++ x ∷ []) c g) (not_grown W (old ++ x ∷ []))) (λ k ns g.
    record { tok = q.0; first = x; begins = q.1; named = q.2; fits = q.3; grown = g }))

pub named_each : (W : List ℕ → Type 0) (old : List (List ℕ)) (next : Option Token)
    (new : List (List ℕ)) → AllByRecursion W old → Named W old next new → AllByRecursion W new
named_each W old next new h q =
    subst (λ (ns : List (List ℕ)). AllByRecursion W ns) (sym q.grown.is)
    (each-append W (old ++ q.first ∷ []) q.grown.more
    (each-append W old (q.first ∷ []) h (q.fits, tt)) q.grown.each)

pub names_hold : {T : Token → Type 0} (W : List ℕ → Type 0) → NamesAre T W → (old : List (List ℕ))
    → AllByRecursion W old → Holds T (names old) (λ n x. AllByRecursion W x)
names_hold W are old h =
    holds_choice (weaker_holds (some_names_hold W are old) (λ n x q e. named_each W old n x h q))
    (holds_nothing (λ n e. h))

name_at : (b : Bool) (text n : List ℕ) → cond b (Some text) None ≡ Some n → (b ≡ true) × (text ≡ n)
name_at true text n e = (refl, cc)
name_at false text n e = absurd cc

-- a name is a word's text
pub name_is_word : (t : Token) (n : List ℕ) → name_of t ≡ Some n → (is_word t ≡ true) × (t.text ≡ n)
name_is_word t n e = name_at (is_word t) t.text n e

limit_none : (b : Bool) → limit_if b ≡ None → b ≡ false
limit_none true e = absurd cc
limit_none false e = refl

-- of at most 64 bytes
pub name_is_short : (t : Token) (n : List ℕ) → name_of t ≡ Some n → name_mark t ≡ None
    → length n ≤ 64
name_is_short t n e m =
    let short : ltb 64 (length t.text) ≡ false = limit_none (ltb 64 (length t.text)) m in
    let w = name_is_word t n e in
    subst (λ (text : List ℕ). length text ≤ 64) w.1 (ltb-false 64 (length t.text) short)

pub first_none : (b : Bool) (m : Mark) (other : Option Mark) → first_mark b m other ≡ None
    → (b ≡ false) × (other ≡ None)
first_none true m other e = absurd cc
first_none false m other e = (refl, e)

-- where something is counted, it isn't full
pub counted_holds : {T : Token → Type 0} (text : List ℕ) (full : Bool)
    → Holds T (counted_keyword text full) (λ n u. full ≡ false)
counted_holds text full = holds_lexeme (λ t x h v m. (first_none full Limit None m).0)
